use mathlib.Core.Path.{sym, ap, ◌∙◌}
use Prim.Native.Nat.{◌/◌}
use borrow.Author.Tests.{ne_eqb}
use Rattle.answer.specs.Refusals.{number, status}
use Rattle.group.specs.declared.Group.{Group}
use Rattle.group.specs.Results.{Reading, Outcome}
use Rattle.group.specs.Group.{read, added}
use Rattle.group.proofs.Results.{kept_some, not_kept, added_kept, outcome_ok, outcome_err}
use Rattle.meter_memory.specs.Rows.{with_group}
use Rattle.meter_row.proofs.Slots.{added_is}
use Rattle.meter_row.proofs.update_one.Goals as goal

pub returns-in-Some : goal.returns-in-Some
unfolding status
returns-in-Some c = let a = c.args in
    let x = c.load-x.result in
    let is = added_is a.w a.row.now a.slot a.amount x c.load-x.ensures in
    let k = kept_some x a.slot a.amount c.in-Some.k (sym c.in-Some.is ∙ c.add_in_place.ensures) in
    let o = sym (added_kept x a.slot a.amount c.in-Some.k k) ∙ is in record { status_value = ap (λ (o : Outcome). o.status) o; value_value = k.value ∙ ap (λ (o : Outcome). (read o.group a.slot).value) is; row_after = c.update_row.ensures ∙ ap (λ (o : Outcome). with_group a.w a.row.now (a.slot / 8) o.group) o }

pub add_widening-requires : goal.add_widening-requires
add_widening-requires c = not_kept c.load-x.result c.args.slot c.args.amount (sym c.in_default.is ∙ c.add_in_place.ensures)

pub returns-in-Ok : goal.returns-in-Ok
unfolding status
returns-in-Ok c = let a = c.args in
    let x = c.load-x.result in
    let is = added_is a.w a.row.now a.slot a.amount x c.load-x.ensures in
    let g = outcome_ok x (added x a.slot a.amount) c.in-Ok.g c.in-Ok.ensures in
    let left = g.group ∙ ap (λ (o : Outcome). o.group) is in record {
      status_value = sym g.accepted ∙ ap (λ (o : Outcome). o.status) is;
      value_value = c.value_of-value.ensures ∙ ap (λ (r : Reading). r.value) c.counter.ensures ∙ ap (λ (h : Group). (read h a.slot).value) left;
      row_after = c.update_row-in-Ok.ensures ∙ ap (λ (h : Group). with_group a.w a.row.now (a.slot / 8) h) left;
    }

pub returns-in-Err : goal.returns-in-Err
unfolding status
returns-in-Err c = let a = c.args in
    let x = c.load-x.result in
    let is = added_is a.w a.row.now a.slot a.amount x c.load-x.ensures in
    let r = outcome_err x (added x a.slot a.amount) c.in-Err.refusal c.in-Err.ensures in record {
      status_value = r.refused ∙ ap (λ (o : Outcome). o.status) is;
      value_value = c.value_of.ensures
          ∙ ap (λ (r : Reading). r.value) c.counter-in-Err.ensures
          ∙ ap (λ (h : Group). (read h a.slot).value) (r.group ∙ ap (λ (o : Outcome). o.group) is);
      row_after = rw (ne_eqb (number c.in-Err.refusal) 0 (λ e. r.some (sym r.refused ∙ e)));
    }
