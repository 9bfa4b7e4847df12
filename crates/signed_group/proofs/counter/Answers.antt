use mathlib.Core.Path.{◌≡◌, sym, ap, ◌∙◌}
use Prim.Native.Nat.{ℕ, ◌%◌}
use native.Mathlib.Omega.{arith}
use Rattle.std.proofs.lemmas.Result.{err_from_is_err_and}
use Rattle.answer.specs.Refusals.{status}
use Rattle.group_layout.specs.Layout.{layout}
use Rattle.group_block.specs.Block.{all_clean, counter_value}
use Rattle.signed_number.specs.Number.{signed_of}
use Rattle.signed_block.specs.Signed.{signed}
use Rattle.signed_block.specs.Passed.{signed_block}
use Rattle.signed_block.proofs.Counters.{top_most}
use Rattle.signed_group.specs.Group.{bad_group, decode}
use Rattle.signed_group.proofs.Laws.{Clean, good_clean}
use Rattle.signed_group.proofs.Results.{read_refused, read_accepted}
use Rattle.signed_group.proofs.counter.Goals as goal
use Rattle.signed_group.proofs.counter.Goals.{In_ok-bad_group}

good : (e : In_ok-bad_group) → bad_group e.args.g ≡ 0
unfolding status
good e = sym e.in_ok-bad_group.ensures

clean : (e : In_ok-bad_group) → Clean e.args.g
clean e = good_clean e.args.g (good e)

pub returns-in_err-bad_group : goal.returns-in_err-bad_group
unfolding status
returns-in_err-bad_group c = let a = c.args in
    let p = err_from_is_err_and c.from_residual.result c.from_residual.ensures.1 in
    rw (p.1, p.2) (record { value = read_refused a.g a.slot c.in_err-bad_group.field-0.0 c.in_err-bad_group.ensures; magnitude_bound = tt })

pub counter_at-requires : goal.counter_at-requires
counter_at-requires c = let g = c.args.g in
    let k = clean (goal.at.counter_at-requires c).In_ok-bad_group in
    record { fact_1 = k.merges; fact_2 = omega arith; fact_3 = ap (all_clean signed (layout 3 g.merge)) c.number_of.ensures ∙ k.counters }

pub returns : goal.returns
unfolding decode
returns c = let a = c.args in
    let n = c.counter_at in
    let value : n.result.value ≡ signed_of (counter_value (decode a.g) (a.slot % 8)) =
    n.ensures.value_value ∙ ap (λ (w : ℕ). signed_of (counter_value (signed_block 3 w a.g.merge) (a.slot % 8))) c.number_of.ensures in record {
      value = read_accepted a.g a.slot n.result (good (goal.at.returns c).In_ok-bad_group) value n.ensures.level_value;
      magnitude_bound = omega (arith, n.ensures.magnitude_bound, top_most n.result.level n.ensures.level_bound);
    }
