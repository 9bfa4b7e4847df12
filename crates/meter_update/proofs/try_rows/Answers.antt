use mathlib.Core.Path.{◌≡◌, refl, sym, ap, ◌∙◌}
use Prim.Native.Nat.{ℕ, zero, suc, ◌+◌, ◌-◌, ◌/◌, ◌^◌, ◌<◌, min}
use native.Mathlib.Omega.{arith}
use borrow.Author.Rules.{rules}
use mir.Val.{Fits}
use mir.Syntax.{w64}
use mathlib.Core.List.{List}
use lib.ListN.{get_or, set}
use Rattle.group.specs.declared.Group.{Group}
use Rattle.group.specs.Results.{Outcome, outcome_of}
use Rattle.group.specs.Results.{Reading}
use Rattle.group.specs.Group.{read, added}
use Rattle.answer.specs.Refusals.{status}
use Rattle.answer.specs.Refusals as refusals
use Rattle.group.proofs.Results.{kept_some, not_kept, added_kept, group_or}
use Rattle.meter_row.proofs.Results.{and_status, outcome_status}
use Rattle.meter_row.proofs.Slots.{added_is}
use Rattle.geometry.specs.Geometry.{stride}
use Rattle.answer.specs.Order.{earlier}
use Rattle.meter_memory.specs.Rows.{row_of, group_at, least_or}
use Rattle.answer.proofs.Order.{earlier_none}
use Rattle.geometry.proofs.Widths.{slot_in, group_in, one_row}
use Rattle.meter_row.specs.Row.{added_in}
use Rattle.meter_memory.proofs.Gather.{rows_start, least_turn, least_end, least_first}
use Rattle.meter_memory.proofs.Lists.{rows_read_all}
use Rattle.meter_memory.proofs.Tried.{tried_more, tried_all}
use Rattle.meter_row.specs.Slots.{added_status, added_value}
use Rattle.meter_update.proofs.try_rows.Invariants.{outcome, Valued}
use Rattle.meter_update.proofs.try_rows.Goals as goal
use Rattle.meter_update.proofs.try_rows.Goals.{in-Some, in_default, Joined-add_in_place}

-- one row more, by the group, the status and the value that it is left with
valued_more : (d w : ℕ) (memory slots : List ℕ) (amount : ℕ) (groups : List Group) (status value r : ℕ)
    → Valued d w memory slots amount groups status value r → r < d
    → (o : Outcome) (v : ℕ) → o ≡ added_in w (row_of w memory r) (get_or slots r 0) amount → v ≡ (read o.group (get_or slots r 0)).value → v < 2 ^ 64
    → Valued d w memory slots amount (set groups r o.group) (earlier status o.status) (min value v) (r + 1)
valued_more d w memory slots amount groups status value r i h o v is v-is l =
    let left = v-is ∙ ap (λ (x : Outcome). (read x.group (get_or slots r 0)).value) is in (
      tried_more (outcome w slots amount) d w memory groups status r i.0 h o is,
      least_turn (added_value w slots amount) w d memory r value v h left ∙ i.1,
      λ _. first_in r refl,
    )
  where
    first_in : (n : ℕ) → r ≡ n → added_value w slots amount 0 (row_of w memory 0) < 2 ^ 64
    first_in zero z = rw z at (rw (v-is ∙ ap (λ (x : Outcome). (read x.group (get_or slots r 0)).value) is) at l)
    first_in (suc n) z = i.2 (omega (arith, z))

pub loop-r-init : goal.loop-r-init
unfolding status
loop-r-init c = let a = c.args in (
  (omega arith, c.requires.fact_2.1, rows_start (added_status a.w a.slots.now a.amount) a.w a.d a.memory.now, λ z k h. absurd (omega arith)),
  ap (least_or (2 ^ 64 - 1)) (rows_read_all (added_value a.w a.slots.now a.amount) (stride a.w) a.d a.memory.now),
  λ h. absurd (omega arith),
)

pub row_at-requires : goal.row_at-requires
row_at-requires c = one_row _ _ _ c.requires.fact_2 c.loop-r-test.true

pub bounds-slots-r : goal.bounds-slots-r
bounds-slots-r c = omega (arith, c.requires.fact_2.1)

pub load-x-requires : goal.load-x-requires
load-x-requires c = let a = c.args in
    let slot = get_or a.slots.now c.loop-r.r 0 in
    let v = c.requires.fact_2.0 in
    let i = group_in a.w (slot / 8) v (slot_in a.w slot v (c.requires.fact_3 c.loop-r.r c.loop-r-test.true)) in record { fact_1 = i.0; fact_2 = omega (arith, c.row_at.ensures.result_len, i.1) }

pub bounds-t-r : goal.bounds-t-r
bounds-t-r c = omega (arith, c.requires.fact_2.1)

pub add_widening-left-requires : goal.add_widening-left-requires
add_widening-left-requires c = not_kept c.load-x.result (get_or c.args.slots.now c.loop-r.r 0) c.args.amount (sym c.in_default.is ∙ c.add_in_place.ensures)

module _ (c : Joined-add_in_place) where
  abbrev x : Group
  x = c.load-x.result

  abbrev slot : ℕ
  slot = get_or c.args.slots.now c.loop-r.r 0

  abbrev sum : Outcome
  sum = added x slot c.args.amount

  group_is : sum ≡ added_in c.args.w (row_of c.args.w c.args.memory.now c.loop-r.r) slot c.args.amount
  unfolding row_of
  group_is = added_is c.args.w (row_of c.args.w c.args.memory.now c.loop-r.r) slot c.args.amount x
      (c.load-x.ensures ∙ ap (λ (row : List ℕ). group_at c.args.w row (slot / 8)) c.row_at.ensures.result_value)

  -- by which branch the addition was made is the same to what is left
  row_tried : (groups : List Group) (status value : ℕ) (o : Outcome) (v : ℕ) → o ≡ sum → v ≡ (read o.group slot).value → v < 2 ^ 64
      → groups ≡ set c.loop-r.t.groups c.loop-r.r o.group
      → status ≡ earlier (refusals.status c.loop-r.status) o.status
      → value ≡ min c.loop-r.value v
      → Valued c.args.d c.args.w c.args.memory.now c.args.slots.now c.args.amount groups status value (c.loop-r.r + 1)
  row_tried groups status value o v is v-is lt e f g =
      let a = c.args in
      let l = c.loop-r in
      rw (e, f, g)
      (valued_more a.d a.w a.memory.now a.slots.now a.amount l.t.groups (refusals.status l.status) l.value l.r l.invariant c.loop-r-test.true o v (is ∙ group_is) v-is lt)

pub loop-r-preserved : goal.loop-r-preserved
loop-r-preserved c = let m = c.match-add_in_place in
    let joined = row_tried c m.t.groups (status m.status) m.value in
    let before = status c.loop-r.status in
    elim m.branch [
      | in-Some w ↦
          let k = kept_some (x c) (slot c) c.args.amount w.in-Some.k (sym w.in-Some.is ∙ c.add_in_place.ensures) in
          let is = sym (added_kept (x c) (slot c) c.args.amount w.in-Some.k k) in
          let fit : Fits w64 w.in-Some.k.value = search (rules, w.in-Some) in
          joined (record { status = 0; group = record { counts = w.in-Some.k.counts; merge = (x c).merge } }) w.in-Some.k.value
          is
          (k.value ∙ ap (λ (o : Outcome). (read o.group (slot c)).value) (sym is))
          fit.fits
          (ap (λ t. t.groups) w.t-is)
          (ap (status {A = _}) w.status-is ∙ sym (earlier_none before))
          (w.value-is ∙ w.min-value.ensures)
      | in_default w ↦
          let left = w.add_widening-left.result in
          let o = outcome_of (x c) left in
          let kept : w.unwrap_or-g.result ≡ o.group = w.unwrap_or-g.ensures ∙ group_or (x c) left in
          let fit : Fits w64 w.value_of.result = search (rules, w.value_of) in
          joined o w.value_of.result
          w.add_widening-left.ensures
          (w.value_of.ensures ∙ ap (λ (v : Reading). v.value) w.counter.ensures ∙ ap (λ (g : Group). (read g (slot c)).value) kept)
          fit.fits
          (ap (λ t. t.groups) w.t-is ∙ ap (set c.loop-r.t.groups c.loop-r.r) kept)
          (ap (status {A = _}) w.status-is ∙ w.first-status.ensures ∙ ap (earlier before) (ap (status {A = _}) w.and.ensures ∙ and_status left ∙ outcome_status (x c) left))
          (w.value-is ∙ w.min-value-in_default.ensures)
    ]

pub returns : goal.returns
returns c = let a = c.args in
    let l = c.loop-r in
    let all = tried_all (outcome a.w a.slots.now a.amount) a.d a.w a.memory.now l.t.groups (status l.status) l.r l.invariant.0 (omega arith) in record {
      status_value = all.0;
      value_value = sym (least_end (added_value a.w a.slots.now a.amount) a.w a.d a.memory.now l.r l.value (omega arith))
          ∙ l.invariant.1
          ∙ least_first (added_value a.w a.slots.now a.amount) a.w a.d a.memory.now c.requires.fact_1 (l.invariant.2 (omega (arith, c.requires.fact_1)));
      added = all.1;
    }
