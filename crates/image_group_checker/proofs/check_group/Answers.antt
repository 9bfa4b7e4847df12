use mathlib.Core.Path.{◌≡◌, refl, sym, ap, ◌∙◌}
use mathlib.Core.Bool.{true}
use Prim.Native.Nat.{◌-◌}
use native.Mathlib.Omega.{arith}
use lib.Pow.{pow_pos}
use Rattle.word.specs.Step.{step}
use Rattle.word.proofs.Results.{next_ok, next_handed_on}
use Rattle.image_format.specs.Image.{level_at, is_first}
use Rattle.image_format.specs.Read.{check_slots}
use Rattle.image_format.proofs.Sizes.{first_zero, behind_is}
use Rattle.image_format.proofs.Counters.{counter_end, next_first}
use Rattle.image_group_checker.proofs.Laws.{check_slot_first, check_slots_none}
use Rattle.image_group_checker.proofs.Steps.{checks_turn}
use Rattle.image_group_checker.proofs.check_group.Goals as goal
use Rattle.image_group_checker.proofs.check_group.Goals.{then-k-next+in_ok-at, else-k-next}

pub loop-k-init : goal.loop-k-init
loop-k-init c = (omega arith, omega arith, λ h. first_zero c.args.merge, refl)

pub returns-in_err-at : goal.returns-in_err-at
returns-in_err-at c = let l = c.loop-k in
    let a = c.args in
    let i : l.k ≡ l.next = c.if-k-next.true in
    let f : is_first a.merge l.k ≡ true = rw i (l.invariant.2 (omega arith)) in
    let stands : check_slots (8 - l.k) l.k a.merge a.words.now l.at ≡ check_slots 8 0 a.merge a.words.now a.p = rw i l.invariant.3 in
    let v = c.level_at-level in
    let n = c.word_count in
    let b = c.first_bits in
    next_handed_on _ _ _ _ c.from_residual.ensures.1
    (ap step (sym c.in_err-at.was) ∙ c.check_parts.ensures
    ∙ check_slot_first a.merge l.k v.result n.result b.result a.words.now l.at v.ensures.value f n.ensures.value b.ensures.value b.ensures.upper_bound)
    ∙ sym (checks_turn l.k a.merge a.words.now l.at (omega arith) f) ∙ stands

pub loop-k-preserved : goal.loop-k-preserved
loop-k-preserved c = let l = c.loop-k in
    let a = c.args in
    elim c.if-k-next.branch [
      | then-k-next+in_ok-at w ↦
          let i : l.k ≡ l.next = w.if-k-next.true in
          let h = c.loop-k-test.true in
          let f : is_first a.merge l.k ≡ true = rw i (l.invariant.2 (omega arith)) in
          let stands : check_slots (8 - l.k) l.k a.merge a.words.now l.at ≡ check_slots 8 0 a.merge a.words.now a.p = rw i l.invariant.3 in
          let v = w.level_at-level in
          let n = w.word_count in
          let b = w.first_bits in
          let e = ap step (sym w.in_ok-at.was) ∙ w.check_parts.ensures
          ∙ check_slot_first a.merge l.k v.result n.result b.result a.words.now l.at v.ensures.value f n.ensures.value b.ensures.value b.ensures.upper_bound in
          rw (w.at-is, w.next-is, behind_is a.merge l.k v.result v.ensures.value) (
            omega (arith, pow_pos (level_at a.merge l.k)),
            counter_end a.merge l.k h f,
            next_first a.merge l.k h f,
            sym (next_ok _ _ _ e) ∙ sym (checks_turn l.k a.merge a.words.now l.at h f) ∙ stands,
          )
      | else-k-next w ↦ rw (w.at-is, w.next-is) (omega (arith, w.if-k-next.false), l.invariant.1, l.invariant.2, l.invariant.3)
    ]

pub returns : goal.returns
returns c = let l = c.loop-k in
    let a = c.args in
    sym (check_slots_none (8 - l.next) l.next a.merge a.words.now l.at (omega arith)) ∙ l.invariant.3
