use Rattle.std.proofs.Common.{List, Some, ap, ap₂, arith, eq-eqb, eqb, inl, inr, length, length-drop, ne_eqb, replicate, sym, take_all, ℕ, ◌%◌, ◌+◌, ◌∙◌, ◌≡◌, ◌≤◌}
use lib.ListN.{length-replicate}
use Rattle.laws.proofs.Lists.{copy_more, copy_all}
use Rattle.group_side.specs.Side.{fit, wrapped_sums}
use Rattle.group_side.proofs.Bytes.{fit_turn, fit_end, length_wrapped, wrapped_at, front_at}
use Rattle.group_side.proofs.sums_of.Goals as goal
use Rattle.group_side.proofs.sums_of.Goals.{In-None}

pub loop-i-preserved : goal.loop-i-preserved
loop-i-preserved c = let s = c.in-Some.ensures.steps in
    let l = c.loop-i in
    let n = l.i-iterator.count in
    let xs = c.args.counts.now in
    let ys = c.args.source.now in
    let a = front_at xs n _ _ (sym s.0.0 ∙ l.invariant.1) in
    let b = front_at ys n _ _ (sym s.0.1 ∙ l.invariant.2) in
    let sum = ap₂ (λ (u v : ℕ). (u + v) % 256) a.1 b.1 ∙ sym (wrapped_at xs ys n a.0 b.0) in (
      rw s.2 (omega (arith, a.0)),
      rw s.2 a.2,
      rw s.2 b.2,
      rw (s.1, s.2, sum, l.invariant.3) (copy_more (wrapped_sums xs ys) (replicate 64 0) n (omega (arith, a.0, length_wrapped xs ys)) (rw (length-replicate 64) (omega (arith, a.0)))),
      rw (s.2, c.carry-carries.ensures, a.1, b.1) (fit_turn xs ys n a.0 b.0 l.carries ∙ l.invariant.4),
    )

-- where the loop ends the sums are all made and tested
module _ (c : In-None) where
  all : 64 ≤ c.loop-i.i-iterator.count
  all = let s = c.in-None.ensures.steps in
      let l = c.loop-i in
      elim s.0 [
        | inl p ↦ omega (arith, p.1.0, ap length l.invariant.1, length-drop l.i-iterator.count c.args.counts.now)
        | inr p ↦ omega (arith, p.1.0, ap length l.invariant.2, length-drop l.i-iterator.count c.args.source.now)
      ]

  made : c.loop-i.bytes ≡ wrapped_sums c.args.counts.now c.args.source.now
  made = let n = c.loop-i.i-iterator.count in
      let xs = c.args.counts.now in
      let ys = c.args.source.now in
      c.loop-i.invariant.3 ∙ copy_all (wrapped_sums xs ys) (replicate 64 0) n (omega (arith, all)) ∙ take_all n (wrapped_sums xs ys) (omega (arith, all, length_wrapped xs ys))

  tested : eqb c.loop-i.carries 0 ≡ fit c.args.counts.now c.args.source.now
  tested = let n = c.loop-i.i-iterator.count in
      sym (fit_end c.args.counts.now c.args.source.now n c.loop-i.carries (omega (arith, all))) ∙ c.loop-i.invariant.4

pub returns-then-carries-eq0 : goal.returns-then-carries-eq0
returns-then-carries-eq0 c = let n = (goal.at.returns-then-carries-eq0 c).In-None in
    rw (sym (tested n) ∙ eq-eqb c.loop-i.carries 0 c.if-carries-eq0.true) (ap (λ (x : List ℕ). Some x) (made n))

pub returns-else-carries-eq0 : goal.returns-else-carries-eq0
returns-else-carries-eq0 c = let n = (goal.at.returns-else-carries-eq0 c).In-None in
    rw (sym (tested n) ∙ ne_eqb c.loop-i.carries 0 c.if-carries-eq0.false)
