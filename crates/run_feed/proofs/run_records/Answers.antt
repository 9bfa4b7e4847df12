use mathlib.Core.Path.{◌≡◌, refl, sym, ap, ◌∙◌}
use mathlib.Core.Bool.{true, false, true≢false}
use native.Mathlib.Omega.{arith}
use borrow.Author.Tests.{not-true, not-false}
use lib.ListN.{length}
use Rattle.geometry.specs.Checks.{bad_shape}
use Rattle.feed_steps.proofs.Runs.{ran_none, ran_then, ran_runs}
use borrow.Author.Rules.{rules}
use Rattle.run_feed.proofs.run_records.Goals as goal
use Rattle.run_feed.proofs.run_records.Goals.{Else-not-s}

-- a run that goes on has lost nothing
going : (c : Else-not-s) → c.loop.s.output.failed ≡ false
going c =
    let l = c.loop in
    let a = c.args in
    ran_runs a.d a.w a.memory.now a.first a.input.now a.output.now l.memory l.s l.input l.output l.invariant.11 (not-false _ c.if-not-s.false)

pub loop-init : goal.loop-init
loop-init c = let p = c.requires in (
  p.within_1,
  p.within_2,
  p.at_in_bounds_1,
  p.at_in_bounds_2,
  omega (arith, p.memory_value_2),
  omega (arith, p.memory_value_3),
  refl,
  refl,
  refl,
  p.memory_value_1,
  (λ e. omega (arith, p.memory_value_2)),
  ran_none c.args.d c.args.w c.args.memory.now c.args.first c.args.input.now c.args.output.now p.memory_value_4,
)

pub returns-then-not-s : goal.returns-then-not-s
returns-then-not-s c = let l = c.loop in record { within_2_1 = l.invariant.0; within_2_2 = l.invariant.2; bound = (λ e. absurd (true≢false (sym e ∙ (not-true _ c.if-not-s.true)))); ran = l.invariant.11 }

pub step-s-requires : goal.step-s-requires
step-s-requires c = let l = c.loop in record { memory_value_1 = l.invariant.9; memory_value_2 = (not-false _ c.if-not-s.false); memory_value_3 = going (goal.at.step-s-requires c).Else-not-s; within_1 = l.invariant.0; within_2 = l.invariant.1; at_in_bounds_1 = l.invariant.2; at_in_bounds_2 = l.invariant.3; words_bound_1 = omega (arith, l.invariant.4); words_bound_2 = omega (arith, l.invariant.5) }

pub loop-preserved : goal.loop-preserved
loop-preserved c = let l = c.loop in
    let s = c.step-s in
    let m : length s.new.memory ≡ length l.memory = search rules in
    let i : length s.new.input ≡ length l.input = search rules in
    let o : length s.new.output ≡ length l.output = search rules in
    let runs : l.s.runs ≡ true = (not-false _ c.if-not-s.false) in
    let some = c.loop-test.true in (
      s.ensures.within_2_1,
      omega (arith, i, l.invariant.1),
      s.ensures.within_2_2,
      omega (arith, o, l.invariant.3),
      omega (arith, some, s.ensures.words_bound_2.0, l.invariant.4),
      omega (arith, some, s.ensures.words_bound_2.1, l.invariant.5),
      m ∙ l.invariant.6,
      i ∙ l.invariant.7,
      o ∙ l.invariant.8,
      ap (bad_shape c.args.d c.args.w) m ∙ l.invariant.9,
      (λ e. omega (arith, some, s.ensures.words_bound_2.2 e, l.invariant.10 runs)),
      ran_then c.args.d c.args.w c.args.memory.now c.args.first c.args.input.now c.args.output.now l.memory l.s l.input l.output s.new.memory s.result
          s.new.input s.new.output (going (goal.at.loop-preserved c).Else-not-s) l.invariant.11 s.ensures.stepped.ran,
    )

pub returns : goal.returns
returns c = let l = c.loop in record { within_2_1 = l.invariant.0; within_2_2 = l.invariant.2; bound = (λ e. omega (arith, l.invariant.10 e)); ran = l.invariant.11 }
