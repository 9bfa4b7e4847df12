use mathlib.Core.Path.{ap, ◌∙◌}
use Prim.Native.Nat.{ℕ}
use native.Mathlib.Nat.{sub-zero}
use native.Mathlib.Omega.{arith}
use lib.ListN.{get_or}
use Rattle.watch_sound.specs.Lengths.{above_at}
use Rattle.watch_sound.proofs.Lengths.{long_turn, long_end}
use Rattle.watch_sound.proofs.too_long.Goals as goal

pub loop-k-init : goal.loop-k-init
loop-k-init c = (omega arith, c.requires.fact_1, omega arith, rw (sub-zero c.args.n) (omega arith))

pub overflow_add-count : goal.overflow_add-count
overflow_add-count c = record { fits = omega (arith, c.above-count.ensures.1) }

pub loop-k-preserved : goal.loop-k-preserved
loop-k-preserved c = let l = c.loop-k in
    let a = c.args in
    let is = c.above-count.ensures.0 ∙ ap (λ (b : ℕ). above_at b (get_or a.lengths.now l.k 0)) c.longest_key.ensures in
    (omega arith, l.invariant.1, omega (arith, c.above-count.ensures.1), omega (arith, is, l.invariant.3, long_turn a.lengths.now a.n l.k (omega arith)))

pub returns : goal.returns
returns c = let l = c.loop-k in
    let a = c.args in
    (omega (arith, l.invariant.3, long_end a.lengths.now a.n l.k (omega arith)), omega arith)
