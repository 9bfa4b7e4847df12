use mathlib.Core.Path.{sym, ◌∙◌}
use Prim.Native.Nat.{◌-◌}
use native.Mathlib.Nat.{zero-add}
use native.Mathlib.Omega.{arith}
use Rattle.image_format.specs.Write.{slots_size, group_size}
use Rattle.image_format.proofs.Laws.{size_first, size_other, sizes_step, sizes_none}
use Rattle.image_format.proofs.Sizes.{invalid_size}
use Rattle.image_format.proofs.group_size.Goals.{in-Some, in_default}
use Rattle.image_format.proofs.group_size.Goals as goal

pub returns-then-not-is_valid-clause-value : goal.returns-then-not-is_valid-clause-value
returns-then-not-is_valid-clause-value c = sym (invalid_size c.args.merge (sym c.is_valid.ensures ∙ c.if-not-is_valid.true))

pub loop-k-init : goal.loop-k-init
unfolding group_size
loop-k-init c = (omega arith, omega arith, zero-add (slots_size 8 0 c.args.merge))

pub loop-k-preserved : goal.loop-k-preserved
loop-k-preserved c = let k = c.loop-k.k in
    let m = c.args.merge in
    let s = sizes_step 8 k m c.loop-k-test.true in
    elim c.match-counter_level.branch [
      | in-Some w ↦
          let e = w.in-Some.ensures.some in
          rw w.n-is (omega arith, omega arith, omega (arith, s, size_first m k w.in-Some.level w.word_count.result e.1 e.0 w.word_count.ensures.value))
      | in_default w ↦ rw w.n-is (omega arith, omega arith, omega (arith, s, size_other m k w.in_default.ensures.none))
    ]

pub returns-clause-value : goal.returns-clause-value
returns-clause-value c = let k = c.loop-k.k in
    omega (arith, sizes_none (8 - k) k c.args.merge (omega arith))
