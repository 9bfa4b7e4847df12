use mathlib.Core.Path.{refl, ◌∙◌}
use Prim.Native.Nat.{◌+◌, ◌*◌, ◌-◌}
use native.Mathlib.Nat.{zero-add}
use native.Mathlib.Omega.{arith}
use Rattle.image_format.specs.Fields.{slots_fields, group_fields}
use Rattle.image_format.specs.Write.{slots_size, group_size}
use Rattle.image_format.proofs.Laws.{size_first, size_other, sizes_step, sizes_none}
use Rattle.image_format.proofs.Fields.{size_most, fields_some, fields_other, past_parts, parts_size, described}
use Rattle.image_format.proofs.describe.Goals.{in-Some, in_default}
use Rattle.image_format.proofs.describe.Goals as goal

pub loop-k-init : goal.loop-k-init
unfolding group_size group_fields
loop-k-init c = (omega arith, zero-add (slots_size 8 0 c.args.merge), refl, refl, refl, λ i h. absurd (omega arith))

pub describe_parts-i-requires-clause-fact_2 : goal.describe_parts-i-requires-clause-fact_2
describe_parts-i-requires-clause-fact_2 c = let k = c.loop-k.k in
    let m = c.args.merge in
    let e = c.in-Some.ensures.some in
    omega (arith, size_first m k c.in-Some.level c.word_count.result e.1 e.0 c.word_count.ensures.value, sizes_step 8 k m c.loop-k-test.true, size_most m)

pub loop-k-preserved : goal.loop-k-preserved
loop-k-preserved c = let l = c.loop-k in
    let m = c.args.merge in
    let h = c.loop-k-test.true in
    let s = sizes_step 8 l.k m h in
    let fs = group_fields m in
    elim c.match-counter_level.branch [
      | in-Some w ↦
          let e = w.in-Some.ensures.some in
          let n = w.word_count in
          let b = w.first_bits in
          let p = w.describe_parts-i in
          let rest = slots_fields (8 - (l.k + 1)) (l.k + 1) m in
          let turn = l.invariant.4 ∙ fields_some m l.k w.in-Some.level n.result b.result h e.0 e.1 n.ensures.value b.ensures.value in
          let r = p.ensures.value in
          rw (w.t-is, w.i-is) (
            omega arith,
            omega (arith, r, s, size_first m l.k w.in-Some.level n.result e.1 e.0 n.ensures.value),
            omega arith,
            p.ensures.t_unchanged ∙ l.invariant.3,
            rw r (past_parts fs rest l.i n.result (8 * l.k) b.result turn),
            rw (r, ← parts_size n.result (8 * l.k) b.result) (p.ensures.told_more fs rest turn l.invariant.5),
          )
      | in_default w ↦
          let f = w.in_default.ensures.none in
          rw (w.t-is, w.i-is) (omega arith, omega (arith, s, size_other m l.k f), l.invariant.2, l.invariant.3, l.invariant.4 ∙ fields_other m l.k h f, l.invariant.5)
    ]

pub overflow_cast-t : goal.overflow_cast-t
overflow_cast-t c = omega (arith, size_most c.args.merge)

pub returns-clause-described : goal.returns-clause-described
returns-clause-described c = let l = c.loop-k in
    let m = c.args.merge in
    described m l.t c.args.at l.i (omega arith) (omega (arith, sizes_none (8 - l.k) l.k m (omega arith))) l.invariant.5
