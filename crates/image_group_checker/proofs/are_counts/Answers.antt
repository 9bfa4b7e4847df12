use mathlib.Core.Path.{◌≡◌, ap, ◌∙◌}
use Prim.Native.Nat.{ℕ, ◌+◌, ◌-◌, ◌*◌, ◌^◌}
use native.Mathlib.Omega.{arith}
use borrow.Author.Tests.{ltb-true}
use lib.Bits.{bit_xor}
use lib.ListN.{get_or, take, drop, length-take, length-drop}
use Rattle.image_format.specs.Image.{count_kind}
use Rattle.image_group_checker.proofs.Laws.{up_to, part_at}
use Rattle.image_group_checker.proofs.Bits.{or_le, same_bits}
use Rattle.image_group_checker.proofs.are_counts.Goals as goal

pub loop-w-preserved : goal.loop-w-preserved
loop-w-preserved c = let l = c.loop-w in
    let a = c.args in
    let x = get_or (take (a.p + a.n - a.p) (drop a.p a.words.now)) l.w-index 0 in
    let d = c.differing_bits-bits in
    let e : d.result ≡ bit_xor x (count_kind * 2 ^ 28) = d.ensures (omega (arith, c.code.ensures)) ∙ ap (λ (k : ℕ). bit_xor x (k * 2 ^ 28)) c.code.ensures in
    λ j h b. let o = or_le l.bits d.result in
    up_to h (λ k. l.invariant j k (omega (arith, o.0))) (λ k. rw k (same_bits x (omega (arith, o.1, e))))

pub returns : goal.returns
returns c = λ e.
    let l = c.loop-w in
    let a = c.args in
    (omega arith, λ i h. rw (← part_at a.words.now a.p a.n i h) (l.invariant i (omega (arith, length-take (a.p + a.n - a.p) (drop a.p a.words.now), length-drop a.p a.words.now)) (ltb-true l.bits 256 e)))
