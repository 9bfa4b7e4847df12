use mathlib.Core.Path.{◌≡◌, sym, ap, ◌∙◌}
use mathlib.Core.List.{[], ◌∷◌, ◌++◌}
use mathlib.Core.Logic.{⊎_elim}
use Prim.Native.Nat.{ℕ, ◌+◌, ◌-◌, ◌*◌, ◌/◌, ◌%◌, ◌^◌, ◌≤◌}
use native.Mathlib.Omega.{arith}
use borrow.Author.Tests.{eqb-true}
use lib.Bits.{bit_xor}
use lib.ListN.{length, take, drop, length-drop, length-append}
use Rattle.image_format.specs.Image.{count_kind}
use Rattle.group_codes.specs.Pack.{code_merge}
use Rattle.image_group_checker.proofs.Laws.{up_to, part_length, part_taken}
use Rattle.image_group_checker.proofs.Bits.{or_le}
use Rattle.image_group_checker.proofs.Fields.{sound_described}
use Rattle.image_group_checker.proofs.are_sound.Goals as goal

pub loop-w-preserved : goal.loop-w-preserved
loop-w-preserved c = let l = c.loop-w in
    let a = c.args in
    let s = c.in-Some in
    let i = length l.yielded in
    let d = c.differing_bits in
    let x : d.result ≡ bit_xor s.w.now (count_kind * 2 ^ 28) = d.ensures (omega (arith, c.code.ensures)) ∙ ap (λ (k : ℕ). bit_xor s.w.now (k * 2 ^ 28)) c.code.ensures in
    let n = s.b.now % 32 in
    let u = part_taken a.words.now a.p 8 i s.w.now c.next.new.self.a.rest.now (omega arith) (l.invariant.0 ∙ s.ensures.steps.0) in
    let v = part_taken a.fields.now (17 * a.c + 9) 8 i s.b.now c.next.new.self.b.rest.now (omega arith) (l.invariant.1 ∙ s.ensures.steps.1) in
    let more : length (l.yielded ++ ((s.w, s.b) ∷ [])) ≡ i + 1 = length-append l.yielded ((s.w, s.b) ∷ []) in
    rw more (
      u.after,
      v.after,
      λ j h z. let o = or_le l.bits (d.result / 2 ^ n) in
          up_to h (λ k. l.invariant.2 j k (omega (arith, o.0)))
          (λ k. rw (k, u.is, v.is) (ap (λ (y : ℕ). y / 2 ^ n) (sym x) ∙ omega (arith, o.1))),
    )

pub returns : goal.returns
returns c = λ e.
    let l = c.loop-w in
    let a = c.args in
    let i = length l.yielded in
    let at = 17 * a.c + 9 in
    let words = take (a.p + 8 - a.p) (drop a.p a.words.now) in
    let fields = take (at + 8 - at) (drop at a.fields.now) in
    let full : 8 ≤ i = ⊎_elim
    (λ t. omega (arith, t.1.0, ap length l.invariant.0, length-drop i words, part_length a.words.now a.p 8 (omega arith)))
    (λ t. omega (arith, t.1.0, ap length l.invariant.1, length-drop i fields, part_length a.fields.now at 8 (omega arith))) c.in-None.ensures.steps in
    (omega arith, omega arith, sound_described (code_merge a.c) a.fields.now (17 * a.c) a.words.now a.p (c.requires.fact_2 a.c (omega arith)) (omega arith) (λ k h. l.invariant.2 k (omega arith) (eqb-true l.bits 0 e)))
