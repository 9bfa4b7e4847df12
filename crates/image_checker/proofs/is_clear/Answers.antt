use mathlib.Core.Path.{◌≡◌, ap, sym, ◌∙◌}
use Prim.Native.Nat.{ℕ, ◌*◌, ◌^◌}
use native.Mathlib.Omega.{arith}
use lib.Bits.{bit_xor}
use lib.ListN.{get_or}
use Rattle.image_format.specs.Image.{layout_kind}
use Rattle.image_checker.proofs.Plain.{clear_checks, same_word}
use Rattle.image_checker.proofs.is_clear.Goals as goal

pub returns : goal.returns
returns c = λ e.
    let a = c.args in
    let z = c.are_counts.ensures e in
    let x : c.differing_bits.result ≡ bit_xor (get_or a.words.now a.p 0) (layout_kind * 2 ^ 28) = c.differing_bits.ensures (omega (arith, c.code.ensures)) ∙ ap (λ (k : ℕ). bit_xor (get_or a.words.now a.p 0) (k * 2 ^ 28)) c.code.ensures in
    (omega (arith, z.0), clear_checks a.words.now a.p (omega (arith, z.0)) (same_word _ layout_kind (sym x ∙ c.if-differing_bits-ne0.false)) z)
