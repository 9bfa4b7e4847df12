-- Words compared by their bits.
use mathlib.Core.Path.{◌≡◌, sym, ◌∙◌}
use Prim.Native.Nat.{ℕ, ◌*◌, ◌/◌, ◌%◌, ◌^◌, ◌≤◌, ◌<◌}
use native.Mathlib.Omega.{arith}
use lib.Bits.{bit_or, bit_xor, or_add_and, xor_add_and, xor_shr, and_le_l, and_le_r}
use Rattle.image_format.specs.Image.{word, count_kind}

-- a word that is a counter of one slot
pub count_is : (x : ℕ) → x / 2 ^ 8 ≡ count_kind * 2 ^ 20 → x ≡ word count_kind (x % 256)
unfolding word
count_is x e = omega arith

-- no bits are lost
pub or_le : (a b : ℕ) → (a ≤ bit_or a b) × (b ≤ bit_or a b)
or_le a b = (omega (arith, or_add_and a b, and_le_r a b), omega (arith, or_add_and a b, and_le_l a b))

-- the same bits from a place on
pub same_from : (x y b : ℕ) → bit_xor x y / 2 ^ b ≡ 0 → x / 2 ^ b ≡ y / 2 ^ b
same_from x y b h =
    let e : bit_xor (x / 2 ^ b) (y / 2 ^ b) ≡ 0 = sym (xor_shr x y b) ∙ h in
    omega (arith, e, xor_add_and (x / 2 ^ b) (y / 2 ^ b), and_le_l (x / 2 ^ b) (y / 2 ^ b), and_le_r (x / 2 ^ b) (y / 2 ^ b))

-- a count word with a small payload
pub same_bits : (x : ℕ) → bit_xor x (count_kind * 2 ^ 28) < 256 → x / 2 ^ 8 ≡ count_kind * 2 ^ 20
same_bits x h = same_from x (count_kind * 2 ^ 28) 8 (omega arith)
