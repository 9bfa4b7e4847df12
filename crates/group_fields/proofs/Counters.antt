-- A group's counters as bit fields: the bits that a counter has in the count bytes, and counters put together from their bits.
use mathlib.Core.Path.{◌≡◌, refl, sym, ap, ◌∙◌}
use mathlib.Core.Bool.{true}
use Prim.Native.Nat.{ℕ, ◌+◌, ◌-◌, ◌*◌, ◌/◌, ◌%◌, ◌^◌, ◌≤◌, ◌<◌}
use native.Mathlib.Nat.{zero-mul, zero-mod, mod-lt, mod-eq_of_lt, div-eq_of_lt, div-add-mod'}
use native.Mathlib.Omega.{arith}
use lib.Arith.{digits_lt}
use lib.ListN.{replicate}
use lib.Pow.{pow_pos, pow-add, pow_mono, field, mod-mod-pow, shr-shr}
use Rattle.little_endian.specs.Bytes.{number, bytes}
use Rattle.little_endian.proofs.Bytes.{number_bytes}
use Rattle.group_block.specs.Block.{cap, block, counter_at}
use Rattle.group.specs.declared.Group.{Group}
use Rattle.group.specs.Group.{valid_merge, decode, read, changed}
use Rattle.group.proofs.Changing.{Good}
use Rattle.group.proofs.Places.{value_put}
use Rattle.group_fields.specs.declared.Fields.{Fields}
use Rattle.group_fields.specs.Fields.{no_fields, fields_of, counts_of, group_of, bits_at, put}
use Rattle.group_fields.proofs.Readings.{value_is, valid_level}

-- bits of a field are bits of the number that the field is in
within : (x p w i j : ℕ) → i + j ≤ w → x / 2 ^ p % 2 ^ w / 2 ^ i % 2 ^ j ≡ x / 2 ^ (p + i) % 2 ^ j
within x p w i j h =
    let a = w - (i + j) in
    let e : w ≡ a + j + i = omega arith in
    ap (λ (v : ℕ). x / 2 ^ p % 2 ^ v / 2 ^ i % 2 ^ j) e
    ∙ ap (λ (y : ℕ). y % 2 ^ j) (field (x / 2 ^ p) (a + j) i) ∙ mod-mod-pow (x / 2 ^ p / 2 ^ i) a j ∙ ap (λ (y : ℕ). y % 2 ^ j) (shr-shr x p i)

-- n bits of the counter that starts at slot k, the lowest of which is its bit i
pub counter_bits : (g : Group) (k i n : ℕ) → Good g → k < 8 → k % 2 ^ (read g k).level ≡ 0 → i + n ≤ 8 * 2 ^ (read g k).level
    → bits_at (fields_of g.counts) (8 * k + i) n ≡ (read g k).value / 2 ^ i % 2 ^ n
unfolding fields_of
counter_bits g k i n o h z l =
    sym (ap (λ (v : ℕ). v / 2 ^ i % 2 ^ n) (value_is g k o h z) ∙ within (number g.counts) (8 * k) (8 * 2 ^ (read g k).level) i n l)

-- with no bit set, no counts
pub counts_none : counts_of no_fields ≡ replicate 8 0
unfolding counts_of bytes
counts_none = refl

-- a value put in the counter that starts at slot k, where no bit is set from there on, is another value in that counter
module _ (m k x : ℕ) (f : Fields) (v : valid_merge m ≡ true) (h : k < 8) (l : f.word < 2 ^ (8 * k)) where
  abbrev level : ℕ
  level = (read (group_of m f) k).level

  -- the next counter finds no bit set either
  pub put_below : (put f (8 * k) (8 * 2 ^ level) x).word < 2 ^ (8 * (k + 2 ^ level))
  put_below =
      let e : 2 ^ (8 * (k + 2 ^ level)) ≡ 2 ^ (8 * 2 ^ level) * 2 ^ (8 * k) = ap (λ (i : ℕ). 2 ^ i) (omega arith) ∙ pow-add 2 (8 * 2 ^ level) (8 * k) in
      omega (arith, e, digits_lt {q = x % 2 ^ (8 * 2 ^ level)} {m = 2 ^ (8 * 2 ^ level)} {r = f.word} {c = 2 ^ (8 * k)} (mod-lt x (pow_pos (8 * 2 ^ level))) l)

  pub changed_put : k % 2 ^ level ≡ 0 → (changed (group_of m f) k x).group ≡ group_of m (put f (8 * k) (8 * 2 ^ level) x)
  unfolding changed decode counts_of cap
  changed_put z =
      let w = f.word in
      let c = 2 ^ (8 * 2 ^ level) in
      let w< : w < 2 ^ 64 = omega (arith, l, pow_mono {i = 8 * k} {j = 64} (omega arith)) in
      let n : number (bytes 8 w) ≡ w = number_bytes 8 w w< in
      let e : (counter_at (block 3 w m) k).level ≡ level = sym (rw n at (valid_level (group_of m f) k v h)) in
      let k8 : k % 8 ≡ k = mod-eq_of_lt {n = k} {m = 8} h in
      let q : 8 * k ≡ 8 * (k / 2 ^ level * 2 ^ level) = omega (arith, div-add-mod' k (2 ^ level)) in
      let none : w / 2 ^ (8 * k) % c * 2 ^ (8 * k) ≡ 0
      = ap (λ (i : ℕ). i % c * 2 ^ (8 * k)) (div-eq_of_lt l) ∙ ap (λ (i : ℕ). i * 2 ^ (8 * k)) (zero-mod c) ∙ zero-mul (2 ^ (8 * k)) in
      rw (v, n, k8) (ap (λ (y : ℕ). record { counts = bytes 8 y; merge = m }) (sym (value_put w m k level (8 * k) w< h e q x (x % c) refl (w + x % c * 2 ^ (8 * k)) (omega (arith, none)))))
