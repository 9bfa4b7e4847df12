-- A group's words by their fields, read as the sum of what they hold.
use mathlib.Core.Path.{◌≡◌, refl, sym, ap, ap₂, ◌∙◌}
use mathlib.Core.Bool.{true}
use mathlib.Core.List.{List, [], ◌∷◌, ◌++◌}
use Prim.Native.Nat.{ℕ, zero, suc, ◌+◌, ◌-◌, ◌*◌, ◌/◌, ◌%◌, ◌^◌, ◌≤◌, ◌<◌}
use native.Mathlib.Nat.{add-zero, zero-add, zero-mul, add-mul, mul_assoc, mul_comm, mod-lt, mul-add-mod_self_right}
use native.Mathlib.Decide.{dec_lt}
use native.Mathlib.Numerals.{add-one}
use native.Mathlib.Omega.{arith}
use lib.Arith.{digits_lt}
use lib.ListN.{length, get_or, drop, drop_of_length-le}
use lib.Pow.{pow_pos, pow-add, pow_mono, mod-pow-add, mod-mod-pow, high, low}
use lib.Seq.{drop-cons}
use Rattle.group.specs.Group.{valid_merge, read, changed}
use Rattle.group_fields.specs.Fields.{group_of}
use Rattle.group_fields.proofs.Counters.{counts_none, put_below, changed_put}
use Rattle.word.specs.Word.{payload}
use Rattle.image_format.specs.Image.{word_count, level_at, is_first}
use Rattle.image_format.specs.Write.{group_size}
use Rattle.image_format.specs.Read.{first_bits, value_from, read_slots, read_group}
use Rattle.image_format.specs.Fields.{Field, part_fields, slots_fields, group_fields, field_at, Described}
use Rattle.image_format.proofs.Sizes.{read_level, level_at_le}
use Rattle.image_format.proofs.Counters.{first_is}
use Rattle.image_format.proofs.Fields.{none, parts_size, fields_size, field_in, words_bits, fields_turn}
use Rattle.image_group_checker.proofs.Steps.{Stands, stands_first, stands_next}
use Rattle.image_reader.proofs.Steps.{reads_step}
use Rattle.image_reader.proofs.Digits.{power_step}

-- the sum of what the words of fields hold, each at its place
unfoldable pub fields_sum : List Field → List ℕ → ℕ → ℕ
fields_sum [] words p = 0
fields_sum (f ∷ fs) words p = payload words p % 2 ^ f.bits * 2 ^ f.place + fields_sum fs words (p + 1)

sum_append : (fs gs : List Field) (words : List ℕ) (p : ℕ) → fields_sum (fs ++ gs) words p ≡ fields_sum fs words p + fields_sum gs words (p + length fs)
unfolding fields_sum
sum_append [] gs words p = ap (fields_sum gs words) (sym (add-zero p)) ∙ sym (zero-add (fields_sum gs words (p + 0)))
sum_append (f ∷ fs) gs words p =
    let e : p + 1 + length fs ≡ p + suc (length fs) = omega arith in
    omega (arith, sum_append fs gs words (p + 1), ap (fields_sum gs words) e)

-- a counter's words at another place
parts_place : (n place bits : ℕ) (words : List ℕ) (p : ℕ) → fields_sum (part_fields n place bits) words p ≡ fields_sum (part_fields n 0 bits) words p * 2 ^ place
unfolding fields_sum part_fields
parts_place zero place bits words p = sym (zero-mul (2 ^ place))
parts_place (suc n) place bits words p =
    let d = payload words p % 2 ^ bits in
    let q = 2 ^ (24 * n) in
    let r = fields_sum (part_fields n 0 24) words (p + 1) in
    let e : d * 2 ^ (place + 24 * n) ≡ d * q * 2 ^ place = ap (λ (x : ℕ). d * x) (ap (λ (x : ℕ). 2 ^ x) (omega arith) ∙ pow-add 2 (24 * n) place) ∙ sym (mul_assoc d q (2 ^ place)) in
    let z : 0 + 24 * n ≡ 24 * n = omega arith in
    rw (z, add-mul (d * q) r (2 ^ place)) (omega (arith, e, parts_place n place 24 words (p + 1)))

-- the digits of 24 bits that n words hold
abbrev digits : ℕ → List ℕ → ℕ → ℕ
digits n words p = fields_sum (part_fields n 0 24) words p

digits_more : (n bits : ℕ) (words : List ℕ) (p : ℕ) → fields_sum (part_fields (suc n) 0 bits) words p ≡ payload words p % 2 ^ bits * 2 ^ (24 * n) + digits n words (p + 1)
unfolding fields_sum part_fields
digits_more n bits words p =
    let z : 0 + 24 * n ≡ 24 * n = omega arith in
    rw z

digits_small : (n : ℕ) (words : List ℕ) (p : ℕ) → digits n words p < 2 ^ (24 * n)
unfolding fields_sum part_fields
digits_small zero words p = omega arith
digits_small (suc n) words p =
    rw (digits_more n 24 words p, power_step n) (digits_lt (mod-lt (payload words p) (omega arith)) (digits_small n words (p + 1)))

-- a value is made of its digits, but for bits above 64
value_mod : (n v c : ℕ) (words : List ℕ) (p : ℕ) → c ≤ 64 → value_from n v words p % 2 ^ c ≡ (v * 2 ^ (24 * n) + digits n words p) % 2 ^ c
unfolding value_from fields_sum part_fields
value_mod zero v c words p h =
    let e : v ≡ v * 2 ^ (24 * 0) + 0 = omega arith in
    ap (λ (x : ℕ). x % 2 ^ c) e
value_mod (suc n) v c words p h =
    let d = payload words p % 2 ^ 24 in
    let q = 2 ^ (24 * n) in
    let u = v / 2 ^ 40 in
    let r = v % 2 ^ 40 in
    let rest = (r * 2 ^ 24 + d) * q + digits n words (p + 1) in
    let top = u * 2 ^ (64 - c) * q in
    let all : 64 ≡ 64 - c + c = omega arith in
    let over : u * 2 ^ 64 ≡ u * 2 ^ (64 - c) * 2 ^ c = ap (λ (x : ℕ). u * 2 ^ x) all ∙ ap (λ (x : ℕ). u * x) (pow-add 2 (64 - c) c) ∙ sym (mul_assoc u (2 ^ (64 - c)) (2 ^ c)) in
    let parted : v * 2 ^ 24 ≡ u * 2 ^ 64 + r * 2 ^ 24 = omega arith in
    let a : v * 2 ^ (24 * suc n) ≡ (u * 2 ^ 64 + r * 2 ^ 24) * q = ap (λ (x : ℕ). v * x) (power_step n) ∙ sym (mul_assoc v (2 ^ 24) q) ∙ ap (λ (x : ℕ). x * q) parted in
    let b : u * 2 ^ 64 * q ≡ top * 2 ^ c = ap (λ (x : ℕ). x * q) over ∙ mul_assoc (u * 2 ^ (64 - c)) (2 ^ c) q ∙ ap (λ (x : ℕ). u * 2 ^ (64 - c) * x) (mul_comm (2 ^ c) q) ∙ sym (mul_assoc (u * 2 ^ (64 - c)) q (2 ^ c)) in
    let e : v * 2 ^ (24 * suc n) + digits (suc n) words p ≡ top * 2 ^ c + rest = omega (arith, a, b, add-mul (u * 2 ^ 64) (r * 2 ^ 24) q, add-mul (r * 2 ^ 24) d q, digits_more n 24 words p) in
    value_mod n (r * 2 ^ 24 + d) c words (p + 1) h ∙ sym (mul-add-mod_self_right top (2 ^ c) rest) ∙ ap (λ (x : ℕ). x % 2 ^ c) (sym e)

-- the value of a counter's words, as far as the counter holds it
value_cut : (level : ℕ) (words : List ℕ) (p : ℕ) → level ≤ 3
    → value_from (word_count level) 0 words p % 2 ^ (8 * 2 ^ level) ≡ fields_sum (part_fields (word_count level) 0 (first_bits level)) words p
value_cut level words p h =
    let w = words_bits level in
    let n = word_count level - 1 in
    let bits = first_bits level in
    let x = payload words p in
    let d = x % 2 ^ 24 in
    let q = 2 ^ (24 * n) in
    let r = digits n words (p + 1) in
    let small = digits_small n words (p + 1) in
    let s : word_count level ≡ suc n = omega arith in
    let c : 8 * 2 ^ level ≡ bits + 24 * n = sym w.1 in
    let most : 8 * 2 ^ level ≤ 64 = omega (arith, pow_mono {i = level} {j = 3} h) in
    let b : 24 - bits + bits ≡ 24 = omega arith in
    let cut : d % 2 ^ bits ≡ x % 2 ^ bits = rw b at (mod-mod-pow x (24 - bits) bits) in
    let t : 0 * 2 ^ (24 * suc n) + digits (suc n) words p ≡ d * q + r = omega (arith, zero-mul (2 ^ (24 * suc n)), digits_more n 24 words p) in
    rw s
    (value_mod (suc n) 0 (8 * 2 ^ level) words p most
    ∙ ap (λ (y : ℕ). y % 2 ^ (8 * 2 ^ level)) t
    ∙ ap (λ (y : ℕ). (d * q + r) % 2 ^ y) c
    ∙ mod-pow-add (d * q + r) bits (24 * n)
    ∙ ap₂ (λ (y z : ℕ). y % 2 ^ bits * q + z) (high d (24 * n) small) (low d (24 * n) small)
    ∙ ap (λ (y : ℕ). y * q + r) cut
    ∙ sym (digits_more n bits words p))

-- a value in the counter that starts at slot k, where no bit is set from there on
module _ (m k w x : ℕ) (v : valid_merge m ≡ true) (h : k < 8) (l : w < 2 ^ (8 * k)) where
  abbrev new : ℕ
  new = w + x % 2 ^ (8 * 2 ^ level_at m k) * 2 ^ (8 * k)

  level_is : (read (group_of m (record { word = w })) k).level ≡ level_at m k
  level_is = read_level (group_of m (record { word = w })) k

  new_in : new < 2 ^ (8 * (k + 2 ^ level_at m k))
  new_in = rw (← level_is) (put_below m k x (record { word = w }) v h l)

  changed_field : is_first m k ≡ true → (changed (group_of m (record { word = w })) k x).group ≡ group_of m (record { word = new })
  changed_field t = rw (← level_is) (changed_put m k x (record { word = w }) v h l (first_is (group_of m (record { word = w })) k t))

-- the words of a group's counters from slot k on, read into a group without counts from there on
module _ (m : ℕ) (v : valid_merge m ≡ true) (words : List ℕ) where
  abbrev Reads : ℕ → ℕ → ℕ → Type 0
  Reads k w p =
      let x = w + fields_sum (slots_fields (8 - k) k m) words p in
      (read_slots (8 - k) k (group_of m (record { word = w })) words p ≡ group_of m (record { word = x })) × (x < 2 ^ 64)

  reads_none : (k w p : ℕ) → k ≡ 8 → w < 2 ^ (8 * k) → Reads k w p
  unfolding read_slots slots_fields fields_sum
  reads_none k w p e l = rw (e, add-zero w) (refl, rw e at l)

  reads_one : (k w p : ℕ) (h : k < 8) (t : is_first m k ≡ true) (l : w < 2 ^ (8 * k)) → let L = level_at m k in
      Reads (k + 2 ^ L) (new m k w (value_from (word_count L) 0 words p) v h l) (p + word_count L) → Reads k w p
  reads_one k w p h t l r =
      let L = level_at m k in
      let n = word_count L in
      let x = value_from n 0 words p in
      let y = new m k w x v h l in
      let fs = part_fields n (8 * k) (first_bits L) in
      let gs = slots_fields (8 - (k + 2 ^ L)) (k + 2 ^ L) m in
      let held : fields_sum fs words p ≡ x % 2 ^ (8 * 2 ^ L) * 2 ^ (8 * k) = parts_place n (8 * k) (first_bits L) words p ∙ ap (λ (i : ℕ). i * 2 ^ (8 * k)) (sym (value_cut L words p (level_at_le m k))) in
      let whole : fields_sum (slots_fields (8 - k) k m) words p ≡ fields_sum fs words p + fields_sum gs words (p + n)
      = ap (λ (l : List Field). fields_sum l words p) (fields_turn m k L n (first_bits L) h t refl refl refl) ∙ sum_append fs gs words p
      ∙ ap (λ (i : ℕ). fields_sum fs words p + fields_sum gs words (p + i)) (parts_size n (8 * k) (first_bits L)) in
      let same : y + fields_sum gs words (p + n) ≡ w + fields_sum (slots_fields (8 - k) k m) words p = omega (arith, whole, held) in
      let s = reads_step m k (group_of m (record { word = w })) (group_of m (record { word = y })) L n x words p refl h t refl refl refl (sym (changed_field m k w x v h l t)) in
      (sym s.1 ∙ r.0 ∙ ap (λ (i : ℕ). group_of m (record { word = i })) same, omega (arith, same, r.1))

  reads_from : (f k w p : ℕ) → 8 ≤ k + f → Stands m k → w < 2 ^ (8 * k) → Reads k w p
  reads_from zero k w p h s l = reads_none k w p (omega (arith, s.0)) l
  reads_from (suc f) k w p h s l = elim (dec_lt k 8) [
    | yes i ↦
        let t = s.1 i in
        let L = level_at m k in
        let x = value_from (word_count L) 0 words p in
        reads_one k w p i t l
        (reads_from f (k + 2 ^ L) (new m k w x v i l) (p + word_count L) (omega (arith, pow_pos L)) (stands_next m k i t) (new_in m k w x v i l))
    | no i ↦ reads_none k w p (omega (arith, s.0)) l
  ]

  pub read_fields_lem : (p : ℕ) → let x = fields_sum (group_fields m) words p in (read_group m words p ≡ group_of m (record { word = x })) × (x < 2 ^ 64)
  unfolding read_group group_fields
  read_fields_lem p =
      let r = reads_from 8 0 0 p (omega arith) (stands_first m) (omega arith) in
      let z = zero-add (fields_sum (slots_fields 8 0 m) words p) in
      (ap (λ (l : List ℕ). read_slots 8 0 (record { counts = l; merge = m }) words p) (sym counts_none) ∙ r.0 ∙ ap (λ (i : ℕ). group_of m (record { word = i })) z, omega (arith, r.1))

-- that sum, word by word
pub sum_step : (m : ℕ) (words : List ℕ) (p i : ℕ) → i < group_size m
    → fields_sum (drop i (group_fields m)) words (p + i)
    ≡ payload words (p + i) % 2 ^ (field_at (group_fields m) i).bits * 2 ^ (field_at (group_fields m) i).place + fields_sum (drop (i + 1) (group_fields m)) words (p + (i + 1))
unfolding fields_sum
sum_step m words p i h =
    let e : p + i + 1 ≡ p + (i + 1) = omega arith in
    rw (drop-cons (group_fields m) i none (omega (arith, fields_size m)), add-one i) (ap (λ (q : ℕ). payload words (p + i) % 2 ^ (field_at (group_fields m) i).bits * 2 ^ (field_at (group_fields m) i).place + fields_sum (drop (suc i) (group_fields m)) words q) (rw (add-one i) at e))

pub sum_none : (m : ℕ) (words : List ℕ) (q i : ℕ) → group_size m ≤ i → fields_sum (drop i (group_fields m)) words q ≡ 0
unfolding fields_sum
sum_none m words q i h = rw (drop_of_length-le (group_fields m) {i = i} (omega (arith, fields_size m)))

-- the places and bits that a description says
pub described_in : (m : ℕ) (t : List ℕ) (at i : ℕ) → Described m t at → i < group_size m
    → (get_or t (at + 9 + i) 0 ≤ 24) × (get_or t (at + 1 + i) 0 + get_or t (at + 9 + i) 0 ≤ 64) × (1 ≤ get_or t (at + 9 + i) 0)
described_in m t at i d h = rw ((d.1 i h).0, (d.1 i h).1) (field_in m i h)
