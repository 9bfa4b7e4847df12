-- Words that a reader accepts are those that the writer gives for what was read.
use mathlib.Core.Path.{◌≡◌, refl, sym, ap, ap₂, subst, ◌∙◌}
use mathlib.Core.Bool.{true, false}
use mathlib.Core.List.{List, ◌∷◌, ◌++◌, append_assoc}
use Prim.Native.Nat.{ℕ, zero, suc, ◌+◌, ◌-◌, ◌*◌, ◌/◌, ◌%◌, ◌^◌, ◌≤◌, ◌<◌}
use native.Mathlib.Nat.{add-zero, zero-add, zero-mul, add_assoc, mul_assoc, add-mul, mod-eq_of_lt}
use native.Mathlib.Omega.{arith}
use borrow.Author.Tests.{eqb-true, ltb-true}
use borrow.Table.Steps.{cases}
use lib.Arith.{digits_lt, digits_div, digits_mod}
use lib.ListN.{drop, replicate}
use lib.Pow.{pow-add, pow_mono}
use Rattle.group.specs.declared.Group.{Group}
use Rattle.group.specs.Results.{Reading}
use Rattle.group.specs.Group.{valid_merge, read, changed}
use Rattle.group.proofs.Changing.{Good, good_changed, zero_good}
use Rattle.group_fields.proofs.Readings.{level_most, changed_at, changed_before}
use Rattle.word.specs.Step.{Step}
use Rattle.word.specs.Word.{go, payload, below}
use Rattle.word.proofs.Passed.{passed, below_is}
use Rattle.image_format.specs.Image.{word, count_kind, parts, word_count, level_at, is_first, slot_words, slots_words, group_words}
use Rattle.image_format.specs.Write.{slot_size, slots_size, group_size}
use Rattle.image_format.specs.Read.{first_bits, check_parts, check_slot, check_slots, value_from, read_slot, read_slots, read_group}
use Rattle.image_format.proofs.Laws.{slot_none, slot_some, size_first, size_other}
use Rattle.image_format.proofs.Sizes.{read_level}
use Rattle.image_format.proofs.Fields.{words_bits}
use Rattle.image_reader.proofs.Laws.{read_slot_other, read_slot_first, read_slot_merge}
use Rattle.image_reader.proofs.Digits.{power_step, value_digits}

-- the number that n words make
low : ℕ → List ℕ → ℕ → ℕ
low zero words p = 0
low (suc n) words p = payload words p * 2 ^ (24 * n) + low n words (p + 1)

record Digits (n : ℕ) (words : List ℕ) (p limit q : ℕ) : Type 0 where
  small : low n words p < 2 ^ (24 * n)
  position : q ≡ p + n
  is : (h : ℕ) → drop p words ≡ parts n (h * 2 ^ (24 * n) + low n words p) ++ drop q words

digits_are : (n : ℕ) (words : List ℕ) (p limit q : ℕ) → limit ≤ 2 ^ 24 → check_parts n words p limit ≡ go q → Digits n words p limit q
unfolding check_parts low parts word
digits_are zero words p limit q l e =
    let z : p ≡ q = ap (λ (s : Step). s.position) e in
    record { small = omega arith; position = sym z ∙ sym (add-zero p); is = λ h. ap (λ (i : ℕ). drop i words) z }
digits_are (suc n) words p limit q l e =
    let t = passed (below words p count_kind limit) (λ i. check_parts n words i (2 ^ 24)) q e in
    let s = (below words p count_kind limit).position in
    let b = below_is words p count_kind limit s t.here in
    let d = payload words p in
    let d< : d < 2 ^ 24 = omega (arith, ltb-true d limit b.true_of) in
    let r = digits_are n words (p + 1) (2 ^ 24) q (omega arith) (rw b.position at t.after) in
    let y = low n words (p + 1) in
    let m = 2 ^ (24 * n) in
    record {
      small = rw (power_step n) (digits_lt d< r.small);
      position = r.position ∙ omega arith;
      is = λ h.
          let v : h * 2 ^ (24 * suc n) + (d * m + y) ≡ (h * 2 ^ 24 + d) * m + y
          = omega (arith, ap (λ (z : ℕ). h * z) (power_step n) ∙ sym (mul_assoc h (2 ^ 24) m), add-mul (h * 2 ^ 24) d m) in
          let x : ((h * 2 ^ 24 + d) * m + y) / m % 2 ^ 24 ≡ d = ap (λ (z : ℕ). z % 2 ^ 24) (digits_div (h * 2 ^ 24 + d) r.small) ∙ digits_mod h d< in
          b.is ∙ rw (v, x) (ap (λ (z : List ℕ). word count_kind d ∷ z) (r.is (h * 2 ^ 24 + d)));
    }

first_low : (n : ℕ) (words : List ℕ) (p bits q : ℕ) → bits ≤ 24 → check_parts (suc n) words p (2 ^ bits) ≡ go q → low (suc n) words p < 2 ^ (bits + 24 * n)
unfolding check_parts low
first_low n words p bits q l e =
    let t = passed (below words p count_kind (2 ^ bits)) (λ i. check_parts n words i (2 ^ 24)) q e in
    let b = below_is words p count_kind (2 ^ bits) (below words p count_kind (2 ^ bits)).position t.here in
    let r = digits_are n words (p + 1) (2 ^ 24) q (omega arith) (rw b.position at t.after) in
    rw (pow-add 2 bits (24 * n)) (digits_lt (ltb-true (payload words p) (2 ^ bits) b.true_of) r.small)

pub record Value (level : ℕ) (words : List ℕ) (p q : ℕ) : Type 0 where
  pub fits : value_from (word_count level) 0 words p < 2 ^ (8 * 2 ^ level)
  pub position : q ≡ p + word_count level
  pub is : drop p words ≡ parts (word_count level) (value_from (word_count level) 0 words p) ++ drop q words

pub value_is : (level : ℕ) (words : List ℕ) (p q : ℕ) → level ≤ 3 → check_parts (word_count level) words p (2 ^ first_bits level) ≡ go q → Value level words p q
value_is level words p q l e =
    let b = words_bits level in
    let n = word_count level in
    let bits : first_bits level ≤ 24 = b.3 in
    let s : n ≡ suc (n - 1) = omega arith in
    let d = digits_are n words p (2 ^ first_bits level) q (pow_mono {i = first_bits level} {j = 24} bits) e in
    let c = subst (λ (k : ℕ). check_parts k words p (2 ^ first_bits level) ≡ go q) s e in
    let f : low n words p < 2 ^ (8 * 2 ^ level)
    = omega (arith, first_low (n - 1) words p (first_bits level) q bits c, ap (λ (k : ℕ). low k words p) s, ap (λ (k : ℕ). 2 ^ k) b.1) in
    let g : low n words p < 2 ^ 64 = omega (arith, f, pow_mono {i = 8 * 2 ^ level} {j = 64} (omega (arith, pow_mono {i = level} {j = 3} l))) in
    let z : 0 * 2 ^ (24 * n) + low n words p ≡ low n words p = rw (zero-mul (2 ^ (24 * n))) (zero-add (low n words p)) in
    let i : drop p words ≡ parts n (low n words p) ++ drop q words = d.is 0 ∙ ap (λ (v : ℕ). parts n v ++ drop q words) z in
    let y : 0 * 2 ^ (24 * n) + low n words p % 2 ^ (24 * n) ≡ low n words p
    = rw (zero-mul (2 ^ (24 * n)), mod-eq_of_lt {n = low n words p} {m = 2 ^ (24 * n)} d.small) (zero-add (low n words p)) in
    let v : value_from n 0 words p ≡ low n words p = value_digits n 0 (low n words p) words p (drop q words) (omega (arith, y, g)) i ∙ y in
    record { fits = rw v f; position = d.position; is = rw v i }

-- the slots before k of two groups are read alike
abbrev Agree : ℕ → Group → Group → Type 0
Agree k h g = (j : ℕ) → j < k → read h j ≡ read g j

-- a slot whose words have passed
record Slot (k : ℕ) (h : Group) (words : List ℕ) (p q : ℕ) : Type 0 where
  position : q ≡ p + slot_size h.merge k
  good : Good (read_slot k h words p)
  kept : Agree k (read_slot k h words p) h
  is : (f : Group) → f.merge ≡ h.merge → read f k ≡ read (read_slot k h words p) k → drop p words ≡ slot_words f k ++ drop q words

module _ (k : ℕ) (h : Group) (words : List ℕ) (p q : ℕ) (o : Good h) (i : k < 8) (e : check_slot h.merge k words p ≡ go q) where
  starts : is_first h.merge k ≡ true → k % 2 ^ (read h k).level ≡ 0
  unfolding is_first
  starts t = rw (read_level h k) (eqb-true (k % 2 ^ level_at h.merge k) 0 t)

  slot_first : is_first h.merge k ≡ true → Slot k h words p q
  unfolding check_slot
  slot_first t =
      let L = level_at h.merge k in
      let n = word_count L in
      let v = value_from n 0 words p in
      let l = read_level h k in
      let three : L ≤ 3 = rw (← l) (level_most h k) in
      let a = value_is L words p q three (rw t at e) in
      let R : read_slot k h words p ≡ (changed h k v).group = sym (read_slot_first k h L n v words p refl t refl refl) in
      let vh : v % 2 ^ (8 * 2 ^ (read h k).level) ≡ v = mod-eq_of_lt {n = v} {m = 2 ^ (8 * 2 ^ (read h k).level)} (rw l a.fits) in
      record {
        position = a.position ∙ ap (λ (x : ℕ). p + x) (size_first h.merge k L n refl t refl);
        good = rw R (good_changed h k v o);
        kept = λ j m. ap (λ (x : Group). read x j) R ∙ changed_before h k v j o i (starts t) m;
        is = λ f m c.
            let w : (read f k).value ≡ v = ap (λ (x : Reading). x.value) (c ∙ ap (λ (x : Group). read x k) R ∙ changed_at h k v o i) ∙ vh in
            let s = slot_some f k L n (read f k) (ap (λ (x : ℕ). level_at x k) (sym m)) (ap (λ (x : ℕ). is_first x k) m ∙ t) refl refl in
            a.is ∙ ap (λ (l : List ℕ). l ++ drop q words) (ap (parts n) (sym w) ∙ s);
      }

  slot_other : is_first h.merge k ≡ false → Slot k h words p q
  unfolding check_slot
  slot_other t =
      let z : p ≡ q = ap (λ (s : Step). s.position) (rw t at e) in
      let R = read_slot_other k h words p t in
      record {
        position = sym z ∙ sym (ap (λ (x : ℕ). p + x) (sym (size_other h.merge k t)) ∙ add-zero p);
        good = rw R o;
        kept = λ j l. ap (λ (x : Group). read x j) R;
        is = λ f m c. ap (λ (x : ℕ). drop x words) z ∙ ap (λ (l : List ℕ). l ++ drop q words) (sym (slot_none f k (ap (λ (x : ℕ). is_first x k) m ∙ t)));
      }

  slot_is : Slot k h words p q
  slot_is = cases (is_first h.merge k) slot_first slot_other

-- slots whose words have passed
record Slots (n k : ℕ) (h : Group) (words : List ℕ) (p q : ℕ) : Type 0 where
  position : q ≡ p + slots_size n k h.merge
  good : Good (read_slots n k h words p)
  merge : (read_slots n k h words p).merge ≡ h.merge
  kept : Agree k (read_slots n k h words p) h
  is : drop p words ≡ slots_words n k (read_slots n k h words p) ++ drop q words

slots_are : (n k : ℕ) (h : Group) (words : List ℕ) (p q : ℕ) → Good h → k + n ≡ 8 → check_slots n k h.merge words p ≡ go q → Slots n k h words p q
unfolding check_slots slots_size read_slots slots_words
slots_are zero k h words p q o i e =
    let z : p ≡ q = ap (λ (s : Step). s.position) e in
    record { position = sym z ∙ sym (add-zero p); good = o; merge = refl; kept = λ j l. refl; is = ap (λ (x : ℕ). drop x words) z }
slots_are (suc n) k h words p q o i e =
    let t = passed (check_slot h.merge k words p) (λ r. check_slots n (k + 1) h.merge words r) q e in
    let r = (check_slot h.merge k words p).position in
    let s = slot_is k h words p r o (omega arith) t.here in
    let x = read_slot k h words p in
    let m = read_slot_merge k h words p in
    let z = slot_size h.merge k in
    let c : check_slots n (k + 1) x.merge words (p + z) ≡ go q = ap₂ (λ (u y : ℕ). check_slots n (k + 1) u words y) m (sym s.position) ∙ t.after in
    let y = slots_are n (k + 1) x words (p + z) q s.good (omega arith) c in
    let F = read_slots n (k + 1) x words (p + z) in
    record {
      position = y.position ∙ ap (λ (u : ℕ). p + z + slots_size n (k + 1) u) m ∙ add_assoc p z (slots_size n (k + 1) h.merge);
      good = y.good;
      merge = y.merge ∙ m;
      kept = λ j l. y.kept j (omega arith) ∙ s.kept j l;
      is =
          s.is F (y.merge ∙ m) (y.kept k (omega arith))
          ∙ ap (λ (u : List ℕ). slot_words F k ++ u) (ap (λ (u : ℕ). drop u words) s.position ∙ y.is)
          ∙ sym (append_assoc (slot_words F k) (slots_words n (k + 1) F) (drop q words));
    }

-- a group whose words have passed
pub record Read (m : ℕ) (words : List ℕ) (p q : ℕ) : Type 0 where
  pub position : q ≡ p + group_size m
  pub good : Good (read_group m words p)
  pub merge : (read_group m words p).merge ≡ m
  pub is : drop p words ≡ group_words (read_group m words p) ++ drop q words

pub group_is : (m : ℕ) (words : List ℕ) (p q : ℕ) → valid_merge m ≡ true → check_slots 8 0 m words p ≡ go q → Read m words p q
unfolding group_size read_group group_words
group_is m words p q v e =
    let s = slots_are 8 0 (record { counts = replicate 8 0; merge = m }) words p q (zero_good m v) refl e in
    record { position = s.position; good = s.good; merge = s.merge; is = s.is }
