-- What the writer wrote of a group, read back, is that group.
use mathlib.Core.Path.{◌≡◌, refl, sym, ap, ap₂, ◌∙◌}
use mathlib.Core.Bool.{true, false}
use mathlib.Core.List.{List, ◌++◌, append_assoc}
use Prim.Native.Nat.{ℕ, zero, suc, ◌+◌, ◌-◌, ◌*◌, ◌%◌, ◌^◌, ◌<◌}
use native.Mathlib.Nat.{add-zero, add_assoc, mod-eq_of_lt}
use native.Mathlib.Omega.{arith}
use lib.ListN.{drop, replicate}
use Rattle.group.specs.declared.Group.{Group}
use Rattle.group.specs.Group.{read, changed}
use Rattle.group.proofs.Changing.{Good, good_changed, zero_good}
use Rattle.group_fields.proofs.Readings.{level_by_merge, value_below, same_before, changed_at, changed_before, readings_ext, accepted_reading}
use Rattle.word.specs.Word.{go, next}
use Rattle.image_format.specs.Image.{parts, word_count, level_at, is_first, slot_words, slots_words, group_words}
use Rattle.image_format.specs.Write.{slot_size, slots_size, group_size}
use Rattle.image_format.specs.Read.{check_slot, check_slots, read_slot, read_slots, read_group}
use borrow.Table.Steps.{cases}
use Rattle.image_format.proofs.Laws.{slot_none, slot_some, size_first, size_other}
use Rattle.image_format.proofs.Sizes.{read_level, level_at_le}
use Rattle.image_format.proofs.Counters.{first_is, other_is}
use Rattle.image_group_checker.proofs.Laws.{up_to, check_slot_other}
use Rattle.image_group_checker.proofs.Digits.{check_counter}
use Rattle.image_reader.proofs.Laws.{read_slot_other, read_slot_merge, read_slot_first}
use Rattle.image_reader.proofs.Digits.{value_counter, parts_after}

-- the slots before k of two groups are read alike
abbrev pub Agree : ℕ → Group → Group → Type 0
Agree k h g = (j : ℕ) → j < k → read h j ≡ read g j

-- a slot that was written, read back
pub record Slot (k : ℕ) (g h : Group) (words : List ℕ) (p : ℕ) (rest : List ℕ) : Type 0 where
  pub checks : check_slot g.merge k words p ≡ go (p + slot_size g.merge k)
  pub after : drop (p + slot_size g.merge k) words ≡ rest
  pub good : Good (read_slot k h words p)
  pub agree : Agree (k + 1) (read_slot k h words p) g

module _ (k : ℕ) (g h : Group) (words : List ℕ) (p : ℕ) (rest : List ℕ) (o : Good g) (q : Good h) (m : h.merge ≡ g.merge) (i : k < 8) (f : Agree k h g)
    (e : drop p words ≡ slot_words g k ++ rest) where
  same_level : (read h k).level ≡ (read g k).level
  same_level = level_by_merge h g k m

  slot_first : is_first g.merge k ≡ true → Slot k g h words p rest
  unfolding check_slot
  slot_first t =
      let L = level_at g.merge k in
      let n = word_count L in
      let v = (read g k).value in
      let l = read_level g k in
      let d : drop p words ≡ parts n v ++ rest = e ∙ ap (λ (l : List ℕ). l ++ rest) (sym (slot_some g k L n (read g k) refl t refl refl)) in
      let low : v < 2 ^ (8 * 2 ^ L) = rw (← l) (value_below g k o i) in
      let z : n ≡ slot_size g.merge k = size_first g.merge k L n refl t refl in
      let th : is_first h.merge k ≡ true = ap (λ (x : ℕ). is_first x k) m ∙ t in
      let R : read_slot k h words p ≡ (changed h k v).group
      = sym (read_slot_first k h L n v words p (ap (λ (x : ℕ). level_at x k) (sym m)) th refl (sym (value_counter L v words p rest (level_at_le g.merge k) low d))) in
      let vh : v % 2 ^ (8 * 2 ^ (read h k).level) ≡ v = mod-eq_of_lt {n = v} {m = 2 ^ (8 * 2 ^ (read h k).level)} (rw (same_level, l) low) in
      record {
        checks = rw t (check_counter L v words p rest low d) ∙ ap (λ (x : ℕ). go (p + x)) z;
        after = rw (← z) (parts_after n v words p rest d);
        good = rw R (good_changed h k v q);
        agree = λ j l. up_to l
            (λ b. ap (λ (x : Group). read x j) R ∙ changed_before h k v j q i (first_is h k th) b ∙ f j b)
            (λ b. rw b (ap (λ (x : Group). read x k) R ∙ changed_at h k v q i
            ∙ ap₂ (λ (x y : ℕ). record { status = 0; value = x; level = y }) vh same_level ∙ sym (accepted_reading g k o.merges)));
      }

  slot_other : is_first g.merge k ≡ false → Slot k g h words p rest
  slot_other t =
      let z : p + slot_size g.merge k ≡ p = ap (λ (x : ℕ). p + x) (sym (size_other g.merge k t)) ∙ add-zero p in
      let th : is_first h.merge k ≡ false = ap (λ (x : ℕ). is_first x k) m ∙ t in
      let R = read_slot_other k h words p th in
      let sg = same_before g k i (other_is g k t) in
      let sh = same_before h k i (other_is h k th) in
      record {
        checks = check_slot_other g.merge k words p t ∙ ap go (sym z);
        after = rw z (e ∙ ap (λ (l : List ℕ). l ++ rest) (slot_none g k t));
        good = rw R q;
        agree = λ j l. up_to l
            (λ b. ap (λ (x : Group). read x j) R ∙ f j b)
            (λ b. rw b (ap (λ (x : Group). read x k) R ∙ sh.1 ∙ f (k - 1) (omega (arith, sh.0)) ∙ sym sg.1));
      }

  slot_restored : Slot k g h words p rest
  slot_restored = cases (is_first g.merge k) slot_first slot_other

-- slots that were written, read back
pub record Slots (n k : ℕ) (g h : Group) (words : List ℕ) (p : ℕ) (rest : List ℕ) : Type 0 where
  pub checks : check_slots n k g.merge words p ≡ go (p + slots_size n k g.merge)
  pub after : drop (p + slots_size n k g.merge) words ≡ rest
  pub is : read_slots n k h words p ≡ g

pub slots_restored : (n k : ℕ) (g h : Group) (words : List ℕ) (p : ℕ) (rest : List ℕ) → Good g → Good h → h.merge ≡ g.merge → k + n ≡ 8 → Agree k h g
    → drop p words ≡ slots_words n k g ++ rest → Slots n k g h words p rest
unfolding check_slots slots_size read_slots slots_words next
slots_restored zero k g h words p rest o q m i f e =
    record {
      checks = ap go (sym (add-zero p));
      after = rw (add-zero p) e;
      is = readings_ext g h o q m (λ j l. f j (omega arith));
    }
slots_restored (suc n) k g h words p rest o q m i f e =
    let s = slot_restored k g h words p (slots_words n (k + 1) g ++ rest) o q m (omega arith) f (e ∙ append_assoc (slot_words g k) (slots_words n (k + 1) g) rest) in
    let z = slot_size g.merge k in
    let r = slots_restored n (k + 1) g (read_slot k h words p) words (p + z) rest o s.good (read_slot_merge k h words p ∙ m) (omega arith) s.agree s.after in
    let a = add_assoc p z (slots_size n (k + 1) g.merge) in
    record {
      checks = rw s.checks (r.checks ∙ ap go a);
      after = rw (← a) r.after;
      is = ap (λ (x : ℕ). read_slots n (k + 1) (read_slot k h words p) words (p + slot_size x k)) m ∙ r.is;
    }

-- a group that was written, read back
pub record Restored (g : Group) (words : List ℕ) (p : ℕ) (rest : List ℕ) : Type 0 where
  pub checks : check_slots 8 0 g.merge words p ≡ go (p + group_size g.merge)
  pub after : drop (p + group_size g.merge) words ≡ rest
  pub is : read_group g.merge words p ≡ g

pub group_restored : (g : Group) (words : List ℕ) (p : ℕ) (rest : List ℕ) → Good g → drop p words ≡ group_words g ++ rest → Restored g words p rest
unfolding group_size group_words read_group
group_restored g words p rest o e =
    let z : Group = record { counts = replicate 8 0; merge = g.merge } in
    let s = slots_restored 8 0 g z words p rest o (zero_good g.merge o.merges) refl refl (λ j l. absurd (omega arith)) e in
    record { checks = s.checks; after = s.after; is = s.is }
