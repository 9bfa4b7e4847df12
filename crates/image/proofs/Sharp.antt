-- A refused place is sharp: the words before it, read alone, are refused only because the next one is missing, or are a whole image.
use mathlib.Core.Path.{◌≡◌, refl, sym, ap, subst, ◌∙◌}
use mathlib.Core.Logic.{◌⊎◌, inl, inr}
use mathlib.Core.Bool.{Bool, true}
use mathlib.Core.List.{List, [], ◌∷◌}
use Prim.Native.Nat.{ℕ, zero, suc, ◌+◌, ◌*◌, ◌/◌, ◌%◌, ◌^◌, ◌≤◌}
use native.Mathlib.Omega.{arith}
use borrow.Author.Tests.{eqb-true, eqb-false, eq-eqb}
use borrow.Table.Steps.{cases}
use lib.Dec.{eqb, ltb}
use lib.ListN.{length, take, length-take}
use Rattle.answer.specs.Numbers.{bad_payload, bad_word, other_meter}
use Rattle.group_codes.specs.Pack.{layouts_of, unpacked}
use Rattle.word.specs.Word.{head_kind, end_kind, go, stop, next, payload, is_due, tested, below}
use Rattle.word.proofs.Laws.{due_in}
use Rattle.word.proofs.Passed.{goes, below_is}
use Rattle.word.proofs.Places.{tested_at}
use Rattle.word.proofs.Before.{Cut, cut_go, next_cut, next_same, payload_same, due_same, none_due, tested_same, below_same, below_cut}
use Rattle.image_format.specs.Image.{head_payload, layout_kind, count_kind, word_count, level_at, is_first}
use Rattle.image_format.specs.Read.{check_head, check_end, checked, first_bits, check_parts, check_slot, check_slots, check_groups, merges_at, check_four, check_fours}

module _ (words : List ℕ) (q : ℕ) where
  abbrev front : List ℕ
  front = take q words

  parts_cut : (n p limit : ℕ) → Cut (length words) q p (check_parts n words p limit) (check_parts n front p limit)
  unfolding check_parts
  parts_cut zero p limit = cut_go (length words) q p
  parts_cut (suc n) p limit =
      next_cut (length words) q p (below words p count_kind limit) (below front p count_kind limit) (λ r. check_parts n words r (2 ^ 24)) (λ r. check_parts n front r (2 ^ 24)) (below_cut words q p count_kind limit)
      (λ r. (parts_cut n r (2 ^ 24)).ahead) (λ e h. parts_cut n (below words p count_kind limit).position (2 ^ 24))

  slot_cut : (m k p : ℕ) → Cut (length words) q p (check_slot m k words p) (check_slot m k front p)
  unfolding check_slot
  slot_cut m k p = cases (is_first m k) (λ t. rw t (parts_cut (word_count (level_at m k)) p (2 ^ first_bits (level_at m k)))) (λ t. rw t (cut_go (length words) q p))

  slots_cut : (n k m p : ℕ) → Cut (length words) q p (check_slots n k m words p) (check_slots n k m front p)
  unfolding check_slots
  slots_cut zero k m p = cut_go (length words) q p
  slots_cut (suc n) k m p =
      next_cut (length words) q p (check_slot m k words p) (check_slot m k front p) (λ r. check_slots n (k + 1) m words r) (λ r. check_slots n (k + 1) m front r) (slot_cut m k p)
      (λ r. (slots_cut n (k + 1) m r).ahead) (λ e h. slots_cut n (k + 1) m (check_slot m k words p).position)

  groups_cut : (ms : List ℕ) (p : ℕ) → Cut (length words) q p (check_groups ms words p) (check_groups ms front p)
  unfolding check_groups
  groups_cut [] p = cut_go (length words) q p
  groups_cut (m ∷ ms) p =
      next_cut (length words) q p (check_slots 8 0 m words p) (check_slots 8 0 m front p) (λ r. check_groups ms words r) (λ r. check_groups ms front r) (slots_cut 8 0 m p)
      (λ r. (groups_cut ms r).ahead) (λ e h. groups_cut ms (check_slots 8 0 m words p).position)

  four_cut : (p : ℕ) → Cut (length words) q p (check_four words p) (check_four front p)
  unfolding check_four merges_at
  four_cut p =
      let s = below words p layout_kind (layouts_of 4) in
      let ms = (unpacked (payload words p)).merges in
      next_cut (length words) q p s (below front p layout_kind (layouts_of 4)) (λ r. check_groups ms words r) (λ r. check_groups (unpacked (payload front p)).merges front r) (below_cut words q p layout_kind (layouts_of 4))
      (λ r. (groups_cut ms r).ahead)
      (λ e h.
      let x = (below_is words p layout_kind (layouts_of 4) s.position (goes s e)).position in
      subst (λ (l : List ℕ). Cut (length words) q s.position (check_groups ms words s.position) (check_groups l front s.position))
      (ap (λ (c : ℕ). (unpacked c).merges) (sym (payload_same words q p (omega arith)))) (groups_cut ms s.position))

  pub fours_cut : (n p : ℕ) → Cut (length words) q p (check_fours n words p) (check_fours n front p)
  unfolding check_fours
  fours_cut zero p = cut_go (length words) q p
  fours_cut (suc n) p =
      next_cut (length words) q p (check_four words p) (check_four front p) (λ r. check_fours n words r) (λ r. check_fours n front r) (four_cut p)
      (λ r. (fours_cut n r).ahead) (λ e h. fours_cut n (check_four words p).position)

  -- the end: refused at its own word, or because a word follows it
  end_cut : (p : ℕ) → ((check_end words p).status ≡ 0 → ⊥) → (check_end words p).position ≡ q → (p ≤ q) × ((check_end front p ≡ stop bad_word q) ⊎ (check_end front p ≡ go q))
  unfolding check_end tested next
  end_cut p n k =
      let h = eqb (payload words p) (p % 2 ^ 28) in
      cases (is_due words p end_kind)
      (λ t. cases h
      (λ u. cases (eqb (length words) (p + 1))
      (λ v. absurd ((rw (t, u, v) at n) refl))
      (λ v.
      let z : p + 1 ≡ q = rw (t, u, v) at k in
      let l = due_in words p end_kind t in
      let x : eqb (payload front p) (p % 2 ^ 28) ≡ true = ap (λ (c : ℕ). eqb c (p % 2 ^ 28)) (payload_same words q p (omega arith)) ∙ u in
      let y : length front ≡ p + 1 = length-take q words ∙ omega arith in
      (omega arith, inr (rw (due_same words q p end_kind (omega arith), t, x, eq-eqb (length front) (p + 1) y) (ap go z)))))
      (λ u. let z : p ≡ q = rw (t, u) at k in (omega arith, inl (rw (none_due words q p end_kind (omega arith)) (ap (stop bad_word) z)))))
      (λ t. let z : p ≡ q = rw t at k in (omega arith, inl (rw (none_due words q p end_kind (omega arith)) (ap (stop bad_word) z))))

-- a faulty head is at position 0, and the head is the same in any words that begin with it
head_at : (d w : ℕ) (words : List ℕ) → ((check_head d w words).status ≡ 0 → ⊥) → (check_head d w words).position ≡ 0
unfolding check_head next below
head_at d w words n =
    let s = tested words 0 head_kind (ltb (payload words 0) (2 ^ 9)) bad_payload in
    cases (eqb s.status 0)
    (λ u. rw u (tested_at words 0 head_kind (eqb (payload words 0) (head_payload d w)) other_meter (rw u at n)))
    (λ u. rw u (tested_at words 0 head_kind (ltb (payload words 0) (2 ^ 9)) bad_payload (eqb-false s.status 0 u)))

head_same : (d w : ℕ) (words : List ℕ) (q : ℕ) → check_head d w (take (suc q) words) ≡ check_head d w words
unfolding check_head
head_same d w words q =
    let n = suc q in
    let front = take n words in
    let is : List ℕ → Bool = λ x. eqb (payload x 0) (head_payload d w) in
    next_same (below front 0 head_kind (2 ^ 9)) (below words 0 head_kind (2 ^ 9)) (λ p. tested front 0 head_kind (is front) other_meter) (λ p. tested words 0 head_kind (is words) other_meter)
    (below_same words n 0 head_kind (2 ^ 9) (omega arith))
    (tested_same words n 0 head_kind other_meter (is words) (is front) (omega arith) (ap (λ (x : ℕ). eqb x (head_payload d w)) (payload_same words n 0 (omega arith))))

module _ (d w : ℕ) (words : List ℕ) where
  pub sharp_at : (q : ℕ) → ((checked d w words).status ≡ 0 → ⊥) → (checked d w words).position ≡ q
      → (checked d w (take q words) ≡ stop bad_word q) ⊎ (checked d w (take q words) ≡ go q)
  unfolding checked next check_head below tested is_due
  sharp_at zero n k = inl refl
  sharp_at (suc q) n k =
      let h = check_head d w words in
      let f = check_fours (d * (w / 32)) words h.position in
      cases (eqb h.status 0)
      (λ u.
      let n1 = rw u at n in
      let k1 = rw u at k in
      let c = fours_cut words (suc q) (d * (w / 32)) h.position in
      rw (head_same d w words q, u)
      (cases (eqb f.status 0)
      (λ v.
      let e = end_cut words (suc q) f.position (rw v at n1) (rw v at k1) in
      rw (c.same (eqb-true f.status 0 v) e.0, v) e.1)
      (λ v. inl (rw (c.ends (eqb-false f.status 0 v) (rw v at k1))))))
      (λ u. absurd (omega (arith, rw u at k, head_at d w words (eqb-false h.status 0 u))))
