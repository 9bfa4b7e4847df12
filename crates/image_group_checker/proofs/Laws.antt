-- Laws of the loops that check a group: over words and slots.
use mathlib.Core.Path.{◌≡◌, sym, ◌∙◌}
use mathlib.Core.Bool.{true, false}
use mathlib.Core.List.{List, ◌∷◌}
use Prim.Native.Nat.{ℕ, suc, ◌+◌, ◌-◌, ◌*◌, ◌%◌, ◌^◌, ◌≤◌, ◌<◌}
use native.Mathlib.Nat.{one-mul}
use native.Mathlib.Decide.{dec_lt}
use native.Mathlib.Omega.{arith}
use lib.ListN.{length, get_or, take, drop, length-take, length-drop}
use lib.Seq.{get_or-take, get_or-drop}
use Rattle.word.specs.Word.{next, below}
use Rattle.image_format.specs.Image.{count_kind, word_count, level_at, is_first}
use Rattle.image_format.specs.Read.{check_parts, check_slot, check_slots, first_bits}
use Rattle.image_format.proofs.Laws.{small_shl}
use Rattle.image_group_checker.proofs.Digits.{here}

-- all below one more: those below, and the last
pub up_to : {k j : ℕ} {A : Type 0} → j < k + 1 → (j < k → A) → (j ≡ k → A) → A
up_to {k} {j} h f g = elim (dec_lt j k) [ yes l ↦ f l | no l ↦ g (omega arith) ]

-- an element of a part
pub part_at : (xs : List ℕ) (p n i : ℕ) → i < n → get_or (take (p + n - p) (drop p xs)) i 0 ≡ get_or xs (p + i) 0
part_at xs p n i h = get_or-take (p + n - p) (drop p xs) i 0 (omega arith) ∙ get_or-drop p xs i 0

-- a part gone through: its length, and the element that is taken
pub part_length : (xs : List ℕ) (p n : ℕ) → p + n ≤ length xs → length (take (p + n - p) (drop p xs)) ≡ n
part_length xs p n h = omega (arith, length-take (p + n - p) (drop p xs), length-drop p xs)

pub record Taken (xs : List ℕ) (p n i x : ℕ) (rest : List ℕ) : Type 0 where
  pub inside : i < n
  pub is : get_or xs (p + i) 0 ≡ x
  pub after : drop (i + 1) (take (p + n - p) (drop p xs)) ≡ rest

pub part_taken : (xs : List ℕ) (p n i x : ℕ) (rest : List ℕ) → p + n ≤ length xs → drop i (take (p + n - p) (drop p xs)) ≡ x ∷ rest → Taken xs p n i x rest
part_taken xs p n i x rest h e =
    let w = here (take (p + n - p) (drop p xs)) i x rest e in
    let l : i < n = omega (arith, w.inside, part_length xs p n h) in
    record { inside = l; is = sym (part_at xs p n i l) ∙ w.is; after = w.after }

-- the words of a counter
pub check_parts_step : (n i : ℕ) (words : List ℕ) (p limit : ℕ) → i < n
    → check_parts (n - i) words p limit ≡ next (below words p count_kind limit) (λ q. check_parts (n - (i + 1)) words q (2 ^ 24))
unfolding check_parts
check_parts_step n i words p limit h =
    let e : n - i ≡ suc (n - (i + 1)) = omega arith in
    rw e

pub check_parts_none : (n : ℕ) (words : List ℕ) (p limit : ℕ) → n ≡ 0 → check_parts n words p limit ≡ record { status = 0; position = p }
unfolding check_parts
check_parts_none n words p limit e = rw e

-- checks of slots
pub check_slots_step : (n k m : ℕ) (words : List ℕ) (p : ℕ) → k < n
    → check_slots (n - k) k m words p ≡ next (check_slot m k words p) (λ q. check_slots (n - (k + 1)) (k + 1) m words q)
unfolding check_slots
check_slots_step n k m words p h =
    let e : n - k ≡ suc (n - (k + 1)) = omega arith in
    rw e

pub check_slots_none : (n k m : ℕ) (words : List ℕ) (p : ℕ) → n ≡ 0 → check_slots n k m words p ≡ record { status = 0; position = p }
unfolding check_slots
check_slots_none n k m words p e = rw e

pub check_slot_other : (m k : ℕ) (words : List ℕ) (p : ℕ) → is_first m k ≡ false → check_slot m k words p ≡ record { status = 0; position = p }
unfolding check_slot
check_slot_other m k words p e = rw e

pub check_slot_first : (m k level n bits : ℕ) (words : List ℕ) (p : ℕ) → level ≡ level_at m k → is_first m k ≡ true → n ≡ word_count level → bits ≡ first_bits level → bits ≤ 24
    → check_parts n words p (1 * 2 ^ bits % 2 ^ 32) ≡ check_slot m k words p
unfolding check_slot
check_slot_first m k level n bits words p e f h i j = rw (small_shl 1 bits (omega arith) j, one-mul (2 ^ bits), f, ← e, h, i)
