-- Groups where nothing is merged have a word for each slot.
use mathlib.Core.Path.{◌≡◌, refl, ap, ap₂, ◌∙◌}
use mathlib.Core.List.{List, [], ◌∷◌, map}
use Prim.Native.Nat.{ℕ, zero, suc, ◌+◌, ◌/◌, ◌%◌, ◌^◌, ◌≤◌, ◌<◌}
use native.Mathlib.Nat.{mod-one, div-one}
use native.Mathlib.Numerals.{add-one}
use native.Mathlib.Omega.{arith}
use borrow.Author.Tests.{eq-eqb}
use lib.ListN.{length, get_or, take, drop, drop_of_length-le}
use lib.Seq.{drop-cons, take_all}
use Rattle.group.specs.Results.{Reading}
use Rattle.group.specs.Group.{read}
use Rattle.group.proofs.Laws.{Eight}
use Rattle.group_fields.proofs.Readings.{plain_reading}
use Rattle.image_format.specs.Image.{word, count_kind, parts, word_count, is_first, slot_words, slots_words, group_words}
use Rattle.image_format.proofs.Sizes.{plain_level}

-- one word and those after it
pub more : {x y : ℕ} {l m : List ℕ} → x ≡ y → l ≡ m → word count_kind x ∷ l ≡ word count_kind y ∷ m
more e f = ap₂ (λ (x : ℕ) (l : List ℕ). word count_kind x ∷ l) e f

-- a slot that is a counter of its own
plain_slot : (xs : List ℕ) (k : ℕ) → Eight xs → k < 8 → slot_words (record { counts = xs; merge = 0 }) k ≡ word count_kind (get_or xs k 0) ∷ []
unfolding slot_words is_first word_count parts
plain_slot xs k o h =
    let e : (read (record { counts = xs; merge = 0 }) k).value ≡ get_or xs k 0 = ap (λ (r : Reading). r.value) (plain_reading xs k o h) in
    let b : get_or xs k 0 / 2 ^ 0 % 2 ^ 24 ≡ get_or xs k 0 = omega (arith, o.small k, div-one (get_or xs k 0)) in
    rw (plain_level k h, eq-eqb (k % 1) 0 (mod-one k), e) (more b refl)

plain_slots : (n k : ℕ) (xs : List ℕ) → Eight xs → k + n ≤ 8 → slots_words n k (record { counts = xs; merge = 0 }) ≡ map (word count_kind) (take n (drop k xs))
unfolding slots_words
plain_slots zero k xs o h = refl
plain_slots (suc n) k xs o h =
    rw (plain_slot xs k o (omega arith), drop-cons xs k 0 (omega (arith, o.long)), ← add-one k)
    (ap (λ (l : List ℕ). word count_kind (get_or xs k 0) ∷ l) (plain_slots n (k + 1) xs o (omega arith)))

pub plain_words : (xs : List ℕ) → Eight xs → group_words (record { counts = xs; merge = 0 }) ≡ map (word count_kind) xs
unfolding group_words
plain_words xs o = plain_slots 8 0 xs o (omega arith) ∙ ap (map (word count_kind)) (take_all 8 xs (omega (arith, o.long)))

-- words and count bytes one by one
pub counts_step : (f : ℕ → ℕ) (xs : List ℕ) (i : ℕ) → i < length xs → map f (drop i xs) ≡ f (get_or xs i 0) ∷ map f (drop (i + 1) xs)
counts_step f xs i h = rw (add-one i, drop-cons xs i 0 h)

pub counts_none : (f : ℕ → ℕ) (xs : List ℕ) (i : ℕ) → length xs ≤ i → map f (drop i xs) ≡ []
counts_none f xs i h = rw (drop_of_length-le xs h)
