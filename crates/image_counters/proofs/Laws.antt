-- Laws of the loops that write a group: over the words of a value and over slots, and of words after words.
use mathlib.Core.Path.{◌≡◌, refl, sym, ap, ◌∙◌}
use mathlib.Core.Bool.{true}
use mathlib.Core.List.{List, [], ◌∷◌, ◌++◌, map}
use Prim.Native.Nat.{ℕ, zero, suc, ◌+◌, ◌-◌, ◌*◌, ◌/◌, ◌%◌, ◌^◌, ◌<◌}
use native.Mathlib.Nat.{add-zero, add-suc, suc-add}
use native.Mathlib.Numerals.{sub-one}
use native.Mathlib.Omega.{arith}
use lib.ListN.{length, set}
use lib.Seq.{sets}
use Rattle.group.specs.declared.Group.{Group}
use Rattle.image_format.specs.Image.{word, count_kind, parts, level_at, is_first, slot_words, slots_words}
use Rattle.image_format.proofs.Laws.{slot_none}
use Rattle.image_format.proofs.Counters.{behind}

pub map_append : {A : Type 0} (f : A → ℕ) (xs ys : List A) → map f (xs ++ ys) ≡ map f xs ++ map f ys
map_append f [] ys = refl
map_append f (x ∷ xs) ys = ap (λ (l : List ℕ). f x ∷ l) (map_append f xs ys)

-- the words of a value one by one
pub parts_step : (n v : ℕ) → 0 < n → parts n v ≡ word count_kind (v / 2 ^ (24 * (n - 1)) % 2 ^ 24) ∷ parts (n - 1) v
unfolding parts
parts_step zero v h = absurd (omega arith)
parts_step (suc n) v h = rw (sub-one (suc n))

pub parts_none : (n v : ℕ) → n ≡ 0 → parts n v ≡ []
unfolding parts
parts_none n v e = rw e

pub slots_step : (n k : ℕ) (g : Group) → k < n → slots_words (n - k) k g ≡ slot_words g k ++ slots_words (n - (k + 1)) (k + 1) g
unfolding slots_words
slots_step n k g h =
    let e : n - k ≡ suc (n - (k + 1)) = omega arith in
    rw e

pub slots_none : (n k : ℕ) (g : Group) → n ≡ 0 → slots_words n k g ≡ []
unfolding slots_words
slots_none n k g e = rw e

-- the words, from the first slot of a counter to the next
pub words_turn : (k : ℕ) (g : Group) → k < 8 → is_first g.merge k ≡ true
    → slots_words (8 - k) k g ≡ slot_words g k ++ slots_words (8 - (k + 2 ^ level_at g.merge k)) (k + 2 ^ level_at g.merge k) g
unfolding slots_words
words_turn k g h t =
    slots_step 8 k g h
    ∙ ap (λ (ws : List ℕ). slot_words g k ++ ws) (behind (λ n i. slots_words n i g) g.merge (λ n i f. rw (slot_none g i f)) k h t)

-- words after words
pub sets_append : (l : List ℕ) (i : ℕ) (xs ys : List ℕ) → sets l i (xs ++ ys) ≡ sets (sets l i xs) (i + length xs) ys
sets_append l i [] ys = rw (add-zero i)
sets_append l i (x ∷ xs) ys = rw (add-suc i (length xs), ← suc-add i (length xs)) (sets_append (set l i x) (suc i) xs ys)

pub put_turn : (words after : List ℕ) (at next : ℕ) (xs ys : List ℕ) → after ≡ sets words at xs → next ≡ at + length xs → sets after next ys ≡ sets words at (xs ++ ys)
put_turn words after at next xs ys e f = rw (e, f) (sym (sets_append words at xs ys))
