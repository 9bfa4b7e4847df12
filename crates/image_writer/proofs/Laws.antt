-- Layout codes as the code reads them, and the whole image as it puts it.
use mathlib.Core.Path.{◌≡◌, sym, ap, ◌∙◌}
use mathlib.Core.List.{List, [], ◌∷◌, ◌++◌}
use Prim.Native.Nat.{ℕ, suc, ◌+◌, ◌≤◌, ◌<◌}
use native.Mathlib.Nat.{add_assoc, zero-add}
use native.Mathlib.Omega.{arith}
use lib.ListN.{length, get_or, drop, set}
use lib.Seq.{sets, sets-eq}
use Rattle.group_codes.specs.Pack.{layouts_of, packed}
use Rattle.group_codes.proofs.Packing.{packed_lt}
use Rattle.meter_memory.specs.Rows.{group_at}
use Rattle.word.specs.Word.{head_kind}
use Rattle.image_format.specs.Image.{word, rows_words, layout_at, head_payload, body, end_word, image}
use Rattle.image_counters.proofs.Laws.{sets_append}

-- the layout code of four groups, as the code reads their merge bytes
pub layout_is : (w : ℕ) (row : List ℕ) (g : ℕ) → (packed (get_or row (w + g) 0) (get_or row (w + g + 1) 0) (get_or row (w + g + 2) 0) (get_or row (w + g + 3) 0)).value ≡ layout_at w row g
unfolding layout_at group_at
layout_is w row g = rw (add_assoc w g 1, add_assoc w g 2, add_assoc w g 3)

pub layout_lt : (w : ℕ) (row : List ℕ) (g : ℕ) → layout_at w row g < layouts_of 4
unfolding layout_at
layout_lt w row g = packed_lt _ _ _ _

-- an image as the code puts it
pub image_put : (d w : ℕ) (memory words : List ℕ) (h e n : ℕ) → length (image d w memory) ≤ length words → h ≡ word head_kind (head_payload d w)
    → n ≡ 1 + length (rows_words d w memory) → e ≡ end_word n
    → set (sets (set words 0 h) 1 (rows_words d w memory)) n e ≡ image d w memory ++ drop (length (image d w memory)) words
unfolding image body
image_put d w memory words h e n k eh en ee =
    let r = rows_words d w memory in
    let q : n ≡ suc (length r) = en ∙ omega arith in
    let x : e ≡ end_word (suc (length r)) = ee ∙ ap end_word q in
    let v = word head_kind (head_payload d w) ∷ (r ++ end_word (suc (length r)) ∷ []) in
    rw (en, x, eh)
    (sym (sets_append (set words 0 (word head_kind (head_payload d w))) 1 r (end_word (suc (length r)) ∷ []))
    ∙ sets-eq v words 0 (omega (arith, k))
    ∙ ap (λ (i : ℕ). v ++ drop i words) (zero-add (length v)))
