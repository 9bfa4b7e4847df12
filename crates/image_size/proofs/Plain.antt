-- Groups where nothing is merged, counted and tested 32 slots at a time.
use mathlib.Core.Path.{◌≡◌, refl, ap, ◌∙◌}
use mathlib.Core.List.{List}
use Prim.Native.Nat.{ℕ, zero, suc, ◌+◌, ◌*◌, ◌≤◌, ◌<◌}
use native.Mathlib.Nat.{add-zero, add_assoc, add_comm}
use native.Mathlib.Numerals.{add-one}
use native.Mathlib.Omega.{arith}
use lib.ListN.{length, get_or, drop, length-append}
use Rattle.group_fields.proofs.Readings.{none_merged_lem}
use Rattle.meter_memory.specs.Rows.{group_at}
use Rattle.image_format.specs.Image.{group_words, groups_words}
use Rattle.image_format.specs.Write.{all_valid, group_size}
use Rattle.image_format.proofs.Sizes.{size_none}
use Rattle.image_size.specs.Size.{four_sum}
use Rattle.image_size.proofs.Laws.{group_length, valid_step}

pub clear_at : (w g : ℕ) (row : List ℕ) → four_sum row (w + g) ≡ 0 → (i : ℕ) → i < 4 → get_or row (w + (g + i)) 0 ≡ 0
clear_at w g row e zero h = rw (add-zero g) (omega arith)
clear_at w g row e (suc zero) h = rw (← add_assoc w g 1) (omega arith)
clear_at w g row e (suc (suc zero)) h = rw (← add_assoc w g 2) (omega arith)
clear_at w g row e (suc (suc (suc zero))) h = rw (← add_assoc w g 3) (omega arith)
clear_at w g row e (suc (suc (suc (suc i)))) h = absurd (omega arith)

clear_size_from : (n g w : ℕ) (row : List ℕ) → ((i : ℕ) → i < n → get_or row (w + (g + i)) 0 ≡ 0) → length (groups_words n g w row) ≡ 8 * n
unfolding groups_words group_at
clear_size_from zero g w row z = refl
clear_size_from (suc n) g w row z =
    let x = group_at w row g in
    let m : group_size (get_or row (w + g) 0) ≡ 8 = ap group_size (rw (add-zero g) at (z 0 (omega arith))) ∙ size_none in
    let r = clear_size_from n (g + 1) w row (λ i k. rw (add_assoc g 1 i, add_comm 1 i, add-one i) (z (suc i) (omega arith))) in
    length-append (group_words x) (groups_words n (g + 1) w row) ∙ omega (arith, group_length x, m, r)

pub clear_size : (w g : ℕ) (row : List ℕ) → four_sum row (w + g) ≡ 0 → length (groups_words 4 g w row) ≡ 32
clear_size w g row e = clear_size_from 4 g w row (clear_at w g row e)

valid_zero : (row : List ℕ) (at : ℕ) → at < length row → get_or row at 0 ≡ 0 → all_valid (drop at row) ≡ all_valid (drop (at + 1) row)
valid_zero row at h e = valid_step row at h ∙ rw (e, none_merged_lem)

pub valid_clear : (row : List ℕ) (at : ℕ) → at + 4 ≤ length row → four_sum row at ≡ 0 → all_valid (drop at row) ≡ all_valid (drop (at + 4) row)
valid_clear row at h e =
    valid_zero row at (omega arith) (omega arith)
    ∙ next 1 (omega arith) (omega arith) ∙ next 2 (omega arith) (omega arith) ∙ next 3 (omega arith) (omega arith)
  where
    next : (i : ℕ) → at + i < length row → get_or row (at + i) 0 ≡ 0 → all_valid (drop (at + i) row) ≡ all_valid (drop (at + suc i) row)
    next i k z = valid_zero row (at + i) k z ∙ ap (λ (j : ℕ). all_valid (drop j row)) (add_assoc at i 1 ∙ ap (λ (j : ℕ). at + j) (add-one i))
