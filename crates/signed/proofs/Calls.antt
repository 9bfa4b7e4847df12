-- What each call answers and leaves, by the tests that led there.
use mathlib.Core.Path.{◌≡◌, refl, sym, ap, ◌∙◌}
use mathlib.Core.Bool.{Bool, cond}
use mathlib.Core.List.{List, [], ◌∷◌}
use Prim.Native.Nat.{ℕ, zero, suc, ◌+◌, ◌*◌, ◌<◌}
use native.Mathlib.Omega.{arith}
use borrow.Author.Tests.{eq-eqb, ne_eqb}
use lib.Dec.{eqb}
use lib.IntN.{ℤ, pos}
use lib.ListN.{length, get_or, take, drop, replicate}
use Rattle.hash.specs.Hash.{basis, row_hash}
use Rattle.std.specs.Prelude.{Result, Ok, Err, ⊤, IsErrAnd}
use Rattle.std.specs.Result.{result_and}
use Rattle.answer.specs.declared.Refusal.{Refusal}
use Rattle.answer.specs.Refusals.{number, status}
use Rattle.answer.proofs.Refusals.{no_number, err_is}
use Rattle.answer.specs.Answers.{answer_of, finish, leaves}
use Rattle.answer.specs.Order.{first_of, earliest}
use Rattle.answer.proofs.Order.{first_one, first_stop, first_skip}
use Rattle.answer.proofs.Answers.{refusing, accepting}
use Rattle.geometry.specs.Geometry.{stride, size}
use Rattle.geometry.specs.Checks.{bad_length}
use Rattle.meter_keys.specs.Keys.{key_slot, key_sign}
use Rattle.meter_memory.specs.Rows.{map_rows, of_rows}
use Rattle.meter_memory.proofs.Agree.{reads_same, maps_same}
use Rattle.signed_median.specs.Median.{median}
use Rattle.signed_row.specs.Row.{update_status, update_row, read_row, read_status, row_figure, source_status, source_combined}
use Rattle.signed_row.specs.Hashes.{added_by, stored_by, added_status, hash_added, read_by, figure_by, hash_status, hash_figure}
use Rattle.signed.specs.Signed.{bad_shape, bad_call, cleared, updated, estimated, signed_answer, signed_told, combined_meters}
use Rattle.signed.proofs.Tests.{shape_rows}

pub signed_bad : (s : ℕ) (v : ℤ) → (s ≡ 0 → ⊥) → signed_answer s (pos 0) ≡ signed_answer s v
unfolding signed_answer
signed_bad zero v h = absurd (h refl)
signed_bad (suc s) v h = refl

signed_refused : (s : ℕ) (v : ℤ) → (s ≡ 0 → ⊥) → record { status = s; position = 0; value = pos 0 } ≡ signed_answer s v
unfolding signed_answer
signed_refused zero v h = absurd (h refl)
signed_refused (suc s) v h = refl

-- an answer by a result is one by its status
pub signed_told_is : (r : Result ⊤ Refusal) (v : ℤ) → signed_told (result_and r (Ok v)) ≡ signed_answer (status r) v
unfolding signed_told status signed_answer
signed_told_is (Ok x) v = refl
signed_told_is (Err x) v = signed_refused (number x) v (no_number x)

-- and where a refusal was handed on by `?`
pub signed_handed : (A : Type 0) (x : Refusal) (n : ℕ) → status {A = A} (Err x) ≡ n → (r : Result ℤ Refusal) → IsErrAnd r (λ y. y ≡ x) → signed_told r ≡ signed_answer n (pos 0)
unfolding signed_told status
signed_handed A x n e r h = rw (err_is r x h) (signed_refused (number x) (pos 0) (no_number x) ∙ ap (λ (s : ℕ). signed_answer s (pos 0)) e)

-- what is read and written by the hashes of the rows is by the key
module _ (d w : ℕ) (memory key hashes : List ℕ) {state : ℕ} (start : state ≡ basis) (are : (r : ℕ) → r < d → get_or hashes r 0 ≡ row_hash state r key) where
  hash_at : (k : ℕ) → k < d → get_or hashes (0 + k) 0 ≡ row_hash basis (0 + k) key
  hash_at k h = are (0 + k) (omega arith) ∙ ap (λ (s : ℕ). row_hash s (0 + k) key) start

  reads_by_key : {A : Type 0} (f : ℕ → List ℕ → A)
      → of_rows (λ (r : ℕ) (row : List ℕ). f (get_or hashes r 0) row) (stride w) d 0 memory ≡ of_rows (λ (r : ℕ) (row : List ℕ). f (row_hash basis r key) row) (stride w) d 0 memory
  reads_by_key f =
      reads_same (stride w) (λ (r : ℕ) (row : List ℕ). f (get_or hashes r 0) row) (λ (r : ℕ) (row : List ℕ). f (row_hash basis r key) row) d 0 memory memory
      (λ k h. ap (λ (x : ℕ). f x (take (stride w) (drop (k * stride w) memory))) (hash_at k h))

  pub status_by_key : (amount : ℤ) → earliest (of_rows (added_status w hashes amount) (stride w) d 0 memory) ≡ earliest (of_rows (update_status basis w key amount) (stride w) d 0 memory)
  unfolding update_status key_slot key_sign
  status_by_key amount = ap earliest (reads_by_key (λ (x : ℕ) (row : List ℕ). (added_by w x amount row).status))

  pub added_by_key : (amount : ℤ) → map_rows (hash_added w hashes amount) (stride w) d 0 memory ≡ map_rows (update_row basis w key amount) (stride w) d 0 memory
  unfolding update_row key_slot key_sign
  added_by_key amount =
      maps_same (stride w) (hash_added w hashes amount) (λ (r : ℕ) (row : List ℕ). stored_by w (row_hash basis r key) (added_by w (row_hash basis r key) amount row).group row) d 0 memory
      (λ k h.
      let row = take (stride w) (drop (k * stride w) memory) in
      ap (λ (x : ℕ). stored_by w x (added_by w x amount row).group row) (hash_at k h))

  pub read_status_by_key : earliest (of_rows (hash_status w hashes) (stride w) d 0 memory) ≡ earliest (of_rows (read_status basis w key) (stride w) d 0 memory)
  unfolding read_status read_row key_slot
  read_status_by_key = ap earliest (reads_by_key (λ (x : ℕ) (row : List ℕ). (read_by w x row).status))

  pub figures_by_key : of_rows (hash_figure w hashes) (stride w) d 0 memory ≡ of_rows (row_figure basis w key) (stride w) d 0 memory
  unfolding row_figure read_row key_slot key_sign
  figures_by_key = reads_by_key (λ (x : ℕ) (row : List ℕ). figure_by w x row)

module _ (d w : ℕ) (memory : List ℕ) where
  pub cleared_bad : (s : ℕ) → s ≡ bad_shape d w (length memory) → (s ≡ 0 → ⊥) → (answer_of s 0 ≡ (cleared d w memory).answer) × (memory ≡ (cleared d w memory).memory)
  unfolding cleared
  cleared_bad s e h = refusing s (bad_shape d w (length memory)) (replicate (length memory) 0) memory (sym e) h

  pub cleared_good : bad_shape d w (length memory) ≡ 0 → (answer_of 0 0 ≡ (cleared d w memory).answer) × (replicate (length memory) 0 ≡ (cleared d w memory).memory)
  unfolding cleared
  cleared_good e = accepting (bad_shape d w (length memory)) (replicate (length memory) 0) memory e

  module _ (key : List ℕ) where
    pub updated_bad : (amount : ℤ) (s : ℕ) → s ≡ bad_call d w memory key → (s ≡ 0 → ⊥)
        → (answer_of s 0 ≡ (updated d w memory key amount).answer) × (memory ≡ (updated d w memory key amount).memory)
    unfolding updated
    updated_bad amount s e h =
        let rows = earliest (of_rows (update_status basis w key amount) (stride w) d 0 memory) in
        refusing s (first_of (bad_call d w memory key ∷ rows ∷ [])) (map_rows (update_row basis w key amount) (stride w) d 0 memory) memory (rw (← e) (first_stop s (rows ∷ []) h)) h

    pub updated_rows : (amount : ℤ) → bad_call d w memory key ≡ 0 → (s : ℕ) (m : List ℕ) → s ≡ earliest (of_rows (update_status basis w key amount) (stride w) d 0 memory)
        → m ≡ cond (eqb s 0) (map_rows (update_row basis w key amount) (stride w) d 0 memory) memory
        → (answer_of s 0 ≡ (updated d w memory key amount).answer) × (m ≡ (updated d w memory key amount).memory)
    unfolding updated finish leaves
    updated_rows amount b s m e h =
        let rows = earliest (of_rows (update_status basis w key amount) (stride w) d 0 memory) in
        let t : first_of (bad_call d w memory key ∷ rows ∷ []) ≡ s = first_skip (bad_call d w memory key) (rows ∷ []) b ∙ first_one rows ∙ sym e in
        rw t (refl, h)

    pub estimated_bad : (s : ℕ) → s ≡ bad_call d w memory key → (s ≡ 0 → ⊥) → signed_answer s (pos 0) ≡ estimated d w memory key
    unfolding estimated
    estimated_bad s e h =
        rw (← e, first_stop s (earliest (of_rows (read_status basis w key) (stride w) d 0 memory) ∷ []) h) (signed_bad s (median (of_rows (row_figure basis w key) (stride w) d 0 memory)) h)

    pub estimated_good : bad_call d w memory key ≡ 0
        → signed_answer (earliest (of_rows (read_status basis w key) (stride w) d 0 memory)) (median (of_rows (row_figure basis w key) (stride w) d 0 memory)) ≡ estimated d w memory key
    unfolding estimated
    estimated_good b =
        rw (first_skip (bad_call d w memory key) (earliest (of_rows (read_status basis w key) (stride w) d 0 memory) ∷ []) b, first_one (earliest (of_rows (read_status basis w key) (stride w) d 0 memory)))

  module _ (minus : Bool) (source : List ℕ) where
    sources : ℕ
    sources = earliest (of_rows (source_status minus w source) (stride w) d 0 memory)

    tests : ℕ
    tests = first_of (bad_shape d w (length memory) ∷ bad_length d w (length source) ∷ sources ∷ [])

    sum : List ℕ
    sum = map_rows (source_combined minus w source) (stride w) d 0 memory

    pub combined_bad : (s : ℕ) → s ≡ bad_shape d w (length memory) → (s ≡ 0 → ⊥)
        → (answer_of s 0 ≡ (combined_meters minus d w memory source).answer) × (memory ≡ (combined_meters minus d w memory source).memory)
    unfolding combined_meters sources tests sum
    combined_bad s e h = refusing s tests sum memory (rw (← e) (first_stop s (bad_length d w (length source) ∷ sources ∷ []) h)) h

    pub combined_length : bad_shape d w (length memory) ≡ 0 → (length source ≡ length memory → ⊥)
        → (answer_of 3 0 ≡ (combined_meters minus d w memory source).answer) × (memory ≡ (combined_meters minus d w memory source).memory)
    unfolding combined_meters sources tests sum
    combined_length b h =
        let long : length memory ≡ size d w = (shape_rows d w (length memory) b).1.2 in
        refusing 3 tests sum memory
        (first_skip (bad_shape d w (length memory)) (bad_length d w (length source) ∷ sources ∷ []) b
        ∙ rw (ne_eqb (length source) (size d w) (λ e. h (e ∙ sym long))) (first_stop 3 (sources ∷ []) (λ z. omega arith))) (λ z. omega arith)

    combined_tests : bad_shape d w (length memory) ≡ 0 → length source ≡ length memory → tests ≡ sources
    unfolding sources tests
    combined_tests b l =
        let long : length memory ≡ size d w = (shape_rows d w (length memory) b).1.2 in
        first_skip (bad_shape d w (length memory)) (bad_length d w (length source) ∷ sources ∷ []) b
        ∙ first_skip (bad_length d w (length source)) (sources ∷ []) (rw (eq-eqb (length source) (size d w) (l ∙ long)))
        ∙ first_one sources

    pub combined_full : bad_shape d w (length memory) ≡ 0 → length source ≡ length memory
        → (s : ℕ) → s ≡ earliest (of_rows (source_status minus w source) (stride w) d 0 memory) → (s ≡ 0 → ⊥)
        → (answer_of s 0 ≡ (combined_meters minus d w memory source).answer) × (memory ≡ (combined_meters minus d w memory source).memory)
    unfolding combined_meters sources tests sum
    combined_full b l s e h = refusing s tests sum memory (combined_tests b l ∙ sym e) h

    pub combined_good : bad_shape d w (length memory) ≡ 0 → length source ≡ length memory → earliest (of_rows (source_status minus w source) (stride w) d 0 memory) ≡ 0
        → (answer_of 0 0 ≡ (combined_meters minus d w memory source).answer) × (map_rows (source_combined minus w source) (stride w) d 0 memory ≡ (combined_meters minus d w memory source).memory)
    unfolding combined_meters sources tests sum
    combined_good b l e = accepting tests sum memory (combined_tests b l ∙ e)
