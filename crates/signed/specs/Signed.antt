-- A signed meter's calls. Document 02, request 3. Cited by contracts and theorems.
use Rattle.std.specs.Prelude.{ℕ, zero, suc, ◌%◌, Bool, true, false, List, [], ◌∷◌, eqb, length, replicate, ℤ, pos, Result, Ok, Err}
use Rattle.answer.specs.Numbers.{even_depth}
use Rattle.answer.specs.declared.Refusal.{Refusal}
use Rattle.answer.specs.Refusals.{number}
use Rattle.answer.specs.Answers.{Done, finish}
use Rattle.answer.specs.Order.{unless, first_of, earliest}
use Rattle.hash.specs.Hash.{basis}
use Rattle.geometry.specs.Geometry.{stride}
use Rattle.geometry.specs.Checks.{bad_depth, bad_width, bad_length, bad_key}
use Rattle.meter_memory.specs.Rows.{map_rows, of_rows}
use Rattle.signed_median.specs.Median.{median}
use Rattle.signed_row.specs.Row.{update_status, update_row, read_status, row_figure, source_status, source_combined}
use Rattle.signed.specs.declared.SignedAnswer.{SignedAnswer}

-- line 12: an even depth
abbrev pub bad_parity : ℕ → ℕ
bad_parity d = unless (eqb (d % 2) 1) even_depth

-- lines 1, 2, 12 and 3, and with a key line 4
abbrev pub bad_shape : ℕ → ℕ → ℕ → ℕ
bad_shape d w bytes = first_of (bad_depth d ∷ bad_width w ∷ bad_parity d ∷ bad_length d w bytes ∷ [])

unfoldable pub bad_call : ℕ → ℕ → List ℕ → List ℕ → ℕ
bad_call d w memory key = first_of (bad_depth d ∷ bad_width w ∷ bad_parity d ∷ bad_length d w (length memory) ∷ bad_key (length key) ∷ [])

-- Clearing reads nothing and sets every byte to 0.
unfoldable pub cleared : ℕ → ℕ → List ℕ → Done
cleared d w memory = finish (bad_shape d w (length memory)) 0 (replicate (length memory) 0) memory

-- An update adds an amount, times each row's sign for the key, to the key's counter in each row.
unfoldable pub updated : ℕ → ℕ → List ℕ → List ℕ → ℤ → Done
updated d w memory key amount =
    finish (first_of (bad_call d w memory key ∷ earliest (of_rows (update_status basis w key amount) (stride w) d 0 memory) ∷ []))
    0 (map_rows (update_row basis w key amount) (stride w) d 0 memory) memory

-- an answer whose figure is an integer, by its status: accepted with a value, or refused with place 0
unfoldable pub signed_answer : ℕ → ℤ → SignedAnswer
signed_answer zero value = record { status = 0; position = 0; value = value }
signed_answer (suc s) value = record { status = suc s; position = 0; value = pos 0 }

-- and by the result of a call: with its figure, or with 0 where it has none
unfoldable pub signed_told : Result ℤ Refusal → SignedAnswer
signed_told (Ok value) = record { status = 0; position = 0; value = value }
signed_told (Err r) = record { status = number r; position = 0; value = pos 0 }

-- An estimate is the median of the rows' figures.
unfoldable pub estimated : ℕ → ℕ → List ℕ → List ℕ → SignedAnswer
estimated d w memory key =
    signed_answer (first_of (bad_call d w memory key ∷ earliest (of_rows (read_status basis w key) (stride w) d 0 memory) ∷ []))
    (median (of_rows (row_figure basis w key) (stride w) d 0 memory))

-- A source meter is added to a meter or, with a minus, taken away from it, row by row. The source is only read.
unfoldable pub combined_meters : Bool → ℕ → ℕ → List ℕ → List ℕ → Done
combined_meters minus d w memory source =
    finish (first_of (bad_shape d w (length memory) ∷ bad_length d w (length source) ∷ earliest (of_rows (source_status minus w source) (stride w) d 0 memory) ∷ []))
    0 (map_rows (source_combined minus w source) (stride w) d 0 memory) memory

abbrev pub united : ℕ → ℕ → List ℕ → List ℕ → Done
united d w memory source = combined_meters false d w memory source

abbrev pub subtracted : ℕ → ℕ → List ℕ → List ℕ → Done
subtracted d w memory source = combined_meters true d w memory source
