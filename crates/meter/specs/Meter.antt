-- A meter's calls. Document 01, 'Updating, asking, uniting' and 'Turned away, in checking order'. Cited by contracts and theorems.
use Rattle.std.specs.Prelude.{ℕ, List, [], ◌∷◌, length, replicate}
use Rattle.answer.specs.declared.Answer.{Answer}
use Rattle.hash.specs.Hash.{basis}
use Rattle.geometry.specs.Geometry.{stride}
use Rattle.answer.specs.Answers.{answer_of, Done, finish}
use Rattle.answer.specs.Order.{first_of, earliest}
use Rattle.geometry.specs.Checks.{bad_depth, bad_width, bad_length, bad_shape, bad_key}
use Rattle.meter_memory.specs.Rows.{map_rows, of_rows, least, largest}
use Rattle.meter_row.specs.Row.{update_status, update_row, read_row}
pub use Rattle.meter_row.specs.Row.{row_status, row_level}
pub use Rattle.meter_union.specs.Union.{source_status, source_added}
unfoldable pub use Rattle.meter_memory.specs.Rows.{row_of}

-- Clearing reads nothing and sets every byte to 0.
unfoldable pub cleared : ℕ → ℕ → List ℕ → Done
cleared d w memory = finish (bad_shape d w (length memory)) 0 (replicate (length memory) 0) memory

-- lines 1 to 4, of a call with a key
unfoldable pub bad_call : ℕ → ℕ → List ℕ → List ℕ → ℕ
bad_call d w memory key = first_of (bad_depth d ∷ bad_width w ∷ bad_length d w (length memory) ∷ bad_key (length key) ∷ [])

-- An update adds an amount to the key's counter in each row.
unfoldable pub updated : ℕ → ℕ → List ℕ → List ℕ → ℕ → Done
updated d w memory key amount =
    finish (first_of (bad_call d w memory key ∷ earliest (of_rows (update_status basis w key amount) (stride w) d 0 memory) ∷ []))
    0 (map_rows (update_row basis w key amount) (stride w) d 0 memory) memory

-- An estimate is the least value of the key's counters.
unfoldable pub read_status : ℕ → List ℕ → ℕ → List ℕ → ℕ
read_status w key r row = (read_row basis w key r row).status

unfoldable pub read_value : ℕ → List ℕ → ℕ → List ℕ → ℕ
read_value w key r row = (read_row basis w key r row).value

unfoldable pub estimated : ℕ → ℕ → List ℕ → List ℕ → Answer
estimated d w memory key =
    answer_of (first_of (bad_call d w memory key ∷ earliest (of_rows (read_status w key) (stride w) d 0 memory) ∷ []))
    (least (of_rows (read_value w key) (stride w) d 0 memory))

-- The widest level is the largest level of any counter in the meter.
unfoldable pub widest : ℕ → ℕ → List ℕ → Answer
widest d w memory =
    answer_of (first_of (bad_shape d w (length memory) ∷ earliest (of_rows (row_status w) (stride w) d 0 memory) ∷ []))
    (largest (of_rows (row_level w) (stride w) d 0 memory))

-- A union adds a source meter into a target meter, row by row. The source is only read.
unfoldable pub united : ℕ → ℕ → List ℕ → List ℕ → Done
united d w memory source =
    finish (first_of (bad_shape d w (length memory) ∷ bad_length d w (length source) ∷ earliest (of_rows (source_status w source) (stride w) d 0 memory) ∷ []))
    0 (map_rows (source_added w source) (stride w) d 0 memory) memory
