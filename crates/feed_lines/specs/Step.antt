-- One step of a run on the words lent, and the lines that are left. Cited by contracts and theorems.
use Rattle.std.specs.Prelude.{ℕ, suc, ◌+◌, ◌*◌, ◌≤◌, ◌⊎◌, ◌≡◌, cond, ◌||◌, List, [], length}
use Rattle.feed_lengths.specs.Lengths.{words_taken, words_needed}
use Rattle.feed_line.specs.declared.Line.{Line}
use Rattle.word_bytes.specs.Words.{whole_words}
use Rattle.feed_line.specs.Line.{continues, is_end}
use Rattle.feed_lines.specs.declared.Progress.{Progress}
use Rattle.feed_lines.specs.Feed.{record_line, record_lines}

-- the words that a line's record took; after a stop nothing is read, so none
unfoldable pub taken_by : Line → List ℕ → ℕ
taken_by l words = cond (continues l || is_end l) (words_taken words) 0

abbrev pub progress_of : Line → ℕ → ℕ → ℕ → Progress
progress_of l taken before records = record { line = l; taken = taken; words = before + taken; records = records + 1 }

unfoldable pub progress : ℕ → ℕ → List ℕ → ℕ → ℕ → List ℕ → Progress
progress d w memory before records words =
    progress_of (record_line d w memory before records words) (taken_by (record_line d w memory before records words) words) before records

-- the lines of records and the end, all of them
abbrev pub lines_from : ℕ → ℕ → List ℕ → ℕ → ℕ → List ℕ → List Line
lines_from d w memory before records bytes = record_lines (suc (length (whole_words bytes))) d w memory before records bytes

-- the bytes that must be at hand for the record or the end that they begin with to be carried out
abbrev pub bytes_needed : List ℕ → ℕ
bytes_needed bytes = 4 * words_needed (whole_words bytes)

-- Bytes at hand before those that are still to come: at least n, or all.
abbrev pub Enough : ℕ → List ℕ → List ℕ → Type 0
Enough n held rest = (n ≤ length held) ⊎ (rest ≡ [])
