-- The lines of a whole feed, from its bytes. Document 01, 'The program's lines'. Cited by contracts and theorems.
use Rattle.std.specs.Prelude.{ℕ, zero, suc, ◌+◌, ◌*◌, cond, List, [], ◌∷◌, length, drop, replicate}
use Rattle.geometry.specs.Geometry.{size}
use Rattle.answer.specs.Numbers.{bad_word}
use Rattle.feed_lengths.specs.Lengths.{words_taken}
use Rattle.feed.specs.Head.{head_depth, head_width, headed}
use Rattle.feed.specs.Record.{recorded}
use Rattle.feed_line.specs.declared.Line.{Line}
use Rattle.feed_line.specs.declared.Line.TheVariants as line
use Rattle.word_bytes.specs.Words.{whole_words}
use Rattle.feed_line.specs.Line.{continues, is_end}
use Rattle.feed_text.specs.Line.{texts}
use Rattle.feed_lines.specs.Line.{head_line, line_of}

-- A line and those after it: the next records' where a record follows, those after the end's, and none after a stop.
unfoldable pub followed : Line → List Line → List Line → List Line
followed l next last = l ∷ cond (continues l) next (cond (is_end l) last [])

-- the line of the record or the end that words begin with, after so many words of the feed and so many records
abbrev pub record_line : ℕ → ℕ → List ℕ → ℕ → ℕ → List ℕ → Line
record_line d w memory before records words = line_of (recorded d w memory before words).outcome before records

-- any byte after the end record stops the feed, at the index just past the end
unfoldable pub after_end : ℕ → List ℕ → List Line
after_end before [] = []
after_end before (b ∷ bytes) = line.Stopped bad_word before ∷ []

-- the bytes after the record or the end that bytes begin with
abbrev pub past : List ℕ → List ℕ
past bytes = drop (4 * words_taken (whole_words bytes)) bytes

-- The lines of records and the end, n at most, from the bytes that come after so many words of the feed and so many records.
-- A record's call is lent all words that are left; leftover bytes are a missing word.
unfoldable pub record_lines : ℕ → ℕ → ℕ → List ℕ → ℕ → ℕ → List ℕ → List Line
record_lines zero d w memory before records bytes = []
record_lines (suc n) d w memory before records bytes =
    followed (record_line d w memory before records (whole_words bytes))
    (record_lines n d w (recorded d w memory before (whole_words bytes)).memory (before + words_taken (whole_words bytes)) (records + 1) (past bytes))
    (after_end (before + words_taken (whole_words bytes)) (past bytes))

-- The records of an accepted head with payload v start on a cleared meter.
-- Each takes a word or more, so a feed of n words has at most n lines after the head's.
unfoldable pub after_head : ℕ → List ℕ → List Line
after_head v bytes =
    record_lines (length (whole_words bytes)) (head_depth v) (head_width v) (replicate (size (head_depth v) (head_width v)) 0) 1 0 (drop 4 bytes)

unfoldable pub feed_lines : List ℕ → List Line
feed_lines bytes = followed (head_line (headed (whole_words bytes))) (after_head (headed (whole_words bytes)).value bytes) []

-- what the program prints
unfoldable pub feed_text : List ℕ → List ℕ
feed_text bytes = texts (feed_lines bytes)
