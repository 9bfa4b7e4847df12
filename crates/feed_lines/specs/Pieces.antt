-- A feed that comes in pieces, one step after another as the program goes: its lines are the whole feed's. Cited by theorems.
use Rattle.std.specs.Prelude.{ℕ, zero, suc, ◌*◌, cond, List, [], ◌∷◌, ◌++◌, leb, length, take, drop, replicate}
use Rattle.geometry.specs.Geometry.{size}
use Rattle.feed.specs.Head.{head_depth, head_width, headed}
use Rattle.feed.specs.Record.{recorded}
use Rattle.feed_line.specs.declared.Line.{Line}
use Rattle.word_bytes.specs.Words.{whole_words}
use Rattle.feed_lines.specs.declared.Progress.{Progress}
use Rattle.feed_lines.specs.Line.{head_line}
use Rattle.feed_lines.specs.Feed.{followed, after_end}
use Rattle.feed_lines.specs.Step.{progress, bytes_needed}

-- the bytes at hand, and the pieces that are still to be read
pub record Held : Type 0 where
  pub bytes : List ℕ
  pub pieces : List (List ℕ)

unfoldable pub joined : List (List ℕ) → List ℕ
joined [] = []
joined (p ∷ ps) = p ++ joined ps

-- pieces are read until as many bytes are at hand as these call for, or no piece is left
unfoldable pub read_on : (List ℕ → ℕ) → List ℕ → List (List ℕ) → Held
read_on need bytes [] = record { bytes = bytes; pieces = [] }
read_on need bytes (p ∷ ps) = cond (leb (need bytes) (length bytes)) (record { bytes = bytes; pieces = p ∷ ps }) (read_on need (bytes ++ p) ps)

-- the bytes that the head calls for, and those that tell whether any comes after the end; a record calls for bytes_needed
abbrev pub head_needs : List ℕ → ℕ
head_needs bytes = 4

abbrev pub end_needs : List ℕ → ℕ
end_needs bytes = 1

-- the words that are lent, and what the step does with them
abbrev pub lent : Held → List ℕ
lent h = take 25 (whole_words h.bytes)

abbrev pub done : ℕ → ℕ → List ℕ → ℕ → ℕ → Held → Progress
done d w memory before records h = progress d w memory before records (lent h)

-- after n words of those at hand
abbrev pub next : (List ℕ → ℕ) → ℕ → Held → Held
next need n h = read_on need (drop (4 * n) h.bytes) h.pieces

-- the lines of records and the end, n at most
unfoldable pub step_lines : ℕ → ℕ → ℕ → List ℕ → ℕ → ℕ → Held → List Line
step_lines zero d w memory before records h = []
step_lines (suc n) d w memory before records h =
    followed (done d w memory before records h).line
    (step_lines n d w (recorded d w memory before (lent h)).memory (done d w memory before records h).words (done d w memory before records h).records
    (next bytes_needed (done d w memory before records h).taken h))
    (after_end (done d w memory before records h).words (next end_needs (done d w memory before records h).taken h).bytes)

-- the lines of the whole feed: its head's payload v and what is at hand after the first reads, then the records, n at most
abbrev pub start_lines : ℕ → ℕ → Held → List Line
start_lines n v h = step_lines n (head_depth v) (head_width v) (replicate (size (head_depth v) (head_width v)) 0) 1 0 (next bytes_needed 1 h)

unfoldable pub piece_lines : List (List ℕ) → List Line
piece_lines pieces =
    followed (head_line (headed (take 1 (whole_words (read_on head_needs [] pieces).bytes))))
    (start_lines (length (whole_words (joined pieces))) (headed (take 1 (whole_words (read_on head_needs [] pieces).bytes))).value (read_on head_needs [] pieces)) []
