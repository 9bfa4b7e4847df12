-- What a part of a run prints, by the definition of a feed's lines. The code's own terms.
-- No contract can say what a read brings or where a written byte goes. So `read` and `sent` are some bytes: those that the part's reads
-- brought and that it handed to writes. If a write failed, `sent` is all the same the start of what was due, and `lost` the rest.
use Rattle.std.specs.Prelude.{ℕ, ◌+◌, ◌*◌, ◌≤◌, ◌<◌, ◌≡◌, true, false, cond, List, [], ◌++◌, length, take}
use Rattle.feed_line.specs.declared.Line.{Line}
use Rattle.feed_text.specs.Line.{texts}
use Rattle.feed_lines.specs.Feed.{after_end}
use Rattle.feed_lines.specs.Step.{lines_from, bytes_needed}
use Rattle.feed_state.specs.declared.State.{State}
use Rattle.feed_io.specs.Buffers.{unused}

-- the lines that are left to print, from the bytes not yet used and those still to come
abbrev pub left : ℕ → ℕ → List ℕ → State → List ℕ → List Line
left d w memory s bytes =
    cond s.runs (lines_from d w memory s.words s.records bytes) (cond s.ended (after_end s.words bytes) [])

-- the text at hand and that of the lines that are left, if `bytes` come
abbrev pub due : ℕ → ℕ → List ℕ → State → List ℕ → List ℕ → List ℕ → List ℕ
due d w memory s input output bytes = take s.output.at output ++ texts (left d w memory s (unused s.input input ++ bytes))

-- the bytes of the feed up to here
abbrev pub seen : State → List ℕ → ℕ
seen s input = 4 * s.words + length (unused s.input input)

-- From s to r nothing that is due is lost unless a write failed: what was due is what is written and what is now due. Nothing comes after the
-- input's end, and a failed write ends the run.
pub record Ran (d w : ℕ) (memory : List ℕ) (s : State) (input output memory' : List ℕ) (r : State) (input' output' : List ℕ) : Type 0 where
  pub read : List ℕ
  pub sent : List ℕ
  pub lost : List ℕ → List ℕ
  pub same : (rest : List ℕ) → (r.input.more ≡ false → rest ≡ [])
      → due d w memory s input output (read ++ rest) ≡ sent ++ cond r.output.failed (lost rest) (due d w memory' r input' output' rest)
  pub failed : r.output.failed ≡ true → (0 < length sent) × (r.output.at ≡ 0) × (r.runs ≡ false) × (r.ended ≡ false)
  pub closed : s.input.more ≡ false → (read ≡ []) × (r.input.more ≡ false)
  pub counted : seen s input + length read ≡ seen r input'

-- One step: no byte is read if those that the record needs are at hand.
pub record Stepped (d w : ℕ) (memory : List ℕ) (s : State) (input output memory' : List ℕ) (r : State) (input' output' : List ℕ) : Type 0 where
  pub ran : Ran d w memory s input output memory' r input' output'
  pub spared : bytes_needed (unused s.input input) ≤ length (unused s.input input) → ran.read ≡ []
