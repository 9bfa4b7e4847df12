-- What a whole run prints. The code's own terms.
use Rattle.std.specs.Prelude.{ℕ, ◌+◌, ◌^◌, ◌<◌, ◌≡◌, Bool, true, false, cond, List, [], ◌++◌, length, take, drop, replicate}
use Rattle.geometry.specs.Geometry.{size}
use Rattle.feed_text.specs.Line.{texts}
use Rattle.feed_lines.specs.Feed.{after_end}
use Rattle.feed_lines.specs.Step.{lines_from}
use Rattle.feed_state.specs.declared.State.{State}
use Rattle.feed_io.specs.declared.input.Input.{Input}
use Rattle.feed_io.specs.declared.output.Output.{Output}
use Rattle.feed_io.specs.Buffers.{unused}

-- The end of a run, of whose feed so many bytes were seen before: of a feed of fewer than 2^60 bytes all that was due is written or at hand,
-- unless a write failed; then nothing is at hand.
pub record Printed (before : ℕ) (opened : Bool) (text : List ℕ → List ℕ) (r : Output) (output : List ℕ) : Type 0 where
  pub read : List ℕ
  pub sent : List ℕ
  pub lost : List ℕ → List ℕ
  pub more : Bool
  pub same : before + length read < 2 ^ 60 → (rest : List ℕ) → (more ≡ false → rest ≡ [])
      → text (read ++ rest) ≡ sent ++ cond r.failed (lost rest) (take r.at output)
  pub failed : r.failed ≡ true → (0 < length sent) × (r.at ≡ 0)
  pub closed : opened ≡ false → (read ≡ []) × (more ≡ false)

-- what is due after the end's line, and after an accepted head's, whose word is the first of the bytes at hand
abbrev pub due_after_end : State → List ℕ → List ℕ → List ℕ → List ℕ
due_after_end s input output bytes = take s.output.at output ++ texts (after_end s.words (unused s.input input ++ bytes))

abbrev pub due_after_head : ℕ → ℕ → Input → List ℕ → ℕ → List ℕ → List ℕ → List ℕ
due_after_head d w i input out output bytes =
    take out output ++ texts (lines_from d w (replicate (size d w) 0) 1 0 (drop 4 (unused i input) ++ bytes))
