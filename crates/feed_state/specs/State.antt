-- What a run receives, by its state before and after. The code's own terms.
use Rattle.std.specs.Prelude.{ℕ, ◌⊎◌, ◌≡◌, Bool, true, false, cond, List, []}
use Rattle.feed_io.specs.declared.input.Input.{Input}
use Rattle.feed_io.specs.declared.output.Output.{Output}
use Rattle.feed_io.specs.Buffers.{Held, Refilled, Cleared}
use Rattle.feed_state.specs.declared.State.{State}

-- the state with other bytes at hand; a failed write ends the run
abbrev pub state_with : State → Input → Output → State
state_with s i o =
    record { input = i; output = o; words = s.words; records = s.records; runs = cond o.failed false s.runs; ended = cond o.failed false s.ended }

-- At least n bytes at hand, or all, with space for a line. If any was read, no text was left unwritten; none is after a failed write.
pub record Received (n : ℕ) (s : State) (input output : List ℕ) (r : State) (input' : List ℕ) : Type 0 where
  pub filled : Refilled n s.input input r.input input'
  pub reads : Bool
  pub cleared : Cleared reads output s.output.at r.output
  pub flushed : (filled.read ≡ []) ⊎ (r.output.at ≡ 0)
  pub stopped : r.output.failed ≡ true → filled.read ≡ []
  pub enough : r.output.failed ≡ false → Held n r.input input'
  pub state : r ≡ state_with s r.input r.output
