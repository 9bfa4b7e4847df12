use Rattle.std.proofs.Common.{◌≡◌, ◌+◌, ◌*◌, ◌≤◌, ◌<◌, true, length}
use Rattle.geometry.specs.Checks.{bad_shape}
use Rattle.feed_io.specs.Buffers.{Within}
use Rattle.feed_steps.specs.Run.{Ran}
use Rattle.run_feed.proofs.run_records.Given as goal

abbrev pub invariant-loop : goal.invariant-loop
invariant-loop l = Within l.s.input l.input × (100 ≤ length l.input) × (l.s.output.at ≤ length l.output) × (64 ≤ length l.output) × (l.s.words ≤ 25 * l.counter + 1)
    × (l.s.records ≤ l.counter) × (length l.memory ≡ length l.fn.memory) × (length l.input ≡ length l.fn.input) × (length l.output ≡ length l.fn.output)
    × (bad_shape l.d l.w (length l.memory) ≡ 0) × (l.s.runs ≡ true → l.counter < l.s.words) × Ran l.d l.w l.fn.memory l.fn.first l.fn.input l.fn.output l.memory l.s l.input l.output
