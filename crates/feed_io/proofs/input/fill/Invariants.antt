use Rattle.std.proofs.Common.{◌≡◌, ◌≤◌, ◌-◌, length, take}
use Rattle.feed_io.proofs.input.fill.Given as goal

abbrev pub invariant-loop-end : goal.invariant-loop-end
invariant-loop-end l = (l.front ≤ l.end) × (l.end ≤ length l.buffer) × (length l.buffer ≡ length l.fn.buffer) × (take l.front l.buffer ≡ take l.front l.fn.buffer)

abbrev pub decreases-loop-end : goal.decreases-loop-end
decreases-loop-end l = length l.fn.buffer - l.end
