use Rattle.std.proofs.Common.{◌≤◌, ◌-◌}
use Rattle.feed_io.proofs.output.flush.Given as goal

abbrev pub invariant-loop-done : goal.invariant-loop-done
invariant-loop-done l = l.done ≤ l.at

abbrev pub decreases-loop-done : goal.decreases-loop-done
decreases-loop-done l = l.at - l.done
