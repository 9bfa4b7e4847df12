-- Bounds that the code's functions pass on to each other. The code's own terms.
use Rattle.std.specs.Prelude.{ℕ, ◌≤◌, ◌≡◌, true}
use Rattle.geometry.specs.Geometry.{valid_depth, valid_width}
use Rattle.feed_line.specs.declared.Line.{Line}
use Rattle.feed_line.specs.declared.Line.TheVariants as line
use Rattle.feed_lines.specs.Line.{most_slots}

-- the meter of an accepted head
abbrev pub Fitting : ℕ → ℕ → Type 0
Fitting d w = (valid_depth d ≡ true) × (valid_width w ≡ true) × (w ≤ most_slots)

abbrev pub FittingLine : Line → Type 0
FittingLine (line.Geometry d w) = Fitting d w
FittingLine line.Updated = Unit
FittingLine (line.Estimate v) = Unit
FittingLine (line.End n) = Unit
FittingLine (line.Refused s) = Unit
FittingLine (line.Stopped s i) = Unit
