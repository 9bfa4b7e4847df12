-- The line of a head's and of a record's answer. Document 01, 'The program's lines'. Cited by contracts and theorems.
use Rattle.std.specs.Prelude.{ℕ, ◌+◌, cond, eqb, leb}
use Rattle.answer.specs.declared.Answer.{Answer}
use Rattle.feed.specs.Head.{head_depth, head_width}
use Rattle.feed.specs.declared.Recorded.{Recorded}
use Rattle.feed.specs.declared.Recorded.TheVariants as recorded
use Rattle.answer.specs.Numbers.{wrong_length}
use Rattle.feed_line.specs.declared.Line.{Line}
use Rattle.feed_line.specs.declared.Line.TheVariants as line
use Rattle.feed_line.specs.Line.{refused_line}

-- the largest width that the program lends memory for
abbrev pub most_slots : ℕ
most_slots = 4096

-- the line of a head's answer: the geometry of an accepted one, if it is not too wide
unfoldable pub head_line : Answer → Line
head_line a =
    cond (eqb a.status 0)
    (cond (leb (head_width a.value) most_slots) (line.Geometry (head_depth a.value) (head_width a.value)) (line.Stopped wrong_length 0))
    (line.Stopped a.status a.position)

-- the line of a record or the end, after so many words of the feed and so many records
unfoldable pub line_of : Recorded → ℕ → ℕ → Line
line_of recorded.Updated before records = line.Updated
line_of (recorded.Estimate v) before records = line.Estimate v
line_of recorded.Ended before records = line.End records
line_of (recorded.Refused s p) before records = refused_line s (before + p)
