-- The program's lines: which number stops a feed, and what follows a line. Document 01, 'The program's lines'. Cited by contracts and theorems.
use Rattle.std.specs.Prelude.{ℕ, Bool, true, false, cond, ◌||◌, eqb}
use Rattle.answer.specs.Numbers.{invalid_depth, invalid_width, invalid_key_length, bad_word, bad_payload}
use Rattle.feed_line.specs.declared.Line.{Line}
use Rattle.feed_line.specs.declared.Line.TheVariants as line

-- Numbers 1, 2, 4, 8 and 9 stop a feed.
unfoldable pub stops : ℕ → Bool
stops s = eqb s invalid_depth || eqb s invalid_width || eqb s invalid_key_length || eqb s bad_word || eqb s bad_payload

unfoldable pub refused_line : ℕ → ℕ → Line
refused_line s i = cond (stops s) (line.Stopped s i) (line.Refused s)

-- whether a record follows
unfoldable pub continues : Line → Bool
continues line.Updated = true
continues (line.Estimate v) = true
continues (line.Refused s) = true
continues (line.Geometry d w) = true
continues (line.End n) = false
continues (line.Stopped s i) = false

-- whether a line is the end's
unfoldable pub is_end : Line → Bool
is_end (line.End n) = true
is_end line.Updated = false
is_end (line.Estimate v) = false
is_end (line.Refused s) = false
is_end (line.Geometry d w) = false
is_end (line.Stopped s i) = false
