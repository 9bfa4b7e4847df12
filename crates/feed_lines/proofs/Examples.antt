-- The short feeds' lines, by computation.
use mathlib.Core.Path.{refl}
use Rattle.geometry.specs.Geometry.{valid_depth, one_of_powers, valid_width, stride, size}
use Rattle.answer.specs.Answers.{leaves}
use Rattle.answer.specs.Order.{first_of}
use Rattle.word.specs.Word.{next, payload, is_due, tested, below}
use Rattle.feed_lengths.specs.Lengths.{words_taken}
use Rattle.feed_records.specs.Words.{opens_key, opened}
use Rattle.feed.specs.Head.{head_width, bad_geometry, head_step, headed}
use Rattle.feed.specs.Record.{opened_outcome, record_outcome, record_memory, finish_record, recorded}
use Rattle.word_bytes.specs.Words.{whole_words}
use Rattle.feed_line.specs.Line.{stops, refused_line, continues, is_end}
use Rattle.feed_lines.specs.Line.{head_line, line_of}
use Rattle.feed_lines.specs.Feed.{followed, after_end, record_lines, after_head, feed_lines}
use Rattle.feed_lines.specs.Examples.{AllHold, examples}

pub examples_hold : AllHold examples
unfolding valid_depth one_of_powers valid_width stride size first_of next payload is_due tested below opens_key opened words_taken head_width bad_geometry head_step headed
    leaves opened_outcome record_outcome record_memory finish_record recorded whole_words stops refused_line continues is_end head_line line_of followed after_end record_lines after_head feed_lines
examples_hold = (refl, (refl, (refl, (refl, (refl, (refl, (refl, (refl, (refl, tt)))))))))
