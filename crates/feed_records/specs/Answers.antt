-- Document 01's number, place and figure for each case of a record's words. Cited by contracts.
use Rattle.answer.specs.declared.Answer.{Answer}
use Rattle.answer.specs.Answers.{accepted, refused, refused_at}
use Rattle.feed_records.specs.Openings.{Opening}
use Rattle.feed_records.specs.Openings as opening
use Rattle.feed_records.specs.Bodies.{Body}
use Rattle.feed_records.specs.Bodies as body

-- the first word of a record: whatever it opens, no fault is found yet
abbrev pub opening_answer : Opening → Answer
opening_answer (opening.Update n) = accepted 0
opening_answer (opening.Query n) = accepted 0
opening_answer opening.End = accepted 0
opening_answer (opening.Refused s) = refused s

-- the words after it
abbrev pub body_answer : Body → Answer
body_answer (body.Sound a) = accepted 0
body_answer (body.Refused s p) = refused_at s p
