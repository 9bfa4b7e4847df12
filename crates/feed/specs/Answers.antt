-- Document 01's number, place and figure for each case of a feed's answers. Cited by contracts.
use Rattle.answer.specs.declared.Answer.{Answer}
use Rattle.answer.specs.Answers.{accepted, refused_at}
use Rattle.feed.specs.declared.Recorded.{Recorded}
use Rattle.feed.specs.declared.Recorded.TheVariants as case

-- a record or the end, carried out or refused
abbrev pub record_answer : Recorded → Answer
record_answer case.Updated = accepted 0
record_answer (case.Estimate v) = accepted v
record_answer case.Ended = accepted 0
record_answer (case.Refused s p) = refused_at s p
