use Rattle.feed_head.proofs.Laws.{handed_answer, sound_answer, unsound_answer}
use Rattle.feed_head.proofs.check_head.Goals as goal

pub returns-in_err-below : goal.returns-in_err-below
returns-in_err-below c = handed_answer _ _ _ c.from_residual.ensures.1 c.in_err-below.ensures

pub returns-in-Ok : goal.returns-in-Ok
returns-in-Ok c = sound_answer _ _ _ c.in_ok-below.ensures c.payload-payload.ensures.value _ c.in-Ok.ensures

pub returns-in-Err : goal.returns-in-Err
returns-in-Err c = unsound_answer _ _ _ c.in_ok-below.ensures c.payload-payload.ensures.value _ _ c.in-Err.ensures
