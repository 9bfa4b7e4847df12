use Rattle.feed_records.specs.Words.{query_step, query_body}
use Rattle.feed_records.proofs.Laws.{sound_body, faulty_body}
use Rattle.feed_records.proofs.query_body.Goals as goal

pub returns-in_err-check_key-clause-value : goal.returns-in_err-check_key-clause-value
unfolding query_body query_step
returns-in_err-check_key-clause-value c = faulty_body _ _ _ _ c.from_residual.ensures.1 c.in_err-check_key.ensures.value

pub returns-clause-value : goal.returns-clause-value
unfolding query_body query_step
returns-clause-value c = sound_body _ _ _ c.in_ok-check_key.ensures.value
