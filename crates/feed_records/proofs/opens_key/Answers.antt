use Rattle.feed_records.proofs.Laws.{key_refused, key_passed}
use Rattle.feed_records.proofs.opens_key.Goals as goal

pub returns-in_err-check_key : goal.returns-in_err-check_key
returns-in_err-check_key c = key_refused _ _ _ _ _ c.from_residual.ensures.1 c.in_err-check_key.ensures

pub returns : goal.returns
returns c = key_passed _ _ _ c.in_ok-check_key.ensures
