use Rattle.signed_words.specs.Words.{room}
use Rattle.signed_words.proofs.room.Goals as goal

pub returns-then-minus : goal.returns-then-minus
unfolding room
returns-then-minus c = rw c.if-minus.true

pub returns-else-minus : goal.returns-else-minus
unfolding room
returns-else-minus c = rw c.if-minus.false
