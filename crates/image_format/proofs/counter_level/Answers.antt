use Rattle.image_format.proofs.Sizes.{first_here, none_here}
use Rattle.image_format.proofs.counter_level.Goals as goal

pub returns-then-k-level-eq0-clause-some : goal.returns-then-k-level-eq0-clause-some
returns-then-k-level-eq0-clause-some c = let v = c.level_at-level in
    (first_here c.args.merge c.args.k v.result v.ensures.value c.if-k-level-eq0.true, v.ensures.value)

pub returns-else-k-level-eq0-clause-none : goal.returns-else-k-level-eq0-clause-none
returns-else-k-level-eq0-clause-none c = let v = c.level_at-level in
    none_here c.args.merge c.args.k v.result v.ensures.value c.if-k-level-eq0.false
