use Rattle.hash.proofs.Hashing.{slot_lt, slot_scaled}
use Rattle.hash.proofs.scaled.Goals as goal

pub returns-clause-value : goal.returns-clause-value
returns-clause-value c = let a = c.args in
    let e = slot_scaled a.hash a.w c.requires in
    e

pub returns-clause-upper_bound : goal.returns-clause-upper_bound
returns-clause-upper_bound c = let a = c.args in
    let e = slot_scaled a.hash a.w c.requires in
    rw e (slot_lt a.hash a.w c.ranges.hash.fits c.requires)
