use mathlib.Core.Path.{sym, ◌∙◌}
use native.Mathlib.Omega.{arith}
use borrow.Author.Tests.{not-true, eqb-false}
use Rattle.watch_list.proofs.Places.{length_short}
use Rattle.watch_key.proofs.Keys.{other_digest}
use Rattle.watch_find.proofs.differs.Goals as goal

pub digest-requires : goal.digest-requires
digest-requires c = (c.requires.fact_1.key_long.0, omega (arith, c.requires.fact_1.long, c.requires.fact_1.key_long.1))

pub returns : goal.returns
returns c = let a = c.args in
    let h = c.requires.fact_1 in
    let short = length_short a.list.now h.long h.is_sound a.k (omega arith) in
    λ z.
    other_digest a.list.now h.long a.k (omega arith) a.key.now short h.key_long (λ q. eqb-false _ _ (not-true _ z) (c.digest.ensures ∙ q ∙ sym h.is_digest))
