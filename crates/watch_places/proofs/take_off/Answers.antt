use mathlib.Core.Path.{sym, ◌∙◌}
use native.Mathlib.Omega.{arith}
use Rattle.laws.proofs.Lists.{Bytes}
use Rattle.watch_list.proofs.Places.{in_use_most}
use Rattle.watch_list.proofs.Changes.{off_is, off_none_is}
use borrow.Author.Rules.{rules}
use Rattle.watch_places.proofs.take_off.Goals as goal

pub remove-requires-clause-fact_2 : goal.remove-requires-clause-fact_2
remove-requires-clause-fact_2 c = let h = c.requires.fact_1 in (c.in-Some.ensures.upper_bound, omega (arith, h.entries, in_use_most c.args.list.now h.long))

pub returns-in-Some : goal.returns-in-Some
returns-in-Some c = let a = c.args in
    let small : Bytes a.list.now = λ i. search rules in
    c.remove.ensures ∙ sym (off_is a.list.now a.n c.requires.fact_1 small a.key.now c.in-Some.i c.in-Some.ensures.value c.in-Some.ensures.upper_bound)

pub returns-in_default : goal.returns-in_default
returns-in_default c = let a = c.args in
    let small : Bytes a.list.now = λ i. search rules in
    sym (off_none_is a.list.now a.n c.requires.fact_1 small a.key.now a.n c.in_default.ensures.value (omega arith))
