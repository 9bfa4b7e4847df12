use mathlib.Core.Path.{sym, ap, ◌∙◌}
use mathlib.Core.List.{List, ◌++◌}
use Prim.Native.Nat.{ℕ, ◌+◌, ◌*◌, ◌≤◌}
use native.Mathlib.Omega.{arith}
use lib.ListN.{take, drop}
use Rattle.laws.proofs.Lists.{Bytes}
use Rattle.watch_list.specs.Layout.{estimates_at}
use Rattle.watch_list.specs.Parts.{Holds}
use Rattle.watch_list.proofs.Places.{in_use_most}
use Rattle.watch_list.proofs.Changes.{renewed_is, below_is, full_is, joined_is}
use Rattle.watch_places.proofs.Pasting.{put_eight}
use borrow.Author.Rules.{rules}
use Rattle.watch_places.proofs.note.Goals as goal

most : (xs : List ℕ) (n : ℕ) → Holds xs n → n ≤ 64
most xs n h = omega (arith, h.entries, in_use_most xs h.long)

pub overflow_mul-i : goal.overflow_mul-i
overflow_mul-i c = record { fits = omega (arith, most c.args.list.now c.args.n c.requires.fact_1) }

pub overflow_add-i : goal.overflow_add-i
overflow_add-i c = record { fits = omega (arith, most c.args.list.now c.args.n c.requires.fact_1) }

pub put_eight-requires : goal.put_eight-requires
put_eight-requires c = omega (arith, most c.args.list.now c.args.n c.requires.fact_1, c.requires.fact_1.long)

pub returns-in-Some : goal.returns-in-Some
returns-in-Some c = let a = c.args in
    let small : Bytes a.list.now = λ i. search rules in
    let i = c.in-Some.i in
    let at = estimates_at + i * 8 in
    c.put_eight.ensures
    ∙ ap (λ (ys : List ℕ). take at a.list.now ++ ys ++ drop (at + 8) a.list.now) c.bytes_of.ensures
    ∙ put_eight a.list.now at a.estimate
    ∙ sym (renewed_is a.list.now a.n c.requires.fact_1 small a.key.now i c.in-Some.ensures.value c.in-Some.ensures.upper_bound a.estimate a.threshold)

pub returns-then-estimate-threshold : goal.returns-then-estimate-threshold
returns-then-estimate-threshold c = let a = c.args in
    let small : Bytes a.list.now = λ i. search rules in
    sym (below_is a.list.now a.n c.requires.fact_1 small a.key.now a.n c.in_default.ensures.value (omega arith) a.estimate a.threshold c.if-estimate-threshold.true)

pub returns-then-n-eq64 : goal.returns-then-n-eq64
returns-then-n-eq64 c = let a = c.args in
    let small : Bytes a.list.now = λ i. search rules in
    sym (full_is a.list.now a.n c.requires.fact_1 small a.key.now a.n c.in_default.ensures.value (omega arith) a.estimate a.threshold c.if-estimate-threshold.false c.if-n-eq64.true)

pub join-requires-clause-fact_2 : goal.join-requires-clause-fact_2
join-requires-clause-fact_2 c = omega (arith, most c.args.list.now c.args.n c.requires.fact_1)

pub returns : goal.returns
returns c = let a = c.args in
    let small : Bytes a.list.now = λ i. search rules in
    let m = most a.list.now a.n c.requires.fact_1 in
    c.join.ensures
    ∙ sym (joined_is a.list.now a.n c.requires.fact_1 small a.key.now a.n c.in_default.ensures.value (omega arith) a.estimate a.threshold c.if-estimate-threshold.false (omega arith) c.requires.fact_2)
