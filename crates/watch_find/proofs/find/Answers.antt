use mathlib.Core.Path.{◌≡◌, sym, ◌∙◌}
use Prim.Native.Nat.{◌-◌}
use native.Mathlib.Omega.{arith}
use Rattle.watch_list.specs.Parts.{Holds}
use Rattle.watch_list.proofs.Places.{in_use_most, length_short}
use Rattle.watch_find.proofs.Scanning.{index_here, index_past, none}
use Rattle.watch_find.proofs.find.Goals as goal

pub loop-k-init : goal.loop-k-init
loop-k-init c = let a = c.args in
    let holds : Holds a.list.now a.n = c.requires.fact_1 in
    (c.eights-k.ensures.upper_bound, omega (arith, holds.entries, in_use_most a.list.now holds.long), holds, c.requires.fact_2, c.eights-k.ensures.past)

pub has_key-requires-clause-fact_2 : goal.has_key-requires-clause-fact_2
has_key-requires-clause-fact_2 c = let l = c.loop-k in
    let holds = l.invariant.2 in (omega arith, length_short c.args.list.now holds.long holds.is_sound l.k (omega arith))

pub returns-then-has_key-clause-value : goal.returns-then-has_key-clause-value
returns-then-has_key-clause-value c = let l = c.loop-k in
    let a = c.args in
    let same = sym c.has_key.ensures ∙ c.if-has_key.true in
    omega (arith, l.invariant.4, index_here a.key.now a.list.now a.n l.k (omega arith) same)

pub loop-k-preserved : goal.loop-k-preserved
loop-k-preserved c = let l = c.loop-k in
    let a = c.args in
    let differs = sym c.has_key.ensures ∙ c.if-has_key.false in
    (omega arith, l.invariant.1, l.invariant.2, l.invariant.3, sym (index_past a.key.now a.list.now a.n l.k (omega arith) differs) ∙ l.invariant.4)

pub returns-clause-value : goal.returns-clause-value
returns-clause-value c = let l = c.loop-k in
    let a = c.args in
    let e : a.n - l.k ≡ 0 = omega arith in omega (arith, rw e at l.invariant.4, none a.key.now a.list.now l.k)
