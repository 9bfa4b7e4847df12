use mathlib.Core.Path.{◌≡◌, refl, sym, ap₂, ◌∙◌}
use mathlib.Core.List.{List}
use Prim.Native.Nat.{ℕ, ◌+◌, ◌-◌, ◌≤◌}
use native.Mathlib.Numerals.{add-one}
use native.Mathlib.Omega.{arith}
use lib.ListN.{length, set, replicate, length-append, length-replicate, length-set}
use lib.Seq.{paste-zero, paste-suc}
use Rattle.watch_places.proofs.Pasting.{padded_at, put_all}
use Rattle.watch_places.proofs.put_key.Invariants.{padded}
use Rattle.watch_places.proofs.put_key.Goals as goal

long : (key : List ℕ) → length key ≤ 64 → length (padded key) ≡ 64
long key h = omega (arith, length-append key (replicate (64 - length key) 0), length-replicate {A = ℕ} (64 - length key) 0)

pub loop-i-init : goal.loop-i-init
loop-i-init c = (omega arith, c.requires.fact_1, c.requires.fact_2, refl, paste-zero c.args.list.now c.args.at (padded c.args.key.now))

pub loop-i-preserved : goal.loop-i-preserved
loop-i-preserved c = let l = c.loop-i in
    let a = c.args in
    let key = c.args.key.now in
    let is = ap₂ (λ (xs : List ℕ) (b : ℕ). set xs (a.at + l.i) b) l.invariant.4 (c.or_zero.ensures ∙ sym (padded_at key (64 - length key) l.i)) in
    let next = paste-suc a.list.now a.at (padded key) l.i 0 (omega arith) (omega (arith, long key l.invariant.2)) in
    (omega arith, l.invariant.1, l.invariant.2, length-set l.list (a.at + l.i) c.or_zero.result ∙ l.invariant.3, rw (add-one l.i) (is ∙ next))

pub returns : goal.returns
returns c = let l = c.loop-i in
    let a = c.args in
    let key = c.args.key.now in
    let e : l.i ≡ 64 = omega arith in
    l.invariant.4 ∙ put_all a.list.now (padded key) a.at l.i (long key l.invariant.2 ∙ sym e)
