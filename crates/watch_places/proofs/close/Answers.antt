use mathlib.Core.Path.{◌≡◌, refl, sym, ap, ap₂, ◌∙◌}
use mathlib.Core.List.{List}
use Prim.Native.Nat.{ℕ, suc, ◌+◌, ◌-◌}
use native.Mathlib.Omega.{arith}
use lib.ListN.{get_or, take, set, length-set}
use lib.Seq.{paste, paste-zero, paste-suc}
use Rattle.watch_places.proofs.Pasting.{past_take, moved, moved_length, moved_at, closed_all}
use Rattle.watch_places.proofs.close.Goals as goal

pub loop-i-init : goal.loop-i-init
loop-i-init c = let a = c.args in
    let e : a.at - a.at ≡ 0 = omega arith in
    (omega arith, omega (arith, c.requires.fact_1), c.requires.fact_1, c.requires.fact_3, refl, rw e (paste-zero a.list.now a.at (moved a.list.now a.at a.end a.width)))

pub loop-i-preserved : goal.loop-i-preserved
loop-i-preserved c = let l = c.loop-i in
    let a = c.args in
    let xs = c.args.list.now in
    let ys = moved xs a.at a.end a.width in
    let j = l.i - a.at in
    let here : a.at + j ≡ l.i = omega arith in
    let all : a.end - 0 ≡ a.end = omega arith in
    let long = moved_length xs a.at a.end a.width l.invariant.2 l.invariant.3 in
    let value : c.or_zero.result ≡ get_or ys j 0 =
    c.or_zero.ensures
    ∙ ap (λ (n : ℕ). get_or (take n l.list) (l.i + a.width) 0) all
    ∙ ap (λ (zs : List ℕ). get_or (take a.end zs) (l.i + a.width) 0) l.invariant.5
    ∙ ap (λ (n : ℕ). get_or (take a.end (paste xs a.at ys j)) (n + a.width) 0) (sym here)
    ∙ past_take xs ys a.at j a.width a.end (omega arith) (omega (arith, long))
    ∙ sym (moved_at xs a.at a.end a.width j) in
    let is = ap₂ (λ (zs : List ℕ) (b : ℕ). set zs l.i b) l.invariant.5 value ∙ ap (λ (n : ℕ). set (paste xs a.at ys j) n (get_or ys j 0)) (sym here) in
    let next = paste-suc xs a.at ys j 0 (omega arith) (omega (arith, long)) in
    let more : suc j ≡ l.i + 1 - a.at = omega arith in
    (omega arith, omega arith, l.invariant.2, l.invariant.3, length-set l.list l.i c.or_zero.result ∙ l.invariant.4, is ∙ next ∙ ap (paste xs a.at ys) more)

pub returns : goal.returns
returns c = let l = c.loop-i in
    let a = c.args in
    let e : l.i ≡ a.end = omega arith in
    rw e at l.invariant.5 ∙ closed_all a.list.now a.at a.end a.width l.invariant.2 l.invariant.3
