use mathlib.Core.Path.{◌≡◌, refl, sym, ap, ◌∙◌}
use Prim.Native.Nat.{ℕ, ◌+◌, ◌-◌}
use native.Mathlib.Omega.{arith}
use Rattle.image_format.specs.Read.{value_from}
use Rattle.image_reader.proofs.Laws.{value_step, value_none}
use Rattle.image_reader.proofs.value_at.Goals as goal

pub loop-at-init : goal.loop-at-init
loop-at-init c = let a = c.args in
    let e : a.p + a.n - a.p ≡ a.n = omega arith in
    (omega arith, refl, ap (λ (n : ℕ). value_from n 0 a.words.now a.p) e)

pub loop-at-preserved : goal.loop-at-preserved
loop-at-preserved c = let l = c.loop-at in
    let a = c.args in
    let e : a.p + a.n - (l.at + 1) ≡ a.p + a.n - l.at - 1 = omega arith in
    (omega arith, l.invariant.1, rw (c.payload.ensures.value, e) (sym (value_step (a.p + a.n - l.at) l.v a.words.now l.at (omega arith)) ∙ l.invariant.2))

pub returns : goal.returns
returns c = let l = c.loop-at in
    let a = c.args in
    sym (value_none (a.p + a.n - l.at) l.v a.words.now l.at (omega arith)) ∙ l.invariant.2
