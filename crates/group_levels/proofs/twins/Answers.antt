use mathlib.Core.Path.{◌≡◌}
use Prim.Native.Nat.{◌+◌, ◌^◌}
use native.Mathlib.Omega.{arith}
use borrow.Author.Tests.{eq-eqb, ne_eqb}
use Rattle.group_layout.specs.Layout.{layout, level_of}
use Rattle.laws.proofs.Shifts.{one_shl}
use Rattle.group_levels.proofs.twins.Goals as goal

pub returns-then-level_at-level : goal.returns-then-level_at-level
returns-then-level_at-level c = let l = c.level_at in rw (← l.ensures.value, ne_eqb l.result c.args.level c.if-level_at-level.true)

pub returns : goal.returns
returns c = let l = c.level_at in
    let a = c.args in
    let second : c.level_at-2.result ≡ level_of (layout 3 a.merge) (a.first + 2 ^ a.level) = rw (one_shl 64 a.level (omega arith)) at c.level_at-2.ensures.value in
    rw (← l.ensures.value, eq-eqb l.result a.level c.if-level_at-level.false, ← second)
