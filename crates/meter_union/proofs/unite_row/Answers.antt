use mathlib.Core.Path.{◌≡◌, refl, ap, ◌∙◌}
use Prim.Native.Nat.{ℕ, ◌+◌, ◌-◌, ◌*◌, ◌/◌, ◌%◌}
use native.Mathlib.Omega.{arith}
use Rattle.meter_memory.specs.Pairs.{pair_row}
use Rattle.meter_union.specs.Union.{unite_groups}
use Rattle.group.specs.Group.{united_groups}
use Rattle.meter_memory.proofs.Pairs.{pair_run}
use Rattle.geometry.proofs.Widths.{stride_is}
use Rattle.meter_union.proofs.unite_row.Goals as goal

pub loop-e-init : goal.loop-e-init
unfolding pair_row
loop-e-init c = let a = c.args in
    (omega arith, refl, ap (λ (k : ℕ). unite_groups a.w a.source.now k 0 a.row.now) (omega arith), refl)

pub unite_eight-requires : goal.unite_eight-requires
unite_eight-requires c = let a = c.args in
    (omega arith, omega (arith, stride_is a.w), omega (arith, stride_is a.w))

pub loop-e-preserved : goal.loop-e-preserved
loop-e-preserved c = let a = c.args in
    let l = c.loop-e in
    let e : 8 * (l.e + 1) ≡ 8 * l.e + 8 = omega arith in (
      omega arith,
      refl,
      rw (c.unite_eight.ensures, e) (pair_run united_groups a.w a.source.now 8 l.row (a.w / 8) (8 * l.e) (omega arith) ∙ l.invariant.2),
      omega arith,
    )

pub unite_groups-requires : goal.unite_groups-requires
unite_groups-requires c = let a = c.args in
    (omega arith, omega (arith, stride_is a.w), omega (arith, stride_is a.w))

pub returns : goal.returns
returns c = let a = c.args in
    let l = c.loop-e in
    let first : a.w / 64 * 8 ≡ 8 * l.e = omega arith in
    let n : a.w / 8 % 8 ≡ a.w / 8 - 8 * l.e = omega arith in
    c.unite_groups.ensures ∙ rw (first, n) l.invariant.2
