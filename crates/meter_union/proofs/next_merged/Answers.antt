use mathlib.Core.Path.{◌≡◌, refl, sym, ◌∙◌}
use mathlib.Core.Bool.{true, false, true≢false}
use Prim.Native.Nat.{◌/◌}
use native.Mathlib.Omega.{arith}
use Rattle.geometry.proofs.Widths.{stride_is}
use Rattle.meter_union.proofs.Runs.{next_turn, next_end}
use Rattle.meter_union.proofs.next_merged.Goals as goal

pub loop-e-init : goal.loop-e-init
loop-e-init c = (omega arith, refl, refl)

pub eight_unmerged-requires : goal.eight_unmerged-requires
eight_unmerged-requires c = let w = c.args.w in
    (omega arith, omega (arith, stride_is w), omega (arith, stride_is w))

pub returns-then-not-eight_unmerged : goal.returns-then-not-eight_unmerged
returns-then-not-eight_unmerged c = let a = c.args in
    let l = c.loop-e in
    let merged = sym c.eight_unmerged.ensures ∙ c.if-not-eight_unmerged.true in
    record { some = (c.loop-e-test.true, sym (next_turn a.w a.row.now a.source.now (a.w / 64) l.e false (omega arith) merged) ∙ l.invariant.2); none = λ n. absurd (true≢false n) }

pub loop-e-preserved : goal.loop-e-preserved
loop-e-preserved c = let a = c.args in
    let l = c.loop-e in
    let none = sym c.eight_unmerged.ensures ∙ c.if-not-eight_unmerged.false in
    (omega arith, refl, sym (next_turn a.w a.row.now a.source.now (a.w / 64) l.e true (omega arith) none) ∙ l.invariant.2)

pub returns : goal.returns
returns c = let a = c.args in
    let l = c.loop-e in
    let end : a.w / 64 ≡ l.e = omega arith in
    record { some = tt; none = λ _. end ∙ sym (next_end a.w a.row.now a.source.now (a.w / 64) l.e (omega arith)) ∙ l.invariant.2 }
