use mathlib.Core.Path.{◌≡◌, sym, ◌∙◌}
use Prim.Native.Nat.{◌+◌, ◌-◌, ◌*◌}
use native.Mathlib.Omega.{arith}
use Rattle.watch_list.proofs.Places.{in_use_most}
use Rattle.watch_find.proofs.Scanning.{skip}
use Rattle.watch_find.proofs.eights.Goals as goal

pub loop-turn-init : goal.loop-turn-init
loop-turn-init c = let a = c.args in
    let h = c.requires.fact_1 in
    let e : a.n - 0 ≡ a.n = omega arith in (
      omega arith,
      omega (arith, h.entries, in_use_most a.list.now h.long),
      record { long = h.long; is_sound = h.is_sound; key_long = c.requires.fact_2; is_digest = c.digest-sought.ensures },
      rw e (omega arith),
    )

pub loop-turn-preserved : goal.loop-turn-preserved
loop-turn-preserved c = let l = c.loop-turn in
    let a = c.args in
    let next : 8 * (l.turn + 1) ≡ 8 * l.turn + 8 = omega arith in (
      omega arith,
      l.invariant.1,
      l.invariant.2,
      rw next (sym (skip a.key.now a.list.now a.n (8 * l.turn) 8 (omega arith) (c.eight_differ.ensures c.if-not-eight_differ.false)) ∙ l.invariant.3),
    )
