use mathlib.Core.Path.{◌≡◌, sym, ap, ◌∙◌}
use mathlib.Core.List.{[]}
use Prim.Native.Nat.{ℕ, ◌+◌}
use native.Mathlib.Nat.{add-zero}
use native.Mathlib.Omega.{arith}
use Rattle.hash.specs.Hash.{fnv_step, row_hash}
use Rattle.hash.proofs.Hashing.{run_turn, run_end}
use Rattle.meter_keys.proofs.Lanes.{lane_hash, in_four}
use Rattle.meter_keys.proofs.four_hashes.Goals as goal

pub loop-byte-preserved : goal.loop-byte-preserved
loop-byte-preserved c = let l = c.loop-byte in
    let s = c.args.key.now in (
      run_turn s l.byte-index l.a.state _ l.invariant.0 _ (omega arith) c.step-a-in-loop-byte.ensures,
      run_turn s l.byte-index l.b.state _ l.invariant.1 _ (omega arith) c.step-b-in-loop-byte.ensures,
      run_turn s l.byte-index l.c.state _ l.invariant.2 _ (omega arith) c.step-c-in-loop-byte.ensures,
      run_turn s l.byte-index l.d.state _ l.invariant.3 _ (omega arith) c.step-d-in-loop-byte.ensures,
    )

pub returns : goal.returns
returns c = let l = c.loop-byte in
    let s = c.args.key.now in
    let state = c.args.start.state in
    let first = c.args.first in
    in_four (λ (r : ℕ) (h : ℕ). h ≡ row_hash state (first + r) s) _ _ _ _ []
    (lane_hash state s (first + 0) (run_end s l.byte-index l.a.state _ l.invariant.0 (omega arith)) (c.step-a.ensures ∙ ap (fnv_step state) (sym (add-zero first))))
    (lane_hash state s (first + 1) (run_end s l.byte-index l.b.state _ l.invariant.1 (omega arith)) c.step-b.ensures)
    (lane_hash state s (first + 2) (run_end s l.byte-index l.c.state _ l.invariant.2 (omega arith)) c.step-c.ensures)
    (lane_hash state s (first + 3) (run_end s l.byte-index l.d.state _ l.invariant.3 (omega arith)) c.step-d.ensures)
