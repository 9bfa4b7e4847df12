use mathlib.Core.Path.{◌≡◌, ◌∙◌}
use Prim.Native.Nat.{ℕ, ◌+◌, ◌-◌, ◌<◌, ◌≤◌}
use native.Mathlib.Nat.{add-zero}
use native.Mathlib.Omega.{arith}
use lib.Bits.{bit_or}
use lib.ListN.{length, get_or, take, drop, length-take, length-drop}
use lib.Seq.{get_or-take, get_or-drop}
use borrow.Author.Tests.{eqb-true}
use Rattle.geometry.proofs.Bits.{or_none}
use Rattle.image_size.proofs.clear.Goals as goal

pub returns-in-len4-up : goal.returns-in-len4-up
returns-in-len4-up c = λ e.
    let row = c.args.row.now in
    let at = c.args.at in
    let four = take (length row - at) (drop at row) in
    let long : at + 4 ≤ length row = omega (arith, c.in-len4-up.len_at_least, length-take (length row - at) (drop at row), length-drop at row) in
    let same : (k : ℕ) → k < 4 → get_or four k 0 ≡ get_or row (at + k) 0 = λ k h. get_or-take (length row - at) (drop at row) k 0 (omega arith) ∙ get_or-drop at row k 0 in
    let first : get_or four 0 0 ≡ get_or row at 0 = rw (add-zero at) at (same 0 (omega arith)) in
    let x = get_or four 0 0 in
    let y = get_or four 1 0 in
    let z = get_or four 2 0 in
    let u = get_or four 3 0 in
    let t = or_none (bit_or (bit_or x y) z) u (eqb-true (bit_or (bit_or (bit_or x y) z) u) 0 e) in
    let s = or_none (bit_or x y) z t.0 in
    let r = or_none x y s.0 in
    (long, omega (arith, t.1, s.1, r.0, r.1, first, same 1 (omega arith), same 2 (omega arith), same 3 (omega arith)))
