use mathlib.Core.Path.{◌≡◌}
use Prim.Native.Nat.{◌+◌, ◌≤◌}
use native.Mathlib.Omega.{arith}
use lib.ListN.{length, length-set}
use lib.Seq.{take-set-le}
use Rattle.image_format.specs.Fields.{part_fields}
use Rattle.image_format.proofs.Fields.{told_more, parts_size}
use Rattle.image_format.proofs.describe_parts.Goals as goal

pub loop-left-preserved : goal.loop-left-preserved
loop-left-preserved c = let l = c.loop-left in
    let a = c.args in
    let g : a.at ≤ a.at + 1 + l.j = omega arith in
    let h : a.at ≤ a.at + 9 + l.j = omega arith in (
      omega arith,
      simp length-set l.invariant.1,
      omega arith,
      rw (take-set-le, take-set-le) l.invariant.3,
      λ fs rest e o.
          let p = l.invariant.4 fs rest e o in
          told_more fs l.t a.at l.j (omega arith) (omega arith) rest l.left a.place l.b (omega arith) p.0 p.1,
    )

pub returns-clause-told_more : goal.returns-clause-told_more
returns-clause-told_more c = let l = c.loop-left in
    let a = c.args in
    let s : l.j ≡ a.i + length (part_fields a.n a.place a.bits) = omega (arith, parts_size a.n a.place a.bits) in
    λ fs rest f o. rw s at (l.invariant.4 fs rest f o).1
