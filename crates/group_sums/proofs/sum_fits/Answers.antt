use mathlib.Core.Path.{sym}
use Prim.Native.Nat.{◌+◌, ◌^◌}
use native.Mathlib.Omega.{arith}
use borrow.Author.Tests.{lt-ltb}
use Rattle.group_block.specs.Block.{cap, block, total}
use Rattle.group_sums.proofs.Places.{bit_total, both_clear, room_test}
use Rattle.group_sums.proofs.sum_fits.Goals as goal

pub returns-then-merge-other_merge-eq0 : goal.returns-then-merge-other_merge-eq0
unfolding cap
returns-then-merge-other_merge-eq0 c = let a = c.args in
    let z = both_clear a.merge a.other_merge c.if-merge-other_merge-eq0.true in
    sym
    (lt-ltb (total (block 3 a.word a.merge) + total (block 3 a.other_word a.other_merge)) (2 ^ 64)
    (omega (arith, bit_total a.word a.merge (omega arith) z.0, bit_total a.other_word a.other_merge (omega arith) z.1)))

pub total-room-requires : goal.total-room-requires
unfolding cap
total-room-requires c = (omega arith, omega arith)

pub total-requires : goal.total-requires
unfolding cap
total-requires c = (omega arith, omega arith)

pub returns : goal.returns
returns c = rw (← c.total-room.ensures, ← c.total.ensures) (room_test c.total-room.result c.total.result (omega arith))
