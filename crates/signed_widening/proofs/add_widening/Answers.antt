use Prim.Native.Nat.{◌≤◌}
use native.Mathlib.Omega.{arith}
use borrow.Author.Tests.{ltb-false}
use lib.IntN.{◌+ℤ◌, nat_abs}
use Rattle.group_block.specs.Block.{counter_value}
use Rattle.signed_number.specs.Number.{integer_of}
use Rattle.signed_block.specs.Signed.{top}
use Rattle.signed_block.specs.Passed.{signed_block}
use Rattle.signed_number.proofs.Integers.{abs_integer}
use Rattle.signed_block.proofs.Counters.{sizes_in}
use Rattle.signed_widening.proofs.add_widening.Goals as goal

pub widened-requires : goal.widened-requires
widened-requires c = let a = c.args in
    let past : top c.level_at-level.result ≤ nat_abs (counter_value (signed_block 3 a.word a.merge) a.slot +ℤ integer_of a.amount) =
    rw c.level_at-level.ensures.value (ltb-false _ _ c.requires.fact_4) in record { fact_1 = c.requires.fact_1; fact_2 = omega arith; fact_3 = c.requires.fact_2; fact_4 = c.requires.fact_3; fact_5 = past }

pub add-requires : goal.add-requires
add-requires c = let a = c.args in
    let p = c.requires.fact_1 in
    record {
      level_bound = omega arith;
      sane = p.0;
      clean = p.1;
      room = rw (abs_integer a.amount.minus a.amount.magnitude) (omega (arith, sizes_in 3 a.word a.merge (omega arith) p.0.0));
    }
