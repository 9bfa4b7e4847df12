use mathlib.Core.Path.{refl, sym}
use Prim.Native.Nat.{ℕ, ◌*◌, ◌<◌}
use native.Mathlib.Omega.{arith}
use borrow.Author.Tests.{eq-eqb, ne_eqb}
use lib.Bits.{bit_xor, and_le_r, xor_lt}
use Rattle.group_union.proofs.Starts.{starts_keep, past_not_kept}
use Rattle.group_union.proofs.may_add.Goals as goal

turned_lt : (m : ℕ) → m < 256 → bit_xor 127 m < 256
turned_lt m h = xor_lt 8 127 m (omega arith) h

pub returns-then-merge-other_merge : goal.returns-then-merge-other_merge
returns-then-merge-other_merge c = λ n h s k. rw (ne_eqb c.args.merge c.args.other_merge c.if-merge-other_merge.true)

pub returns-then-word-other_word : goal.returns-then-word-other_word
returns-then-word-other_word c = λ n h s k.
    let a = c.args in
    rw (← c.if-merge-other_merge.false, eq-eqb a.merge a.merge refl)
    (sym (past_not_kept n a.word a.other_word a.merge h s.1 s.0 k (omega arith)))

pub overflow_cast-starts : goal.overflow_cast-starts
overflow_cast-starts c = omega (arith, turned_lt c.args.merge (omega arith))

pub overflow_mul-starts : goal.overflow_mul-starts
overflow_mul-starts c = omega (arith, turned_lt c.args.merge (omega arith))

pub overflow_mul-starts-2 : goal.overflow_mul-starts-2
overflow_mul-starts-2 c = omega (arith, and_le_r (bit_xor 127 c.args.merge * 4432676798593) 282578800148737)

pub returns : goal.returns
returns c = λ n h s k.
    let a = c.args in
    rw (← c.if-merge-other_merge.false, eq-eqb a.merge a.merge refl)
    (starts_keep n a.word a.other_word a.merge h s.1 s.0 k (omega arith))
