use lib.ListN.{get_or-eq_default, get_or}
use mathlib.Core.Path.{sym, ap}
use Prim.Native.Nat.{ℕ, ◌%◌, ◌^◌}
use native.Mathlib.Omega.{arith}
use Rattle.word.specs.Word.{payload}
use lib.Bits.{and_mask}
use Rattle.word.proofs.payload.Goals as goal

pub returns-then-p-words-clause-value : goal.returns-then-p-words-clause-value
unfolding payload
returns-then-p-words-clause-value c = let e = and_mask (get_or c.args.words.now c.args.p 0) 28 in
    e

pub returns-then-p-words-clause-upper_bound : goal.returns-then-p-words-clause-upper_bound
unfolding payload
returns-then-p-words-clause-upper_bound c = let e = and_mask (get_or c.args.words.now c.args.p 0) 28 in
    rw e (omega arith)

pub returns-clause-value : goal.returns-clause-value
unfolding payload
returns-clause-value c = sym (ap (λ (x : ℕ). x % 2 ^ 28) (get_or-eq_default c.args.words.now 0 c.if-p-words.false))

pub returns-clause-upper_bound : goal.returns-clause-upper_bound
unfolding payload
returns-clause-upper_bound c = omega arith
