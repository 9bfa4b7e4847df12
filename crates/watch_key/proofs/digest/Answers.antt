use mathlib.Core.Path.{ap₂}
use native.Mathlib.Omega.{arith}
use borrow.Author.Tests.{le-leb, lt-leb}
use lib.Bits.{bit_xor}
use Rattle.watch_key.specs.Digest.{digest_of}
use Rattle.watch_key.proofs.digest.Goals as goal

pub returns-then-size-ge8 : goal.returns-then-size-ge8
unfolding digest_of
returns-then-size-ge8 c = let a = c.args in
    rw (le-leb 8 a.size (omega arith)) (ap₂ bit_xor c.word_at.ensures c.word_at-then-size-ge8.ensures)

pub returns-then-size-ge2 : goal.returns-then-size-ge2
unfolding digest_of
returns-then-size-ge2 c = let a = c.args in
    rw (lt-leb 8 a.size (omega arith), le-leb 2 a.size (omega arith)) (omega (arith, c.from.ensures, c.from_le_bytes.ensures))

pub returns : goal.returns
unfolding digest_of
returns c = let a = c.args in
    rw (lt-leb 8 a.size (omega arith), lt-leb 2 a.size (omega arith)) c.from-2.ensures
