use Prim.Native.Nat.{◌*◌, ◌^◌, ◌<◌}
use native.Mathlib.Omega.{arith}
use native.Mathlib.Nat.{mod-eq_of_lt}
use lib.Bits.{or_shifted}
use Rattle.word.specs.Kinds.{code}
use Rattle.word.specs.declared.Kind.{Kind}
use Rattle.word.specs.declared.Kind.TheVariants.{Head, Layout, Count, End, Update, Query, Key, Amount}
use Rattle.image_format.specs.Image.{word}
use Rattle.image_format.proofs.word.Goals as goal

code_small : (kind : Kind) → code kind < 2 ^ 4
code_small Head = omega arith
code_small Layout = omega arith
code_small Count = omega arith
code_small End = omega arith
code_small Update = omega arith
code_small Query = omega arith
code_small Key = omega arith
code_small Amount = omega arith

pub returns : goal.returns
unfolding word
returns c = let a = c.args in
    let h = code_small a.kind in
    rw (c.code.ensures, mod-eq_of_lt {n = code a.kind * 2 ^ 28} {m = 2 ^ 32} (omega (arith, h))) (or_shifted (code a.kind) 28 a.payload (omega arith))
