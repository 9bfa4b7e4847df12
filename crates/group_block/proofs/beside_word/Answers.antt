use mathlib.Core.Path.{◌≡◌, ap, ◌∙◌}
use Prim.Native.Nat.{ℕ, ◌+◌, ◌*◌, ◌^◌}
use Rattle.group_block.specs.Block.{cap}
use native.Mathlib.Omega.{arith}
use lib.Pow.{shl_exact}
use lib.Bits.{or_shifted}
use Rattle.group_block.proofs.Laws.{cap_below}
use Rattle.group_block.proofs.beside_word.Goals as goal

pub returns : goal.returns
unfolding cap
returns c = let a = c.args in
    let p = c.requires in
    let e : 2 ^ (8 * c.slots.result) ≡ cap a.half = ap (λ (k : ℕ). 2 ^ (8 * k)) c.slots.ensures.value in
    rw (shl_exact {a = a.right} 32 (8 * c.slots.result) 64 (omega (arith, cap_below a.half p.fact_1)) (omega arith))
    (or_shifted a.right (8 * c.slots.result) a.left (rw e p.fact_2) ∙ ap (λ (k : ℕ). a.right * k + a.left) e)
