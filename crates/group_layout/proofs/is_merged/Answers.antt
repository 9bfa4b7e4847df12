use Prim.Native.Nat.{ℕ}
use mathlib.Core.Path.{sym, ap, ◌∙◌}
use native.Mathlib.Omega.{arith}
use Rattle.group_layout.specs.Layout.{layout}
use Rattle.group_layout.specs.Merged.{is_merged}
use Rattle.group_layout.proofs.Laws.{own_bit_lem}
use Rattle.group_layout.proofs.is_merged.Goals as goal

pub returns-then-level-eq0 : goal.returns-then-level-eq0
unfolding is_merged layout
returns-then-level-eq0 c = sym (ap (λ (n : ℕ). is_merged (layout n c.args.merge)) c.if-level-eq0.true)

pub returns : goal.returns
returns c = c.own_bit.ensures ∙ sym (own_bit_lem c.args.level c.args.merge (omega arith))
