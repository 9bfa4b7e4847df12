use mathlib.Core.Path.{sym, ap, ◌∙◌}
use Prim.Native.Nat.{ℕ}
use Rattle.group_codes.specs.Pack.{code_merge}
use Rattle.group_codes.proofs.Packing.{merge_none}
use Rattle.image_layouts.proofs.merge_of.Goals as goal

pub returns-then-c-eq0 : goal.returns-then-c-eq0
returns-then-c-eq0 c = sym (ap (λ (x : ℕ). code_merge x) c.if-c-eq0.true ∙ merge_none)
