use mathlib.Core.Path.{ap, ◌∙◌}
use Prim.Native.Nat.{ℕ}
use Rattle.group_codes.specs.Pack.{unpacked}
use Rattle.group_codes.specs.Codes.{merges_of}
use Rattle.group_codes.proofs.Packing.{codes_are}
use Rattle.image_format.specs.Read.{merges_at}
use Rattle.image_layouts.proofs.codes_at.Goals as goal

pub returns : goal.returns
unfolding merges_at
returns c = record { result_value = ap merges_of c.codes_of.ensures.value ∙ codes_are c.payload.result ∙ ap (λ (x : ℕ). (unpacked x).merges) c.payload.ensures.value; all_codes = c.codes_of.ensures.all_codes }
