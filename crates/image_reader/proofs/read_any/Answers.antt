use mathlib.Core.Path.{◌≡◌, sym, ap, ◌∙◌}
use Prim.Native.Nat.{ℕ, ◌+◌, ◌*◌}
use native.Mathlib.Omega.{arith}
use lib.ListN.{get_or}
use Rattle.image_format.specs.Write.{group_size}
use Rattle.image_format.proofs.Fields.{size_most}
use Rattle.image_reader.proofs.read_any.Goals as goal
use Rattle.image_reader.proofs.read_any.Goals.{Then-c-fields}

-- the size that the description says
size_is : (c : Then-c-fields) → get_or c.args.fields.now (17 * c.args.c) 0 ≡ group_size c.args.merge
size_is c = (c.requires.fact_4 c.args.c c.if-c-fields.true).0 ∙ ap group_size (sym c.requires.fact_2)

pub overflow_cast-result : goal.overflow_cast-result
overflow_cast-result c = omega (arith, size_is (goal.at.overflow_cast-result c).Then-c-fields, size_most c.args.merge)

pub overflow_add-result : goal.overflow_add-result
overflow_add-result c = omega (arith, size_is (goal.at.overflow_add-result c).Then-c-fields, size_most c.args.merge)

pub returns-then-c-fields : goal.returns-then-c-fields
returns-then-c-fields c = let n = size_is (goal.at.returns-then-c-fields c).Then-c-fields in record { group_value = rw (c.counts-counts.ensures, c.requires.fact_2) c.read_fields.ensures; position_value = ap (λ (x : ℕ). c.args.p + x) n; position_bound = omega (arith, n, size_most c.args.merge) }
