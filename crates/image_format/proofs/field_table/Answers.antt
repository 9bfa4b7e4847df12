use native.Mathlib.Omega.{arith}
use borrow.Author.Rules.{rules}
use Rattle.image_format.proofs.Tables.{fields_more}
use Rattle.image_format.proofs.field_table.Goals as goal

pub loop-c-init : goal.loop-c-init
loop-c-init c = (omega arith, search rules, λ k h. absurd (omega arith))

pub loop-c-preserved : goal.loop-c-preserved
loop-c-preserved c = let l = c.loop-c in
    let d = c.describe in
    (omega arith, omega arith, fields_more l.t d.new.t l.c d.ensures.t_unchanged (rw (c.code_merge.ensures (omega arith)) at d.ensures.described) l.invariant.2)
