use mathlib.Core.Path.{◌∙◌}
use native.Mathlib.Omega.{arith}
use lib.ListN.{get_or, set, length-set}
use lib.Seq.{get_or-set_same, get_or-set_other}
use Rattle.image_format.proofs.Tables.{entries_more}
use Rattle.image_format.proofs.table.Goals as goal

pub loop-k-preserved : goal.loop-k-preserved
loop-k-preserved g c = let l = c.loop-k in
    let x = c.entry.result in
    (omega arith, length-set l.t l.k x ∙ l.invariant.1, entries_more (λ i t. goal.F-post g c.args.entry i (get_or t i 0)) l.t (set l.t l.k x) l.k (λ i h p. rw (get_or-set_other l.t l.k i x 0 (λ e. omega arith)) p) (rw (get_or-set_same l.t l.k x 0 (omega arith)) c.entry.ensures) l.invariant.2)
