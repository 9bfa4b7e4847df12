use mathlib.Core.Path.{sym, ap, ◌∙◌}
use Prim.Native.Nat.{◌*◌}
use Rattle.group.specs.Results.{Outcome}
use Rattle.meter_memory.proofs.Lists.{lent}
use Rattle.meter_runs.proofs.Runs.{side_back}
use Rattle.signed_group.specs.Group.{combined}
use Rattle.signed_row.proofs.combine_side.Goals as goal

pub returns : goal.returns
returns c = let u = c.combine in
    let a = c.args in
    let none = sym c.eight_unmerged.ensures ∙ c.if-not-eight_unmerged.false in
    let lent_row = lent (8 * a.first) 64 a.row.now in
    let lent-source = lent (8 * a.first) 64 a.source.now in
    let same = rw lent_row at u.ensures.counts_unchanged in
    let sums = rw (lent_row, lent-source) at u.ensures.combined in
    side_back (combined a.minus) a.w a.source.now 8 a.first a.row.now none c.requires u.result u.new.counts same
    (λ r. (u.ensures.counts_len, λ i h. ap (λ (o : Outcome). o.group) (sums r i h)))
