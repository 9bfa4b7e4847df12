use mathlib.Core.Path.{sym, ap, ◌∙◌}
use Prim.Native.Nat.{◌+◌}
use Rattle.group_side.specs.Side.{any_merged}
use Rattle.meter_memory.proofs.Lists.{lent}
use Rattle.meter_runs.specs.Runs.{none_merged}
use Rattle.meter_runs.proofs.none_merged.Goals as goal

pub returns-then-not-any_merged : goal.returns-then-not-any_merged
unfolding none_merged
returns-then-not-any_merged c = let a = c.args in
    let m = ap any_merged (sym (lent (a.w + a.first) a.n a.row.now)) ∙ sym c.any_merged.ensures ∙ c.if-not-any_merged.true in
    let o = ap any_merged (sym (lent (a.w + a.first) a.n a.source.now)) ∙ sym c.any_merged-then-not-any_merged.ensures in
    rw (m, o)

pub returns-else-not-any_merged : goal.returns-else-not-any_merged
unfolding none_merged
returns-else-not-any_merged c = let a = c.args in
    let m = ap any_merged (sym (lent (a.w + a.first) a.n a.row.now)) ∙ sym c.any_merged.ensures ∙ c.if-not-any_merged.false in
    rw (m, c.if-not-any_merged.false)
