use mathlib.Core.Path.{sym, ◌∙◌}
use mathlib.Core.Bool.{true≢false}
use Prim.Native.Nat.{◌*◌}
use Rattle.meter_memory.proofs.Lists.{lent}
use Rattle.meter_runs.proofs.Runs.{status-none}
use Rattle.signed_group.specs.Group.{combined}
use Rattle.signed_row.proofs.clean_eight.Goals as goal

pub returns-then-not-eight_unmerged : goal.returns-then-not-eight_unmerged
returns-then-not-eight_unmerged c = λ e. absurd (true≢false (sym e))

pub returns : goal.returns
returns c = let a = c.args in
    let none = sym c.eight_unmerged.ensures ∙ c.if-not-eight_unmerged.false in
    let accepted = rw (lent (8 * a.first) 64 a.row.now, lent (8 * a.first) 64 a.source.now) at c.clean.ensures in
    λ r minus. status-none (combined minus) a.w a.source.now 8 a.first a.row.now none (accepted r minus)
