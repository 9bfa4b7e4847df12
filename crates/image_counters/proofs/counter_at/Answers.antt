use mathlib.Core.Path.{sym}
use Rattle.group.proofs.Results.{read_ok, read_err}
use Rattle.image_counters.proofs.counter_at.Goals as goal

pub returns-in-Ok : goal.returns-in-Ok
returns-in-Ok c = let r = read_ok c.args.g c.args.k c.in-Ok.c c.in-Ok.ensures in
    (r.value, r.level)

pub returns-in-Err : goal.returns-in-Err
returns-in-Err c = let r = read_err c.args.g c.args.k c.in-Err.field-0 c.in-Err.ensures in
    (sym r.value, sym r.level)
