use mathlib.Core.Path.{◌≡◌, sym}
use native.Mathlib.Omega.{arith}
use Rattle.group.proofs.Results.{read_ok, read_err}
use Rattle.image_format.specs.Image.{level_at}
use Rattle.image_format.proofs.Sizes.{empty, level_at_le}
use Rattle.image_format.proofs.level_at.Goals as goal

pub returns-in-Ok : goal.returns-in-Ok
unfolding level_at
returns-in-Ok c = let m = c.args.merge in
    let k = c.args.k in
    let e : c.in-Ok.c.level ≡ level_at m k = (read_ok (empty m) k c.in-Ok.c c.in-Ok.ensures).level in record { value = e; upper_bound = omega (arith, e, level_at_le m k) }

pub returns-in-Err-clause-value : goal.returns-in-Err-clause-value
unfolding level_at
returns-in-Err-clause-value c = sym (read_err (empty c.args.merge) c.args.k c.in-Err.field-0 c.in-Err.ensures).level
