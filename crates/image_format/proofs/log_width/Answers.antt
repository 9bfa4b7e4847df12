use native.Mathlib.Omega.{arith}
use Rattle.image_format.proofs.Laws.{rounded_log, no_log, zero_log}
use Rattle.image_format.proofs.log_width.Goals as goal

pub returns-in-Some-clause-value : goal.returns-in-Some-clause-value
returns-in-Some-clause-value c = rounded_log c.in-Some.k c.args.w c.if-k-le-LARGEST_LOG.true c.if-k-w.true

pub returns-in_default-clause-value : goal.returns-in_default-clause-value
returns-in_default-clause-value c = let e = c.in-Some.ensures in
    no_log c.in-Some.k c.args.w e.power_le e.next_power_gt (λ h f. c.if-k-w.false f)

pub returns-in_default-2-clause-value : goal.returns-in_default-2-clause-value
returns-in_default-2-clause-value c = let e = c.in-Some.ensures in
    no_log c.in-Some.k c.args.w e.power_le e.next_power_gt (λ h f. absurd (omega arith))

pub returns-in_default-3-clause-value : goal.returns-in_default-3-clause-value
returns-in_default-3-clause-value c = zero_log c.args.w c.in_default.ensures.none
