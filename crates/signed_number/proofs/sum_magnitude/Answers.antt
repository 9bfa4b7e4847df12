use Rattle.std.proofs.Common.{◌∙◌, sym}
use Rattle.signed_number.proofs.Raised.{sub_size}
use Rattle.signed_number.proofs.sum_magnitude.Goals as goal

pub returns-then-a-b : goal.returns-then-a-b
returns-then-a-b c = rw c.if-a-b.true

pub returns : goal.returns
returns c = let a = c.args in rw c.if-a-b.false (c.abs_diff-apart.ensures ∙ sym (sub_size a.a.magnitude a.b.magnitude))
