use mathlib.Core.Path.{sym}
use native.Mathlib.Omega.{arith}
use Rattle.geometry.proofs.Widths.{wide, stride_is}
use Rattle.geometry.proofs.stride.Goals as goal

pub overflow_add-result : goal.overflow_add-result
overflow_add-result c = let f = wide c.args.w c.requires in omega arith

pub returns : goal.returns
returns c = sym (stride_is c.args.w)
