use mathlib.Core.Path.{ap₂, ◌∙◌}
use Prim.Native.Nat.{ℕ, ◌+◌, ◌*◌}
use lib.Dec.{eqb}
use Rattle.answer.specs.Numbers.{other_meter}
use Rattle.answer.specs.Refusals.{number}
use Rattle.word.specs.Word.{tested, head_kind}
use Rattle.word.proofs.Results.{next_passed, next_handed_on}
use Rattle.image_format.specs.Read.{check_head}
use Rattle.image_format.specs.Image.{head_payload}
use Rattle.image_checker.proofs.check_head.Goals as goal

pub returns-in_err-below : goal.returns-in_err-below
unfolding check_head
returns-in_err-below c = next_handed_on _ _ _ _ c.from_residual.ensures.1 c.in_err-below.ensures

pub returns : goal.returns
unfolding check_head head_payload number
returns c = let a = c.args in
    next_passed _ _ _ _ c.in_ok-below.ensures
    (c.tested.ensures ∙ ap₂ (λ (x y : ℕ). tested a.words.now 0 head_kind (eqb x (y * 16 + a.d)) other_meter) c.payload.ensures.value c.log_width.ensures.value)
