use mathlib.Core.Path.{ap, ◌∙◌}
use mathlib.Core.List.{List}
use Prim.Native.Nat.{ℕ}
use Rattle.word.proofs.Results.{next_passed, next_handed_on}
use Rattle.image_format.specs.Read.{check_four, check_groups}
use Rattle.image_checker.proofs.check_four.Goals as goal

pub returns-in_err-at : goal.returns-in_err-at
unfolding check_four
returns-in_err-at c = next_handed_on _ _ _ _ c.from_residual.ensures.1 c.in_err-at.ensures

pub returns : goal.returns
unfolding check_four
returns c = let a = c.args in
    next_passed _ _ _ _ c.in_ok-at.ensures
    (c.check_groups.ensures ∙ ap (λ (m : List ℕ). check_groups m a.words.now c.in_ok-at.at) c.codes_at.ensures.result_value)
