use mathlib.Core.Path.{◌≡◌, sym, ap, ◌∙◌}
use Prim.Native.Nat.{ℕ, ◌<◌}
use native.Mathlib.Omega.{arith}
use borrow.Author.Tests.{ltb-true, ltb-false}
use Rattle.little_endian.specs.Bytes as bytes
use Rattle.answer.specs.Refusals.{number, status}
use Rattle.std.proofs.lemmas.Result.{err_from_is_err_and}
use Rattle.signed_group.proofs.Results.{status_refused}
use Rattle.group_block.specs.Block.{cap}
use Rattle.signed_words.specs.Words.{sum_fits}
use Rattle.signed_group.specs.Group.{bad_pair, decode}
use Rattle.signed_group.proofs.Laws.{status_fits, status_full}
use Rattle.signed_group.proofs.combine_status.Goals as goal
use Rattle.signed_group.proofs.combine_status.Goals.{After-sum_fits}

module _ (f : After-sum_fits) where
  good : bad_pair f.args.target f.args.source ≡ 0
  unfolding status
  good = sym f.in_ok-bad_pair.ensures

  word_in : bytes.number f.args.target.counts < cap 3
  unfolding cap
  word_in = rw (← f.number_of-word.ensures) (omega arith)

  source_in : bytes.number f.args.source.counts < cap 3
  unfolding cap
  source_in = rw (← f.number_of-source_word.ensures) (omega arith)

  -- the test of the numbers is the one of the groups
  tested : sum_fits f.args.minus (bytes.number f.args.target.counts) f.args.target.merge (bytes.number f.args.source.counts) f.args.source.merge
      ≡ f.sum_fits.result
  tested =
      ap (λ (w : ℕ). sum_fits f.args.minus w f.args.target.merge (bytes.number f.args.source.counts) f.args.source.merge) (sym f.number_of-word.ensures)
      ∙ ap (λ (w : ℕ). sum_fits f.args.minus f.number_of-word.result f.args.target.merge w f.args.source.merge) (sym f.number_of-source_word.ensures)
      ∙ sym f.sum_fits.ensures

pub returns-in_err-bad_pair : goal.returns-in_err-bad_pair
unfolding status
returns-in_err-bad_pair c = let a = c.args in
    let p = err_from_is_err_and c.from_residual.result c.from_residual.ensures.1 in
    rw (p.1, p.2) (status_refused a.minus a.target a.source c.in_err-bad_pair.field-0.0 c.in_err-bad_pair.ensures)

pub returns-then-sum_fits : goal.returns-then-sum_fits
unfolding decode status
returns-then-sum_fits c = let a = c.args in
    sym (status_fits a.minus a.target a.source (word_in (goal.at.returns-then-sum_fits c).After-sum_fits) (source_in (goal.at.returns-then-sum_fits c).After-sum_fits) (good (goal.at.returns-then-sum_fits c).After-sum_fits) (ltb-true _ _ (tested (goal.at.returns-then-sum_fits c).After-sum_fits ∙ c.if-sum_fits.true)))

pub returns : goal.returns
unfolding decode status number
returns c = let a = c.args in
    sym (status_full a.minus a.target a.source (word_in (goal.at.returns c).After-sum_fits) (source_in (goal.at.returns c).After-sum_fits) (good (goal.at.returns c).After-sum_fits) (ltb-false _ _ (tested (goal.at.returns c).After-sum_fits ∙ c.if-sum_fits.false)))
