use mathlib.Core.Path.{◌≡◌, sym, ap, ◌∙◌}
use mathlib.Core.Bool.{true}
use Rattle.group_layout.specs.Layout.{layout, valid}
use Rattle.group_block.specs.Block.{all_clean}
use Rattle.signed_block.specs.Signed.{signed}
use Rattle.little_endian.specs.Bytes as bytes
use Rattle.answer.specs.Refusals.{number, status}
use Rattle.signed_group.proofs.Laws.{bad_invalid, bad_minus_zero, clean_good}
use Rattle.signed_group.proofs.bad_group.Goals as goal
use Rattle.signed_group.proofs.bad_group.Goals.{After-no_minus_zero, Else-not-is_valid}

is_sane : (c : Else-not-is_valid) → valid 3 c.args.g.merge ≡ true
is_sane c = sym c.is_valid.ensures ∙ c.if-not-is_valid.false

-- the test of the number is the one of the count bytes
tested : (c : After-no_minus_zero) → let g = c.args.g in
    all_clean signed (layout 3 g.merge) (bytes.number g.counts) ≡ c.no_minus_zero.result
tested c = let g = c.args.g in
    ap (all_clean signed (layout 3 g.merge)) (sym c.number_of.ensures) ∙ sym c.no_minus_zero.ensures

pub returns-then-not-is_valid : goal.returns-then-not-is_valid
unfolding status number
returns-then-not-is_valid c = sym (bad_invalid c.args.g (sym c.is_valid.ensures ∙ c.if-not-is_valid.true))

pub no_minus_zero-requires : goal.no_minus_zero-requires
no_minus_zero-requires c = is_sane (goal.at.no_minus_zero-requires c).Else-not-is_valid

pub returns-then-not-no_minus_zero : goal.returns-then-not-no_minus_zero
unfolding status number
returns-then-not-no_minus_zero c = sym (bad_minus_zero c.args.g (is_sane (goal.at.returns-then-not-no_minus_zero c).Else-not-is_valid) (tested (goal.at.returns-then-not-no_minus_zero c).After-no_minus_zero ∙ c.if-not-no_minus_zero.true))

pub returns : goal.returns
unfolding status
returns c = sym
    (clean_good c.args.g
    (record { merges = is_sane (goal.at.returns c).Else-not-is_valid; counters = tested (goal.at.returns c).After-no_minus_zero ∙ c.if-not-no_minus_zero.false }))
