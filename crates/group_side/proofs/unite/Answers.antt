use Rattle.std.proofs.Common.{◌≡◌, sym, ◌∙◌}
use Rattle.laws.proofs.Lists.{Bytes}
use Rattle.group_side.specs.Side.{fit, wrapped_sums, stay_unmerged}
use Rattle.group_side.proofs.Bytes.{wrapped_fit, sums_some, sums_none}
use Rattle.group_side.proofs.Unions.{sums_side}
use Rattle.group_side.proofs.Exact.{fit_side}
use Rattle.group_side.proofs.unite.Goals as goal
use Rattle.group_side.proofs.unite.Goals.{After-sums_of}

-- the test of the sums, by what the unions are
fit_is : (c : After-sums_of) → let a = c.args in fit a.counts.now a.source.now ≡ stay_unmerged 8 a.counts.now a.source.now
fit_is c = let b : Bytes c.args.counts.now = λ i. (c.slice_known-1.given i).fits in
    let d : Bytes c.args.source.now = λ i. (c.shared_slice_known-1.given i).fits in
    fit_side 8 c.args.counts.now c.args.source.now c.requires.fact_1 c.requires.fact_2 b d

pub returns-in_default-clause-value : goal.returns-in_default-clause-value
returns-in_default-clause-value c = let a = c.args in
    sym (sums_none (fit a.counts.now a.source.now) (wrapped_sums a.counts.now a.source.now) (sym c.in_default.is ∙ c.sums_of.ensures))
    ∙ fit_is (goal.at.returns-in_default-clause-value c).After-sums_of

pub returns : goal.returns
returns c = let a = c.args in
    let s = sums_some (fit a.counts.now a.source.now) (wrapped_sums a.counts.now a.source.now) c.in-Some.bytes (sym c.in-Some.is ∙ c.sums_of.ensures) in record {
      value = sym s.0 ∙ fit_is (goal.at.returns c).After-sums_of;
      counts_after = c.put.ensures ∙ s.1 ∙ wrapped_fit a.counts.now a.source.now s.0 ∙ sums_side 8 a.counts.now a.source.now c.requires.fact_1 c.requires.fact_2 s.0;
    }
