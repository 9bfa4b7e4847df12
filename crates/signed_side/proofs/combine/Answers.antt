use Rattle.std.proofs.Common.{◌≡◌, length, sym, refl, ap, ◌∙◌, true≢false, rules}
use Rattle.signed_side.proofs.Groups.{side_combined}
use Rattle.signed_side.proofs.combine.Goals as goal

pub returns-then-s-ge128 : goal.returns-then-s-ge128
returns-then-s-ge128 c = record { counts_len = c.requires.fact_1; counts_unchanged = λ e. refl; combined = λ e. absurd (true≢false (sym e)) }

pub returns : goal.returns
returns c = let p = c.put in
    let long : length c.sums_of-s.result.bytes ≡ 64 = search rules in record {
      counts_len = ap length p.ensures ∙ long;
      counts_unchanged = λ e. absurd (true≢false e);
      combined = λ e.
          rw p.ensures
          (side_combined 8 c.args.counts.now c.args.source.now c.requires.fact_1 c.requires.fact_2
          (search rules) (λ i. (c.type_inv.source i).fits)
          c.args.minus c.sums_of-s.result.bytes long (c.sums_of-s.ensures c.if-s-ge128.false));
    }
