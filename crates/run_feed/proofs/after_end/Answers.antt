use mathlib.Core.Path.{◌≡◌, ap, ◌∙◌}
use mathlib.Core.List.{List, ◌++◌}
use Prim.Native.Nat.{ℕ}
use native.Mathlib.Omega.{arith}
use lib.ListN.{length, take}
use Rattle.run_feed.proofs.Runs.{ended_failed, ended_none, ended_more}
use borrow.Author.Rules.{rules}
use Rattle.run_feed.proofs.after_end.Goals as goal

pub returns-then-o : goal.returns-then-o
returns-then-o c = let a = c.args in
    let p = c.receive-a in record { at_in_bounds_2 = omega (arith, p.ensures.cleared.space); printed = ended_failed a.s a.input.now a.output.now p.result p.new.input p.ensures c.if-o.true }

pub returns-then-a : goal.returns-then-a
returns-then-a c = let a = c.args in
    let p = c.receive-a in record { at_in_bounds_2 = omega (arith, p.ensures.cleared.space); printed = ended_none a.s a.input.now a.output.now p.result p.new.input p.ensures c.if-o.false c.if-a.true }

pub append-at-requires : goal.append-at-requires
append-at-requires c = let p = c.receive-a in record { fact_1 = omega (arith, p.ensures.cleared.space, c.text_of.ensures.length_bound); fact_2 = c.text_of.ensures.length_bound }

pub returns : goal.returns
returns c = let a = c.args in
    let p = c.receive-a in
    let t = c.text_of in
    let o = c.append-at in
    let long : length o.new.out ≡ length a.output.now = search rules in
    let space = c.receive-a.ensures.cleared.space in
    let put = c.append-at.ensures.out_after in record {
      at_in_bounds_2 = omega (arith, o.ensures.value, long, space, t.ensures.length_bound);
      printed = ended_more a.s a.input.now a.output.now p.result p.new.input p.ensures o.result o.new.out c.if-a.false
          (put ∙ ap (λ (x : List ℕ). take p.result.output.at a.output.now ++ x) t.ensures.result_value);
    }
