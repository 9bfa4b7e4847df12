use mathlib.Core.Path.{◌≡◌, sym, ◌∙◌}
use mathlib.Core.Bool.{true≢false}
use native.Mathlib.Omega.{arith}
use lib.ListN.{length}
use Rattle.feed_state.proofs.Receiving.{received_kept}
use Rattle.feed_steps.proofs.Runs.{called_for, stepped_first, stepped_next, stepped_all}
use borrow.Author.Rules.{rules}
use Rattle.feed_steps.proofs.receive_one.Goals as goal

pub returns-then-a : goal.returns-then-a
returns-then-a c = let a = c.args in
    let p = c.receive-a in
    let k = received_kept 4 a.s a.input.now a.output.now p.result p.new.input p.ensures in
    let g = stepped_first a.d a.w a.memory.now a.s a.input.now a.output.now p.result p.new.input p.ensures in record { within_2_1 = p.ensures.filled.within; within_2_2 = omega (arith, p.ensures.cleared.space); words_bound_2 = (omega (arith, k.0), omega (arith, k.1), λ e. absurd (true≢false (sym e ∙ (g.ran.failed c.if-a.true).2))); stepped = g }

pub receive-b-requires : goal.receive-b-requires
receive-b-requires c = let a = c.args in
    let p = c.receive-a in
    let long : length p.new.input ≡ length a.input.now = search rules in record { within_1 = p.ensures.filled.within; within_2 = omega (arith, c.needed-n.ensures.upper_bound); within_3 = omega (arith, long, c.requires.within_2); at_in_bounds_1 = omega (arith, p.ensures.cleared.space); at_in_bounds_2 = c.requires.at_in_bounds_2 }

pub returns-then-b : goal.returns-then-b
returns-then-b c = let a = c.args in
    let p = c.receive-a in
    let r = c.receive-b in
    let n = c.needed-n in
    let k = received_kept 4 a.s a.input.now a.output.now p.result p.new.input p.ensures in
    let l = received_kept n.result p.result p.new.input a.output.now r.result r.new.input r.ensures in
    let g = stepped_next a.d a.w a.memory.now a.s a.input.now a.output.now p.result p.new.input p.ensures
    n.result r.result r.new.input r.ensures n.ensures.value c.if-a.false in record { within_2_1 = r.ensures.filled.within; within_2_2 = omega (arith, r.ensures.cleared.space); words_bound_2 = (omega (arith, k.0, l.0), omega (arith, k.1, l.1), λ e. absurd (true≢false (sym e ∙ (g.ran.failed c.if-b.true).2))); stepped = g }

pub carry_out-requires : goal.carry_out-requires
carry_out-requires c = let a = c.args in
    let p = c.receive-a in
    let r = c.receive-b in
    let n = c.needed-n in
    let k = received_kept 4 a.s a.input.now a.output.now p.result p.new.input p.ensures in
    let l = received_kept n.result p.result p.new.input a.output.now r.result r.new.input r.ensures in
    let on = c.if-a.false in
    let on₂ = c.if-b.false in record { memory_value_1 = c.requires.memory_value_1; memory_value_2 = l.2 on₂ ∙ k.2 on ∙ c.requires.memory_value_2; memory_value_3 = on₂; within_1 = r.ensures.filled.within; within_2 = called_for n.result p.result p.new.input a.output.now r.result r.new.input n.ensures.value (p.ensures.enough on) r.ensures on₂; at_in_bounds = r.ensures.cleared.space; words_bound_1 = omega (arith, k.0, l.0, c.requires.words_bound_1); words_bound_2 = omega (arith, k.1, l.1, c.requires.words_bound_2) }

pub shape_of-input : goal.shape_of-input
shape_of-input c = let a = c.args in
    let p = c.receive-a in
    let r = c.receive-b in
    let i : length r.new.input ≡ length p.new.input = search rules in
    let j : length p.new.input ≡ length a.input.now = search rules in
    omega (arith, i, j)

pub returns : goal.returns
returns c = let a = c.args in
    let p = c.receive-a in
    let r = c.receive-b in
    let n = c.needed-n in
    let o = c.carry_out in
    let k = received_kept 4 a.s a.input.now a.output.now p.result p.new.input p.ensures in
    let l = received_kept n.result p.result p.new.input a.output.now r.result r.new.input r.ensures in
    let counts = c.carry_out.ensures.words_bound_2 in record {
      within_2_1 = o.ensures.within_2_1;
      within_2_2 = o.ensures.within_2_2;
      words_bound_2 = (omega (arith, k.0, l.0, counts.0), omega (arith, k.1, l.1, counts.1), λ e. omega (arith, k.0, l.0, counts.2 e));
      stepped = stepped_all a.d a.w a.memory.now a.s a.input.now a.output.now p.result p.new.input p.ensures
          n.result r.result r.new.input r.ensures n.ensures.value c.if-a.false c.if-b.false o.new.memory o.result o.new.output o.ensures.stepped;
    }
