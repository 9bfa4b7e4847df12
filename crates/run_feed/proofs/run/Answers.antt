use mathlib.Core.Path.{◌≡◌, sym, ap, ◌∙◌}
use native.Mathlib.Omega.{arith}
use lib.ListN.{length, take}
use lib.Seq.{length-take-le}
use Rattle.feed_text.specs.Line.{text}
use Rattle.feed_lines.proofs.Heads.{no_geometry}
use Rattle.run_feed.proofs.Runs.{head_word, whole_stopped, whole_run}
use borrow.Author.Rules.{rules}
use Rattle.run_feed.proofs.run.Goals as goal

pub append-out-requires : goal.append-out-requires
append-out-requires c = record { fact_1 = omega (arith, c.requires.fact_3, c.text_of.ensures.length_bound); fact_2 = c.text_of.ensures.length_bound }

pub returns-in_default : goal.returns-in_default
returns-in_default c = let f = c.refill-i in
    let h = c.head-line in
    let t = c.text_of in
    let o = c.append-out in
    let long : length o.new.out ≡ length c.args.output.now = search rules in
    let put = o.ensures.out_after ∙ t.ensures.result_value ∙ ap text h.ensures.value in record { at_in_bounds = omega (arith, o.ensures.value, long, c.requires.fact_3, t.ensures.length_bound); printed = whole_stopped c.args.input.now f.result f.new.buffer f.ensures.refilled f.ensures.held o.result o.new.out (no_geometry _ (λ d w e. c.in_default.not-Geometry d w (h.ensures.value ∙ e))) put }

pub size-n-requires : goal.size-n-requires
size-n-requires c = rw c.in-Geometry.is at c.head-line.ensures.fitting_line

pub slice_bounds-run_meter-end-2 : goal.slice_bounds-run_meter-end-2
slice_bounds-run_meter-end-2 c = sym (length-take-le c.size-n.result c.args.memory.now (omega (arith, c.size-n.ensures.upper_bound.0, c.requires.fact_1)))

pub run_meter-requires : goal.run_meter-requires
run_meter-requires c = let f = c.refill-i in
    let h = c.head-line in
    let t = c.text_of in
    let o = c.append-out in
    let n = c.size-n in
    let e = sym h.ensures.value ∙ c.in-Geometry.is in
    let long : length (take n.result c.args.memory.now) ≡ n.result = length-take-le n.result c.args.memory.now (omega (arith, n.ensures.upper_bound.0, c.requires.fact_1)) in
    let i : length f.new.buffer ≡ length c.args.input.now = search rules in
    let j : length o.new.out ≡ length c.args.output.now = search rules in record { memory_value_1 = rw long n.ensures.upper_bound.1; memory_value_2 = head_word c.args.input.now f.result f.new.buffer f.ensures.refilled f.ensures.held o.result o.new.out c.in-Geometry.d c.in-Geometry.w e; within_1 = f.ensures.refilled.within; within_2 = omega (arith, i, c.requires.fact_2); out_in_bounds_1 = omega (arith, o.ensures.value, j, c.requires.fact_3, t.ensures.length_bound); out_in_bounds_2 = omega (arith, j, c.requires.fact_3) }

pub returns : goal.returns
returns c = let f = c.refill-i in
    let h = c.head-line in
    let t = c.text_of in
    let o = c.append-out in
    let m = c.run_meter in
    let put = o.ensures.out_after ∙ t.ensures.result_value ∙ ap text h.ensures.value in record {
      at_in_bounds = m.ensures.at_in_bounds;
      printed = whole_run c.args.input.now f.result f.new.buffer f.ensures.refilled f.ensures.held o.result o.new.out
          c.in-Geometry.d c.in-Geometry.w (sym h.ensures.value ∙ c.in-Geometry.is) put m.result _ m.ensures.printed;
    }
