use mathlib.Core.Path.{◌≡◌, refl, ap, ◌∙◌}
use native.Mathlib.Omega.{arith}
use borrow.Author.Tests.{not-true, not-false}
use lib.ListN.{length}
use Rattle.geometry.specs.Checks.{bad_shape}
use Rattle.run_feed.proofs.Runs.{ran_from, meter_stopped, meter_ended}
use borrow.Author.Rules.{rules}
use Rattle.run_feed.proofs.run_meter.Goals as goal

pub start-requires : goal.start-requires
start-requires c = c.requires.memory_value_1

pub after-requires : goal.after-requires
after-requires c = c.requires.memory_value_2

pub run_records-last-requires : goal.run_records-last-requires
run_records-last-requires c = let m : length c.start.new.memory ≡ length c.args.memory.now = search rules in
    record {
      memory_value_1 = ap (bad_shape c.args.d c.args.w) m ∙ c.requires.memory_value_1;
      memory_value_2 = refl;
      memory_value_3 = refl;
      memory_value_4 = refl;
      within_1 = rw c.after.ensures (c.requires.memory_value_2, c.requires.within_1.1);
      within_2 = c.requires.within_2;
      at_in_bounds_1 = c.requires.out_in_bounds_1;
      at_in_bounds_2 = c.requires.out_in_bounds_2;
    }

pub returns-then-not-last : goal.returns-then-not-last
returns-then-not-last c = let a = c.args in
    let r = c.run_records-last in
    let g = ran_from a.d a.w a.i a.input.now a.out a.output.now c.requires.within_1 c.requires.memory_value_2 r.result r.new.memory r.new.input r.new.output _ _
    c.start.ensures c.after.ensures r.ensures.ran in record {
      at_in_bounds = r.ensures.within_2_2;
      printed = meter_stopped a.d a.w a.i a.input.now a.out a.output.now c.requires.within_1 c.requires.memory_value_2 r.result r.new.memory r.new.input r.new.output
          g r.ensures.bound (not-true _ c.if-not-last.true);
    }

pub after_end-requires : goal.after_end-requires
after_end-requires c = let a = c.args in
    let r = c.run_records-last in
    let i : length r.new.input ≡ length c.args.input.now = search rules in
    let o : length r.new.output ≡ length c.args.output.now = search rules in record { within_1 = r.ensures.within_2_1; within_2 = omega (arith, i, c.requires.within_2); at_in_bounds_1 = r.ensures.within_2_2; at_in_bounds_2 = omega (arith, o, c.requires.out_in_bounds_2) }

pub returns : goal.returns
returns c = let a = c.args in
    let r = c.run_records-last in
    let e = c.after_end in
    let g = ran_from a.d a.w a.i a.input.now a.out a.output.now c.requires.within_1 c.requires.memory_value_2 r.result r.new.memory r.new.input r.new.output _ _
    c.start.ensures c.after.ensures r.ensures.ran in record {
      at_in_bounds = e.ensures.at_in_bounds_2;
      printed = meter_ended a.d a.w a.i a.input.now a.out a.output.now c.requires.within_1 c.requires.memory_value_2 r.result r.new.memory r.new.input r.new.output
          g r.ensures.bound (not-false _ c.if-not-last.false) e.result e.new.output e.ensures.printed;
    }
