use mathlib.Core.Logic.{inl}
use native.Mathlib.Omega.{arith}
use Rattle.feed_lengths.proofs.Laws.{needed_most}
use Rattle.word_bytes.specs.Words.{whole_words}
use Rattle.feed_io.specs.Buffers.{unused}
use Rattle.feed_io.proofs.Buffers.{unused_length}
use Rattle.feed_steps.proofs.step.Goals as goal

pub carry_out-requires : goal.carry_out-requires
carry_out-requires c = let a = c.args in
    let long = unused_length a.s.input a.input.now c.requires.within_1 in
    record {
      memory_value_1 = c.requires.memory_value_1;
      memory_value_2 = c.requires.memory_value_2;
      memory_value_3 = c.requires.memory_value_3;
      within_1 = c.requires.within_1;
      within_2 = inl (omega (arith, needed_most (whole_words (unused a.s.input a.input.now)), long, c.if-i-ge-LONGEST.true));
      at_in_bounds = omega (arith, c.if-output-s-ge-LINE.true, c.requires.at_in_bounds_1);
      words_bound_1 = c.requires.words_bound_1;
      words_bound_2 = c.requires.words_bound_2;
    }

pub returns-then-output-s-ge-LINE : goal.returns-then-output-s-ge-LINE
returns-then-output-s-ge-LINE c = let g = c.carry_out.ensures in
    let counts = c.carry_out.ensures.words_bound_2 in record { within_2_1 = g.within_2_1; within_2_2 = g.within_2_2; words_bound_2 = (counts.0, omega (arith, counts.1), counts.2); stepped = g.stepped }
