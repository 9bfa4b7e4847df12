use mathlib.Core.Path.{◌≡◌, refl, sym, ap, ◌∙◌}
use mathlib.Core.List.{List, ◌++◌}
use Prim.Native.Nat.{ℕ, ◌+◌, ◌*◌, ◌≤◌}
use native.Mathlib.Omega.{arith}
use lib.ListN.{length, take}
use Rattle.word_bytes.specs.Words.{whole_words}
use Rattle.feed_io.specs.Buffers.{unused}
use Rattle.feed_io.proofs.Buffers.{unused_length}
use Rattle.feed_steps.proofs.Runs.{progressed, state_is, stepped}
use borrow.Author.Rules.{rules}
use Rattle.feed_steps.proofs.carry_out.Goals as goal

pub append-at-requires : goal.append-at-requires
append-at-requires c = record { fact_1 = omega (arith, c.requires.at_in_bounds, c.text_of.ensures.length_bound); fact_2 = c.text_of.ensures.length_bound }

pub returns : goal.returns
returns c = let a = c.args in
    let n = c.next-p in
    let t = c.text_of in
    let o = c.append-at in
    let g = c.after in
    let i = c.args.s.input in
    let long : length o.new.out ≡ length a.output.now = search rules in
    let inside = c.requires.within_1 in
    let space = c.requires.at_in_bounds in
    let hand = unused_length i a.input.now inside in
    let lies : i.start + 4 * n.result.taken ≤ i.end = omega (arith, hand, n.ensures.taken_bound.1, inside.0) in
    let moved = progressed a.d a.w a.memory.now a.s.words a.s.records (take 25 (whole_words (unused i a.input.now))) n.result n.ensures.value in
    let q = state_is i n.result o.result g.result c.continues.result c.is_end.result g.ensures c.continues.ensures c.is_end.ensures in
    let put = c.append-at.ensures.out_after in record {
      within_2_1 = rw g.ensures (lies, inside.1);
      within_2_2 = omega (arith, o.ensures.value, long, space, t.ensures.length_bound);
      within_2_3 = refl;
      words_bound_2 = (omega (arith, moved.0, n.ensures.taken_bound.0), moved.1, λ e. moved.2 (sym c.continues.ensures ∙ e));
      stepped = stepped a.d a.w a.memory.now a.s a.input.now a.output.now n.new.memory o.new.out o.result c.requires.memory_value_1 c.requires.memory_value_2 inside c.requires.within_2 n.ensures.memory_after
          n.result _ n.ensures.value lies (put ∙ ap (λ (x : List ℕ). take a.s.output.at a.output.now ++ x) t.ensures.result_value) q;
    }
