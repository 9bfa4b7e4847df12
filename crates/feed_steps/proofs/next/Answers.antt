use native.Mathlib.Omega.{arith}
use Rattle.word_bytes.proofs.Laws.{words_length}
use Rattle.feed_steps.proofs.next.Goals as goal

pub returns : goal.returns
returns c = let a = c.assemble-n in
    let st = c.step in
    let bytes = c.args.bytes.now in
    let e = c.assemble-n.ensures.words_after_2 in record { value = rw e at st.ensures.value; memory_after = rw e at st.ensures.memory_after; taken_bound = (omega (arith, st.ensures.taken_in_bounds, a.ensures.value, a.ensures.upper_bound.1), omega (arith, st.ensures.taken_in_bounds, a.ensures.value, a.ensures.upper_bound.1, words_length bytes)) }
