use mathlib.Core.Path.{ap, ◌∙◌}
use Prim.Native.Nat.{ℕ, ◌*◌}
use native.Mathlib.Omega.{arith}
use Rattle.feed_lengths.proofs.Laws.{needed_same}
use Rattle.word_bytes.specs.Words.{whole_words}
use Rattle.feed_steps.proofs.needed.Goals as goal

pub returns : goal.returns
returns c = let bytes = c.args.bytes.now in
    let e = c.assemble-n.ensures.words_after_2 in
    let k = rw e at c.words_needed.ensures.value in record { value = ap (λ (x : ℕ). 4 * x) (k ∙ needed_same (whole_words bytes) 1 (omega arith)); upper_bound = omega (arith, c.words_needed.ensures.lower_bound.1) }
