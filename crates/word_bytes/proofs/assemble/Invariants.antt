use mathlib.Core.Path.{◌≡◌}
use mathlib.Core.List.{◌++◌}
use lib.ListN.{take, drop}
use Rattle.word_bytes.specs.Words.{whole_words}
use Rattle.word_bytes.proofs.assemble.Given as goal

abbrev pub invariant-loop-i : goal.invariant-loop-i
invariant-loop-i l = l.words ≡ take l.i (whole_words l.bytes) ++ drop l.i l.initial.words
