use mathlib.Core.Path.{◌≡◌}
use lib.ListN.{drop}
use Rattle.hash.specs.Hash.{fnv}
use Rattle.hash.proofs.Hash.run.Given as goal

abbrev pub invariant-loop-byte : goal.invariant-loop-byte
invariant-loop-byte l = fnv l.h.state (drop l.byte-index l.bytes) ≡ fnv l.initial.h.state l.bytes
