use mathlib.Core.Path.{◌≡◌}
use lib.ListN.{drop}
use Rattle.hash.specs.Hash.{fnv}
use Rattle.meter_keys.proofs.four_hashes.Given as goal

abbrev pub invariant-loop-byte : goal.invariant-loop-byte
invariant-loop-byte l = (fnv l.a.state (drop l.byte-index l.key) ≡ fnv l.initial.a.state l.key)
    × (fnv l.b.state (drop l.byte-index l.key) ≡ fnv l.initial.b.state l.key)
    × (fnv l.c.state (drop l.byte-index l.key) ≡ fnv l.initial.c.state l.key)
    × (fnv l.d.state (drop l.byte-index l.key) ≡ fnv l.initial.d.state l.key)
