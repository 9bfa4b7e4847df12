-- The buffer that a key's bytes are taken into. The code's own terms.
use Rattle.std.specs.Prelude.{ℕ, ◌+◌, ◌*◌, ◌/◌, ◌%◌, List, set}

-- key word j stored behind those before it
abbrev pub stored : List ℕ → ℕ → ℕ → List ℕ
stored key j v = set (set (set key (3 * j) (v / 65536 % 256)) (3 * j + 1) (v / 256 % 256)) (3 * j + 2) (v % 256)
