-- What is known of four merge bytes where nothing is merged. The code's own terms.
use Rattle.std.specs.Prelude.{ℕ, ◌+◌, ◌≤◌, ◌≡◌, List, length, get_or}

-- four bytes that are there and are all 0
abbrev pub four_sum : List ℕ → ℕ → ℕ
four_sum row at = get_or row at 0 + get_or row (at + 1) 0 + get_or row (at + 2) 0 + get_or row (at + 3) 0

abbrev pub FourClear : List ℕ → ℕ → Type 0
FourClear row at = (at + 4 ≤ length row) × (four_sum row at ≡ 0)
