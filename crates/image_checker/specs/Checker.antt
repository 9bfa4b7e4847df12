-- What the check of 32 slots at once finds. The code's own terms.
use Rattle.std.specs.Prelude.{ℕ, ◌+◌, ◌≤◌, ◌≡◌, List, length}
use Rattle.word.specs.Word.{go}
use Rattle.image_format.specs.Read.{check_four}

-- the words of 32 slots that are there and sound, with nothing merged
abbrev pub Clear : List ℕ → ℕ → Type 0
Clear words p = (p + 33 ≤ length words) × (check_four words p ≡ go (p + 33))
