-- What the checks of several words at once find. The code's own terms.
use Rattle.std.specs.Prelude.{ℕ, ◌+◌, ◌*◌, ◌/◌, ◌^◌, ◌≤◌, ◌<◌, ◌≡◌, List, length, get_or}
use Rattle.group_codes.specs.Pack.{code_merge}
use Rattle.word.specs.Word.{go}
use Rattle.image_format.specs.Image.{count_kind}
use Rattle.image_format.specs.Write.{group_size}
use Rattle.image_format.specs.Read.{check_slots}

-- n words that are there, each a counter of one slot: count words with a payload below 2 ^ 8
abbrev pub Counts : List ℕ → ℕ → ℕ → Type 0
Counts words p n = (p + n ≤ length words) × ((i : ℕ) → i < n → get_or words (p + i) 0 / 2 ^ 8 ≡ count_kind * 2 ^ 20)

-- eight words that are there, of which the group's with layout code c are sound, and a table that reaches to its description
abbrev pub Sound : ℕ → List ℕ → List ℕ → ℕ → Type 0
Sound c fields words p =
    (p + 8 ≤ length words) × (17 * c + 17 ≤ length fields) × (check_slots 8 0 (code_merge c) words p ≡ go (p + group_size (code_merge c)))
