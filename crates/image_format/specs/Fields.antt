-- Which bits of a group's count bytes, taken as bit fields, each word of its counters holds, and tables of them. The code's own terms.
use Rattle.std.specs.Prelude.{ℕ, zero, suc, ◌+◌, ◌*◌, ◌<◌, ◌≡◌, cond, List, [], ◌∷◌, ◌++◌, length, get_or, drop}
use Rattle.image_format.specs.Image.{word_count, level_at, is_first}
use Rattle.image_format.specs.Write.{group_size}
use Rattle.image_format.specs.Read.{first_bits}

-- so many bits, the lowest of which is at a place
pub record Field : Type 0 where
  pub place : ℕ
  pub bits : ℕ

-- the n words of a counter whose lowest bit is at a place, high part first: the first word has bits of its own number, the others 24
unfoldable pub part_fields : ℕ → ℕ → ℕ → List Field
part_fields zero place bits = []
part_fields (suc n) place bits = record { place = place + 24 * n; bits = bits } ∷ part_fields n place 24

-- the words of the counter that starts at slot k, if one does
unfoldable pub slot_fields : ℕ → ℕ → List Field
slot_fields merge k = cond (is_first merge k) (part_fields (word_count (level_at merge k)) (8 * k) (first_bits (level_at merge k))) []

unfoldable pub slots_fields : ℕ → ℕ → ℕ → List Field
slots_fields zero k merge = []
slots_fields (suc n) k merge = slot_fields merge k ++ slots_fields n (k + 1) merge

unfoldable pub group_fields : ℕ → List Field
group_fields merge = slots_fields 8 0 merge

-- word i of a group's words; where no word is, no bits
abbrev pub field_at : List Field → ℕ → Field
field_at fs i = get_or fs i (record { place = 0; bits = 0 })

-- the bytes of a description at `at` that say the first n of these words: a byte for the place of each, and one for its bits
abbrev pub Told : List Field → ℕ → List ℕ → ℕ → Type 0
Told fs n t at = (i : ℕ) → i < n → (get_or t (at + 1 + i) 0 ≡ (field_at fs i).place) × (get_or t (at + 9 + i) 0 ≡ (field_at fs i).bits)

-- a description that says the first i words, and one that says the words gs behind them too
abbrev pub ToldMore : ℕ → List Field → List ℕ → List ℕ → ℕ → Type 0
ToldMore i gs before after at =
    (fs rest : List Field) → drop i fs ≡ gs ++ rest → Told fs i before at → Told fs (i + length gs) after at

-- 17 bytes of a table, from `at` on, that describe the words of a group: their number, and each of them
abbrev pub Described : ℕ → List ℕ → ℕ → Type 0
Described merge t at = (get_or t at 0 ≡ group_size merge) × Told (group_fields merge) (group_size merge) t at
