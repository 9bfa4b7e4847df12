-- Codes of groups one by one, as tables of them hold them. The code's own terms.
use Rattle.std.specs.Prelude.{ℕ, ◌/◌, ◌%◌, ◌<◌, Bool, cond, ◌&&◌, List, [], ◌∷◌, map, ltb, get_or}
use Rattle.group.specs.Group.{valid_merge}
use Rattle.group_codes.specs.Pack.{layouts_of, merge_code, code_merge, code_of_four}

-- the layout code of a group, or a number above all codes for an invalid one
abbrev pub code_of : ℕ → ℕ
code_of m = cond (valid_merge m) (merge_code m) (layouts_of 1)

abbrev pub is_code : ℕ → Bool
is_code c = ltb c (layouts_of 1)

-- the layout code of four groups by these codes, or 0 if one is invalid
unfoldable pub four_of : ℕ → ℕ → ℕ → ℕ → ℕ
four_of a b c d = cond (is_code a && is_code b && is_code c && is_code d) (code_of_four a b c d) 0

-- the codes of the four groups that a layout code stands for; all 0 where it stands for none
unfoldable pub codes_of : ℕ → List ℕ
codes_of c =
    cond (ltb c (layouts_of 4)) (c / layouts_of 3 ∷ c / layouts_of 2 % layouts_of 1 ∷ c / layouts_of 1 % layouts_of 1 ∷ c % layouts_of 1 ∷ [])
    (0 ∷ 0 ∷ 0 ∷ 0 ∷ [])

-- codes of valid groups
abbrev pub AllCodes : List ℕ → Type 0
AllCodes codes = (i : ℕ) → get_or codes i 0 < layouts_of 1

-- the merge bytes of groups by their codes
abbrev pub merges_of : List ℕ → List ℕ
merges_of codes = map (λ (c : ℕ). code_merge c) codes
