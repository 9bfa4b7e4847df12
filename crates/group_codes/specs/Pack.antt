-- Layout codes of a group and of four groups. Document 01, 'Layout codes'. Cited by contracts.
use Rattle.std.specs.Prelude.{ℕ, Result, Ok, Err, ◌+◌, ◌*◌, ◌/◌, ◌%◌, ◌^◌, cond, ◌&&◌, List, [], ◌∷◌, ltb}
use Rattle.group_layout.specs.Layout.{marks, layout}
use Rattle.group_layout.specs.Code.{code, uncode}
use Rattle.answer.specs.declared.Answer.{Answer}
use Rattle.group.specs.Group.{valid_merge}
use Rattle.answer.specs.declared.Refusal.{Refusal}
use Rattle.answer.specs.Refusals.{number}
use Rattle.answer.specs.Answers.{accepted, refused}
use Rattle.answer.specs.Numbers.{invalid_content, bad_payload}

-- how many layouts n groups in a row have: 26, 676, 17,576, 456,976
abbrev pub layouts_of : ℕ → ℕ
layouts_of n = 26 ^ n

-- the code of a merge byte, and the merge byte of a code below 26
abbrev pub merge_code : ℕ → ℕ
merge_code m = code (layout 3 m)

abbrev pub code_merge : ℕ → ℕ
code_merge c = marks (uncode 3 c)

-- the layout code of one group
unfoldable pub group_code : ℕ → Answer
group_code m = cond (valid_merge m) (accepted (merge_code m)) (refused invalid_content)

-- the layout code of four groups in a row, by the code of each
abbrev pub code_of_four : ℕ → ℕ → ℕ → ℕ → ℕ
code_of_four w x y z = w * layouts_of 3 + x * layouts_of 2 + y * layouts_of 1 + z

unfoldable pub four_code : ℕ → ℕ → ℕ → ℕ → ℕ
four_code a b c d = code_of_four (merge_code a) (merge_code b) (merge_code c) (merge_code d)

unfoldable pub packed : ℕ → ℕ → ℕ → ℕ → Answer
packed a b c d = cond (valid_merge a && valid_merge b && valid_merge c && valid_merge d) (accepted (four_code a b c d)) (refused invalid_content)

-- the four merge bytes of a code; all 0 when refused
unfoldable pub four_merges : ℕ → List ℕ
four_merges c =
    code_merge (c / layouts_of 3) ∷ code_merge (c / layouts_of 2 % layouts_of 1) ∷ code_merge (c / layouts_of 1 % layouts_of 1) ∷ code_merge (c % layouts_of 1) ∷ []

pub record Unpacked : Type 0 where
  pub answer : Answer
  pub merges : List ℕ

unfoldable pub unpacked : ℕ → Unpacked
unpacked c =
    cond (ltb c (layouts_of 4)) (record { answer = accepted 0; merges = four_merges c }) (record { answer = refused bad_payload; merges = 0 ∷ 0 ∷ 0 ∷ 0 ∷ [] })

-- what is unpacked of a result
abbrev pub unpacked_of : Result (List ℕ) Refusal → Unpacked
unpacked_of (Ok merges) = record { answer = accepted 0; merges = merges }
unpacked_of (Err r) = record { answer = refused (number r); merges = 0 ∷ 0 ∷ 0 ∷ 0 ∷ [] }
