-- What the calls of a watch list test. Document 02, request 1. Cited by contracts and theorems.
use Rattle.std.specs.Prelude.{ℕ, List, [], ◌∷◌, leb, eqb, length}
use Rattle.answer.specs.Numbers.{wrong_length, invalid_content, zero_threshold}
use Rattle.answer.specs.Order.{unless, first_of}
use Rattle.geometry.specs.Checks.{bad_shape, bad_key}
use Rattle.watch_list.specs.Layout.{list_size, sound}

-- lines 3 and 5 of a list, and line 11
abbrev pub bad_list : List ℕ → ℕ
bad_list list = unless (eqb (length list) list_size) wrong_length

abbrev pub broken_list : List ℕ → ℕ
broken_list list = unless (sound list) invalid_content

abbrev pub bad_threshold : ℕ → ℕ
bad_threshold threshold = unless (leb 1 threshold) zero_threshold

-- lines 1 to 4, of the meter and of the list
unfoldable pub bad_lines : ℕ → ℕ → List ℕ → List ℕ → List ℕ → ℕ
bad_lines d w memory list key = first_of (bad_shape d w (length memory) ∷ bad_list list ∷ bad_key (length key) ∷ [])
