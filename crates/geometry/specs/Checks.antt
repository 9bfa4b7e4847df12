-- Lines 1 to 4 of document 01's list: the tests of a call's own arguments. Cited by contracts.
use Rattle.std.specs.Prelude.{ℕ, ◌&&◌, [], ◌∷◌, leb, eqb}
use Rattle.answer.specs.Numbers.{invalid_depth, invalid_width, wrong_length, invalid_key_length}
use Rattle.answer.specs.Order.{unless, first_of}
use Rattle.geometry.specs.Geometry.{valid_depth, valid_width, size}

-- lines 1, 2 and 3: the depth, the width and the length of a lent memory
abbrev pub bad_depth : ℕ → ℕ
bad_depth d = unless (valid_depth d) invalid_depth

abbrev pub bad_width : ℕ → ℕ
bad_width w = unless (valid_width w) invalid_width

abbrev pub bad_length : ℕ → ℕ → ℕ → ℕ
bad_length d w bytes = unless (eqb bytes (size d w)) wrong_length

abbrev pub bad_shape : ℕ → ℕ → ℕ → ℕ
bad_shape d w bytes = first_of (bad_depth d ∷ bad_width w ∷ bad_length d w bytes ∷ [])

-- line 4: a key is 1 to 64 bytes
abbrev pub bad_key : ℕ → ℕ
bad_key bytes = unless (leb 1 bytes && leb bytes 64) invalid_key_length
