-- A meter's depth d and width w, and the length of its memory. Document 01, 'Rows, groups and blocks'. Cited by contracts.
use Rattle.std.specs.Prelude.{ℕ, zero, suc, ◌+◌, ◌-◌, ◌*◌, ◌/◌, ◌^◌, ◌≤◌, ◌<◌, ◌≡◌, Bool, true, false, ◌&&◌, ◌||◌, leb, eqb}

-- rows: 1 to 8
unfoldable pub valid_depth : ℕ → Bool
valid_depth d = leb 1 d && leb d 8

-- one of n powers of two, the first of which is p
unfoldable pub one_of_powers : ℕ → ℕ → ℕ → Bool
one_of_powers zero p w = false
one_of_powers (suc n) p w = eqb w p || one_of_powers n (p * 2) w

-- The logarithm of the largest width, 16,384 (document 02, request 4). The smallest width is 32, 2 ^ 5.
abbrev pub largest_log : ℕ
largest_log = 14

abbrev pub largest_width : ℕ
largest_width = 2 ^ largest_log

-- slots of a row: a power of two from 32 to the largest width
unfoldable pub valid_width : ℕ → Bool
valid_width w = one_of_powers (largest_log - 4) 32 w

-- the bytes of a row: w count bytes, then w / 8 merge bytes
unfoldable pub stride : ℕ → ℕ
stride w = w * 9 / 8

-- the bytes of a meter
unfoldable pub size : ℕ → ℕ → ℕ
size d w = d * stride w

-- row r, and d rows, of a valid width lie in so many bytes
abbrev pub RowIn : ℕ → ℕ → ℕ → Type 0
RowIn w r bytes = (valid_width w ≡ true) × (r < 8) × (r * stride w + stride w ≤ bytes)

abbrev pub RowsIn : ℕ → ℕ → ℕ → Type 0
RowsIn d w bytes = (valid_width w ≡ true) × (d ≤ 8) × (bytes ≡ size d w)
