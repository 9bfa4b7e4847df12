-- Unmerged slots of a signed group in the bytes of a number. The code's own terms.
-- Of any number of bytes: o has a 1 and l has 127 in each.
use Rattle.std.specs.Prelude.{ℕ, zero, suc, ◌+◌, ◌*◌, ◌/◌, ◌^◌, ◌≡◌, Ok}
use Rattle.std.specs.Int.Bits.{bit_and, bit_or, bit_xor}
use Rattle.group_block.specs.Sum.{unite}
use Rattle.signed_block.specs.Passed.{signed_block, signed_summed}

-- of eight bytes
abbrev pub ones : ℕ
ones = 0x0101010101010101

abbrev pub lows : ℕ
lows = 0x7f7f7f7f7f7f7f7f

-- signs, as 0 or 1, and magnitudes
unfoldable pub signs : ℕ → ℕ → ℕ
signs o w = bit_and (w / 128) o

unfoldable pub magnitudes : ℕ → ℕ → ℕ
magnitudes l w = bit_and w l

-- magnitudes taken from 128 where a byte of d is 1
unfoldable pub spread : ℕ → ℕ
spread d = d * 127

unfoldable pub folded : ℕ → ℕ → ℕ
folded d w = bit_xor w (d * 127) + d

-- where two signs differ
unfoldable pub apart : ℕ → ℕ → ℕ → ℕ
apart o w v = bit_xor (signs o w) (signs o v)

-- the sum of two magnitudes of one sign; of two signs, the first less the second, 128 higher
unfoldable pub total : ℕ → ℕ → ℕ → ℕ → ℕ
total o l w v = magnitudes l w + folded (apart o w v) (magnitudes l v)

-- where the second magnitude is taken from, being the larger
unfoldable pub past : ℕ → ℕ → ℕ → ℕ → ℕ
past o l w v = bit_and (apart o w v) (bit_xor (signs o (total o l w v)) o)

-- the magnitudes of the sums, and their slots: zero is plus
unfoldable pub size : ℕ → ℕ → ℕ → ℕ → ℕ
size o l w v = folded (past o l w v) (magnitudes l (total o l w v))

unfoldable pub minus : ℕ → ℕ → ℕ → ℕ → ℕ
minus o l w v = bit_and (bit_xor (signs o w) (past o l w v)) (signs o (size o l w v + l))

unfoldable pub sums : ℕ → ℕ → ℕ → ℕ → ℕ
sums o l w v = bit_or (size o l w v) (minus o l w v * 128)

-- where a slot does not hold its sum
unfoldable pub over : ℕ → ℕ → ℕ → ℕ → ℕ
over o l w v = bit_and (signs o (total o l w v)) (bit_xor (apart o w v) o)

-- a byte so many times
unfoldable pub rep : ℕ → ℕ → ℕ
rep c zero = 0
rep c (suc n) = c + 256 * rep c n

-- of the 2 ^ n slots of a block of level n
unfoldable pub sums_of : ℕ → ℕ → ℕ → ℕ
sums_of n w v = sums (rep 1 (2 ^ n)) (rep 127 (2 ^ n)) w v

unfoldable pub over_of : ℕ → ℕ → ℕ → ℕ
over_of n w v = over (rep 1 (2 ^ n)) (rep 127 (2 ^ n)) w v

-- the union of two groups is not merged and has these count bytes, taken as one number
abbrev pub Stay : ℕ → ℕ → ℕ → ℕ → ℕ → Type 0
Stay w m w' m' sum = Ok (record { word = sum; merge = 0 }) ≡ signed_summed (unite (signed_block 3 w m) (signed_block 3 w' m'))
