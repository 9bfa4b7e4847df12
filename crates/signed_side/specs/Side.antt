-- Unmerged groups of a signed meter side by side, by their count bytes. The code's own terms: no call of the product cites them.
use Rattle.std.specs.Prelude.{◌≡◌, ℕ, ◌+◌, ◌-◌, ◌%◌, ◌<◌, Bool, cond, List, ℤ, pos, negsuc, ◌+ℤ◌, ◌≢◌, nat_lt, slice_index, unsigned_abs}
use Rattle.group.specs.Results.{Outcome}
use Rattle.group_side.specs.Side.{unmerged, part}
use Rattle.signed_number.specs.Number.{times_sign}
use Rattle.signed_block.specs.Signed.{top, sign_bits, sign_read}
use Rattle.signed_group.specs.Group.{combined}

-- group i combined with that of a source
abbrev pub combined_part : Bool → List ℕ → List ℕ → ℕ → Outcome
combined_part minus counts source i = combined minus (unmerged (part i counts)) (unmerged (part i source))

-- each of n groups takes that of a source, with either sign
abbrev pub Accepted : ℕ → List ℕ → List ℕ → Type 0
Accepted n counts source = (minus : Bool) (i : ℕ) → i < n → (combined_part minus counts source i).status ≡ 0

-- these are the count bytes of n groups combined with those of a source, unmerged again
abbrev pub Combined : Bool → ℕ → List ℕ → List ℕ → List ℕ → Type 0
Combined minus n counts source sums = (i : ℕ) → i < n → combined_part minus counts source i ≡ record { status = 0; group = unmerged (part i sums) }

-- Two's complement: the integer from -128 to 127 that a byte is modulo 256, the byte of a slot's value, which is also the slot of a
-- byte's integer, and the byte times a sign
unfoldable pub value : ℕ → ℤ
value b = cond (nat_lt b 128) (pos b) (negsuc (255 - b))

unfoldable pub complement : ℕ → ℕ
complement b = cond (nat_lt b 128) b ((384 - b) % 256)

unfoldable pub times : Bool → ℕ → ℕ
times minus b = cond minus ((256 - b) % 256) b

-- the sum of two bytes modulo 256 is that of their integers, and a slot holds it: it is not -128
abbrev pub InSlot : ℕ → ℕ → Type 0
InSlot a b = (value a +ℤ value b ≡ value ((a + b) % 256)) × ((a + b) % 256 ≢ 128)

-- neither of two slots is minus zero
abbrev pub Neither : ℕ → ℕ → Type 0
Neither a b = (a ≢ 128) × (b ≢ 128)

-- and slot c holds the sum of slots a and b, the second times a sign
abbrev pub HoldsSum : Bool → ℕ → ℕ → ℕ → Type 0
HoldsSum minus a b c =
    let sum = sign_read 0 a +ℤ times_sign minus (sign_read 0 b) in
    Neither a b × (unsigned_abs sum < top 0) × (c ≡ sign_bits 0 sum)

-- the first n slots of each
abbrev pub NoMinusZeros : ℕ → List ℕ → List ℕ → Type 0
NoMinusZeros n counts source = (i : ℕ) → i < n → Neither (slice_index counts i) (slice_index source i)

abbrev pub HoldSums : Bool → ℕ → List ℕ → List ℕ → List ℕ → Type 0
HoldSums minus n counts source sums = (i : ℕ) → i < n → HoldsSum minus (slice_index counts i) (slice_index source i) (slice_index sums i)
