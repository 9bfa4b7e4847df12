-- The counters of a signed meter: integers, as sign and magnitude. Document 02, request 3. Cited by contracts and theorems.
use Rattle.std.specs.Prelude.{ℕ, suc, ◌+◌, ◌-◌, ◌*◌, ◌^◌, Bool, cond, not, ltb, eqb, ℤ, pos, negsuc, ◌+ℤ◌, neg_ℤ, nat_abs}
use Rattle.group_block.specs.Kind.{Kind}
use Rattle.group_block.specs.Block.{BlockOf, counter, split}
use Rattle.signed_number.specs.Number.{times_sign}

-- A counter of level n holds magnitudes below this, which is also what its top bit, the sign, is worth.
unfoldable pub top : ℕ → ℕ
top n = 2 ^ (8 * 2 ^ n - 1)

-- the bits of an integer: the sign, set for minus, above the magnitude; zero is plus
unfoldable pub sign_bits : ℕ → ℤ → ℕ
sign_bits n (pos m) = m
sign_bits n (negsuc m) = top n + suc m

-- the integer that bits stand for
unfoldable pub sign_read : ℕ → ℕ → ℤ
sign_read n w = cond (ltb w (top n)) (pos w) (neg_ℤ (pos (w - top n)))

-- whether bits are not those of minus zero: the sign alone
unfoldable pub not_minus_zero : ℕ → ℕ → Bool
not_minus_zero n w = not (eqb w (top n))

-- the signed meter
abbrev pub signed : Kind
signed = record { Value = ℤ; plus = λ a b. a +ℤ b; size = nat_abs; bound = top; bits = sign_bits; read = sign_read; clean = not_minus_zero }

-- every counter times a sign: a source that is taken away is one with the other sign
unfoldable pub times_block : {n : ℕ} → Bool → BlockOf signed n → BlockOf signed n
times_block minus (counter v) = counter (times_sign minus v)
times_block minus (split l r) = split (times_block minus l) (times_block minus r)
