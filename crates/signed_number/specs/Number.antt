-- Integers as sign and magnitude. Document 02, request 3. Cited by contracts and theorems.
use Rattle.std.specs.Prelude.{ℕ, suc, Bool, true, false, cond, ℤ, pos, negsuc, neg_ℤ}
use Rattle.signed_number.specs.declared.Signed.{Signed}

-- an integer times a sign, plus or minus
unfoldable pub times_sign : Bool → ℤ → ℤ
times_sign minus v = cond minus (neg_ℤ v) v

-- the integer of a sign and a magnitude
abbrev pub integer : Bool → ℕ → ℤ
integer minus magnitude = times_sign minus (pos magnitude)

abbrev pub integer_of : Signed → ℤ
integer_of s = integer s.minus s.magnitude

-- an integer by its sign and its magnitude; zero is plus
unfoldable pub signed_of : ℤ → Signed
signed_of (pos m) = record { minus = false; magnitude = m }
signed_of (negsuc m) = record { minus = true; magnitude = suc m }
