-- Lists of bytes, and copies.
use mathlib.Core.Path.{◌≡◌, sym, ap, ◌∙◌}
use mathlib.Core.List.{List, [], ◌∷◌, ◌++◌, append-nil}
use Prim.Native.Nat.{ℕ, zero, suc, ◌+◌, ◌≤◌, ◌<◌}
use native.Mathlib.Nat.{zero-add, add-zero}
use native.Mathlib.Numerals.{add-one}
use native.Mathlib.Decide.{dec_lt}
use native.Mathlib.Omega.{arith}
use lib.ListN.{length, get_or, take, drop, set, length-take, drop_of_length-le, get_or-eq_default}
use lib.Seq.{take-nil, get_or-drop, get_or-take, paste-suc}

-- every element is a byte
abbrev pub Bytes : List ℕ → Type 0
Bytes xs = (i : ℕ) → get_or xs i 0 < 256

-- bytes taken out of bytes
pub bytes_drop : (n : ℕ) (xs : List ℕ) → Bytes xs → Bytes (drop n xs)
bytes_drop n xs b i = rw (get_or-drop n xs i 0) (b (n + i))

pub bytes_take : (n : ℕ) (xs : List ℕ) → Bytes xs → Bytes (take n xs)
bytes_take n xs b = λ i. elim (dec_lt i n) [
  | yes l ↦ rw (get_or-take n xs i 0 l) (b i)
  | no l ↦ rw (get_or-eq_default (take n xs) 0 {n = i} (omega (arith, length-take n xs))) (omega arith)
]

-- what is left of the first m elements after the first k
pub drop_take : (k n m : ℕ) (xs : List ℕ) → m ≡ n + k → drop k (take m xs) ≡ take n (drop k xs)
drop_take zero n m xs e = ap (λ (i : ℕ). take i xs) (e ∙ add-zero n)
drop_take (suc k) n zero xs e = absurd (omega arith)
drop_take (suc k) n (suc m) [] e = sym (take-nil n)
drop_take (suc k) n (suc m) (x ∷ xs) e = drop_take k n m xs (omega arith)

-- one element more of a copy from the front
pub copy_more : (s d : List ℕ) (i : ℕ) → i < length s → i < length d → set (take i s ++ drop i d) i (get_or s i 0) ≡ take (i + 1) s ++ drop (i + 1) d
copy_more s d i h k =
    let k0 : 0 + i < length d = omega arith in
    rw add-one (simp zero-add at (paste-suc d 0 s i 0 k0 h))

-- a copy from the front that has all
pub copy_all : (s d : List ℕ) (i : ℕ) → length d ≤ i → take i s ++ drop i d ≡ take i s
copy_all s d i h = rw (drop_of_length-le d h, append-nil)
