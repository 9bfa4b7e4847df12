-- Bytes put one by one.
use mathlib.Core.Path.{◌≡◌, refl, sym, ap, ◌∙◌}
use mathlib.Core.List.{List, [], ◌∷◌, ◌++◌, append_assoc}
use Prim.Native.Nat.{ℕ, zero, suc, ◌+◌, ◌-◌, ◌≤◌, ◌<◌}
use native.Mathlib.Decide.{dec_lt}
use native.Mathlib.Numerals.{add-one}
use native.Mathlib.Omega.{arith}
use lib.ListN.{length, get_or, take, drop, set, replicate, length-append, length-take, length-drop, length-replicate, get_or-append, get_or-eq_default}
use lib.Seq.{paste, set_split, append_snoc, get_or-append-add, get_or-drop, get_or-take, take_all, drop-paste}
use Rattle.little_endian.specs.Bytes.{bytes}
use Rattle.little_endian.proofs.Bytes.{bytes_length}
use Rattle.watch_list.specs.Parts.{put, closed}

zeros_at : (n i : ℕ) → get_or {A = ℕ} (replicate n 0) i 0 ≡ 0
zeros_at zero i = refl
zeros_at (suc n) zero = refl
zeros_at (suc n) (suc i) = zeros_at n i

-- zeros after a list are what is past its end
pub padded_at : (xs : List ℕ) (n i : ℕ) → get_or (xs ++ replicate n 0) i 0 ≡ get_or xs i 0
padded_at xs n i = elim (dec_lt i (length xs)) [
  | yes l ↦ get_or-append xs (replicate n 0) 0 i l
  | no l ↦
      let e : i ≡ length xs + (i - length xs) = omega arith in
      ap (λ (k : ℕ). get_or (xs ++ replicate n 0) k 0) e ∙ get_or-append-add xs (replicate n 0) (i - length xs) 0 ∙ zeros_at n (i - length xs) ∙ sym (get_or-eq_default xs 0 {n = i} (omega arith))
]

-- a byte past those that were put
past_paste : (xs ys : List ℕ) (at j k : ℕ) → at ≤ length xs → j ≤ length ys → get_or (paste xs at ys j) (at + j + k) 0 ≡ get_or xs (at + j + k) 0
past_paste xs ys at j k h l =
    sym (get_or-drop (at + j) (paste xs at ys j) k 0) ∙ ap (λ (zs : List ℕ). get_or zs k 0) (drop-paste xs at ys j h l) ∙ get_or-drop (at + j) xs k 0

pub past_take : (xs ys : List ℕ) (at j k end : ℕ) → at ≤ length xs → j ≤ length ys → get_or (take end (paste xs at ys j)) (at + j + k) 0 ≡ get_or (take end xs) (at + j + k) 0
past_take xs ys at j k end h l = elim (dec_lt (at + j + k) end) [
  | yes p ↦ rw (get_or-take end (paste xs at ys j) (at + j + k) 0 p, get_or-take end xs (at + j + k) 0 p) (past_paste xs ys at j k h l)
  | no p ↦
      get_or-eq_default (take end (paste xs at ys j)) 0 {n = at + j + k} (omega (arith, length-take end (paste xs at ys j)))
      ∙ sym (get_or-eq_default (take end xs) 0 {n = at + j + k} (omega (arith, length-take end xs)))
]

-- what comes in place of the bytes from `at` to `end` where a part is taken out
abbrev pub moved : List ℕ → ℕ → ℕ → ℕ → List ℕ
moved xs at end width = drop (at + width) (take end xs) ++ replicate width 0

pub moved_length : (xs : List ℕ) (at end width : ℕ) → at + width ≤ end → end ≤ length xs → length (moved xs at end width) ≡ end - at
moved_length xs at end width h k =
    omega (arith, length-append (drop (at + width) (take end xs)) (replicate width 0), length-drop (at + width) (take end xs), length-take end xs, length-replicate {A = ℕ} width 0)

pub moved_at : (xs : List ℕ) (at end width j : ℕ) → get_or (moved xs at end width) j 0 ≡ get_or (take end xs) (at + j + width) 0
moved_at xs at end width j =
    let e : at + width + j ≡ at + j + width = omega arith in
    padded_at (drop (at + width) (take end xs)) width j ∙ get_or-drop (at + width) (take end xs) j 0 ∙ ap (λ (k : ℕ). get_or (take end xs) k 0) e

-- all of them put
pub put_all : (xs ys : List ℕ) (at n : ℕ) → length ys ≡ n → paste xs at ys n ≡ put xs at ys
unfolding put
put_all xs ys at n e = rw (← e, take_all (length ys) ys (omega arith))

pub closed_all : (xs : List ℕ) (at end width : ℕ) → at + width ≤ end → end ≤ length xs → paste xs at (moved xs at end width) (end - at) ≡ closed xs at end width
unfolding closed
closed_all xs at end width h k =
    let e : at + (end - at) ≡ end = omega arith in
    rw (e, take_all (end - at) (moved xs at end width) (omega (arith, moved_length xs at end width h k))) (simp append_assoc)

-- one byte put, and eight
pub put_one : (xs : List ℕ) (at b : ℕ) → at < length xs → set xs at b ≡ put xs at (b ∷ [])
unfolding put
put_one xs at b h = set_split xs at b h ∙ rw (add-one at) (sym (append_snoc (take at xs) b (drop (suc at) xs)))

pub put_eight : (xs : List ℕ) (at v : ℕ) → take at xs ++ bytes 8 v ++ drop (at + 8) xs ≡ put xs at (bytes 8 v)
unfolding put
put_eight xs at v = rw (bytes_length 8 v)
