-- The places of a list's bytes: laid out again they are the bytes.
use mathlib.Core.Path.{◌≡◌, refl, sym, ap, ◌∙◌}
use mathlib.Core.Bool.{true, true≢false, and-eq-true_iff}
use mathlib.Core.List.{List, [], ◌∷◌, ◌++◌}
use Prim.Native.Nat.{ℕ, zero, suc, ◌+◌, ◌-◌, ◌*◌, ◌≤◌, ◌<◌}
use native.Mathlib.Nat.{suc-mul}
use native.Mathlib.Omega.{arith}
use borrow.Author.Tests.{leb-true}
use lib.Dec.{leb}
use lib.ListN.{length, get_or, take, drop, length-take, length-drop, take-append-drop}
use lib.Seq.{take-suc, take-add, take_all, drop-drop, drop-cons, get_or-take}
use Rattle.laws.proofs.Lists.{Bytes, bytes_take, bytes_drop}
use Rattle.little_endian.proofs.Bytes.{bytes_number}
use Rattle.watch_list.specs.List.{Entry}
use Rattle.watch_list.specs.Layout.{keys_at, estimates_at, list_size, length_field, key_field, estimate_field, column, laid_out, encode, key_bytes, place_at, places_from, in_use, decode, all_zero, sound_lengths, sound}
use Rattle.watch_list.proofs.Lists.{Each}
use Rattle.watch_list.proofs.Columns.{Whole, AllWhole}

pub places_length : (xs : List ℕ) (n k : ℕ) → length (places_from xs n k) ≡ n
unfolding places_from
places_length xs zero k = refl
places_length xs (suc n) k = ap suc (places_length xs n (suc k))

pub places_split : (xs : List ℕ) (n m k : ℕ) → places_from xs (n + m) k ≡ places_from xs n k ++ places_from xs m (k + n)
unfolding places_from
places_split xs zero m k =
    let e : 0 + m ≡ m = omega arith in
    let f : k + 0 ≡ k = omega arith in
    rw (e, f)
places_split xs (suc n) m k =
    let e : suc k + n ≡ k + suc n = omega arith in
    let f : suc n + m ≡ suc (n + m) = omega arith in
    rw f
    (ap (λ (l : List Entry). place_at xs k ∷ l) (places_split xs n m (suc k) ∙ ap (λ (j : ℕ). places_from xs n (suc k) ++ places_from xs m j) e))

-- sound lengths are at most 64, and no more are in use than there are
zero_short : (ls : List ℕ) → all_zero ls ≡ true → (k : ℕ) → get_or ls k 0 ≤ 64
unfolding all_zero
zero_short [] e k = omega arith
zero_short (zero ∷ ls) e zero = omega arith
zero_short (zero ∷ ls) e (suc k) = zero_short ls e k
zero_short (suc l ∷ ls) e k = absurd (true≢false (sym e))

sound_short : (ls : List ℕ) → sound_lengths ls ≡ true → (k : ℕ) → get_or ls k 0 ≤ 64
unfolding sound_lengths
sound_short [] e k = omega arith
sound_short (zero ∷ ls) e zero = omega arith
sound_short (zero ∷ ls) e (suc k) = zero_short ls e k
sound_short (suc l ∷ ls) e zero = leb-true (suc l) 64 ((and-eq-true_iff (leb (suc l) 64) (sound_lengths ls)).0 e).0
sound_short (suc l ∷ ls) e (suc k) = sound_short ls ((and-eq-true_iff (leb (suc l) 64) (sound_lengths ls)).0 e).1 k

in_use_le : (ls : List ℕ) → in_use ls ≤ length ls
unfolding in_use
in_use_le [] = omega arith
in_use_le (zero ∷ ls) = omega arith
in_use_le (suc l ∷ ls) = omega (arith, in_use_le ls)

-- a list in four parts, the second of one element
four_parts : (xs : List ℕ) (a b c : ℕ) → length xs ≡ suc a + b + c → take a xs ++ (get_or xs a 0 ∷ []) ++ take b (drop (suc a) xs) ++ take c (drop (suc a + b) xs) ≡ xs
four_parts xs a b c e =
    rw (← take-suc xs a 0 (omega arith), ← take-add (suc a) b xs, ← take-add (suc a + b) c xs) (take_all (suc a + b + c) xs (omega arith))

module _ (xs : List ℕ) (long : length xs ≡ list_size) where
  key_bytes_long : (k : ℕ) → k < 64 → length (key_bytes xs k) ≡ 64
  unfolding key_bytes
  key_bytes_long k h = omega (arith, length-take 64 (drop (keys_at + k * 64) xs), length-drop (keys_at + k * 64) xs)

  place_key : (k : ℕ) → key_field (place_at xs k) ≡ key_bytes xs k
  unfolding key_field place_at
  place_key k = take-append-drop (get_or xs k 0) (key_bytes xs k)

  pub place_whole : (k : ℕ) → k < 64 → Whole (place_at xs k)
  unfolding key_field
  place_whole k h = ap length (place_key k) ∙ key_bytes_long k h

  pub places_whole : (n k : ℕ) → n + k ≤ 64 → AllWhole (places_from xs n k)
  unfolding places_from Each
  places_whole zero k h = tt
  places_whole (suc n) k h = (place_whole k (omega arith), places_whole n (suc k) (omega arith))

  -- a column of the places is the bytes that they have there
  module _ (field : Entry → List ℕ) (width base : ℕ) (at : (k : ℕ) → k < 64 → field (place_at xs k) ≡ take width (drop (base + k * width) xs)) where
    column_places : (n k : ℕ) → n + k ≤ 64 → column field (places_from xs n k) ≡ take (n * width) (drop (base + k * width) xs)
    unfolding column places_from
    column_places zero k h =
        let e : 0 * width ≡ 0 = omega arith in
        rw e
    column_places (suc n) k h =
        let next : base + suc k * width ≡ base + k * width + width = omega (arith, suc-mul k width) in
        let more : suc n * width ≡ width + n * width = omega (arith, suc-mul n width) in
        rw (at k (omega arith), column_places n (suc k) (omega arith), next, ← drop-drop width (base + k * width) xs, more)
        (sym (take-add width (n * width) (drop (base + k * width) xs)))

  pub in_use_most : in_use (take 64 xs) ≤ 64
  in_use_most = omega (arith, in_use_le (take 64 xs), length-take 64 xs)

  pub length_short : sound xs ≡ true → (k : ℕ) → k < 64 → get_or xs k 0 ≤ 64
  unfolding sound
  length_short good k h =
      rw get_or-take at (sound_short (take 64 xs) ((and-eq-true_iff (sound_lengths (take 64 xs)) (leb (get_or xs 64 0) 1)).0 good).0 k)

  module _ (small : Bytes xs) (good : sound xs ≡ true) where
    length_at : (k : ℕ) → k < 64 → length_field (place_at xs k) ≡ take 1 (drop (0 + k * 1) xs)
    unfolding length_field place_at
    length_at k h =
        let e : 0 + k * 1 ≡ k = omega arith in
        rw (e, drop-cons xs k 0 (omega arith)) (ap (λ (n : ℕ). n ∷ []) (omega (arith, length-take (get_or xs k 0) (key_bytes xs k), key_bytes_long k h, length_short good k h)))

    key_at : (k : ℕ) → k < 64 → key_field (place_at xs k) ≡ take 64 (drop (keys_at + k * 64) xs)
    unfolding key_bytes
    key_at k h = place_key k

    estimate_at : (k : ℕ) → k < 64 → estimate_field (place_at xs k) ≡ take 8 (drop (estimates_at + k * 8) xs)
    unfolding estimate_field place_at
    estimate_at k h =
        let part = take 8 (drop (estimates_at + k * 8) xs) in
        let e : length part ≡ 8 = omega (arith, length-take 8 (drop (estimates_at + k * 8) xs), length-drop (estimates_at + k * 8) xs) in
        rw e at (bytes_number part (bytes_take 8 (drop (estimates_at + k * 8) xs) (bytes_drop (estimates_at + k * 8) xs small)))

    pub laid_places : laid_out (get_or xs 64 0) (places_from xs 64 0) ≡ xs
    unfolding laid_out
    laid_places =
        let lengths : column length_field (places_from xs 64 0) ≡ take 64 xs = column_places length_field 1 0 length_at 64 0 (omega arith) in
        let keys : column key_field (places_from xs 64 0) ≡ take 4096 (drop 65 xs) = column_places key_field 64 keys_at key_at 64 0 (omega arith) in
        let estimates : column estimate_field (places_from xs 64 0) ≡ take 512 (drop 4161 xs) = column_places estimate_field 8 estimates_at estimate_at 64 0 (omega arith) in
        rw (lengths, keys, estimates) (four_parts xs 64 4096 512 long)

    pub encode_decode : encode (decode xs) ≡ xs
    unfolding encode decode
    encode_decode =
        let u = in_use (take 64 xs) in
        let e : u + (64 - u) ≡ 64 = omega (arith, in_use_most) in
        let f : 0 + u ≡ u = omega arith in
        rw (← rw (e, f) at (places_split xs u (64 - u) 0)) laid_places
