-- Laws of keys compared by words and as slices, of digests, and of the key of a place.
use mathlib.Core.Path.{◌≡◌, refl, sym, ap, ◌∙◌}
use mathlib.Core.Bool.{false}
use mathlib.Core.List.{List, [], ◌∷◌}
use lib.Dec.{eqb}
use lib.Pointwise.{pointwise}
use Prim.Native.Nat.{ℕ, zero, suc, ◌+◌, ◌-◌, ◌*◌, ◌≤◌, ◌<◌}
use native.Mathlib.Decide.{ℕ_discrete, dec_le}
use native.Mathlib.Omega.{arith}
use borrow.Author.Tests.{eq-eqb, le-leb, lt-leb}
use lib.ListN.{length, get_or, take, drop, length-take, length-drop}
use lib.Seq.{drop-drop, take-add, take-take, get_or-take, get_or-drop}
use Rattle.laws.proofs.Lists.{Bytes, bytes_take, bytes_drop, drop_take}
use Rattle.little_endian.specs.Bytes.{number, bytes}
use Rattle.little_endian.proofs.Bytes.{bytes_number}
use Rattle.meter_keys.specs.Keys.{same_key}
use Rattle.meter_keys.proofs.Same.{key_differs}
use Rattle.watch_list.specs.Layout.{keys_at, list_size, key_bytes, place_at}
use Rattle.watch_list.specs.Parts.{KeyLong}
use Rattle.watch_key.specs.Digest.{digest_of}

-- two lists that agree so far, by words of eight bytes
module _ (xs ys : List ℕ) (long : length xs ≡ length ys) (at : ℕ) where
  word_same : at + 8 ≤ length xs → Bytes xs → Bytes ys → number (take 8 (drop at xs)) ≡ number (take 8 (drop at ys)) → take 8 (drop at xs) ≡ take 8 (drop at ys)
  word_same h b c e =
      let p : length (take 8 (drop at xs)) ≡ 8 = omega (arith, length-take 8 (drop at xs), length-drop at xs) in
      let q : length (take 8 (drop at ys)) ≡ 8 = omega (arith, length-take 8 (drop at ys), length-drop at ys) in
      sym (rw p at (bytes_number (take 8 (drop at xs)) (bytes_take 8 (drop at xs) (bytes_drop at xs b))))
      ∙ ap (bytes 8) e
      ∙ rw q at (bytes_number (take 8 (drop at ys)) (bytes_take 8 (drop at ys) (bytes_drop at ys c)))

  pub word_turn : at + 8 ≤ length xs → Bytes xs → Bytes ys → take at xs ≡ take at ys → number (take 8 (drop at xs)) ≡ number (take 8 (drop at ys)) → take (at + 8) xs ≡ take (at + 8) ys
  word_turn h b c e w = rw (take-add at 8 xs, take-add at 8 ys, e, word_same h b c w)

-- what is left of them tells whether they are the same
pub rest_tells : (n : ℕ) (xs ys : List ℕ) → length xs ≡ length ys → n ≤ length xs → take n xs ≡ take n ys → same_key (drop n xs) (drop n ys) ≡ same_key xs ys
unfolding same_key
rest_tells zero xs ys l h e = refl
rest_tells (suc n) [] ys l h e = absurd (omega arith)
rest_tells (suc n) (x ∷ xs) [] l h e = absurd (omega arith)
rest_tells (suc n) (x ∷ xs) (y ∷ ys) l h e =
    let first : x ≡ y = ap (λ (zs : List ℕ). get_or zs 0 0) e in
    let rest : take n xs ≡ take n ys = ap (λ (zs : List ℕ). drop 1 zs) e in
    rw (eq-eqb x y first) (rest_tells n xs ys (omega arith) (omega arith) rest)

-- keys compared as slices
pub same_key_is : (xs ys : List ℕ) → pointwise eqb xs ys ≡ same_key xs ys
unfolding same_key
same_key_is [] [] = refl
same_key_is [] (y ∷ ys) = refl
same_key_is (x ∷ xs) [] = refl
same_key_is (x ∷ xs) (y ∷ ys) = rw (same_key_is xs ys)

-- the digest of bytes amid others is theirs alone
digest_same : (xs : List ℕ) (a n : ℕ) → 1 ≤ n → digest_of xs a n ≡ digest_of (take n (drop a xs)) 0 n
unfolding digest_of
digest_same xs a n h = elim (dec_le 8 n) [
  | yes l ↦
      let e : a + n - 8 ≡ a + (n - 8) = omega arith in
      let f : 0 + n - 8 ≡ n - 8 = omega arith in
      rw (
        le-leb 8 n l,
        f,
        drop_take (n - 8) 8 n (drop a xs) (omega arith),
        take-take 8 8 (drop (n - 8) (drop a xs)) (omega arith),
        take-take 8 n (drop a xs) l,
        drop-drop (n - 8) a xs,
        e,
      )
  | no l ↦ rw (lt-leb 8 n (omega arith)) (elim (dec_le 2 n) [ yes m ↦ rw (le-leb 2 n m, at 2 m (omega arith), at 1 h (omega arith)) | no m ↦ rw (lt-leb 2 n (omega arith), at 1 h (omega arith)) ])
]
  where
    at : (i : ℕ) → i ≤ n → 0 < i → get_or xs (a + n - i) 0 ≡ get_or (take n (drop a xs)) (0 + n - i) 0
    at i k p =
        let e : a + n - i ≡ a + (n - i) = omega arith in
        let f : 0 + n - i ≡ n - i = omega arith in
        rw (e, f) (sym (get_or-take n (drop a xs) (n - i) 0 (omega arith) ∙ get_or-drop a xs (n - i) 0))

-- the key of a place
module _ (xs : List ℕ) (long : length xs ≡ list_size) (k : ℕ) (h : k < 64) where
  pub key_of_place : {n : ℕ} → get_or xs k 0 ≡ n → n ≤ 64 → (place_at xs k).key ≡ take n (drop (keys_at + k * 64) xs)
  unfolding place_at key_bytes
  key_of_place {n} e l = rw e (take-take n 64 (drop (keys_at + k * 64) xs) l)

  key_length : get_or xs k 0 ≤ 64 → length (place_at xs k).key ≡ get_or xs k 0
  unfolding place_at key_bytes
  key_length l =
      omega (arith, length-take (get_or xs k 0) (take 64 (drop (keys_at + k * 64) xs)), length-take 64 (drop (keys_at + k * 64) xs), length-drop (keys_at + k * 64) xs)

  pub other_length : (key : List ℕ) → get_or xs k 0 ≤ 64 → (get_or xs k 0 ≡ length key → ⊥) → same_key (place_at xs k).key key ≡ false
  other_length key l d = key_differs (place_at xs k).key key (λ e. d (sym (key_length l) ∙ ap length e))

  -- whatever the length of its key
  pub other_digest : (key : List ℕ) → get_or xs k 0 ≤ 64 → KeyLong key → (digest_of xs (keys_at + k * 64) (length key) ≡ digest_of key 0 (length key) → ⊥)
      → same_key (place_at xs k).key key ≡ false
  other_digest key l s d = elim (ℕ_discrete (get_or xs k 0) (length key)) [
    | yes e ↦ key_differs (place_at xs k).key key (λ q. d (digest_same xs (keys_at + k * 64) (length key) s.0 ∙ ap (λ (x : List ℕ). digest_of x 0 (length key)) (sym (key_of_place e s.1) ∙ q)))
    | no n ↦ other_length key l n
  ]
