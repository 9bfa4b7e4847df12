-- Laws of what is counted of key lengths.
use mathlib.Core.Path.{◌≡◌, refl, sym, ap, ◌∙◌}
use mathlib.Core.Bool.{true, false, and-true, and-false, and-eq-true_iff}
use mathlib.Core.List.{List, [], ◌∷◌}
use Prim.Native.Nat.{ℕ, zero, suc, ◌+◌, ◌-◌, ◌≤◌, ◌<◌}
use native.Mathlib.Numerals.{add-one}
use native.Mathlib.Decide.{dec_le, dec_lt}
use native.Mathlib.Omega.{arith}
use borrow.Author.Tests.{le-leb, lt-leb, lt-ltb, le-ltb, ne_eqb, eqb-true}
use lib.Dec.{eqb, leb}
use lib.ListN.{length, get_or, take, drop, drop_of_length-le}
use lib.Seq.{drop-cons}
use Rattle.watch_list.specs.Layout.{list_size, in_use, all_zero, sound_lengths, sound}
use Rattle.watch_list.specs.Parts.{Holds}
use Rattle.watch_sound.specs.Lengths.{longest_key, above_at, too_long}

-- above a bound or not
pub above_no : (bound n : ℕ) → n ≤ bound → above_at bound n ≡ 0
unfolding above_at
above_no bound n h = rw (le-ltb bound n h)

pub above_yes : (bound n : ℕ) → bound < n → above_at bound n ≡ 1
unfolding above_at
above_yes bound n h = rw (lt-ltb bound n h)

-- one length more, and none left
module _ (ls : List ℕ) (n k : ℕ) where
  pub long_turn : k < length ls → too_long (n - k) (drop k ls) ≡ above_at (longest_key k n) (get_or ls k 0) + too_long (n - (k + 1)) (drop (k + 1) ls)
  unfolding too_long
  long_turn h = elim (dec_lt k n) [
    | yes l ↦
        let e : n - k ≡ suc (n - (k + 1)) = omega arith in
        rw (e, drop-cons ls k 0 h, add-one k, lt-ltb k n l)
    | no l ↦
        let e : n - k ≡ 0 = omega arith in
        let f : n - (k + 1) ≡ 0 = omega arith in
        rw (f, e, drop-cons ls k 0 h, add-one k, le-ltb k n (omega arith))
  ]

  pub long_end : length ls ≤ k → too_long (n - k) (drop k ls) ≡ 0
  unfolding too_long
  long_end h = rw (drop_of_length-le ls {i = k} h)

-- one length in front: what it adds to a count
module _ (bound l : ℕ) (ls : List ℕ) (n : ℕ) where
  short_adds : l ≤ bound → above_at bound l + too_long n ls ≡ too_long n ls
  short_adds h = omega (arith, above_no bound l h)

  long_adds : bound < l → above_at bound l + too_long n ls ≡ suc (too_long n ls)
  long_adds h = omega (arith, above_yes bound l h)

some : (n : ℕ) → eqb (suc n) 0 ≡ false
some n = ne_eqb (suc n) 0 (λ z. omega arith)

-- too long for a free place: all but 0
zeros_by : (ls : List ℕ) → all_zero ls ≡ eqb (too_long 0 ls) 0
unfolding all_zero too_long
zeros_by [] = refl
zeros_by (zero ∷ ls) = rw (short_adds 0 0 ls 0 (omega arith)) (zeros_by ls)
zeros_by (suc l ∷ ls) = rw (long_adds 0 (suc l) ls 0 (omega arith), some (too_long 0 ls))

-- of the keys at most n lie before place n
rest : (ls : List ℕ) (n : ℕ) → too_long 0 ls ≤ n + too_long n ls
unfolding too_long
rest ls zero = omega arith
rest [] (suc n) = omega arith
rest (zero ∷ ls) (suc n) = omega (arith, short_adds 0 0 ls 0 (omega arith), rest ls n)
rest (suc l ∷ ls) (suc n) = omega (arith, long_adds 0 (suc l) ls 0 (omega arith), rest ls n)

-- n keys after a 0: if there is any, one lies past the first n places
after_zero : (ls : List ℕ) (n : ℕ) → too_long 0 ls ≡ n → eqb n 0 ≡ eqb (too_long n (0 ∷ ls)) 0
unfolding too_long
after_zero ls zero e = rw (short_adds 0 0 ls 0 (omega arith), e)
after_zero ls (suc n) e = rw (short_adds 64 0 ls n (omega arith), some n) (sym (ne_eqb (too_long n ls) 0 (λ z. omega (arith, rest ls n))))

sound_by : (ls : List ℕ) → sound_lengths ls ≡ eqb (too_long (too_long 0 ls) ls) 0
unfolding sound_lengths too_long
sound_by [] = refl
sound_by (zero ∷ ls) = rw (short_adds 0 0 ls 0 (omega arith)) (zeros_by ls ∙ after_zero ls (too_long 0 ls) refl)
sound_by (suc l ∷ ls) =
    let used = long_adds 0 (suc l) ls 0 (omega arith) in
    elim (dec_le (suc l) 64) [
      | yes h ↦ rw (used, le-leb (suc l) 64 h, short_adds 64 (suc l) ls (too_long 0 ls) h) (sound_by ls)
      | no h ↦ rw (used, lt-leb (suc l) 64 (omega arith), long_adds 64 (suc l) ls (too_long 0 ls) (omega arith), some (too_long (too_long 0 ls) ls))
    ]

-- the places in use of sound lengths
sound_uses : (ls : List ℕ) → sound_lengths ls ≡ true → too_long 0 ls ≡ in_use ls
unfolding sound_lengths too_long in_use
sound_uses [] e = refl
sound_uses (zero ∷ ls) e = short_adds 0 0 ls 0 (omega arith) ∙ eqb-true (too_long 0 ls) 0 (sym (zeros_by ls) ∙ e)
sound_uses (suc l ∷ ls) e =
    long_adds 0 (suc l) ls 0 (omega arith) ∙ ap suc (sound_uses ls ((and-eq-true_iff (leb (suc l) 64) (sound_lengths ls)).0 e).1)

-- a list by the two counts and its mark
module _ (list : List ℕ) {n r m : ℕ} (used : n ≡ too_long 0 (take 64 list)) (over : r ≡ too_long n (take 64 list)) (marked : m ≡ above_at 1 (get_or list 64 0)) where
  sound_lengths_lem : sound_lengths (take 64 list) ≡ eqb r 0
  sound_lengths_lem = sound_by (take 64 list) ∙ ap (λ (k : ℕ). eqb (too_long k (take 64 list)) 0) (sym used) ∙ ap (λ (k : ℕ). eqb k 0) (sym over)

  pub sound_is : sound list ≡ eqb (r + m) 0
  unfolding sound
  sound_is = elim (dec_le (get_or list 64 0) 1) [
    | yes h ↦
        let e : r + m ≡ r = omega (arith, above_no 1 (get_or list 64 0) h) in
        rw (e, le-leb (get_or list 64 0) 1 h, and-true) sound_lengths_lem
    | no h ↦
        let e : r + m ≡ suc r = omega (arith, above_yes 1 (get_or list 64 0) (omega arith)) in
        rw (e, some r, lt-leb (get_or list 64 0) 1 (omega arith), and-false)
  ]

-- what those who change a sound list ask for, by its usage
pub usage_holds : {list : List ℕ} {n : ℕ} → length list ≡ list_size → sound list ≡ true → n ≡ too_long 0 (take 64 list) → Holds list n
unfolding sound
usage_holds {list} long good used = record {
  long = long;
  is_sound = good;
  entries = used ∙ sound_uses (take 64 list) ((and-eq-true_iff (sound_lengths (take 64 list)) (leb (get_or list 64 0) 1)).0 good).0;
}
