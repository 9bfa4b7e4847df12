-- Unmerged blocks of any kind united slot by slot, where each slot holds its sum.
use Rattle.std.proofs.Common.{Ok, ◌≡◌, ℕ, zero, suc, ◌+◌, ◌-◌, ◌*◌, ◌/◌, ◌%◌, ◌^◌, ◌<◌, true, eqb, List, [], ◌∷◌, length, get_or, take, drop, refl, ap, ◌∙◌, zero-mul, mul_left_comm, arith, length-drop, length-take-le, get_or-drop, get_or-take, pow-add, lt-ltb}
use mathlib.Core.Bool.{or-true}
use native.Mathlib.Nat.{zero-div, zero-mod}
use lib.Arith.{digits_div, digits_mod}
use Rattle.laws.proofs.Lists.{Bytes, bytes_take, bytes_drop}
use Rattle.little_endian.specs.Bytes.{number}
use Rattle.little_endian.proofs.Bytes.{number_lt}
use Rattle.group_layout.specs.Layout.{halves, bit, ones, layout, valid}
use Rattle.group_block.specs.Kind.{Kind}
use Rattle.group_block.specs.Block.{counter, cap, fill, all_clean, block_as, total}
use Rattle.group_block.specs.Sum.{fits, held, join, unite}
use Rattle.group_block.specs.Passed.{summed_as}
use Rattle.group_block.proofs.Codes.{Codes}
use Rattle.group_block.proofs.Laws.{word_block_of, marks_block_of}

-- no bit set: two unmerged halves, and valid
pub clear_halves : (n : ℕ) → layout (suc n) 0 ≡ halves (layout n 0) (layout n 0)
unfolding layout bit
clear_halves n = rw (zero-div (2 ^ (2 ^ n - 1)), zero-mod (2 ^ (2 ^ n)), zero-div (2 ^ (2 ^ n)))

pub clear_valid : (n : ℕ) → valid n 0 ≡ true
unfolding valid
clear_valid zero = refl
clear_valid (suc n) = rw (zero-mod (2 ^ (2 ^ n)), zero-div (2 ^ (2 ^ n)), clear_valid n) (or-true (eqb 0 (ones (suc n))))

-- the number of one byte, and of bytes by parts
number_one : (a : ℕ) → number (a ∷ []) ≡ a
unfolding number
number_one a = omega arith

number_parts : (k : ℕ) (xs : List ℕ) → number xs ≡ number (drop k xs) * 2 ^ (8 * k) + number (take k xs)
unfolding number
number_parts zero xs = omega arith
number_parts (suc k) [] = omega (arith, zero-mul (2 ^ (8 * suc k)))
number_parts (suc k) (b ∷ bs) =
    let p : 2 ^ (8 * suc k) ≡ 256 * 2 ^ (8 * k) = ap (λ (n : ℕ). 2 ^ n) (omega arith) ∙ pow-add 2 8 (8 * k) in
    rw p (omega (arith, number_parts k bs, mul_left_comm (number (drop k bs)) 256 (2 ^ (8 * k))))

halves_of_lem : (n : ℕ) (xs : List ℕ) → number (take (2 ^ n) xs) < cap n
    → (number xs % cap n ≡ number (take (2 ^ n) xs)) × (number xs / cap n ≡ number (drop (2 ^ n) xs))
unfolding cap
halves_of_lem n xs h = (
  rw (number_parts (2 ^ n) xs) (digits_mod (number (drop (2 ^ n) xs)) h),
  rw (number_parts (2 ^ n) xs) (digits_div (number (drop (2 ^ n) xs)) h),
)

number_below : (n : ℕ) (xs : List ℕ) → length xs ≡ 2 ^ n → Bytes xs → number xs < cap n
unfolding cap
number_below n xs l b = rw l at (number_lt xs b)

-- the bytes of an unmerged block of level n, and those of its halves
pub record Slots (n : ℕ) (xs : List ℕ) : Type 0 where
  pub long : length xs ≡ 2 ^ n
  pub small : Bytes xs

module _ {n : ℕ} {xs : List ℕ} (s : Slots (suc n) xs) where
  pub low_slots : Slots n (take (2 ^ n) xs)
  low_slots = let l = s.long in
      record { long = length-take-le (2 ^ n) xs (omega arith); small = bytes_take (2 ^ n) xs s.small }

  pub high_slots : Slots n (drop (2 ^ n) xs)
  high_slots = let l = s.long in
      record { long = rw (length-drop (2 ^ n) xs) (omega arith); small = bytes_drop (2 ^ n) xs s.small }

  pub number_halves : (number xs % cap n ≡ number (take (2 ^ n) xs)) × (number xs / cap n ≡ number (drop (2 ^ n) xs))
  number_halves = halves_of_lem n xs (number_below n (take (2 ^ n) xs) low_slots.long low_slots.small)

-- one slot
pub number_slot : (xs : List ℕ) → length xs ≡ 1 → number xs ≡ get_or xs 0 0
number_slot [] l = absurd (omega arith)
number_slot (a ∷ []) l = number_one a
number_slot (a ∷ b ∷ xs) l = absurd (omega arith)

-- each slot has bits of a value
pub slots_clean : (K : Kind) (n : ℕ) (xs : List ℕ) → Slots n xs → ((i : ℕ) → i < 2 ^ n → K.clean 0 (get_or xs i 0) ≡ true) → all_clean K (layout n 0) (number xs) ≡ true
unfolding all_clean layout
slots_clean K zero xs s f = rw (number_slot xs s.long) (f 0 (omega arith))
slots_clean K (suc n) xs s f =
    let x = number_halves s in
    let low = slots_clean K n (take (2 ^ n) xs) (low_slots s) (λ i h. rw (get_or-take (2 ^ n) xs i 0 h) (f i (omega arith))) in
    let high = slots_clean K n (drop (2 ^ n) xs) (high_slots s) (λ i h. rw (get_or-drop (2 ^ n) xs i 0) (f (2 ^ n + i) (omega arith))) in
    rw (clear_halves n, x.0, x.1, low, high)

-- three lists related element by element
pub data Each (R : ℕ → ℕ → ℕ → Type 0) : List ℕ → List ℕ → List ℕ → Type 0 where
  none : Each R [] [] []
  more : {a b c : ℕ} {xs ys zs : List ℕ} → R a b c → Each R xs ys zs → Each R (a ∷ xs) (b ∷ ys) (c ∷ zs)

module _ {R : ℕ → ℕ → ℕ → Type 0} where
  pub each_take : (k : ℕ) {xs ys zs : List ℕ} → Each R xs ys zs → Each R (take k xs) (take k ys) (take k zs)
  each_take zero s = none
  each_take (suc k) none = none
  each_take (suc k) (more r s) = more r (each_take k s)

  pub each_drop : (k : ℕ) {xs ys zs : List ℕ} → Each R xs ys zs → Each R (drop k xs) (drop k ys) (drop k zs)
  each_drop zero s = s
  each_drop (suc k) none = none
  each_drop (suc k) (more r s) = each_drop k s

  pub each_long : {xs ys zs : List ℕ} → Each R xs ys zs → (length ys ≡ length xs) × (length zs ≡ length xs)
  each_long none = (refl, refl)
  each_long (more r s) = let l = each_long s in (ap suc l.0, ap suc l.1)

  -- by their elements
  pub each_of : (xs ys zs : List ℕ) → length ys ≡ length xs → length zs ≡ length xs
      → ((i : ℕ) → i < length xs → R (get_or xs i 0) (get_or ys i 0) (get_or zs i 0)) → Each R xs ys zs
  each_of [] [] [] l m f = none
  each_of [] [] (z ∷ zs) l m f = absurd (omega arith)
  each_of [] (y ∷ ys) zs l m f = absurd (omega arith)
  each_of (x ∷ xs) [] zs l m f = absurd (omega arith)
  each_of (x ∷ xs) (y ∷ ys) [] l m f = absurd (omega arith)
  each_of (x ∷ xs) (y ∷ ys) (z ∷ zs) l m f = more (f 0 (omega arith)) (each_of xs ys zs (omega arith) (omega arith) (λ i h. f (suc i) (omega arith)))

-- slot c holds the sum of slots a and b
pub record Holds (K : Kind) (a b c : ℕ) : Type 0 where
  pub first : a < 256
  pub second : b < 256
  pub small : K.size (K.plus (K.read 0 a) (K.read 0 b)) < K.bound 0
  pub is : c ≡ K.bits 0 (K.plus (K.read 0 a) (K.read 0 b))

module _ {K : Kind} (C : Codes K) where
  third : {a b c : ℕ} → Holds K a b c → c < 256
  unfolding cap
  third r = rw r.is (C.bits_lt 0 _ r.small)

  pub each_bytes : {xs ys zs : List ℕ} → Each (Holds K) xs ys zs → Bytes xs × Bytes ys × Bytes zs
  each_bytes s = (λ i. (at s i).0, λ i. (at s i).1, λ i. (at s i).2)
    where
      at : {xs ys zs : List ℕ} → Each (Holds K) xs ys zs → (i : ℕ) → (get_or xs i 0 < 256) × (get_or ys i 0 < 256) × (get_or zs i 0 < 256)
      at none i = (omega arith, omega arith, omega arith)
      at (more r s) zero = (r.first, r.second, third r)
      at (more r s) (suc i) = at s i

  slot_united : {a b c : ℕ} → Holds K a b c
      → unite {K = K} (counter {n = 0} (K.read 0 a)) (counter (K.read 0 b)) ≡ fits (counter (K.read 0 c))
  unfolding unite total held
  slot_united {a} {b} {c} r =
      rw (lt-ltb (K.size (K.plus (K.read 0 a) (K.read 0 b))) (K.bound 0) r.small, r.is, C.read_bits 0 _ r.small)

  one_united : {xs ys zs : List ℕ} → length xs ≡ 1 → Each (Holds K) xs ys zs
      → unite {K = K} (counter {n = 0} (K.read 0 (number xs))) (counter (K.read 0 (number ys))) ≡ fits (counter (K.read 0 (number zs)))
  one_united l none = absurd (omega arith)
  one_united l (more {a} {b} {c} r none) = rw (number_one a, number_one b, number_one c) (slot_united r)
  one_united l (more r (more q s)) = absurd (omega arith)

  each_clean : {xs ys zs : List ℕ} → Each (Holds K) xs ys zs → (i : ℕ) → i < length xs → K.clean 0 (get_or zs i 0) ≡ true
  each_clean none i h = absurd (omega arith)
  each_clean (more r s) zero h = rw r.is (C.bits_clean 0 _ r.small)
  each_clean (more r s) (suc i) h = each_clean s i (omega arith)

  each_slots : (n : ℕ) {xs ys zs : List ℕ} → length xs ≡ 2 ^ n → Each (Holds K) xs ys zs → Slots n xs × Slots n ys × Slots n zs
  each_slots n l s = let m = each_long s in
      let b = each_bytes s in
      (record { long = l; small = b.0 }, record { long = m.0 ∙ l; small = b.1 }, record { long = m.1 ∙ l; small = b.2 })

  -- the union of unmerged blocks of any level
  slots_united : (n : ℕ) {xs ys zs : List ℕ} → length xs ≡ 2 ^ n → Each (Holds K) xs ys zs
      → unite (fill {K = K} (layout n 0) (number xs)) (fill (layout n 0) (number ys)) ≡ fits (fill (layout n 0) (number zs))
  unfolding fill unite join layout
  slots_united zero l s = one_united l s
  slots_united (suc n) {xs} {ys} {zs} l s =
      let b = each_slots (suc n) l s in
      let x = number_halves b.0 in
      let y = number_halves b.1 in
      let z = number_halves b.2 in
      let low = slots_united n (low_slots b.0).long (each_take (2 ^ n) s) in
      let high = slots_united n (high_slots b.0).long (each_drop (2 ^ n) s) in
      rw (clear_halves n, x.0, x.1, y.0, y.1, z.0, z.1, low, high)

  module _ (n : ℕ) {xs ys zs : List ℕ} (l : length xs ≡ 2 ^ n) (s : Each (Holds K) xs ys zs) where
    pub sums_below : number zs < cap n
    sums_below = number_below n zs ((each_long s).1 ∙ l) (each_bytes s).2

    pub sums_united : unite (block_as K n (number xs) 0) (block_as K n (number ys) 0) ≡ fits (block_as K n (number zs) 0)
    unfolding block_as
    sums_united = slots_united n l s

    -- as the code passes it
    pub sums_passed : {F : Type 0} (made : K.Value → F)
        → Ok (record { word = number zs; merge = 0 }) ≡ summed_as K made (unite (block_as K n (number xs) 0) (block_as K n (number ys) 0))
    unfolding summed_as
    sums_passed made =
        let clean = slots_clean K n zs (each_slots n l s).2 (λ i h. each_clean s i (omega arith)) in
        rw (sums_united, word_block_of C n (number zs) 0 sums_below clean, marks_block_of K n (number zs) 0 (clear_valid n))
