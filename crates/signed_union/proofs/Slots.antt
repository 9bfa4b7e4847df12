-- Blocks with the words of their slots: one slot, two side by side, and the halves of any level.
use mathlib.Core.Path.{◌≡◌, refl, ap, ◌∙◌}
use mathlib.Core.Bool.{Bool, true, false, cond, not, ◌||◌, true≢false}
use Prim.Native.Nat.{ℕ, suc, ◌+◌, ◌*◌, ◌/◌, ◌%◌, ◌^◌, ◌≤◌, ◌<◌}
use native.Mathlib.Nat.{mod-lt, one-mul, zero-mul, div-one}
use native.Mathlib.Decide.{dec_lt}
use native.Mathlib.Omega.{arith}
use borrow.Author.Tests.{lt-ltb, le-ltb, eq-eqb, ne_eqb}
use lib.Dec.{eqb}
use lib.Pow.{pow_pos, shr_lt, shr_mod}
use lib.IntN.{◌+ℤ◌, nat_abs}
use Rattle.group_layout.specs.Layout.{ones, marks, layout}
use Rattle.group_block.specs.Block.{cap, shape, number_of, fill, block_as, total}
use Rattle.group_block.specs.Sum.{held, unite}
use Rattle.group_block.proofs.Laws.{cap_pos, high_lt}
use Rattle.signed_block.specs.Signed.{top, sign_read}
use Rattle.signed_block.specs.Passed.{signed_block}
use Rattle.signed_slots.specs.Slots.{sums_of, over_of}
use Rattle.signed_slots.proofs.Blocks.{sums_halves, over_halves, sums_lt, over_lt, sums_parts, over_parts, slot_held, slot_over}
use Rattle.signed_nodes.specs.declared.Node.{Node}
use Rattle.signed_nodes.specs.declared.Tried.{Tried}
use Rattle.signed_union.specs.declared.Blocks.{Blocks}
use Rattle.signed_nodes.specs.Nodes.{Raised, told, Tells, passed, BesideAs}
use Rattle.signed_union.specs.Slotted.{NodeOf, SidesOf, Slotted, lefts_of, rights_of, halves_of}
use Rattle.signed_nodes.proofs.Integers.{raised_sum}
use Rattle.signed_nodes.proofs.Nodes.{sides_are, raised_in}

-- one slot
abbrev slot : ℕ → ℕ → Tried
slot x y = record { over = not (eqb (over_of 0 x y) 0); word = sums_of 0 x y; merge = 0 }

slot_tells : (x y : ℕ) → x < cap 0 → y < cap 0 → Tells (slot x y) (unite (signed_block 0 x 0) (signed_block 0 y 0))
unfolding cap block_as layout fill unite total held told number_of shape marks ones
slot_tells x y h k =
    let v = sign_read 0 x +ℤ sign_read 0 y in
    elim (dec_lt 0 (over_of 0 x y)) [
      | yes o ↦
          let n : over_of 0 x y ≡ 0 → ⊥ = λ e. omega arith in
          rw (ne_eqb (over_of 0 x y) 0 n, le-ltb (nat_abs v) (top 0) (slot_over x y h k n)) (record { whether = refl; block = λ e. absurd (true≢false e) })
      | no o ↦
          let z : over_of 0 x y ≡ 0 = omega arith in
          let s = slot_held x y h k z in
          rw (eq-eqb (over_of 0 x y) 0 z, lt-ltb (nat_abs v) (top 0) s.0, s.1) (record { whether = refl; block = λ e. refl })
    ]

pub slot_small : (a x : ℕ) → x < cap 0 → Raised 0 a (sign_read 0 x) → a < 2 ^ 35
unfolding block_as layout fill total
slot_small a x h e = raised_in 0 a x 0 (omega arith) h e

-- two beside each other
either_over : (a b c : ℕ) → c ≡ b * 256 + a → not (eqb c 0) ≡ (not (eqb a 0) || not (eqb b 0))
either_over a b c e = elim (dec_lt 0 a) [
  | yes p ↦ rw (ne_eqb a 0 (λ z. omega arith), ne_eqb c 0 (λ z. omega arith))
  | no p ↦ elim (dec_lt 0 b) [
    | yes q ↦ rw (eq-eqb a 0 (omega arith), ne_eqb b 0 (λ z. omega arith), ne_eqb c 0 (λ z. omega arith))
    | no q ↦ rw (eq-eqb a 0 (omega arith), eq-eqb b 0 (omega arith), eq-eqb c 0 (omega arith))
  ]
]

slots_beside : (w v s o : ℕ) → s ≡ sums_of 1 w v → o ≡ over_of 1 w v
    → BesideAs 0 (slot (w % cap 0) (v % cap 0)) (slot (w / cap 0) (v / cap 0)) (record { over = not (eqb o 0); word = s; merge = 0 })
unfolding cap
slots_beside w v s o e f = record {
  either = either_over _ _ o (f ∙ over_halves 0 w v);
  words = λ h k. e ∙ sums_halves 0 w v;
  merges = λ h k. refl;
}

pub two_sides : (b : Blocks) (a a' : ℕ) → Slotted 1 b
    → Raised 1 a (sign_read 0 (b.word % cap 0) +ℤ sign_read 0 (b.word / cap 0))
    → Raised 1 a' (sign_read 0 (b.other_word % cap 0) +ℤ sign_read 0 (b.other_word / cap 0))
    → SidesOf 1 (record { a = a; b = a'; over = not (eqb b.overs 0); word = b.sums; merge = 0 }) b
unfolding block_as layout fill total
two_sides b a a' h p q =
    let w = b.word in
    let v = b.other_word in
    sides_are 0 w b.merge v b.other_merge h.word_in h.other_in _ p q _ _
    (slot_tells (w % cap 0) (v % cap 0) (mod-lt w (cap_pos 0)) (mod-lt v (cap_pos 0)))
    (slot_tells (w / cap 0) (v / cap 0) (high_lt 0 w h.word_in) (high_lt 0 v h.other_in))
    (slots_beside w v b.sums b.overs h.sums_are h.overs_are)

-- the halves of blocks
module _ (n : ℕ) (b : Blocks) (h : Slotted (suc n) b) where
  abbrev w : ℕ
  w = b.word

  abbrev v : ℕ
  v = b.other_word

  pub sums_in : b.sums < cap (suc n)
  sums_in = rw h.sums_are (sums_lt (suc n) w v h.word_in h.other_in)

  pub overs_in : b.overs < cap (suc n)
  overs_in = rw h.overs_are (over_lt (suc n) w v h.word_in h.other_in)

  merge_high : (m : ℕ) → m < 2 ^ (2 ^ suc n) → m / 2 ^ (2 ^ n) < 2 ^ (2 ^ n)
  merge_high m k = let e : 2 ^ suc n ≡ 2 ^ n + 2 ^ n = omega arith in shr_lt (2 ^ n) (2 ^ n) (rw e at k)

  lefts_slotted : Slotted n (lefts_of n b)
  unfolding lefts_of
  lefts_slotted = record {
    word_in = mod-lt w (cap_pos n);
    other_in = mod-lt v (cap_pos n);
    merge_in = mod-lt b.merge (pow_pos (2 ^ n));
    other_merge_in = mod-lt b.other_merge (pow_pos (2 ^ n));
    sums_are = ap (λ (s : ℕ). s % cap n) h.sums_are ∙ (sums_parts n w v).1;
    overs_are = ap (λ (s : ℕ). s % cap n) h.overs_are ∙ (over_parts n w v).1;
  }

  rights_slotted : Slotted n (rights_of n b)
  unfolding rights_of
  rights_slotted = record {
    word_in = high_lt n w h.word_in;
    other_in = high_lt n v h.other_in;
    merge_in = merge_high b.merge h.merge_in;
    other_merge_in = merge_high b.other_merge h.other_merge_in;
    sums_are = ap (λ (s : ℕ). s / cap n) h.sums_are ∙ (sums_parts n w v).0;
    overs_are = ap (λ (s : ℕ). s / cap n) h.overs_are ∙ (over_parts n w v).0;
  }

  pub halves_slotted : (k : ℕ) → Slotted n (halves_of n k b)
  unfolding halves_of
  halves_slotted k = go (eqb k 0)
    where
      go : (t : Bool) → Slotted n (cond t (lefts_of n b) (rights_of n b))
      go true = lefts_slotted
      go false = rights_slotted

  -- and their unions side by side
  module _ (l r : Node) (l_is : NodeOf n l (halves_of n 0 b)) (r_is : NodeOf n r (halves_of n 1 b)) where
    pub nodes_small : n ≤ 2 → (l.a + r.a < 2 ^ 64) × (l.b + r.b < 2 ^ 64)
    nodes_small k =
        let p = halves_slotted 0 in
        let q = halves_slotted 1 in
        let la = raised_in n l.a _ _ k p.word_in l_is.first in
        let lb = raised_in n l.b _ _ k p.other_in l_is.second in
        let ra = raised_in n r.a _ _ k q.word_in r_is.first in
        let rb = raised_in n r.b _ _ k q.other_in r_is.second in
        (omega arith, omega arith)

    pub nodes_beside : (s : Node) → (s.a ≡ l.a + r.a) × (s.b ≡ l.b + r.b) → BesideAs n (passed l) (passed r) (passed s) → SidesOf (suc n) s b
    unfolding halves_of lefts_of rights_of
    nodes_beside s e k =
        sides_are n b.word b.merge b.other_word b.other_merge h.word_in h.other_in s
        (rw e.0 (raised_sum n l.a r.a _ _ l_is.first r_is.first))
        (rw e.1 (raised_sum n l.b r.b _ _ l_is.second r_is.second))
        (passed l) (passed r) l_is.union r_is.union k

-- one half of a number, by its place
pub half_is : (k h w : ℕ) → h ≤ 1 → w < 2 ^ (k + k) → w / 2 ^ (h * k) % 2 ^ k ≡ cond (eqb h 0) (w % 2 ^ k) (w / 2 ^ k)
half_is k h w l below = elim (dec_lt 0 h) [
  | yes p ↦ let z : h ≡ 1 = omega arith in rw (z, one-mul k) (shr_mod k k below)
  | no p ↦ let z : h ≡ 0 = omega arith in rw (z, zero-mul k) (ap (λ (x : ℕ). x % 2 ^ k) (div-one w))
]
