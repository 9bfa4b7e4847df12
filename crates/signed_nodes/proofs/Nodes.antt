-- The union of two blocks by the unions of their halves, for any level.
use Rattle.std.proofs.Common.{Ok}
use mathlib.Core.Path.{◌≡◌, refl, sym, ap, ap₂, ◌∙◌}
use mathlib.Core.Bool.{Bool, true, false, cond, ◌&&◌, ◌||◌, true≢false}
use Prim.Native.Nat.{ℕ, suc, ◌+◌, ◌*◌, ◌/◌, ◌%◌, ◌^◌, ◌≤◌, ◌<◌}
use native.Mathlib.Nat.{mod-lt}
use native.Mathlib.Decide.{dec_lt}
use native.Mathlib.Omega.{arith}
use borrow.Author.Tests.{lt-ltb, le-ltb, lt-leb, le-leb}
use lib.Dec.{leb}
use lib.IntN.{ℤ, ◌+ℤ◌, nat_abs}
use Rattle.group_layout.specs.Layout.{ones, marks, layout}
use Rattle.group_layout.specs.Merged.{is_merged}
use Rattle.group_layout.proofs.Laws.{marks_in}
use Rattle.group_block.specs.Block.{BlockOf, cap, shape, number_of, total}
use Rattle.group_block.specs.Sum.{SumOf, fits, over, held, join, unite, sum_total}
use Rattle.group_block.specs.Passed.{summed_as}
use Rattle.group_block.proofs.Laws.{cap_pos, high_lt, word_lt_of, block_fits_of, block_merged_of, block_suc}
use Rattle.group_block.proofs.Sums.{cross}
use Rattle.group_block.proofs.Adding.{Sound, unite_total_of, unite_sound, total_size}
use Rattle.group_block.proofs.Uniting.{unite_counter}
use Rattle.signed_block.specs.Signed.{signed, top, sign_bits, sign_read}
use Rattle.signed_block.specs.Passed.{signed_block, signed_summed}
use Rattle.signed_block.proofs.Counters.{top_half, signed_sums, signed_codes}
use Rattle.signed_nodes.specs.declared.Node.{Node}
use Rattle.signed_nodes.specs.declared.Tried.{Tried}
use Rattle.signed_nodes.proofs.Integers.{bias_small, raised_lt}
use Rattle.signed_nodes.specs.Nodes.{bias, Raised, told, Tells, passed, Sides, BesideAs}

-- a sum that is tried
pub held_tells : (n : ℕ) (v : ℤ) → Tells (record { over = leb (top n) (nat_abs v); word = sign_bits n v; merge = ones n }) (held {K = signed} n v)
unfolding held told number_of shape marks
held_tells n v = elim (dec_lt (nat_abs v) (top n)) [
  | yes h ↦ rw (lt-ltb (nat_abs v) (top n) h, lt-leb (top n) (nat_abs v) h) (record { whether = refl; block = λ e. refl })
  | no h ↦ rw (le-ltb (nat_abs v) (top n) (omega arith), le-leb (top n) (nat_abs v) (omega arith)) (record { whether = refl; block = λ e. absurd (true≢false e) })
]

-- two halves, one of which is over
join_over : {n : ℕ} (x y : SumOf signed n) → ((told x).over || (told y).over) ≡ true → join x y ≡ held (suc n) (sum_total x +ℤ sum_total y)
unfolding join told sum_total
join_over (fits l) (fits r) e = absurd (true≢false (sym e))
join_over (fits l) (over t) e = refl
join_over (over s) y e = refl

-- two halves that are blocks
record Kept {n : ℕ} (s : Tried) (x : SumOf signed n) : Type 0 where
  word_in : s.word < cap n
  merge_in : s.merge < 2 ^ (2 ^ n)
  block : BlockOf signed n
  is : x ≡ fits block
  word_is : s.word ≡ number_of block
  merge_is : s.merge ≡ marks (shape block)

kept : {n : ℕ} (s : Tried) (x : SumOf signed n) → Sound x → Tells s x → s.over ≡ false → Kept s x
unfolding told Sound
kept s (fits b) f t e =
    let w : s.word ≡ number_of b = ap (λ (u : Tried). u.word) (t.block e) in
    let m : s.merge ≡ marks (shape b) = ap (λ (u : Tried). u.merge) (t.block e) in
    record { word_in = rw w (word_lt_of signed_codes b f); merge_in = rw m (marks_in (shape b)); block = b; is = refl; word_is = w; merge_is = m }
kept s (over v) f t e = absurd (true≢false (sym t.whether ∙ e))

join_kept : {n : ℕ} (l r s : Tried) (x y : SumOf signed n) → Kept l x → Kept r y → BesideAs n l r s → s.over ≡ false → s ≡ told (join x y)
unfolding join told number_of shape marks
join_kept {n} l r s x y p q b e =
    let w : s.word ≡ number_of q.block * cap n + number_of p.block = rw (← q.word_is, ← p.word_is) (b.words p.word_in q.word_in) in
    let m : s.merge ≡ marks (shape q.block) * 2 ^ (2 ^ n) + marks (shape p.block) = rw (← q.merge_is, ← p.merge_is) (b.merges p.merge_in q.merge_in) in
    rw (p.is, q.is, ← w, ← m) (ap (λ (o : Bool). record { over = o; word = s.word; merge = s.merge }) e)

pub or_false : (a b : Bool) → (a || b) ≡ false → (a ≡ false) × (b ≡ false)
or_false true b e = absurd (true≢false e)
or_false false b e = (refl, e)

-- two blocks by their halves
module _ (n w m w' m' : ℕ) (h : w < cap (suc n)) (h' : w' < cap (suc n)) where
  abbrev l : BlockOf signed n
  l = signed_block n (w % cap n) (m % 2 ^ (2 ^ n))

  abbrev r : BlockOf signed n
  r = signed_block n (w / cap n) (m / 2 ^ (2 ^ n))

  abbrev l' : BlockOf signed n
  l' = signed_block n (w' % cap n) (m' % 2 ^ (2 ^ n))

  abbrev r' : BlockOf signed n
  r' = signed_block n (w' / cap n) (m' / 2 ^ (2 ^ n))

  lefts_sound : Sound (unite l l')
  lefts_sound = unite_sound l l' (block_fits_of signed_codes n _ _ (mod-lt w (cap_pos n))) (block_fits_of signed_codes n _ _ (mod-lt w' (cap_pos n)))

  rights_sound : Sound (unite r r')
  rights_sound = unite_sound r r' (block_fits_of signed_codes n _ _ (high_lt n w h)) (block_fits_of signed_codes n _ _ (high_lt n w' h'))

  module _ (s : Node) (a-is : Raised (suc n) s.a (total l +ℤ total r)) (b-is : Raised (suc n) s.b (total l' +ℤ total r'))
      (p q : Tried) (p_is : Tells p (unite l l')) (q-is : Tells q (unite r r')) (s-is : BesideAs n p q (passed s)) where
    pub sides_are : Sides (suc n) s w m w' m'
    unfolding unite total
    sides_are = record {
      first = λ e. rw (block_suc signed n w m e) a-is;
      second = λ e. rw (block_suc signed n w' m' e) b-is;
      one = λ e e' o. rw (block_suc signed n w m e, block_suc signed n w' m' e')
          (join_over (unite l l') (unite r r') (ap₂ (λ (a b : Bool). a || b) (sym p_is.whether) (sym q-is.whether) ∙ sym s-is.either ∙ o)
          ∙ ap (held (suc n)) (ap₂ (λ (x y : ℤ). x +ℤ y) (unite_total_of signed_sums l l') (unite_total_of signed_sums r r')
          ∙ cross signed_sums (total l) (total l') (total r) (total r')));
      both = λ e e' o.
          let f = or_false p.over q.over (sym s-is.either ∙ o) in
          rw (block_suc signed n w m e, block_suc signed n w' m' e')
          (join_kept p q (passed s) (unite l l') (unite r r') (kept p (unite l l') lefts_sound p_is f.0) (kept q (unite r r') rights_sound q-is f.1) s-is o);
    }

-- where either is one counter, or the union of two halves is over, so is the union
module _ (n w m w' m' : ℕ) (sides : Node) (known : Sides n sides w m w' m') where
  abbrev x : BlockOf signed n
  x = signed_block n w m

  abbrev y : BlockOf signed n
  y = signed_block n w' m'

  one_counter : (a b c : Bool) → is_merged (layout n m) ≡ a → is_merged (layout n m') ≡ b → sides.over ≡ c → ((a || b) || c) ≡ true
      → unite x y ≡ held n (total x +ℤ total y)
  unfolding unite total
  one_counter true b c e f g o = rw (block_merged_of signed n w m e)
  one_counter false true c e f g o = rw (block_merged_of signed n w' m' f) (unite_counter x (sign_read n w'))
  one_counter false false true e f g o = known.one e f g
  one_counter false false false e f g o = absurd (true≢false (sym o))

  sides_apart : (a b c : Bool) → is_merged (layout n m) ≡ a → is_merged (layout n m') ≡ b → sides.over ≡ c → ((a || b) || c) ≡ false
      → record { over = false; word = sides.word; merge = sides.merge } ≡ told (unite x y)
  sides_apart true b c e f g o = absurd (true≢false o)
  sides_apart false true c e f g o = absurd (true≢false o)
  sides_apart false false true e f g o = absurd (true≢false o)
  sides_apart false false false e f g o = ap (λ (b : Bool). record { over = b; word = sides.word; merge = sides.merge }) (sym g) ∙ known.both e f g

  -- the union as the code chooses it
  pub chosen_tells : (t : Tried) → Tells t (held {K = signed} n (total x +ℤ total y)) → (one : Bool) → ((is_merged (layout n m) || is_merged (layout n m')) || sides.over) ≡ one
      → Tells (record { over = one && t.over; word = cond one t.word sides.word; merge = cond one t.merge sides.merge }) (unite x y)
  chosen_tells t k true e = rw (one_counter _ _ _ refl refl refl e) k
  chosen_tells t k false e = let s = sides_apart _ _ _ refl refl refl e in
      record { whether = ap (λ (u : Tried). u.over) s; block = λ o. s }

-- a block's total is held by one counter of its level
pub total_in : (n w m : ℕ) → w < cap n → nat_abs (total (signed_block n w m)) < top n
total_in n w m h = total_size signed_sums (signed_block n w m) (block_fits_of signed_codes n w m h)

-- that of a half of a group or less, raised
pub raised_in : (n a w m : ℕ) → n ≤ 2 → w < cap n → Raised n a (total (signed_block n w m)) → a < 2 ^ 35
unfolding bias
raised_in n a w m k h e =
    omega (arith, raised_lt n a (total (signed_block n w m)) e, total_in n w m h, top_half n k, bias_small n 2 k)

-- that of two halves is held by a larger counter, with another beside it
pub apart_in : (n w m : ℕ) → w < cap (suc n) → is_merged (layout (suc n) m) ≡ false → nat_abs (total (signed_block (suc n) w m)) < top n + top n
unfolding total
apart_in n w m h e =
    let l = total_in n (w % cap n) (m % 2 ^ (2 ^ n)) (mod-lt w (cap_pos n)) in
    let r = total_in n (w / cap n) (m / 2 ^ (2 ^ n)) (high_lt n w h) in
    rw (block_suc signed n w m e) (omega (arith, signed_sums.triangle (total (signed_block n (w % cap n) (m % 2 ^ (2 ^ n)))) (total (signed_block n (w / cap n) (m / 2 ^ (2 ^ n))))))

-- a sum that its counter holds
pub held_is : (n : ℕ) (v : ℤ) (t : Tried) → Tells t (held {K = signed} n v) → nat_abs v < top n
    → record { over = false; word = t.word; merge = t.merge } ≡ told (held {K = signed} n v)
unfolding held told
held_is n v t k h =
    let o : t.over ≡ false = k.whether ∙ rw (lt-ltb (nat_abs v) (top n) h) in
    ap (λ (b : Bool). record { over = b; word = t.word; merge = t.merge }) (sym o) ∙ k.block o

-- one that is a block, as group_block passes it
pub told_passed : {n : ℕ} (x : SumOf signed n) (w m : ℕ) → record { over = false; word = w; merge = m } ≡ told x → Ok (record { word = w; merge = m }) ≡ signed_summed x
unfolding told summed_as
told_passed (fits b) w m e = ap₂ (λ (w m : ℕ). Ok (record { word = w; merge = m })) (ap (λ (t : Tried). t.word) e) (ap (λ (t : Tried). t.merge) e)
told_passed (over s) w m e = absurd (true≢false (sym (ap (λ (t : Tried). t.over) e)))
