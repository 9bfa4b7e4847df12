-- The counter of a slot, and an addition that it holds, by the ordinary block of the same count bytes.
use mathlib.Core.Path.{◌≡◌, sym, ap, ◌∙◌}
use mathlib.Core.Bool.{true}
use Prim.Native.Nat.{ℕ, ◌≤◌, ◌<◌}
use lib.IntN.{ℤ, ◌+ℤ◌, nat_abs}
use Rattle.group_layout.specs.Layout.{layout, valid, level_of}
use Rattle.group_layout.proofs.Laws.{marks_layout}
use Rattle.group_block.specs.declared.Counter.{Counter}
use Rattle.group_block.specs.Block.{cap, number_of, all_clean, block_as, block, counter_value, counter_at}
use Rattle.group_block.specs.Change.{change}
use Rattle.group_block.specs.Passed.{summed_as}
use Rattle.group_block.proofs.Laws.{block_fits}
use Rattle.group_slots.proofs.Slots.{level_le, level_block, value_lt}
use Rattle.group_slots.proofs.AnyKind.{value_of, clean_at, add_replaced}
use Rattle.signed_block.specs.Signed.{top, sign_bits, sign_read, not_minus_zero, signed}
use Rattle.signed_block.specs.Passed.{signed_block}
use Rattle.signed_block.proofs.Counters.{signed_codes}
use Rattle.signed_words.specs.Words.{Stays}

-- what the ordinary block says of a slot's counter: a level and bits of it, which stand for the signed counter's value
module _ (w m k : ℕ) (r : Counter) (e : r ≡ counter_at (block 3 w m) k) where
  pub level_of_lem : r.level ≡ level_of (layout 3 m) k
  level_of_lem = ap (λ (x : Counter). x.level) e ∙ level_block 3 w m k

  pub counter_in : w < cap 3 → (r.level ≤ 3) × (r.value < cap r.level)
  counter_in h = rw e (level_le (block 3 w m) k, value_lt (block 3 w m) k (block_fits 3 w m h))

  pub value_is : sign_read r.level r.value ≡ counter_value (signed_block 3 w m) k
  unfolding block_as
  value_is = ap (λ (x : ℕ). sign_read x r.value) level_of_lem ∙ ap (λ (x : Counter). sign_read (level_of (layout 3 m) k) x.value) e ∙ sym (value_of signed (layout 3 m) w k)

  -- not those of minus zero
  pub clean_value : all_clean signed (layout 3 m) w ≡ true → not_minus_zero r.level r.value ≡ true
  unfolding block_as
  clean_value c =
      ap (λ (x : ℕ). not_minus_zero x r.value) level_of_lem
      ∙ ap (λ (x : Counter). not_minus_zero (level_of (layout 3 m) k) x.value) e
      ∙ clean_at signed (layout 3 m) w k c

-- an addition that the counter holds puts the sum's bits into it
pub stays : (w m k : ℕ) (a : ℤ) → w < cap 3 → valid 3 m ≡ true → all_clean signed (layout 3 m) w ≡ true
    → nat_abs (counter_value (signed_block 3 w m) k +ℤ a) < top (level_of (layout 3 m) k)
    → Stays w m k a (number_of (change (block 3 w m) k (sign_bits (level_of (layout 3 m) k) (counter_value (signed_block 3 w m) k +ℤ a))))
unfolding block_as summed_as
stays w m k a h v c s = let t = add_replaced signed_codes (layout 3 m) w k a h c s in rw (t.1, t.2, marks_layout 3 m v, t.3)
