-- Laws of the totals of a signed traffic.
use mathlib.Core.Path.{◌≡◌, refl, sym, ap, ap₂, ◌∙◌}
use mathlib.Core.Bool.{Bool, true, false, cond}
use mathlib.Core.List.{List, [], ◌∷◌, ◌++◌}
use Prim.Native.Nat.{ℕ, ◌/◌, ◌^◌}
use borrow.Author.Tests.{eq-eqb, ne_eqb}
use lib.Dec.{eqb}
use lib.IntN.{ℤ, pos, ◌+ℤ◌, +ℤ_comm, +ℤ_assoc, +ℤ_idl, +ℤ_invr}
use Rattle.group_block_laws.specs.Counts.{Adds}
use Rattle.group_block_laws.proofs.Counting.{Plus, plus_adds}
use Rattle.hash.specs.Hash.{basis}
use Rattle.meter_keys.specs.Keys.{key_slot, key_sign}
use Rattle.signed_number.specs.Number.{times_sign}
use Rattle.signed_number.proofs.Integers.{times_plus, times_zero}
use Rattle.signed_block.specs.Signed.{signed}
use Rattle.signed_block.proofs.Counters.{signed_sums}
use Rattle.traffic.specs.Traffic.{block_of}
use Rattle.signed_claim.specs.Traffic.{Pair, share, block_total, times_pairs}

-- two signs in either order
times_swap : (a b : Bool) (v : ℤ) → times_sign a (times_sign b v) ≡ times_sign b (times_sign a v)
unfolding times_sign
times_swap true true v = refl
times_swap true false v = refl
times_swap false true v = refl
times_swap false false v = refl

module _ (w r : ℕ) where
  -- one pair more is its amount times the sign more at the key's slot
  pub pair_plus : (p : Pair) (ps : List Pair)
      → Plus signed (block_total w r ps) (block_total w r (p ∷ ps)) (key_slot basis w p.key r) (times_sign (key_sign basis p.key r) p.amount)
  unfolding block_total share block_of
  pair_plus p ps =
      let s = key_slot basis w p.key r in
      record {
        at = λ n i e. rw (eq-eqb (s / 2 ^ n) i e) (+ℤ_comm (times_sign (key_sign basis p.key r) p.amount) (block_total w r ps n i));
        off = λ n i e. rw (ne_eqb (s / 2 ^ n) i e) (+ℤ_idl (block_total w r ps n i));
      }

  -- a block's total is the sum of its halves'
  pub totals_add : (ps : List Pair) → Adds signed (block_total w r ps)
  unfolding block_total
  totals_add [] n i = refl
  totals_add (p ∷ ps) n i =
      plus_adds signed (block_total w r ps) (block_total w r (p ∷ ps)) (key_slot basis w p.key r) (times_sign (key_sign basis p.key r) p.amount)
      (pair_plus p ps) signed_sums (totals_add ps) n i

  -- two traffics together, and one times a sign
  totals_append : (ps qs : List Pair) (n i : ℕ) → block_total w r (ps ++ qs) n i ≡ block_total w r ps n i +ℤ block_total w r qs n i
  unfolding block_total
  totals_append [] qs n i = sym (+ℤ_idl (block_total w r qs n i))
  totals_append (p ∷ ps) qs n i =
      ap (λ (x : ℤ). share w r n i p +ℤ x) (totals_append ps qs n i) ∙ sym (+ℤ_assoc (share w r n i p) (block_total w r ps n i) (block_total w r qs n i))

  share_times : (minus : Bool) (p : Pair) (n i : ℕ) → share w r n i (record { key = p.key; amount = times_sign minus p.amount }) ≡ times_sign minus (share w r n i p)
  unfolding share
  share_times minus p n i = go (eqb (block_of w r n p.key) i)
    where
      sign : Bool
      sign = key_sign basis p.key r

      go : (t : Bool) → cond t (times_sign sign (times_sign minus p.amount)) (pos 0) ≡ times_sign minus (cond t (times_sign sign p.amount) (pos 0))
      go true = times_swap sign minus p.amount
      go false = sym (times_zero minus)

  totals_times : (minus : Bool) (ps : List Pair) (n i : ℕ) → block_total w r (times_pairs minus ps) n i ≡ times_sign minus (block_total w r ps n i)
  unfolding block_total times_pairs
  totals_times minus [] n i = sym (times_zero minus)
  totals_times minus (p ∷ ps) n i =
      ap₂ (λ (x y : ℤ). x +ℤ y) (share_times minus p n i) (totals_times minus ps n i) ∙ sym (times_plus minus (share w r n i p) (block_total w r ps n i))

  -- a source added or taken away
  pub totals_combined : (minus : Bool) (qs ps : List Pair) (n i : ℕ)
      → block_total w r (times_pairs minus qs ++ ps) n i ≡ block_total w r ps n i +ℤ times_sign minus (block_total w r qs n i)
  totals_combined minus qs ps n i =
      totals_append (times_pairs minus qs) ps n i
      ∙ ap (λ (x : ℤ). x +ℤ block_total w r ps n i) (totals_times minus qs n i)
      ∙ +ℤ_comm (times_sign minus (block_total w r qs n i)) (block_total w r ps n i)

  -- a traffic taken away from itself
  pub totals_itself : (ps : List Pair) (n i : ℕ) → block_total w r (times_pairs true ps ++ ps) n i ≡ pos 0
  unfolding times_sign
  totals_itself ps n i = totals_combined true ps ps n i ∙ +ℤ_invr (block_total w r ps n i)
