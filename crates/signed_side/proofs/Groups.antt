-- Unmerged groups whose slots are not minus zero: none is refused, and slots that hold the sums are the groups combined.
use Rattle.std.proofs.Common.{Ok, ◌≡◌, ℕ, zero, suc, ◌+◌, ◌*◌, ◌^◌, ◌<◌, Bool, true, false, List, map, length, get_or, take, drop, nat_abs, sym, refl, ap, ◌∙◌, ap₂, arith, get_or-drop, get_or-take, ltb-true, ne_eqb}
use lib.ListN.{length-map, get_or-map}
use Rattle.laws.proofs.Lists.{Bytes}
use Rattle.little_endian.specs.Bytes.{number, bytes}
use Rattle.little_endian.proofs.Bytes.{bytes_number}
use Rattle.group_layout.specs.Layout.{layout}
use Rattle.group_block.specs.Kind.{cap}
use Rattle.group_block.specs.Block.{counter, split, fill, block_as}
use Rattle.group_block.specs.Sum.{unite}
use Rattle.group.specs.Stored.{stored}
use Rattle.group.proofs.Laws.{Eight, number_in}
use Rattle.group_side.specs.Side.{unmerged, part}
use Rattle.group_side.proofs.Parts.{part_long, part_eight, part_at}
use Rattle.group_side.proofs.Slots.{clear_halves, Slots, low_slots, high_slots, number_halves, number_slot, slots_clean, Each, each_of, Holds, each_bytes, sums_passed}
use Rattle.signed_number.specs.Number.{times_sign, signed_of}
use Rattle.signed_number.proofs.Integers.{abs_times}
use Rattle.signed_block.specs.Signed.{top, sign_bits, sign_read, not_minus_zero, signed, times_block}
use Rattle.signed_block.specs.Passed.{signed_summed}
use Rattle.signed_block.proofs.Counters.{signed_codes}
use Rattle.signed_words.proofs.Totals.{halves_fit}
use Rattle.signed_group.specs.Group.{decode, bad_pair, combined}
use Rattle.signed_group.proofs.Laws.{Clean, clean_pair, unmerged_clean, combined_settled, stored_is, status_fits}
use Rattle.signed_side.specs.Side.{Accepted, Combined, Neither, HoldsSum, NoMinusZeros, HoldSums}

-- unmerged slots, each times a sign, are the block times that sign: at any level
times_slots : (minus : Bool) (n : ℕ) (xs ys : List ℕ) → Slots n xs → Slots n ys → ((i : ℕ) → i < 2 ^ n → sign_read 0 (get_or ys i 0) ≡ times_sign minus (sign_read 0 (get_or xs i 0)))
    → fill {K = signed} (layout n 0) (number ys) ≡ times_block minus (fill (layout n 0) (number xs))
unfolding fill times_block layout
times_slots minus zero xs ys s t f = rw (number_slot xs s.long, number_slot ys t.long) (ap counter (f 0 (omega arith)))
times_slots minus (suc n) xs ys s t f =
    let x = number_halves s in
    let y = number_halves t in
    let low = times_slots minus n (take (2 ^ n) xs) (take (2 ^ n) ys) (low_slots s) (low_slots t)
    (λ i h. rw (get_or-take (2 ^ n) xs i 0 h, get_or-take (2 ^ n) ys i 0 h) (f i (omega arith))) in
    let high = times_slots minus n (drop (2 ^ n) xs) (drop (2 ^ n) ys) (high_slots s) (high_slots t)
    (λ i h. rw (get_or-drop (2 ^ n) xs i 0, get_or-drop (2 ^ n) ys i 0) (f (2 ^ n + i) (omega arith))) in
    rw (clear_halves n, x.0, x.1, y.0, y.1) (ap₂ split low high)

-- a slot times a sign
turned : Bool → ℕ → ℕ
turned minus b = sign_bits 0 (times_sign minus (sign_read 0 b))

module _ (minus : Bool) where
  turned_zero : turned minus 0 ≡ 0
  unfolding turned times_sign sign_bits sign_read top
  turned_zero = go minus
    where
      go : (m : Bool) → turned m 0 ≡ 0
      go true = refl
      go false = refl

  turned_at : (xs : List ℕ) (i : ℕ) → get_or (map (turned minus) xs) i 0 ≡ turned minus (get_or xs i 0)
  turned_at xs i = rw turned_zero at (get_or-map (turned minus) xs i 0)

  module _ (b : ℕ) (h : b < 256) where
    turned_holds : nat_abs (times_sign minus (sign_read 0 b)) < top 0
    unfolding cap
    turned_holds = rw (abs_times minus (sign_read 0 b)) (signed_codes.read_holds 0 b h)

    turned_lt : turned minus b < 256
    unfolding cap turned
    turned_lt = signed_codes.bits_lt 0 (times_sign minus (sign_read 0 b)) turned_holds

    turned_read : sign_read 0 (turned minus b) ≡ times_sign minus (sign_read 0 b)
    unfolding turned
    turned_read = signed_codes.read_bits 0 (times_sign minus (sign_read 0 b)) turned_holds

-- eight count bytes
slots_of : (xs : List ℕ) → Eight xs → Slots 3 xs
slots_of xs e = record { long = e.long; small = e.small }

clean_group : (xs : List ℕ) → Eight xs → ((k : ℕ) → k < 8 → get_or xs k 0 ≡ 128 → ⊥) → Clean (unmerged xs)
unfolding not_minus_zero top
clean_group xs e n = unmerged_clean (unmerged xs) refl (slots_clean signed 3 xs (slots_of xs e) (λ k h. rw (ne_eqb (get_or xs k 0) 128 (n k h))))

module _ (minus : Bool) (xs ys : List ℕ) (e : Eight xs) (f : Eight ys) (n : (k : ℕ) → k < 8 → Neither (get_or xs k 0) (get_or ys k 0)) where
  good : bad_pair (unmerged xs) (unmerged ys) ≡ 0
  good = clean_pair (unmerged xs) (unmerged ys) (clean_group xs e (λ k h. (n k h).0)) (clean_group ys f (λ k h. (n k h).1))

  pair_accepted : (combined minus (unmerged xs) (unmerged ys)).status ≡ 0
  unfolding decode
  pair_accepted =
      let h = number_in xs e in
      let k = number_in ys f in
      status_fits minus (unmerged xs) (unmerged ys) h k good (ltb-true _ _ (halves_fit minus (number xs) 0 (number ys) 0 h k refl refl))

  module _ (zs : List ℕ) (l : length zs ≡ 8) (s : (k : ℕ) → k < 8 → HoldsSum minus (get_or xs k 0) (get_or ys k 0) (get_or zs k 0)) where
    abbrev turns : List ℕ
    turns = map (turned minus) ys

    turns_long : length turns ≡ 8
    turns_long = length-map ys (turned minus) ∙ f.long

    turns_bytes : Bytes turns
    turns_bytes i = rw (turned_at minus ys i) (turned_lt minus (get_or ys i 0) (f.small i))

    held : Each (Holds signed) xs turns zs
    held =
        each_of xs turns zs (turns_long ∙ sym e.long) (l ∙ sym e.long)
        (λ k h.
        let r = s k (rw e.long at h) in
        let t = turned_read minus (get_or ys k 0) (f.small k) in
        rw (turned_at minus ys k) (record { first = e.small k; second = turned_lt minus (get_or ys k 0) (f.small k); small = rw t r.1; is = rw t r.2 }))

    turns_block : block_as signed 3 (number turns) 0 ≡ times_block minus (decode (unmerged ys))
    unfolding block_as decode
    turns_block =
        times_slots minus 3 ys turns (slots_of ys f) (record { long = turns_long; small = turns_bytes })
        (λ k h. rw (turned_at minus ys k) (turned_read minus (get_or ys k 0) (f.small k)))

    pair_combined : combined minus (unmerged xs) (unmerged ys) ≡ record { status = 0; group = unmerged zs }
    unfolding decode stored
    pair_combined =
        let united = unite (decode (unmerged xs)) (times_block minus (decode (unmerged ys))) in
        let is : Ok (record { word = number zs; merge = 0 }) ≡ signed_summed united = rw turns_block at (sums_passed signed_codes 3 e.long held signed_of) in
        let back : bytes 8 (number zs) ≡ zs = rw l at (bytes_number zs (each_bytes signed_codes held).2) in
        combined_settled minus (unmerged xs) (unmerged ys) good ∙ sym (stored_is (unmerged xs) united _ is) ∙ rw back

-- n groups side by side
module _ (n : ℕ) (xs ys : List ℕ) (l : length xs ≡ 8 * n) (m : length ys ≡ 8 * n) (b : Bytes xs) (c : Bytes ys) where
  pub side_accepted : NoMinusZeros (8 * n) xs ys → Accepted n xs ys
  side_accepted z = λ minus i h.
      pair_accepted minus (part i xs) (part i ys) (part_eight n xs l i h b) (part_eight n ys m i h c)
      (λ k g. rw (part_at xs i k g, part_at ys i k g) (z (8 * i + k) (omega arith)))

  pub side_combined : (minus : Bool) (zs : List ℕ) → length zs ≡ 8 * n → HoldSums minus (8 * n) xs ys zs → Combined minus n xs ys zs
  side_combined minus zs o s = λ i h.
      let held : (k : ℕ) → k < 8 → HoldsSum minus (get_or (part i xs) k 0) (get_or (part i ys) k 0) (get_or (part i zs) k 0) =
      λ k g. rw (part_at xs i k g, part_at ys i k g, part_at zs i k g) (s (8 * i + k) (omega arith)) in
      pair_combined minus (part i xs) (part i ys) (part_eight n xs l i h b) (part_eight n ys m i h c) (λ k g. (held k g).0) (part i zs) (part_long n zs o i h) held
