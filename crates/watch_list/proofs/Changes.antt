-- What a list's bytes become, by the place where a key is found.
use mathlib.Core.Path.{◌≡◌, refl, sym, ap, ◌∙◌}
use mathlib.Core.Bool.{Bool, true, false, cond}
use mathlib.Core.List.{List, [], ◌∷◌, ◌++◌, append_assoc, append-nil}
use Prim.Native.Nat.{ℕ, suc, ◌+◌, ◌-◌, ◌*◌, ◌≤◌, ◌<◌}
use native.Mathlib.Omega.{arith}
use borrow.Author.Tests.{le-leb, lt-leb}
use lib.ListN.{length, get_or, set, replicate, length-append, length-replicate}
use Rattle.laws.proofs.Lists.{Bytes}
use Rattle.little_endian.specs.Bytes.{bytes}
use Rattle.meter_keys.specs.Keys.{same_key}
use Rattle.watch_list.specs.List.{Entry, Watch, listed, joining, joined, renewed, noted, without, taken_off}
use Rattle.watch_list.specs.Layout.{estimates_at, length_field, key_field, estimate_field, laid_out, encode, place_at, places_from, decode}
use Rattle.watch_list.specs.Parts.{Holds, KeyLong, index_of, put, put_place, closed_place}
use Rattle.watch_list.proofs.Lists.{each_append}
use Rattle.watch_list.proofs.Columns.{Whole, AllWhole, laid_mark, laid_put, laid_renewed, laid_closed}
use Rattle.watch_list.proofs.Places.{places_length, places_split, place_whole, places_whole, in_use_most, laid_places, encode_decode}

-- a test by which a number was picked
picked : (b : Bool) (n m : ℕ) → cond b 0 (suc n) ≡ suc m → (b ≡ false) × (n ≡ m)
picked true n m e = absurd (omega arith)
picked false n m e = (refl, omega arith)

found : (b : Bool) (n : ℕ) → cond b 0 (suc n) ≡ 0 → b ≡ true
found true n e = refl
found false n e = absurd (omega arith)

pick_le : (b : Bool) (n m : ℕ) → n ≤ m → cond b 0 (suc n) ≤ suc m
pick_le true n m h = omega arith
pick_le false n m h = omega arith

module _ (key : List ℕ) where
  pub index_le : (es : List Entry) → index_of key es ≤ length es
  unfolding index_of
  index_le [] = omega arith
  index_le (e ∷ es) = pick_le (same_key e.key key) (index_of key es) (length es) (index_le es)

  -- a key that is not found
  none_listed : (es : List Entry) → index_of key es ≡ length es → listed key es ≡ false
  unfolding index_of listed
  none_listed [] e = refl
  none_listed (e ∷ es) h =
      let p = picked (same_key e.key key) (index_of key es) (length es) h in
      rw p.0 (none_listed es p.1)

  -- a key found at an entry
  module _ (fs : List Entry) (here : Entry) where
    found_listed : (es : List Entry) → index_of key (es ++ (here ∷ fs)) ≡ length es → listed key (es ++ (here ∷ fs)) ≡ true
    unfolding index_of listed
    found_listed [] h = rw (found (same_key here.key key) (index_of key fs) h)
    found_listed (e ∷ es) h =
        let p = picked (same_key e.key key) (index_of key (es ++ (here ∷ fs))) (length es) h in
        rw p.0 (found_listed es p.1)

    found_renewed : (estimate : ℕ) (es : List Entry) → index_of key (es ++ (here ∷ fs)) ≡ length es
        → renewed key estimate (es ++ (here ∷ fs)) ≡ es ++ (record { key = here.key; unused = here.unused; estimate = estimate } ∷ fs)
    unfolding index_of renewed
    found_renewed estimate [] h = rw (found (same_key here.key key) (index_of key fs) h)
    found_renewed estimate (e ∷ es) h =
        let p = picked (same_key e.key key) (index_of key (es ++ (here ∷ fs))) (length es) h in
        rw p.0 (ap (λ (l : List Entry). e ∷ l) (found_renewed estimate es p.1))

    found_without : (es : List Entry) → index_of key (es ++ (here ∷ fs)) ≡ length es → without key (es ++ (here ∷ fs)) ≡ es ++ fs
    unfolding index_of without
    found_without [] h = rw (found (same_key here.key key) (index_of key fs) h)
    found_without (e ∷ es) h =
        let p = picked (same_key e.key key) (index_of key (es ++ (here ∷ fs))) (length es) h in
        rw p.0 (ap (λ (l : List Entry). e ∷ l) (found_without es p.1))

-- the places around place i, of n
around : (xs : List ℕ) (n i : ℕ) → i < n → places_from xs n 0 ≡ places_from xs i 0 ++ (place_at xs i ∷ places_from xs (n - suc i) (suc i))
unfolding places_from
around xs n i h =
    let e : i + suc (n - suc i) ≡ n = omega arith in
    let f : 0 + i ≡ i = omega arith in
    rw (e, f) at (places_split xs i (suc (n - suc i)) 0)

module _ (xs : List ℕ) (n : ℕ) (holds : Holds xs n) (small : Bytes xs) (key : List ℕ) where
  most : n ≤ 64
  most = omega (arith, holds.entries, in_use_most xs holds.long)

  is_list : decode xs ≡ record { mark = get_or xs 64 0; entries = places_from xs n 0; free = places_from xs (64 - n) n }
  unfolding decode
  is_list = rw (← holds.entries)

  module _ (i : ℕ) (at : i ≡ index_of key (places_from xs n 0)) where
    abbrev mark : ℕ
    mark = get_or xs 64 0

    abbrev es : List Entry
    es = places_from xs i 0

    abbrev fs : List Entry
    fs = places_from xs (n - suc i) (suc i)

    abbrev free : List Entry
    free = places_from xs (64 - n) n

    abbrev new : ℕ → Entry
    new estimate = record { key = (place_at xs i).key; unused = (place_at xs i).unused; estimate = estimate }

    -- the key is found at place i
    module _ (h : i < n) where
      here : index_of key (es ++ (place_at xs i ∷ fs)) ≡ length es
      here = ap (index_of key) (sym (around xs n i h)) ∙ sym at ∙ sym (places_length xs i 0)

      is_listed : listed key (places_from xs n 0) ≡ true
      is_listed = ap (listed key) (around xs n i h) ∙ found_listed key fs (place_at xs i) es here

      after : fs ++ free ≡ places_from xs (64 - suc i) (suc i)
      after =
          let e : n - suc i + (64 - n) ≡ 64 - suc i = omega (arith, most) in
          let f : suc i + (n - suc i) ≡ n = omega arith in
          sym (rw (e, f) at (places_split xs (n - suc i) (64 - n) (suc i)))

      -- the bytes are those of the places around it
      whole_list : laid_out mark (es ++ (place_at xs i ∷ (fs ++ free))) ≡ xs
      whole_list = rw (after, ← around xs 64 i (omega (arith, most))) (laid_places xs holds.long small holds.is_sound)

      es_whole : AllWhole es
      es_whole = places_whole xs holds.long i 0 (omega (arith, most))

      fs_whole : AllWhole fs
      fs_whole = places_whole xs holds.long (n - suc i) (suc i) (omega (arith, most))

      free_whole : AllWhole free
      free_whole = places_whole xs holds.long (64 - n) n (omega (arith, most))

      here_whole : Whole (place_at xs i)
      here_whole = place_whole xs holds.long i (omega (arith, most))

      pub renewed_is : (estimate threshold : ℕ) → encode (noted key estimate threshold (decode xs)) ≡ put xs (estimates_at + i * 8) (bytes 8 estimate)
      unfolding noted encode estimate_field length_field key_field
      renewed_is estimate threshold =
          let renews : renewed key estimate (places_from xs n 0) ≡ es ++ (new estimate ∷ fs) =
          ap (renewed key estimate) (around xs n i h) ∙ found_renewed key fs (place_at xs i) estimate es here in
          let rest : i + suc (length (fs ++ free)) ≡ 64 = omega (arith, most, ap length after, places_length xs (64 - suc i) (suc i)) in
          rw (is_list, is_listed, renews, append_assoc es (new estimate ∷ fs) free)
          (laid_renewed mark es (fs ++ free) (place_at xs i) (new estimate) i es_whole (each_append Whole fs free fs_whole free_whole) here_whole here_whole (places_length xs i 0) rest refl refl
          ∙ ap (λ (l : List ℕ). put l (estimates_at + i * 8) (bytes 8 estimate)) whole_list)

      pub off_is : encode (taken_off key (decode xs)) ≡ closed_place xs i n
      unfolding taken_off encode
      off_is =
          let outs : without key (places_from xs n 0) ≡ es ++ fs = ap (without key) (around xs n i h) ∙ found_without key fs (place_at xs i) es here in
          let all : length es + suc (length fs) ≡ n = omega (arith, places_length xs i 0, places_length xs (n - suc i) (suc i)) in
          rw (is_list, is_listed, outs)
          (laid_closed mark es fs free (place_at xs i) i n es_whole fs_whole free_whole here_whole (places_length xs i 0) all (omega (arith, most, places_length xs (64 - n) n))
          ∙ ap (λ (l : List ℕ). closed_place l i n) (ap (laid_out mark) (append_assoc es (place_at xs i ∷ fs) free) ∙ whole_list))

    -- the key is found nowhere
    module _ (h : i ≡ n) where
      not_listed : listed key (decode xs).entries ≡ false
      not_listed = ap (λ (w : Watch). listed key w.entries) is_list ∙ none_listed key (places_from xs n 0) (sym at ∙ h ∙ sym (places_length xs n 0))

      pub below_is : (estimate threshold : ℕ) → estimate < threshold → encode (noted key estimate threshold (decode xs)) ≡ xs
      unfolding noted
      below_is estimate threshold l = rw (not_listed, lt-leb threshold estimate l) (encode_decode xs holds.long small holds.is_sound)

      pub off_none_is : encode (taken_off key (decode xs)) ≡ xs
      unfolding taken_off
      off_none_is = rw not_listed (encode_decode xs holds.long small holds.is_sound)

      pub full_is : (estimate threshold : ℕ) → threshold ≤ estimate → n ≡ 64 → encode (noted key estimate threshold (decode xs)) ≡ set xs 64 1
      unfolding noted encode joined places_from
      full_is estimate threshold l f =
          rw (not_listed, le-leb threshold estimate l, is_list, f, append-nil (places_from xs 64 0))
          (laid_mark mark 1 (places_from xs 64 0) (places_whole xs holds.long 64 0 (omega arith)) (places_length xs 64 0)
          ∙ ap (λ (l : List ℕ). set l 64 1) (laid_places xs holds.long small holds.is_sound))

      pub joined_is : (estimate threshold : ℕ) → threshold ≤ estimate → n < 64 → KeyLong key → encode (noted key estimate threshold (decode xs)) ≡ put_place xs n (joining key estimate)
      unfolding noted encode joined places_from
      joined_is estimate threshold l f k =
          let rest = places_from xs (64 - suc n) (suc n) in
          let e : 64 - n ≡ suc (64 - suc n) = omega arith in
          let new-whole : Whole (joining key estimate) = omega (arith, length-append key (replicate (64 - length key) 0), length-replicate {A = ℕ} (64 - length key) 0, k) in
          rw (not_listed, le-leb threshold estimate l, is_list, e, append_assoc (places_from xs n 0) (joining key estimate ∷ []) rest)
          (laid_put mark (places_from xs n 0) rest (place_at xs n) (joining key estimate) n (places_whole xs holds.long n 0 (omega arith)) (places_whole xs holds.long (64 - suc n) (suc n) (omega arith))
          (place_whole xs holds.long n f) new-whole (places_length xs n 0) (omega (arith, places_length xs (64 - suc n) (suc n)))
          ∙ ap (λ (l : List ℕ). put_place l n (joining key estimate)) (ap (laid_out mark) (sym (around xs 64 n f)) ∙ laid_places xs holds.long small holds.is_sound))
