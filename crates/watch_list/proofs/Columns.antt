-- Columns of a list's bytes: what a change of one entry, or an entry taken out, does to them.
use mathlib.Core.Path.{◌≡◌, refl, sym, ap, ap₂, ◌∙◌}
use mathlib.Core.List.{List, [], ◌∷◌, ◌++◌, append_assoc}
use Prim.Native.Nat.{ℕ, suc, ◌+◌, ◌-◌, ◌*◌, ◌≤◌}
use native.Mathlib.Nat.{suc-mul, add-mul}
use native.Mathlib.Omega.{arith}
use lib.ListN.{length, take, drop, set, replicate, length-append}
use lib.Seq.{set_at, take_at, drop_at, take-append-le, drop-append-le, take-append-add, drop-append-add}
use Rattle.little_endian.specs.Bytes.{bytes}
use Rattle.little_endian.proofs.Bytes.{bytes_length}
use Rattle.watch_list.specs.List.{Entry, clear_place}
use Rattle.watch_list.specs.Layout.{keys_at, estimates_at, length_field, key_field, estimate_field, column, laid_out}
use Rattle.watch_list.specs.Parts.{put, closed, put_place, closed_place}
use Rattle.watch_list.proofs.Lists.{Each, each_append, each_is, Wide, column_length}

-- bytes put in place of those from `at` to `end`
unfoldable instead : List ℕ → ℕ → ℕ → List ℕ → List ℕ
instead zs at end xs = take at xs ++ zs ++ drop end xs

-- Changes between two places of a list: they change the list in which the places lie, and none beside it.
abbrev Left : (ℕ → ℕ → List ℕ → List ℕ) → Type 0
Left change = (xs ys : List ℕ) (at end : ℕ) → at ≤ end → end ≤ length xs → change at end (xs ++ ys) ≡ change at end xs ++ ys

abbrev Right : (ℕ → ℕ → List ℕ → List ℕ) → Type 0
Right change = (xs ys : List ℕ) (n at end : ℕ) → length xs ≡ n → change (n + at) (n + end) (xs ++ ys) ≡ xs ++ change at end ys

instead_left : (zs : List ℕ) → Left (instead zs)
unfolding instead
instead_left zs xs ys at end h k =
    rw (take-append-le at xs ys (omega arith), drop-append-le end xs ys k) (sym (append_assoc (take at xs ++ zs) (drop end xs) ys))

instead_right : (zs : List ℕ) → Right (instead zs)
unfolding instead
instead_right zs xs ys n at end e = rw (← e, take-append-add xs ys at, drop-append-add xs ys end) (simp append_assoc)

abbrev closing : ℕ → ℕ → ℕ → List ℕ → List ℕ
closing width at end xs = closed xs at end width

closed_left : (width : ℕ) → Left (closing width)
unfolding closed
closed_left width xs ys at end h k =
    rw (take-append-le at xs ys (omega arith), take-append-le end xs ys k, drop-append-le end xs ys k)
    (sym (append_assoc (take at xs ++ drop (at + width) (take end xs) ++ replicate width 0) (drop end xs) ys))

closed_right : (width : ℕ) → Right (closing width)
unfolding closed
closed_right width xs ys n at end e =
    let s : n + at + width ≡ length xs + (at + width) = omega arith in
    rw (s, ← e, take-append-add xs ys at, take-append-add xs ys end, drop-append-add xs ys end, drop-append-add xs (take end ys) (at + width)) (simp append_assoc)

-- the second of four parts taken out
pub closed_part : (xs part ys zs : List ℕ) (at end width : ℕ) → length xs ≡ at → length part ≡ width → length xs + (length part + length ys) ≡ end
    → closed (xs ++ (part ++ ys) ++ zs) at end width ≡ xs ++ ys ++ replicate width 0 ++ zs
unfolding closed
closed_part xs part ys zs at end width a w e =
    let whole = xs ++ (part ++ ys) in
    let long : length whole ≡ end = omega (arith, length-append xs (part ++ ys), length-append part ys) in
    let past : length (xs ++ part) ≡ at + width = omega (arith, length-append xs part) in
    rw (
      take_at whole zs end long,
      drop_at whole zs end long,
      take-append-le at whole zs (omega arith),
      take_at xs (part ++ ys) at a,
      ← append_assoc xs part ys,
      drop_at (xs ++ part) ys (at + width) past,
    )

-- an entry whose key and unused bytes fill its place
abbrev pub Whole : Entry → Type 0
Whole e = length (e.key ++ e.unused) ≡ 64

abbrev pub AllWhole : List Entry → Type 0
AllWhole es = Each Whole es

-- a column of fields of `width` bytes
module _ (field : Entry → List ℕ) (width : ℕ) (wide : (e : Entry) → Whole e → length (field e) ≡ width) where
  pub column_append : (es fs : List Entry) → column field (es ++ fs) ≡ column field es ++ column field fs
  unfolding column
  column_append [] fs = refl
  column_append (e ∷ es) fs = rw (column_append es fs) (sym (append_assoc (field e) (column field es) (column field fs)))

  whole_length : (es : List Entry) → AllWhole es → length (column field es) ≡ length es * width
  whole_length es h = column_length field width es (each_is Whole (Wide field width) wide es h)

  -- an entry with the same field
  column_same : (es fs : List Entry) (old new : Entry) → field new ≡ field old → column field (es ++ (new ∷ fs)) ≡ column field (es ++ (old ∷ fs))
  unfolding column
  column_same es fs old new e = rw (column_append es (new ∷ fs), column_append es (old ∷ fs), e)

  -- another entry at place i
  column_put : (es fs : List Entry) (old new : Entry) (i : ℕ) → AllWhole es → Whole old → Whole new → length es ≡ i
      → column field (es ++ (new ∷ fs)) ≡ put (column field (es ++ (old ∷ fs))) (i * width) (field new)
  unfolding column put
  column_put es fs old new i w o n e =
      let front : length (column field es) ≡ i * width = whole_length es w ∙ ap (λ (k : ℕ). k * width) e in
      let past : i * width + length (field new) ≡ length (column field es ++ field old) = omega (arith, length-append (column field es) (field old), wide old o, wide new n, front) in
      rw (column_append es (new ∷ fs), column_append es (old ∷ fs), past, take_at (column field es) (field old ++ column field fs) (i * width) front, ← append_assoc (column field es) (field old) (column field fs), drop_at (column field es ++ field old) (column field fs) (length (column field es ++ field old)) refl)
      (sym (append_assoc (column field es) (field new) (column field fs)))

  -- place i of n taken out, with zeros in the last
  pub column_closed : (es fs gs : List Entry) (old zeros : Entry) (i n : ℕ) → AllWhole es → AllWhole fs → Whole old → length es ≡ i → length es + suc (length fs) ≡ n
      → field zeros ≡ replicate width 0
      → column field (es ++ fs ++ (zeros ∷ gs)) ≡ closed (column field (es ++ (old ∷ fs) ++ gs)) (i * width) (n * width) width
  unfolding column closed
  column_closed es fs gs old zeros i n w v o e k z =
      let front : length (column field es) ≡ i * width = whole_length es w ∙ ap (λ (k : ℕ). k * width) e in
      let all : length (column field es) + (length (field old) + length (column field fs)) ≡ n * width =
      omega (arith, wide old o, whole_length es w, whole_length fs v, add-mul (length es) (suc (length fs)) width, suc-mul (length fs) width, ap (λ (k : ℕ). k * width) k) in
      rw (column_append (es ++ fs) (zeros ∷ gs), column_append es fs, column_append (es ++ (old ∷ fs)) gs, column_append es (old ∷ fs), z)
      (sym (append_assoc (column field es ++ column field fs) (replicate width 0) (column field gs))
      ∙ sym (closed_part (column field es) (field old) (column field fs) (column field gs) (i * width) (n * width) width front (wide old o) all))

length_wide : (e : Entry) → Whole e → length (length_field e) ≡ 1
unfolding length_field
length_wide e h = refl

key_wide : (e : Entry) → Whole e → length (key_field e) ≡ 64
unfolding key_field
key_wide e h = h

estimate_wide : (e : Entry) → Whole e → length (estimate_field e) ≡ 8
unfolding estimate_field
estimate_wide e h = bytes_length 8 e.estimate

-- three columns behind one another, with the mark after the first
abbrev columns : List ℕ → ℕ → List ℕ → List ℕ → List ℕ
columns lengths mark keys estimates = lengths ++ (mark ∷ []) ++ keys ++ estimates

module _ (lengths : List ℕ) (mark : ℕ) (keys estimates : List ℕ) (a : length lengths ≡ 64) (b : length keys ≡ 4096) where
  head_long : length (lengths ++ (mark ∷ [])) ≡ 65
  head_long = omega (arith, length-append lengths (mark ∷ []))

  front_long : length (lengths ++ (mark ∷ []) ++ keys) ≡ 4161
  front_long = omega (arith, head_long, length-append (lengths ++ (mark ∷ [])) keys)

  -- a change in one of them
  module _ (change : ℕ → ℕ → List ℕ → List ℕ) (left : Left change) (right : Right change) where
    in_lengths : (at end : ℕ) → at ≤ end → end ≤ 64 → change at end (columns lengths mark keys estimates) ≡ columns (change at end lengths) mark keys estimates
    in_lengths at end h k =
        left (lengths ++ (mark ∷ []) ++ keys) estimates at end h (omega (arith, front_long))
        ∙ ap (λ (l : List ℕ). l ++ estimates) (left (lengths ++ (mark ∷ [])) keys at end h (omega (arith, head_long)) ∙ ap (λ (l : List ℕ). l ++ keys) (left lengths (mark ∷ []) at end h (omega arith)))

    in_keys : (at end : ℕ) → at ≤ end → end ≤ 4096 → change (keys_at + at) (keys_at + end) (columns lengths mark keys estimates) ≡ columns lengths mark (change at end keys) estimates
    in_keys at end h k =
        left (lengths ++ (mark ∷ []) ++ keys) estimates (keys_at + at) (keys_at + end) (omega arith) (omega (arith, front_long))
        ∙ ap (λ (l : List ℕ). l ++ estimates) (right (lengths ++ (mark ∷ [])) keys 65 at end head_long)

    in_estimates : (at end : ℕ) → change (estimates_at + at) (estimates_at + end) (columns lengths mark keys estimates) ≡ columns lengths mark keys (change at end estimates)
    in_estimates at end = right (lengths ++ (mark ∷ []) ++ keys) estimates 4161 at end front_long

  put_lengths : (at : ℕ) (zs : List ℕ) → at + length zs ≤ 64 → put (columns lengths mark keys estimates) at zs ≡ columns (put lengths at zs) mark keys estimates
  unfolding put instead
  put_lengths at zs h = in_lengths (instead zs) (instead_left zs) (instead_right zs) at (at + length zs) (omega arith) h

  put_keys : (at : ℕ) (zs : List ℕ) → at + length zs ≤ 4096 → put (columns lengths mark keys estimates) (keys_at + at) zs ≡ columns lengths mark (put keys at zs) estimates
  unfolding put instead
  put_keys at zs h =
      let e : keys_at + at + length zs ≡ keys_at + (at + length zs) = omega arith in
      rw e (in_keys (instead zs) (instead_left zs) (instead_right zs) at (at + length zs) (omega arith) h)

  put_estimates : (at : ℕ) (zs : List ℕ) → put (columns lengths mark keys estimates) (estimates_at + at) zs ≡ columns lengths mark keys (put estimates at zs)
  unfolding put instead
  put_estimates at zs =
      let e : estimates_at + at + length zs ≡ estimates_at + (at + length zs) = omega arith in
      rw e (in_estimates (instead zs) (instead_left zs) (instead_right zs) at (at + length zs))

-- the columns of a list of 64 places
abbrev lengths_of : List Entry → List ℕ
lengths_of places = column length_field places

abbrev keys_of : List Entry → List ℕ
keys_of places = column key_field places

abbrev estimates_of : List Entry → List ℕ
estimates_of places = column estimate_field places

lengths_long : (places : List Entry) → AllWhole places → length places ≡ 64 → length (lengths_of places) ≡ 64
lengths_long places w e = whole_length length_field 1 length_wide places w ∙ ap (λ (k : ℕ). k * 1) e

keys_long : (places : List Entry) → AllWhole places → length places ≡ 64 → length (keys_of places) ≡ 4096
keys_long places w e = whole_length key_field 64 key_wide places w ∙ ap (λ (k : ℕ). k * 64) e

-- laid out, another mark
pub laid_mark : (old new : ℕ) (places : List Entry) → AllWhole places → length places ≡ 64 → laid_out new places ≡ set (laid_out old places) 64 new
unfolding laid_out
laid_mark old new places w e =
    let shape : (m : ℕ) → columns (lengths_of places) m (keys_of places) (estimates_of places) ≡ lengths_of places ++ (m ∷ (keys_of places ++ estimates_of places)) = λ m. simp append_assoc in
    rw (shape new, shape old) (sym (set_at (lengths_of places) old (keys_of places ++ estimates_of places) new 64 (lengths_long places w e)))

-- laid out, another entry in place i
module _ (mark : ℕ) (es fs : List Entry) (old new : Entry) (i : ℕ) (w : AllWhole es) (v : AllWhole fs) (o : Whole old) (n : Whole new) (e : length es ≡ i) (all : i + suc (length fs) ≡ 64) where
  before : List Entry
  before = es ++ (old ∷ fs)

  after : List Entry
  after = es ++ (new ∷ fs)

  before_whole : AllWhole before
  unfolding before Each
  before_whole = each_append Whole es (old ∷ fs) w (o, v)

  after_whole : AllWhole after
  unfolding after Each
  after_whole = each_append Whole es (new ∷ fs) w (n, v)

  before_long : length before ≡ 64
  unfolding before
  before_long = omega (arith, length-append es (old ∷ fs))

  after_long : length after ≡ 64
  unfolding after
  after_long = omega (arith, length-append es (new ∷ fs))

  at_estimate : put (columns (lengths_of after) mark (keys_of after) (estimates_of before)) (estimates_at + i * 8) (estimate_field new) ≡ laid_out mark after
  unfolding before after laid_out
  at_estimate =
      put_estimates (lengths_of after) mark (keys_of after) (estimates_of before) (lengths_long after after_whole after_long) (keys_long after after_whole after_long) (i * 8) (estimate_field new)
      ∙ ap (columns (lengths_of after) mark (keys_of after)) (sym (column_put estimate_field 8 estimate_wide es fs old new i w o n e))

  at_key : put (columns (lengths_of after) mark (keys_of before) (estimates_of before)) (keys_at + i * 64) (key_field new) ≡ columns (lengths_of after) mark (keys_of after) (estimates_of before)
  unfolding before after
  at_key =
      put_keys (lengths_of after) mark (keys_of before) (estimates_of before) (lengths_long after after_whole after_long) (keys_long before before_whole before_long) (i * 64) (key_field new) (omega (arith, key_wide new n))
      ∙ ap (λ (l : List ℕ). columns (lengths_of after) mark l (estimates_of before)) (sym (column_put key_field 64 key_wide es fs old new i w o n e))

  at_length : put (laid_out mark before) i (length_field new) ≡ columns (lengths_of after) mark (keys_of before) (estimates_of before)
  unfolding before after laid_out
  at_length =
      let one : i * 1 ≡ i = omega arith in
      put_lengths (lengths_of before) mark (keys_of before) (estimates_of before) (lengths_long before before_whole before_long) (keys_long before before_whole before_long) i (length_field new) (omega (arith, length_wide new n))
      ∙ ap (λ (l : List ℕ). columns l mark (keys_of before) (estimates_of before)) (sym (rw one at (column_put length_field 1 length_wide es fs old new i w o n e)))

  pub laid_put : laid_out mark (es ++ (new ∷ fs)) ≡ put_place (laid_out mark (es ++ (old ∷ fs))) i new
  unfolding put_place before after
  laid_put = sym (rw (at_length, at_key) at_estimate)

  -- where only the estimate is another
  pub laid_renewed : length_field new ≡ length_field old → key_field new ≡ key_field old
      → laid_out mark (es ++ (new ∷ fs)) ≡ put (laid_out mark (es ++ (old ∷ fs))) (estimates_at + i * 8) (estimate_field new)
  unfolding before after laid_out
  laid_renewed p q =
      sym (ap₂ (λ (l k : List ℕ). put (columns l mark k (estimates_of before)) (estimates_at + i * 8) (estimate_field new))
      (sym (column_same length_field 1 length_wide es fs old new p)) (sym (column_same key_field 64 key_wide es fs old new q)) ∙ at_estimate)

-- laid out, place i of n taken out and a free one, all 0, after those in use
module _ (mark : ℕ) (es fs gs : List Entry) (old : Entry) (i n : ℕ) (w : AllWhole es) (v : AllWhole fs) (u : AllWhole gs) (o : Whole old) (e : length es ≡ i) (k : length es + suc (length fs) ≡ n) (all : n + length gs ≡ 64) where
  full : List Entry
  full = es ++ (old ∷ fs) ++ gs

  out : List Entry
  out = es ++ fs ++ (clear_place ∷ gs)

  full_whole : AllWhole full
  unfolding full Each
  full_whole = each_append Whole (es ++ (old ∷ fs)) gs (each_append Whole es (old ∷ fs) w (o, v)) u

  out_whole : AllWhole out
  unfolding out Each
  out_whole = each_append Whole (es ++ fs) (clear_place ∷ gs) (each_append Whole es fs w v) (refl, u)

  full_long : length full ≡ 64
  unfolding full
  full_long = omega (arith, length-append (es ++ (old ∷ fs)) gs, length-append es (old ∷ fs))

  out_long : length out ≡ 64
  unfolding out
  out_long = omega (arith, length-append (es ++ fs) (clear_place ∷ gs), length-append es fs)

  clear_length : length_field clear_place ≡ replicate 1 0
  unfolding length_field
  clear_length = refl

  clear_key : key_field clear_place ≡ replicate 64 0
  unfolding key_field
  clear_key = refl

  clear_estimate : estimate_field clear_place ≡ replicate 8 0
  unfolding estimate_field bytes
  clear_estimate = refl

  no_estimate : closed (columns (lengths_of out) mark (keys_of out) (estimates_of full)) (estimates_at + i * 8) (estimates_at + n * 8) 8 ≡ laid_out mark out
  unfolding full out laid_out
  no_estimate =
      in_estimates (lengths_of out) mark (keys_of out) (estimates_of full) (lengths_long out out_whole out_long) (keys_long out out_whole out_long) (closing 8) (closed_left 8) (closed_right 8) (i * 8) (n * 8)
      ∙ ap (columns (lengths_of out) mark (keys_of out)) (sym (column_closed estimate_field 8 estimate_wide es fs gs old clear_place i n w v o e k clear_estimate))

  no_key : closed (columns (lengths_of out) mark (keys_of full) (estimates_of full)) (keys_at + i * 64) (keys_at + n * 64) 64 ≡ columns (lengths_of out) mark (keys_of out) (estimates_of full)
  unfolding full out
  no_key =
      in_keys (lengths_of out) mark (keys_of full) (estimates_of full) (lengths_long out out_whole out_long) (keys_long full full_whole full_long) (closing 64) (closed_left 64) (closed_right 64) (i * 64) (n * 64) (omega arith) (omega arith)
      ∙ ap (λ (l : List ℕ). columns (lengths_of out) mark l (estimates_of full)) (sym (column_closed key_field 64 key_wide es fs gs old clear_place i n w v o e k clear_key))

  no_length : closed (laid_out mark full) i n 1 ≡ columns (lengths_of out) mark (keys_of full) (estimates_of full)
  unfolding full out laid_out
  no_length =
      let one : i * 1 ≡ i = omega arith in
      let most : n * 1 ≡ n = omega arith in
      in_lengths (lengths_of full) mark (keys_of full) (estimates_of full) (lengths_long full full_whole full_long) (keys_long full full_whole full_long) (closing 1) (closed_left 1) (closed_right 1) i n (omega arith) (omega arith)
      ∙ ap (λ (l : List ℕ). columns l mark (keys_of full) (estimates_of full)) (sym (rw (one, most) at (column_closed length_field 1 length_wide es fs gs old clear_place i n w v o e k clear_length)))

  pub laid_closed : laid_out mark (es ++ fs ++ (clear_place ∷ gs)) ≡ closed_place (laid_out mark (es ++ (old ∷ fs) ++ gs)) i n
  unfolding closed_place full out
  laid_closed = sym (rw (no_length, no_key) no_estimate)
