-- Laws of entries in lists, and of a list's bytes: what is laid out is read back.
use mathlib.Core.Path.{◌≡◌, refl, sym, ap, ◌∙◌}
use mathlib.Core.Bool.{Bool, true, false, cond, ◌||◌, or_assoc, true≢false}
use mathlib.Core.List.{List, [], ◌∷◌, ◌++◌, map, append_assoc, append-nil}
use Prim.Native.Nat.{ℕ, zero, suc, ◌+◌, ◌-◌, ◌*◌, ◌^◌, ◌≤◌, ◌<◌}
use native.Mathlib.Nat.{suc-mul}
use native.Mathlib.Omega.{arith}
use borrow.Author.Tests.{le-leb}
use lib.ListN.{length, get_or, take, drop, replicate, length-append}
use lib.Seq.{drop-cons, drop-drop, take_at, drop_at, get_or_at, get_or-drop, get_or-take, take_all}
use Rattle.little_endian.specs.Bytes.{bytes}
use Rattle.little_endian.proofs.Bytes.{number_bytes, bytes_length}
use Rattle.laws.proofs.Tests.{both_ways}
use Rattle.meter_keys.specs.Keys.{same_key}
use Rattle.meter_keys.proofs.Same.{same_key_lem, key_same}
use Rattle.watch_list.specs.List.{Entry, Watch, listed, renewed, without, clear_place}
use Rattle.watch_list.specs.Layout.{keys_at, estimates_at, list_size, length_field, key_field, estimate_field, column, laid_out, encode, key_bytes, place_at, places_from, in_use, decode, all_zero, sound_lengths, sound}

-- something of each of some entries
unfoldable pub Each : (Entry → Type 0) → List Entry → Type 0
Each P [] = Unit
Each P (e ∷ es) = P e × Each P es

pub each_append : (P : Entry → Type 0) (es fs : List Entry) → Each P es → Each P fs → Each P (es ++ fs)
unfolding Each
each_append P [] fs h k = k
each_append P (e ∷ es) fs h k = (h.0, each_append P es fs h.1 k)

pub each_is : (P Q : Entry → Type 0) → ((e : Entry) → P e → Q e) → (es : List Entry) → Each P es → Each Q es
unfolding Each
each_is P Q f [] h = tt
each_is P Q f (e ∷ es) h = (f e h.0, each_is P Q f es h.1)

pub each_at : (P : Entry → Type 0) (es : List Entry) (i : ℕ) (z : Entry) → Each P es → i < length es → P (get_or es i z)
unfolding Each
each_at P [] i z h l = absurd (omega arith)
each_at P (e ∷ es) zero z h l = h.0
each_at P (e ∷ es) (suc i) z h l = each_at P es i z h.1 (omega arith)

-- which keys are the same does not depend on which is named first
pub same_sym : (key other : List ℕ) → same_key key other ≡ same_key other key
same_sym key other = both_ways (same_key key other) (same_key other key) (λ e. rw (same_key_lem key other e) (key_same other)) (λ e. rw (same_key_lem other key e) (key_same key))

-- what is listed in two lists together
pub listed_append : (key : List ℕ) (es fs : List Entry) → listed key (es ++ fs) ≡ (listed key es || listed key fs)
unfolding listed
listed_append key [] fs = refl
listed_append key (e ∷ es) fs = rw (listed_append key es fs) (sym (or_assoc (same_key e.key key) (listed key es) (listed key fs)))

-- the keys of entries, in order
abbrev pub keys_of : List Entry → List (List ℕ)
keys_of es = map (λ (e : Entry). e.key) es

-- what a test decides, by its answer
pub by_test : (b : Bool) (P : Bool → Type 0) → (b ≡ true → P true) → (b ≡ false → P false) → P b
by_test true P f g = f refl
by_test false P f g = g refl

-- Renewing changes the first entry that has the key, and leaves the keys.
module _ (key : List ℕ) (estimate : ℕ) where
  pub renewed_cases : (e : Entry) (es : List Entry) (P : List Entry → Type 0)
      → (same_key e.key key ≡ true → P (record { key = e.key; unused = e.unused; estimate = estimate } ∷ es))
      → (same_key e.key key ≡ false → P (e ∷ renewed key estimate es))
      → P (renewed key estimate (e ∷ es))
  unfolding renewed
  renewed_cases e es P =
      by_test (same_key e.key key) (λ b. P (cond b (record { key = e.key; unused = e.unused; estimate = estimate } ∷ es) (e ∷ renewed key estimate es)))

  pub renewed_keys : (es : List Entry) → keys_of (renewed key estimate es) ≡ keys_of es
  unfolding renewed
  renewed_keys [] = refl
  renewed_keys (e ∷ es) = renewed_cases e es (λ now. keys_of now ≡ e.key ∷ keys_of es) (λ p. refl) (λ p. ap (λ (ks : List (List ℕ)). e.key ∷ ks) (renewed_keys es))

  pub renewed_each : (P : Entry → Type 0) → ((e : Entry) → P e → P (record { key = e.key; unused = e.unused; estimate = estimate }))
      → (es : List Entry) → Each P es → Each P (renewed key estimate es)
  unfolding renewed Each
  renewed_each P f [] h = tt
  renewed_each P f (e ∷ es) h = renewed_cases e es (Each P) (λ p. (f e h.0, h.1)) (λ p. (h.0, renewed_each P f es h.1))

-- what is listed, by the keys alone
pub listed_keys : (key : List ℕ) (es fs : List Entry) → keys_of es ≡ keys_of fs → listed key es ≡ listed key fs
unfolding listed
listed_keys key [] [] p = refl
listed_keys key [] (f ∷ fs) p = absurd (omega (arith, ap length p))
listed_keys key (e ∷ es) [] p = absurd (omega (arith, ap length p))
listed_keys key (e ∷ es) (f ∷ fs) p =
    let k : e.key ≡ f.key = cc in
    let ks : keys_of es ≡ keys_of fs = cc in
    rw (k, listed_keys key es fs ks)

-- Taking off drops the first entry that has the key, and leaves the others.
module _ (key : List ℕ) where
  pub without_cases : (e : Entry) (es : List Entry) (P : List Entry → Type 0)
      → (same_key e.key key ≡ true → P es) → (same_key e.key key ≡ false → P (e ∷ without key es)) → P (without key (e ∷ es))
  unfolding without
  without_cases e es P = by_test (same_key e.key key) (λ b. P (cond b es (e ∷ without key es)))

  pub without_each : (P : Entry → Type 0) (es : List Entry) → Each P es → Each P (without key es)
  unfolding without Each
  without_each P [] h = tt
  without_each P (e ∷ es) h = without_cases e es (Each P) (λ p. h.1) (λ p. (h.0, without_each P es h.1))

  pub without_length : (es : List Entry) → listed key es ≡ true → suc (length (without key es)) ≡ length es
  unfolding without listed
  without_length [] l = absurd (true≢false (sym l))
  without_length (e ∷ es) l =
      without_cases e es (λ now. suc (length now) ≡ suc (length es)) (λ p. refl) (λ p. ap suc (without_length es (rw p at l)))

  -- another key is listed as before
  pub without_other : (other : List ℕ) → same_key key other ≡ false → (es : List Entry) → listed other (without key es) ≡ listed other es
  unfolding without listed
  without_other other n [] = refl
  without_other other n (e ∷ es) =
      without_cases e es (λ now. listed other now ≡ (same_key e.key other || listed other es)) (λ p. rw (same_key_lem e.key key p, n)) (λ p. rw (without_other other n es))

-- a column from its i-th field on, and its i-th field, whatever comes before and after the column
module _ (f : Entry → List ℕ) (m : ℕ) where
  abbrev pub Wide : Entry → Type 0
  Wide e = length (f e) ≡ m

  column_drop : (ps : List Entry) (rest : List ℕ) (i : ℕ) → Each Wide ps → i ≤ length ps → drop (i * m) (column f ps ++ rest) ≡ column f (drop i ps) ++ rest
  unfolding column Each
  column_drop ps rest zero h l = let z : zero * m ≡ 0 = omega arith in rw z
  column_drop [] rest (suc i) h l = absurd (omega arith)
  column_drop (e ∷ ps) rest (suc i) h l =
      let s : suc i * m ≡ m + i * m = omega (arith, suc-mul i m) in
      rw (s, append_assoc (f e) (column f ps) rest, ← drop-drop (i * m) m (f e ++ (column f ps ++ rest)), drop_at (f e) (column f ps ++ rest) m h.0)
      (column_drop ps rest i h.1 (omega arith))

  field_at : (ps : List Entry) (before rest : List ℕ) (start i : ℕ) (z : Entry) → Each Wide ps → length before ≡ start → i < length ps
      → take m (drop (start + i * m) (before ++ (column f ps ++ rest))) ≡ f (get_or ps i z)
  unfolding column Each
  field_at ps before rest start i z h e l =
      let w : length (f (get_or ps i z)) ≡ m = each_at Wide ps i z h l in
      rw (
        ← drop-drop (i * m) start (before ++ (column f ps ++ rest)),
        drop_at before (column f ps ++ rest) start e,
        column_drop ps rest i h (omega arith),
        drop-cons ps i z l,
        append_assoc (f (get_or ps i z)) (column f (drop (suc i) ps)) rest,
      )
      (take_at (f (get_or ps i z)) (column f (drop (suc i) ps) ++ rest) m w)

  pub column_length : (ps : List Entry) → Each Wide ps → length (column f ps) ≡ length ps * m
  unfolding column Each
  column_length [] h = omega arith
  column_length (e ∷ ps) h = length-append (f e) (column f ps) ∙ omega (arith, h.0, column_length ps h.1, suc-mul (length ps) m)

-- a place that fits its bytes
pub record Fits (e : Entry) : Type 0 where
  pub wide : length e.key + length e.unused ≡ 64
  pub small : e.estimate < 2 ^ 64

-- a list that has 64 places, each fits, and those in use are those with a key
pub record WellFormed (watch : Watch) : Type 0 where
  pub places : length watch.entries + length watch.free ≡ 64
  pub fit : Each Fits (watch.entries ++ watch.free)
  pub used : Each (λ e. 1 ≤ length e.key) watch.entries
  pub unused : Each (λ e. length e.key ≡ 0) watch.free

-- the widths of the three columns
module _ (ps : List Entry) (fit : Each Fits ps) where
  lengths_wide : Each (Wide length_field 1) ps
  unfolding length_field
  lengths_wide = each_is Fits (Wide length_field 1) (λ e h. refl) ps fit

  keys_wide : Each (Wide key_field 64) ps
  unfolding key_field
  keys_wide = each_is Fits (Wide key_field 64) (λ e h. length-append e.key e.unused ∙ h.wide) ps fit

  estimates_wide : Each (Wide estimate_field 8) ps
  unfolding estimate_field
  estimates_wide = each_is Fits (Wide estimate_field 8) (λ e h. bytes_length 8 e.estimate) ps fit

-- Places of a list that is laid out.
module _ (mark : ℕ) (ps : List Entry) (fit : Each Fits ps) (full : length ps ≡ 64) where
  lengths : List ℕ
  lengths = column length_field ps

  keys : List ℕ
  keys = column key_field ps

  estimates : List ℕ
  estimates = column estimate_field ps

  lengths_long : length lengths ≡ 64
  unfolding lengths
  lengths_long = omega (arith, column_length length_field 1 ps (lengths_wide ps fit))

  before_keys : length (lengths ++ (mark ∷ [])) ≡ keys_at
  before_keys = length-append lengths (mark ∷ []) ∙ omega (arith, lengths_long)

  before_estimates : length (lengths ++ (mark ∷ []) ++ keys) ≡ estimates_at
  unfolding keys
  before_estimates = length-append (lengths ++ (mark ∷ [])) keys ∙ omega (arith, before_keys, column_length key_field 64 ps (keys_wide ps fit))

  mark_first : laid_out mark ps ≡ lengths ++ (mark ∷ (keys ++ estimates))
  unfolding laid_out lengths keys estimates
  mark_first = append_assoc (lengths ++ (mark ∷ [])) keys estimates ∙ append_assoc lengths (mark ∷ []) (keys ++ estimates)

  pub mark_at : get_or (laid_out mark ps) 64 0 ≡ mark
  mark_at = rw mark_first (get_or_at lengths mark (keys ++ estimates) 0 64 lengths_long)

  pub lengths_are : take 64 (laid_out mark ps) ≡ column length_field ps
  unfolding lengths
  lengths_are = rw mark_first (take_at lengths (mark ∷ (keys ++ estimates)) 64 lengths_long)

  module _ (i : ℕ) (z : Entry) (l : i < length ps) where
    there : Entry
    there = get_or ps i z

    length_at : get_or (laid_out mark ps) i 0 ≡ length there.key
    unfolding there lengths length_field
    length_at =
        let xs = lengths ++ (mark ∷ (keys ++ estimates)) in
        let f = field_at length_field 1 ps [] (mark ∷ (keys ++ estimates)) 0 i z (lengths_wide ps fit) refl l in
        let j : i ≡ 0 + i * 1 + 0 = omega arith in
        rw mark_first
        (ap (λ (k : ℕ). get_or xs k 0) j
        ∙ sym (get_or-drop (0 + i * 1) xs 0 0)
        ∙ sym (get_or-take 1 (drop (0 + i * 1) xs) 0 0 (omega arith))
        ∙ ap (λ (ys : List ℕ). get_or ys 0 0) f)

    key_at : key_bytes (laid_out mark ps) i ≡ there.key ++ there.unused
    unfolding laid_out there lengths keys estimates key_bytes key_field
    key_at = rw (append_assoc (lengths ++ (mark ∷ [])) keys estimates) (field_at key_field 64 ps (lengths ++ (mark ∷ [])) estimates keys_at i z (keys_wide ps fit) before_keys l)

    estimate_at : take 8 (drop (estimates_at + i * 8) (laid_out mark ps)) ≡ bytes 8 there.estimate
    unfolding laid_out there lengths keys estimates estimate_field
    estimate_at =
        rw (← append-nil (column estimate_field ps))
        (field_at estimate_field 8 ps (lengths ++ (mark ∷ []) ++ keys) [] estimates_at i z (estimates_wide ps fit) before_estimates l)

    place_at_lem : place_at (laid_out mark ps) i ≡ get_or ps i z
    unfolding place_at there
    place_at_lem =
        let e = get_or ps i z in
        let s = (each_at Fits ps i z fit l).small in
        rw (
          key_at,
          length_at,
          estimate_at,
          take_at e.key e.unused (length e.key) refl,
          drop_at e.key e.unused (length e.key) refl,
          number_bytes 8 e.estimate s,
        )

  pub places_are : (n i : ℕ) → i + n ≤ length ps → places_from (laid_out mark ps) n i ≡ take n (drop i ps)
  unfolding places_from
  places_are zero i l = refl
  places_are (suc n) i l =
      let k : i < length ps = omega arith in
      rw (place_at_lem i clear_place k, places_are n (suc i) (omega arith), drop-cons ps i clear_place k)

-- the places in use of a column of lengths
used_are : (es fs : List Entry) → Each (λ e. 1 ≤ length e.key) es → Each (λ e. length e.key ≡ 0) fs
    → in_use (column length_field (es ++ fs)) ≡ length es
unfolding column length_field Each in_use
used_are [] [] h k = refl
used_are [] (f ∷ fs) h k = rw k.0
used_are (e ∷ es) fs h k = go (length e.key) h.0 (used_are es fs h.1 k)
  where
    go : (n : ℕ) → 1 ≤ n → in_use (column length_field (es ++ fs)) ≡ length es → in_use (n ∷ column length_field (es ++ fs)) ≡ suc (length es)
    go zero l e = absurd (omega arith)
    go (suc n) l e = ap suc e

-- What is laid out is read back.
pub decode_encode : (watch : Watch) → WellFormed watch → decode (encode watch) ≡ watch
unfolding encode decode
decode_encode watch good =
    let es = watch.entries in
    let fs = watch.free in
    let ps = es ++ fs in
    let full : length ps ≡ 64 = length-append es fs ∙ good.places in
    let used : in_use (take 64 (laid_out watch.mark ps)) ≡ length es
    = ap in_use (lengths_are watch.mark ps good.fit full) ∙ used_are es fs good.used good.unused in
    let front : places_from (laid_out watch.mark ps) (length es) 0 ≡ es
    = places_are watch.mark ps good.fit full (length es) 0 (omega (arith, good.places)) ∙ take_at es fs (length es) refl in
    let back : places_from (laid_out watch.mark ps) (64 - length es) (length es) ≡ fs
    = places_are watch.mark ps good.fit full (64 - length es) (length es) (omega (arith, good.places)) ∙ rw (drop_at es fs (length es) refl) (take_all (64 - length es) fs (omega (arith, good.places))) in
    rw (used, front, back, mark_at watch.mark ps good.fit full)

-- Its bytes are as many as a list has, and no call finds them broken.
module _ (watch : Watch) (good : WellFormed watch) where
  abbrev places : List Entry
  places = watch.entries ++ watch.free

  places_full : length places ≡ 64
  places_full = length-append watch.entries watch.free ∙ good.places

  pub encode_long : length (encode watch) ≡ list_size
  unfolding encode laid_out
  encode_long =
      let a = column length_field places in
      let b = column key_field places in
      let c = column estimate_field places in
      let p = column_length length_field 1 places (lengths_wide places good.fit) in
      let q = column_length key_field 64 places (keys_wide places good.fit) in
      let r = column_length estimate_field 8 places (estimates_wide places good.fit) in
      rw (length-append (a ++ (watch.mark ∷ []) ++ b) c, length-append (a ++ (watch.mark ∷ [])) b, length-append a (watch.mark ∷ []), p, q, r, places_full)

  unused_sound : (fs : List Entry) → Each (λ e. length e.key ≡ 0) fs → all_zero (column length_field fs) ≡ true
  unfolding column length_field Each all_zero
  unused_sound [] h = refl
  unused_sound (f ∷ fs) h = rw h.0 (unused_sound fs h.1)

  lengths_sound : (es fs : List Entry) → Each (λ e. 1 ≤ length e.key) es → Each Fits (es ++ fs) → Each (λ e. length e.key ≡ 0) fs
      → sound_lengths (column length_field (es ++ fs)) ≡ true
  unfolding column length_field Each sound_lengths
  lengths_sound [] [] h k l = refl
  lengths_sound [] (f ∷ fs) h k l = rw l.0 (unused_sound fs l.1)
  lengths_sound (e ∷ es) fs h k l = go (length e.key) h.0 (omega (arith, k.0.wide)) (lengths_sound es fs h.1 k.1 l)
    where
      go : (n : ℕ) → 1 ≤ n → n ≤ 64 → sound_lengths (column length_field (es ++ fs)) ≡ true → sound_lengths (n ∷ column length_field (es ++ fs)) ≡ true
      go zero p q i = absurd (omega arith)
      go (suc n) p q i = rw (le-leb (suc n) 64 q) i

  pub encode_sound : watch.mark ≤ 1 → sound (encode watch) ≡ true
  unfolding encode sound
  encode_sound m =
      rw (
        lengths_are watch.mark places good.fit places_full,
        mark_at watch.mark places good.fit places_full,
        lengths_sound watch.entries watch.free good.used good.fit good.unused,
      )
      (le-leb watch.mark 1 m)

-- a cleared list: its bytes are all 0
abbrev pub cleared : Watch
cleared = record { mark = 0; entries = []; free = replicate 64 clear_place }

pub cleared_bytes : encode cleared ≡ replicate list_size 0
unfolding encode laid_out column length_field key_field estimate_field bytes
cleared_bytes = refl
