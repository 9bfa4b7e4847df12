-- What is read of a group's slots: where counters start, which slots they have, and what another value changes. Stated by `read` and
-- `changed` alone, for any group, so that images need no more of a group than this.
use mathlib.Core.Path.{◌≡◌, refl, sym, ap, ◌∙◌}
use mathlib.Core.Bool.{Bool, true, false, cond}
use mathlib.Core.List.{List, [], ◌∷◌}
use Prim.Native.Nat.{ℕ, zero, suc, ◌+◌, ◌-◌, ◌*◌, ◌/◌, ◌%◌, ◌^◌, ◌≤◌, ◌<◌}
use native.Mathlib.Nat.{add-zero, zero-div, zero-mod, mod-one, mod_self, mod-eq_of_lt, div-add-mod', div-one, mul-add-mod_self_right}
use native.Mathlib.Decide.{dec_lt}
use native.Mathlib.Omega.{arith}
use lib.Dec.{ltb}
use lib.ListN.{get_or}
use lib.Pow.{pow_pos, shr-shr}
use Rattle.laws.proofs.Lists.{Bytes}
use Rattle.little_endian.specs.Bytes.{number}
use Rattle.group_layout.specs.Layout.{Layout, layout, valid, bit, ones}
use Rattle.group_block.specs.declared.Counter.{Counter}
use Rattle.group_block.specs.Block.{cap, counter_at}
use Rattle.group_slots.proofs.Slots as slots
use Rattle.group_slots.proofs.Slots.{level_of, level_is, level_le, value_lt}
use Rattle.group.specs.declared.Group.{Group}
use Rattle.group.specs.Results.{Reading}
use Rattle.group.specs.Group.{valid_merge, decode, read, reading, changed}
use Rattle.answer.specs.Numbers.{invalid_content}
use Rattle.group.proofs.Laws.{Eight, number_in}
use Rattle.group.proofs.Changing.{Good, good_fits, shape_decode, read_is, good_changed}
use Rattle.group.proofs.Changing as changing
use Rattle.group.proofs.Places.{counter_at_lem}

-- the merge byte where nothing is merged is valid
pub none_merged_lem : valid_merge 0 ≡ true
unfolding valid ones
none_merged_lem = refl

module _ (g : Group) where
  -- a valid group, or one of which nothing is read
  by_merge : {A : Type 0} → (valid_merge g.merge ≡ true → A) → (valid_merge g.merge ≡ false → A) → A
  by_merge {A} f h = go (valid_merge g.merge) refl
    where
      go : (b : Bool) → valid_merge g.merge ≡ b → A
      go true e = f e
      go false e = h e

  pub invalid_reading : (k : ℕ) → valid_merge g.merge ≡ false → read g k ≡ record { status = invalid_content; value = 0; level = 0 }
  unfolding read
  invalid_reading k e = rw e

  invalid_level : (k : ℕ) → valid_merge g.merge ≡ false → (read g k).level ≡ 0
  invalid_level k e = ap (λ (r : Reading). r.level) (invalid_reading k e)

  -- the counter of a slot, by the block
  pub valid_level : (k : ℕ) → valid_merge g.merge ≡ true → k < 8 → (read g k).level ≡ (counter_at (decode g) k).level
  unfolding reading
  valid_level k v h = ap (λ (r : Reading). r.level) (read_is g k v h)

  same_reading : (j k : ℕ) → valid_merge g.merge ≡ true → j < 8 → k < 8 → counter_at (decode g) j ≡ counter_at (decode g) k → read g j ≡ read g k
  same_reading j k v h i e = read_is g j v h ∙ ap reading e ∙ sym (read_is g k v i)

  first_slot : (k : ℕ) → valid_merge g.merge ≡ true → k < 8 → k % 2 ^ (read g k).level ≡ 0 → k % 2 ^ (counter_at (decode g) k).level ≡ 0
  first_slot k v h z = rw (valid_level k v h) at z

-- a level is at most 3
pub level_most : (g : Group) (k : ℕ) → (read g k).level ≤ 3
unfolding read reading
level_most g k = go (valid_merge g.merge)
  where
    go : (b : Bool) → (cond b (reading (counter_at (decode g) (k % 8))) (record { status = invalid_content; value = 0; level = 0 })).level ≤ 3
    go true = level_le (decode g) (k % 8)
    go false = omega arith

-- and depends on the merge byte alone
level_of_lem : (g : Group) (k : ℕ) → (read g k).level ≡ cond (valid_merge g.merge) (level_of (layout 3 g.merge) (k % 8)) 0
unfolding read reading
level_of_lem g k = go (valid_merge g.merge)
  where
    go : (b : Bool)
        → (cond b (reading (counter_at (decode g) (k % 8))) (record { status = invalid_content; value = 0; level = 0 })).level
        ≡ cond b (level_of (layout 3 g.merge) (k % 8)) 0
    go true = level_is (decode g) (k % 8) ∙ ap (λ (L : Layout 3). level_of L (k % 8)) (shape_decode g)
    go false = refl

pub level_by_merge : (g h : Group) (k : ℕ) → g.merge ≡ h.merge → (read g k).level ≡ (read h k).level
level_by_merge g h k e = level_of_lem g k ∙ ap (λ (m : ℕ). cond (valid_merge m) (level_of (layout 3 m) (k % 8)) 0) e ∙ sym (level_of_lem h k)

-- a counter of level n holds 8 * 2 ^ n bits
pub value_below : (g : Group) (k : ℕ) → Good g → k < 8 → (read g k).value < 2 ^ (8 * 2 ^ (read g k).level)
unfolding reading cap
value_below g k o h = rw (read_is g k o.merges h) (value_lt (decode g) k (good_fits g o))

-- the slots of the counter that starts at slot k lie in the group
pub counter_end : (g : Group) (k : ℕ) → k < 8 → k % 2 ^ (read g k).level ≡ 0 → k + 2 ^ (read g k).level ≤ 8
counter_end g k h z =
    by_merge g
    (λ v. rw (valid_level g k v h) (slots.counter_in (decode g) k h (first_slot g k v h z)))
    (λ v. rw (invalid_level g k v) (omega arith))

-- and are all in that counter
pub counter_slots : (g : Group) (k j : ℕ) → k < 8 → k % 2 ^ (read g k).level ≡ 0 → j < 2 ^ (read g k).level → read g (k + j) ≡ read g k
counter_slots g k j h z i =
    by_merge g
    (λ v.
    let e : k + j < 8 = omega (arith, counter_end g k h z) in
    same_reading g (k + j) k v e h (slots.counter_slots (decode g) k j h (first_slot g k v h z) (rw (valid_level g k v h) at i)))
    (λ v. invalid_reading g (k + j) v ∙ sym (invalid_reading g k v))

-- a slot that is not its counter's first is in the counter of the slot before it
pub same_before : (g : Group) (k : ℕ) → k < 8 → (k % 2 ^ (read g k).level ≡ 0 → ⊥) → (0 < k) × (read g k ≡ read g (k - 1))
same_before g k h f =
    by_merge g
    (λ v.
    let s = slots.same_before (decode g) k h (λ z. f (rw (valid_level g k v h) z)) in
    (s.0, same_reading g k (k - 1) v h (omega arith) s.1))
    (λ v. absurd (f (rw (invalid_level g k v) (mod-one k))))

-- what is left over a multiple
over_multiple : (k j n : ℕ) → k % n ≡ 0 → (k + j) % n ≡ j % n
over_multiple k j n e =
    let d : k / n * n ≡ k = sym (add-zero (k / n * n)) ∙ ap (λ (i : ℕ). k / n * n + i) (sym e) ∙ div-add-mod' k n in
    ap (λ (i : ℕ). (i + j) % n) (sym d) ∙ mul-add-mod_self_right (k / n) n j

-- the slots of a counter after its first start none
pub inside : (g : Group) (k j : ℕ) → k < 8 → k % 2 ^ (read g k).level ≡ 0 → 0 < j → j < 2 ^ (read g k).level → (k + j) % 2 ^ (read g (k + j)).level ≡ 0 → ⊥
inside g k j h z p i =
    let r : (k + j) % 2 ^ (read g k).level ≡ j = over_multiple k j (2 ^ (read g k).level) z ∙ mod-eq_of_lt {n = j} {m = 2 ^ (read g k).level} i in
    rw (counter_slots g k j h z i) (λ y. omega (arith, r))

-- the slot behind a counter starts one
pub next_first : (g : Group) (k : ℕ) → k < 8 → k % 2 ^ (read g k).level ≡ 0 → k + 2 ^ (read g k).level < 8
    → (k + 2 ^ (read g k).level) % 2 ^ (read g (k + 2 ^ (read g k).level)).level ≡ 0
next_first g k h z i =
    let L = (read g k).level in
    let n = k + 2 ^ L in
    elim (dec_lt 0 (n % 2 ^ (read g n).level)) [
      | yes p ↦
          let s = same_before g n i (λ y. omega arith) in
          let before : n - 1 ≡ k + (2 ^ L - 1) = omega (arith, pow_pos L) in
          let same : read g n ≡ read g k = s.1 ∙ ap (read g) before ∙ counter_slots g k (2 ^ L - 1) h z (omega (arith, pow_pos L)) in
          rw same (over_multiple k (2 ^ L) (2 ^ L) z ∙ mod_self (2 ^ L))
      | no p ↦ omega arith
    ]

-- another value in the counter of slot k: the merge byte stays, the value is read back as far as the counter holds it, and no slot before
-- the counter changes
pub changed_merge : (g : Group) (k v : ℕ) → (changed g k v).group.merge ≡ g.merge
unfolding changed
changed_merge g k v = by_merge g (λ e. rw e) (λ e. rw e)

pub changed_at : (g : Group) (k v : ℕ) → Good g → k < 8
    → read (changed g k v).group k ≡ record { status = 0; value = v % 2 ^ (8 * 2 ^ (read g k).level); level = (read g k).level }
unfolding reading cap
changed_at g k v o h =
    read_is (changed g k v).group k (good_changed g k v o).merges h ∙ ap reading (changing.changed_at k g v o h) ∙ rw (valid_level g k o.merges h)

pub changed_before : (g : Group) (k v j : ℕ) → Good g → k < 8 → k % 2 ^ (read g k).level ≡ 0 → j < k → read (changed g k v).group j ≡ read g j
changed_before g k v j o h z l =
    read_is (changed g k v).group j (good_changed g k v o).merges (omega arith)
    ∙ ap reading (changing.changed_before k g v j o h (first_slot g k o.merges h z) l) ∙ sym (read_is g j o.merges (omega arith))

-- groups of one merge byte whose slots are read alike are the same
pub readings_ext : (g h : Group) → Good g → Good h → h.merge ≡ g.merge → ((j : ℕ) → j < 8 → read h j ≡ read g j) → h ≡ g
unfolding reading
readings_ext g h o q m f = changing.group_ext g h o q m (λ j l.
    let e : reading (counter_at (decode h) j) ≡ reading (counter_at (decode g) j) = sym (read_is h j q.merges l) ∙ f j l ∙ read_is g j o.merges l in
    ap (λ (r : Reading). record { value = r.value; level = r.level }) e)

-- what is read of a valid group is accepted
pub accepted_reading : (g : Group) (k : ℕ) → valid_merge g.merge ≡ true → read g k ≡ record { status = 0; value = (read g k).value; level = (read g k).level }
unfolding read reading
accepted_reading g k v = rw v

-- the value of the counter that starts at slot k, in the count bytes taken as one number
pub value_is : (g : Group) (k : ℕ) → Good g → k < 8 → k % 2 ^ (read g k).level ≡ 0 → (read g k).value ≡ number g.counts / 2 ^ (8 * k) % 2 ^ (8 * 2 ^ (read g k).level)
unfolding decode reading cap
value_is g k o h z =
    let L = (read g k).level in
    let l : (counter_at (decode g) k).level ≡ L = sym (valid_level g k o.merges h) in
    let q : 8 * k ≡ 8 * (k / 2 ^ L * 2 ^ L) = omega (arith, div-add-mod' k (2 ^ L)) in
    ap (λ (r : Reading). r.value) (read_is g k o.merges h)
    ∙ ap (λ (c : Counter). c.value) (counter_at_lem (number g.counts) g.merge k L (8 * k) (number_in g.counts o.eight) h l q)

-- where nothing is merged each slot is a counter of level 0, whose value is its count byte
plain_level : (n k : ℕ) → level_of (layout n 0) k ≡ 0
unfolding layout level_of bit
plain_level zero k = refl
plain_level (suc n) k = rw (zero-div (2 ^ (2 ^ n - 1)), zero-mod (2 ^ (2 ^ n)), zero-div (2 ^ (2 ^ n))) (go (ltb k (2 ^ n)) (plain_level n k) (plain_level n (k - 2 ^ n)))
  where
    go : (b : Bool) → level_of (layout n 0) k ≡ 0 → level_of (layout n 0) (k - 2 ^ n) ≡ 0 → cond b (level_of (layout n 0) k) (level_of (layout n 0) (k - 2 ^ n)) ≡ 0
    go true e f = e
    go false e f = f

number_byte : (xs : List ℕ) (k : ℕ) → Bytes xs → number xs / 2 ^ (8 * k) % 256 ≡ get_or xs k 0
unfolding number
number_byte [] k b = ap (λ (n : ℕ). n % 256) (zero-div (2 ^ (8 * k)))
number_byte (x ∷ xs) zero b = rw (div-one (x + 256 * number xs)) (omega (arith, b 0))
number_byte (x ∷ xs) (suc k) b =
    let e : 8 * suc k ≡ 8 + 8 * k = omega arith in
    let z : (x + 256 * number xs) / 2 ^ 8 ≡ number xs = omega (arith, b 0) in
    rw (e, ← shr-shr (x + 256 * number xs) 8 (8 * k), z) (number_byte xs k (λ i. b (suc i)))

pub plain_reading : (xs : List ℕ) (k : ℕ) → Eight xs → k < 8 → read (record { counts = xs; merge = 0 }) k ≡ record { status = 0; value = get_or xs k 0; level = 0 }
unfolding reading
plain_reading xs k o h =
    let g : Group = record { counts = xs; merge = 0 } in
    let good : Good g = record { merges = none_merged_lem; eight = o } in
    let l : (read g k).level ≡ 0
    = valid_level g k none_merged_lem h ∙ level_is (decode g) k ∙ ap (λ (L : Layout 3). level_of L k) (shape_decode g) ∙ plain_level 3 k in
    let v : (read g k).value ≡ get_or xs k 0 = value_is g k good h (rw l (mod-one k)) ∙ rw l (number_byte xs k o.small) in
    let s : (read g k).status ≡ 0 = ap (λ (r : Reading). r.status) (read_is g k none_merged_lem h) in
    read_ext s v l
  where
    read_ext : {r : Reading} {s v l : ℕ} → r.status ≡ s → r.value ≡ v → r.level ≡ l → r ≡ record { status = s; value = v; level = l }
    read_ext e f i = rw (← e, ← f, ← i)
