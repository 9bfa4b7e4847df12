-- Another value in one counter of a group: what is read back, and that no slot before the counter changes.
use mathlib.Core.Path.{◌≡◌, refl, sym, ap, ◌∙◌}
use mathlib.Core.Bool.{true}
use Prim.Native.Nat.{ℕ, zero, suc, ◌/◌, ◌%◌, ◌^◌, ◌<◌}
use native.Mathlib.Nat.{mod-eq_of_lt, mod-lt}
use native.Mathlib.Omega.{arith}
use lib.ListN.{get_or, replicate}
use Rattle.little_endian.specs.Bytes.{number, bytes}
use Rattle.little_endian.proofs.Bytes.{number_bytes, bytes_length}
use Rattle.group_layout.specs.Layout.{layout, valid}
use Rattle.group_block.specs.Block.{Block, cap, Fits, shape, number_of, counter_at, block_as}
use Rattle.group_block.specs.Change.{change}
use Rattle.group_block.proofs.Laws.{word_lt, shape_fill, fill_word, block_fits}
use Rattle.group_slots.proofs.Changing.{change_fits, change_shape}
use Rattle.group_slots.proofs.Slots.{change_at, change_before, counters_ext}
use Rattle.group.specs.declared.Group.{Group}
use Rattle.group.specs.Group.{decode, encode, read, reading, changed}
use Rattle.group.proofs.Laws.{Eight, number_in, encode_decode}

-- a valid group of eight bytes
pub record Good (g : Group) : Type 0 where
  pub merges : valid 3 g.merge ≡ true
  pub eight : Eight g.counts

bytes_small : (n v i : ℕ) → get_or (bytes n v) i 0 < 256
unfolding bytes
bytes_small zero v i = omega arith
bytes_small (suc n) v zero = mod-lt v (omega arith)
bytes_small (suc n) v (suc i) = bytes_small n (v / 256) i

eight_bytes : (v : ℕ) → Eight (bytes 8 v)
eight_bytes v = record { long = bytes_length 8 v; small = bytes_small 8 v }

pub good_fits : (g : Group) → Good g → Fits (decode g)
unfolding decode
good_fits g o = block_fits 3 (number g.counts) g.merge (number_in g.counts o.eight)

pub shape_decode : (g : Group) → shape (decode g) ≡ layout 3 g.merge
unfolding decode block_as
shape_decode g = shape_fill (layout 3 g.merge) (number g.counts)

-- another value in a counter
changed_is : (g : Group) (k v : ℕ) → Good g → (changed g k v).group ≡ record { counts = bytes 8 (number_of (change (decode g) (k % 8) v)); merge = g.merge }
unfolding changed
changed_is g k v o = rw o.merges

pub good_changed : (g : Group) (k v : ℕ) → Good g → Good (changed g k v).group
good_changed g k v o = rw (changed_is g k v o) (record { merges = o.merges; eight = eight_bytes (number_of (change (decode g) (k % 8) v)) })

block_again : (b : Block 3) (m : ℕ) → Fits b → shape b ≡ layout 3 m → decode (record { counts = bytes 8 (number_of b); merge = m }) ≡ b
unfolding decode block_as cap
block_again b m f e = rw (number_bytes 8 (number_of b) (word_lt b f), ← e) (fill_word b f)

pub decode_changed : (g : Group) (k v : ℕ) → Good g → decode (changed g k v).group ≡ change (decode g) (k % 8) v
decode_changed g k v o =
    ap decode (changed_is g k v o)
    ∙ block_again (change (decode g) (k % 8) v) g.merge (change_fits (decode g) (k % 8) v (good_fits g o)) (change_shape (decode g) (k % 8) v ∙ shape_decode g)

pub read_is : (g : Group) (k : ℕ) → valid 3 g.merge ≡ true → k < 8 → read g k ≡ reading (counter_at (decode g) k)
unfolding read
read_is g k v h = rw v (ap (λ (x : ℕ). reading (counter_at (decode g) x)) (mod-eq_of_lt {n = k} {m = 8} h))

pub group_ext : (g h : Group) → Good g → Good h → h.merge ≡ g.merge → ((j : ℕ) → j < 8 → counter_at (decode h) j ≡ counter_at (decode g) j) → h ≡ g
group_ext g h o q m f =
    sym (encode_decode h q.eight q.merges)
    ∙ ap encode (counters_ext (decode h) (decode g) (shape_decode h ∙ ap (layout 3) m ∙ sym (shape_decode g)) f)
    ∙ encode_decode g o.eight o.merges

-- the counter that has another value, and the slots before it where it starts at slot k
pub changed_at : (k : ℕ) (h : Group) (v : ℕ) → Good h → k < 8
    → counter_at (decode (changed h k v).group) k ≡ record { value = v % cap (counter_at (decode h) k).level; level = (counter_at (decode h) k).level }
changed_at k h v q i =
    ap (λ (b : Block 3). counter_at b k) (decode_changed h k v q ∙ ap (λ (x : ℕ). change (decode h) x v) (mod-eq_of_lt {n = k} {m = 8} i)) ∙ change_at (decode h) k v

pub changed_before : (k : ℕ) (h : Group) (v j : ℕ) → Good h → k < 8 → k % 2 ^ (counter_at (decode h) k).level ≡ 0 → j < k → counter_at (decode (changed h k v).group) j ≡ counter_at (decode h) j
changed_before k h v j q i t l =
    ap (λ (b : Block 3). counter_at b j) (decode_changed h k v q ∙ ap (λ (x : ℕ). change (decode h) x v) (mod-eq_of_lt {n = k} {m = 8} i))
    ∙ change_before (decode h) k j v l i t

pub zero_good : (m : ℕ) → valid 3 m ≡ true → Good (record { counts = replicate 8 0; merge = m })
unfolding bytes
zero_good m v = record { merges = v; eight = record { long = refl; small = bytes_small 8 0 } }
