-- The code's steps from the first slot of a counter to the next.
use mathlib.Core.Path.{◌≡◌, sym, ap, ◌∙◌}
use mathlib.Core.Bool.{true, false}
use mathlib.Core.List.{List}
use Prim.Native.Nat.{ℕ, ◌+◌, ◌-◌, ◌^◌, ◌<◌}
use native.Mathlib.Nat.{add-zero}
use Rattle.group.specs.declared.Group.{Group}
use Rattle.group.specs.Group.{changed}
use Rattle.image_format.specs.Image.{level_at, is_first, word_count}
use Rattle.image_format.specs.Write.{slot_size}
use Rattle.image_format.specs.Read.{read_slot, read_slots, value_from}
use Rattle.image_format.proofs.Laws.{size_other, size_first}
use Rattle.image_format.proofs.Counters.{behind}
use Rattle.image_reader.proofs.Laws.{read_slot_other, read_slot_merge, read_slots_step, read_slot_first}

-- reads, from the first slot of a counter to the next
pub reads_turn : (k : ℕ) (g : Group) (words : List ℕ) (p : ℕ) → k < 8 → is_first g.merge k ≡ true
    → read_slots (8 - k) k g words p
    ≡ read_slots (8 - (k + 2 ^ level_at g.merge k)) (k + 2 ^ level_at g.merge k) (read_slot k g words p) words (p + slot_size g.merge k)
unfolding read_slots
reads_turn k g words p h t =
    let x = read_slot k g words p in
    let q = p + slot_size g.merge k in
    let same = read_slot_merge k g words p in
    read_slots_step 8 k g words p h
    ∙ behind (λ n i. read_slots n i x words q) g.merge
    (λ n i f.
    let y : is_first x.merge i ≡ false = rw same f in
    let z : q + slot_size x.merge i ≡ q = ap (λ (s : ℕ). q + s) (sym (size_other x.merge i y)) ∙ add-zero q in
    ap (λ (r : Group). read_slots n (i + 1) r words (q + slot_size x.merge i)) (read_slot_other i x words q y) ∙ ap (λ (r : ℕ). read_slots n (i + 1) x words r) z)
    k h t

-- slot by slot: reads of the counter that starts at a slot, or none
pub reads_some : (m k : ℕ) (g x : Group) (level n v : ℕ) (words : List ℕ) (p : ℕ) → g.merge ≡ m → k < 8 → is_first m k ≡ true → level ≡ level_at m k → n ≡ word_count level
    → v ≡ value_from n 0 words p → x ≡ (changed g k v).group
    → (x.merge ≡ m) × (read_slots (8 - (k + 1)) (k + 1) x words (p + n) ≡ read_slots (8 - k) k g words p)
reads_some m k g x level n v words p o h t e f i y =
    let first : is_first g.merge k ≡ true = rw o t in
    let same : level ≡ level_at g.merge k = rw o e in
    let z : x ≡ read_slot k g words p = y ∙ read_slot_first k g level n v words p same first f i in
    let s : n ≡ slot_size g.merge k = size_first g.merge k level n same first f in
    rw (← o) (ap (λ (b : Group). b.merge) z ∙ read_slot_merge k g words p, rw (z, s) (sym (read_slots_step 8 k g words p h)))

pub reads_other : (m k : ℕ) (g : Group) (words : List ℕ) (p : ℕ) → g.merge ≡ m → k < 8 → is_first m k ≡ false
    → read_slots (8 - (k + 1)) (k + 1) g words p ≡ read_slots (8 - k) k g words p
reads_other m k g words p o h t =
    let other : is_first g.merge k ≡ false = rw o t in
    sym (rw (read_slot_other k g words p other, ← size_other g.merge k other, add-zero p) at (read_slots_step 8 k g words p h))

-- a group's counters read from slot k on, and the size of their words
pub reads_step : (m k : ℕ) (g x : Group) (level n v : ℕ) (words : List ℕ) (p : ℕ) → g.merge ≡ m → k < 8 → is_first m k ≡ true → level ≡ level_at m k → n ≡ word_count level
    → v ≡ value_from n 0 words p → x ≡ (changed g k v).group
    → (x.merge ≡ m) × (read_slots (8 - (k + 2 ^ level_at m k)) (k + 2 ^ level_at m k) x words (p + n) ≡ read_slots (8 - k) k g words p)
reads_step m k g x level n v words p o h t e f i y =
    let first : is_first g.merge k ≡ true = rw o t in
    let same : level ≡ level_at g.merge k = rw o e in
    let z : x ≡ read_slot k g words p = y ∙ read_slot_first k g level n v words p same first f i in
    let s : n ≡ slot_size g.merge k = size_first g.merge k level n same first f in
    rw (← o) (ap (λ (b : Group). b.merge) z ∙ read_slot_merge k g words p, rw (z, s) (sym (reads_turn k g words p h first)))
