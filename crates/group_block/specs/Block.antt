-- A block and its counters. Document 01, 'Rows, groups and blocks'. Cited by contracts and theorems.
use Rattle.std.specs.Prelude.{ℕ, suc, ◌+◌, ◌-◌, ◌*◌, ◌/◌, ◌%◌, ◌^◌, ◌<◌, Bool, cond, ◌&&◌, ltb}
unfoldable pub use Rattle.group_block.specs.Kind.{cap}
use Rattle.group_block.specs.Kind.{Kind, ordinary}
use Rattle.group_layout.specs.Layout.{Layout, merged, halves, layout}
use Rattle.group_block.specs.declared.Counter.{Counter}

-- A block of level n is one counter with its value (document 01: figure), or two blocks of the level below side by side.
pub data BlockOf (K : Kind) : ℕ → Type 0 where
  counter : {n : ℕ} → K.Value → BlockOf K n
  split : {n : ℕ} → BlockOf K n → BlockOf K n → BlockOf K (suc n)

-- a block of an ordinary meter
abbrev pub Block : ℕ → Type 0
Block n = BlockOf ordinary n

-- every counter holds its value
unfoldable pub Fits : {K : Kind} {n : ℕ} → BlockOf K n → Type 0
Fits {K} {n} (counter v) = K.size v < K.bound n
Fits (split l r) = Fits l × Fits r

-- which blocks are merged
unfoldable pub shape : {K : Kind} {n : ℕ} → BlockOf K n → Layout n
shape (counter v) = merged
shape (split l r) = halves (shape l) (shape r)

-- the count bytes of a block taken as one number, the lowest slot least significant; of a counter, its value
unfoldable pub number_of : {K : Kind} {n : ℕ} → BlockOf K n → ℕ
number_of {K} {n} (counter v) = K.bits n v
number_of (split {n} l r) = number_of r * cap n + number_of l

-- the block that a layout and the count bytes, taken as one number, stand for
unfoldable pub fill : {K : Kind} {n : ℕ} → Layout n → ℕ → BlockOf K n
fill {K} {n} merged w = counter (K.read n w)
fill (halves {n} l r) w = split (fill l (w % cap n)) (fill r (w / cap n))

-- whether every counter's bits are those of a value
unfoldable pub all_clean : (K : Kind) {n : ℕ} → Layout n → ℕ → Bool
all_clean K {n} merged w = K.clean n w
all_clean K (halves {n} l r) w = all_clean K l (w % cap n) && all_clean K r (w / cap n)

-- the block of level n that count bytes, taken as one number, and merge bits stand for
unfoldable pub block_as : (K : Kind) (n : ℕ) → ℕ → ℕ → BlockOf K n
block_as K n w m = fill (layout n m) w

abbrev pub block : (n : ℕ) → ℕ → ℕ → Block n
block n w m = block_as ordinary n w m

-- the value of the counter that slot k, counted from the block's first, is in; its level is the layout's, `level_of (shape b) k`
unfoldable pub counter_value : {K : Kind} {n : ℕ} → BlockOf K n → ℕ → K.Value
counter_value (counter v) k = v
counter_value (split {n} l r) k = cond (ltb k (2 ^ n)) (counter_value l k) (counter_value r (k - 2 ^ n))

-- both of an ordinary meter, as they are read
unfoldable pub counter_at : {n : ℕ} → Block n → ℕ → Counter
counter_at {n} (counter v) k = record { value = v; level = n }
counter_at (split {n} l r) k = cond (ltb k (2 ^ n)) (counter_at l k) (counter_at r (k - 2 ^ n))

-- the sum of a block's counters
unfoldable pub total : {K : Kind} {n : ℕ} → BlockOf K n → K.Value
total (counter v) = v
total {K} (split l r) = K.plus (total l) (total r)

-- the sizes of a block's counters added up
unfoldable pub sizes : {K : Kind} {n : ℕ} → BlockOf K n → ℕ
sizes {K} (counter v) = K.size v
sizes (split l r) = sizes l + sizes r
