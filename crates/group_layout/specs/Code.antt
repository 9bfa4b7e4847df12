-- Layout codes. Document 01, 'Layout codes'. Cited by contracts and theorems.
use Rattle.std.specs.Prelude.{ℕ, zero, suc, ◌+◌, ◌*◌, ◌/◌, ◌%◌, cond, eqb}
use Rattle.group_layout.specs.Layout.{Layout, merged, halves}

-- the number of layouts of a block of level n, document 01's a(n): 1, 2, 5, 26
unfoldable pub layouts : ℕ → ℕ
layouts zero = 1
layouts (suc n) = layouts n * layouts n + 1

-- the code of a slot, and of a merged block
unfoldable pub merged_code : ℕ → ℕ
merged_code zero = 0
merged_code (suc n) = layouts n * layouts n

unfoldable pub code : {n : ℕ} → Layout n → ℕ
code {n} merged = merged_code n
code (halves {n} l r) = code l * layouts n + code r

-- the layout that a code below layouts n stands for
unfoldable pub uncode : (n : ℕ) → ℕ → Layout n
uncode zero c = merged
uncode (suc n) c = cond (eqb c (merged_code (suc n))) merged (halves (uncode n (c / layouts n)) (uncode n (c % layouts n)))
