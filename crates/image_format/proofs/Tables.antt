-- Tables filled one entry after another, and the part of one that is lent.
use mathlib.Core.Path.{◌≡◌, sym, ap, ◌∙◌}
use mathlib.Core.List.{List}
use Prim.Native.Nat.{ℕ, ◌+◌, ◌-◌, ◌*◌, ◌≤◌, ◌<◌}
use native.Mathlib.Decide.{dec_lt}
use native.Mathlib.Omega.{arith}
use lib.ListN.{length, get_or, take, length-take}
use lib.Seq.{get_or-take, take-take}
use Rattle.group_codes.specs.Pack.{code_merge}
use Rattle.image_format.specs.Fields.{Described}
use Rattle.image_format.specs.Tables.{Filled, FirstFields, Fields}
use Rattle.image_format.proofs.Fields.{size_most}

-- Entries that a turn of a loop keeps, and the one that it adds: one law for every table.
pub entries_more : (P : ℕ → List ℕ → Type 0) (t s : List ℕ) (n : ℕ) → ((k : ℕ) → k < n → P k t → P k s) → P n s
    → ((k : ℕ) → k < n → P k t) → (k : ℕ) → k < n + 1 → P k s
entries_more P t s n keep new f k h = elim (dec_lt k n) [
  | yes l ↦ keep k l (f k l)
  | no l ↦ let e : k ≡ n = omega arith in rw e new
]

-- the first n entries of a table, lent
pub table_part : (f : ℕ → ℕ) (t : List ℕ) (n : ℕ) → Filled f n t → Filled f (length (take (n - 0) t)) (take (n - 0) t)
table_part f t n p k h =
    let l : k < n = omega (arith, length-take (n - 0) t) in
    get_or-take (n - 0) t k 0 (omega arith) ∙ p k l

-- what is the same below place a has the same descriptions there
same_described : (m at a : ℕ) (t s : List ℕ) → at + 17 ≤ a → take a s ≡ take a t → Described m t at → Described m s at
same_described m at a t s h e d = (
  same at (omega arith) ∙ d.0,
  λ i l.
      let z = size_most m in
      (same (at + 1 + i) (omega arith) ∙ (d.1 i l).0, same (at + 9 + i) (omega arith) ∙ (d.1 i l).1),
)
  where
    same : (j : ℕ) → j < a → get_or s j 0 ≡ get_or t j 0
    same j k = sym (get_or-take a s j 0 k) ∙ ap (λ (l : List ℕ). get_or l j 0) e ∙ get_or-take a t j 0 k

-- one description more in a table
pub fields_more : (t s : List ℕ) (n : ℕ) → take (17 * n) s ≡ take (17 * n) t → Described (code_merge n) s (17 * n) → FirstFields n t → FirstFields (n + 1) s
fields_more t s n e d f =
    entries_more (λ c l. Described (code_merge c) l (17 * c)) t s n (λ c l p. same_described (code_merge c) (17 * c) (17 * n) t s (omega arith) e p) d f

-- the descriptions of the first n codes, lent
pub fields_part : (t : List ℕ) (n : ℕ) → FirstFields n t → Fields (take (17 * n - 0) t)
fields_part t n f c h =
    let l : 17 * c + 17 ≤ 17 * n - 0 = omega (arith, length-take (17 * n - 0) t) in
    same_described (code_merge c) (17 * c) (17 * c + 17) t (take (17 * n - 0) t) (omega arith) (take-take (17 * c + 17) (17 * n - 0) t l) (f c (omega arith))
