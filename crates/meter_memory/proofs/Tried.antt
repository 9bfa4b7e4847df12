-- Rows tried before any is stored: the first status, and the groups that are kept for storing. For any outcome of a row, and any way to store.
use mathlib.Core.Path.{◌≡◌, sym, ap, ◌∙◌}
use mathlib.Core.List.{List}
use Prim.Native.Nat.{ℕ, ◌+◌, ◌-◌, ◌*◌, ◌≤◌, ◌<◌}
use native.Mathlib.Nat.{zero-add}
use native.Mathlib.Omega.{arith}
use lib.ListN.{length, get_or, take, drop, set, length-set}
use Rattle.answer.specs.Order.{earlier, earliest}
use Rattle.geometry.specs.Geometry.{stride}
use Rattle.group.specs.declared.Group.{Group}
use Rattle.group.specs.Results.{Outcome}
use Rattle.meter_memory.specs.Rows.{row_of, map_rows, of_rows}
use Rattle.meter_memory.proofs.Lists.{filled_more, rows_from, rows_end}
use Rattle.meter_memory.proofs.Gather.{status_turn, status_end}
use Rattle.meter_memory.proofs.Agree.{maps_same}

abbrev status_of : (ℕ → List ℕ → Outcome) → ℕ → List ℕ → ℕ
status_of f r row = (f r row).status

-- groups kept of the first n rows
abbrev pub Kept : (ℕ → List ℕ → Outcome) → ℕ → List ℕ → List Group → ℕ → Type 0
Kept f w memory groups n = (z : Group) (r : ℕ) → r < n → get_or groups r z ≡ (f r (row_of w memory r)).group

module _ (f : ℕ → List ℕ → Outcome) (d w : ℕ) (memory : List ℕ) where
  -- the rows before row r are tried
  abbrev pub Tried : List Group → ℕ → ℕ → Type 0
  Tried groups status r = (r ≤ d)
      × (d ≤ length groups)
      × (earlier status (earliest (of_rows (status_of f) (stride w) (d - r) r (drop (r * stride w) memory))) ≡ earliest (of_rows (status_of f) (stride w) d 0 memory))
      × Kept f w memory groups r

  pub tried_more : (groups : List Group) (status r : ℕ) → Tried groups status r → r < d
      → (o : Outcome) → o ≡ f r (row_of w memory r) → Tried (set groups r o.group) (earlier status o.status) (r + 1)
  tried_more groups status r i h o is = (
    omega arith,
    omega (arith, i.1, length-set groups r o.group),
    status_turn (status_of f) w d r memory status o.status h (ap (λ (x : Outcome). x.status) is) ∙ i.2,
    λ z. filled_more (λ (n : ℕ). (f n (row_of w memory n)).group) groups r o.group z (omega (arith, i.1)) (ap (λ (x : Outcome). x.group) is) (i.3 z),
  )

  pub tried_all : (groups : List Group) (status r : ℕ) → Tried groups status r → d ≤ r → (status ≡ earliest (of_rows (status_of f) (stride w) d 0 memory)) × Kept f w memory groups d
  tried_all groups status r i h =
      (sym (status_end (status_of f) w d r memory status h) ∙ i.2, λ z k l. i.3 z k (omega (arith, i.0)))

-- a kept group stored in row r
abbrev pub kept_stored : (ℕ → Group → List ℕ → List ℕ) → List Group → Group → ℕ → List ℕ → List ℕ
kept_stored store groups z r row = store r (get_or groups r z) row

-- all are stored: each row is as if its own group had been made of it then
pub stored_all : (store : ℕ → Group → List ℕ → List ℕ) (f : ℕ → List ℕ → Outcome) (d w : ℕ) (memory : List ℕ) (groups : List Group) (z : Group)
    → Kept f w memory groups d → (s r : ℕ) (after : List ℕ) → s ≡ stride w → d ≤ r
    → rows_from (kept_stored store groups z) s d r after ≡ map_rows (kept_stored store groups z) s d 0 memory
    → after ≡ map_rows (λ (r : ℕ) (row : List ℕ). store r (f r row).group row) (stride w) d 0 memory
unfolding row_of
stored_all store f d w memory groups z kept s r after same h e =
    sym (rows_end (kept_stored store groups z) s d r after h)
    ∙ e
    ∙ ap (λ (n : ℕ). map_rows (kept_stored store groups z) n d 0 memory) same
    ∙ maps_same (stride w) (kept_stored store groups z) (λ (r : ℕ) (row : List ℕ). store r (f r row).group row) d 0 memory
    (λ k l.
    let index : 0 + k ≡ k = zero-add k in
    rw index (ap (λ (g : Group). store k g (take (stride w) (drop (k * stride w) memory))) (kept z k l)))
