-- Rows tried before any is stored: the first status and, where none is refused, the groups that are kept for storing.
use mathlib.Core.Path.{◌≡◌, sym, ap, ◌∙◌}
use mathlib.Core.List.{List}
use Prim.Native.Nat.{ℕ, ◌+◌, ◌-◌, ◌*◌, ◌≤◌, ◌<◌}
use native.Mathlib.Omega.{arith}
use lib.ListN.{length, drop, set, length-set}
use Rattle.std.specs.Prelude.{Ok, Err}
use Rattle.answer.specs.declared.Refusal.{Refusal}
use Rattle.answer.specs.Refusals.{number}
use Rattle.answer.specs.Order.{earlier, earliest}
use Rattle.answer.proofs.Order.{earlier_none, none_earlier}
use Rattle.geometry.specs.Geometry.{stride}
use Rattle.group.specs.declared.Group.{Group}
use Rattle.group.specs.Results.{Outcome, outcome_of}
use Rattle.group.proofs.Results.{outcome_ok, outcome_err}
use Rattle.meter_memory.specs.Rows.{row_of, of_rows}
use Rattle.meter_memory.proofs.Lists.{filled_more}
use Rattle.meter_memory.proofs.Gather.{status_turn, status_end}
use Rattle.meter_memory.proofs.Tried.{Kept}

abbrev status_of : (ℕ → List ℕ → Outcome) → ℕ → List ℕ → ℕ
status_of f r row = (f r row).status

module _ (f : ℕ → List ℕ → Outcome) (d w : ℕ) (memory : List ℕ) where
  -- the rows before row r are tried
  pub record Trying (groups : List Group) (status r : ℕ) : Type 0 where
    pub row : r ≤ d
    pub long : d ≤ length groups
    pub first : earlier status (earliest (of_rows (status_of f) (stride w) (d - r) r (drop (r * stride w) memory))) ≡ earliest (of_rows (status_of f) (stride w) d 0 memory)
    pub kept : status ≡ 0 → Kept f w memory groups r

  module _ (groups : List Group) (status r : ℕ) (i : Trying groups status r) (h : r < d) (g : Group) where
    -- one more, which is taken
    pub trying_taken : (x : Group) → outcome_of g (Ok x) ≡ f r (row_of w memory r) → Trying (set groups r x) status (r + 1)
    trying_taken x e =
        let o = outcome_ok g (f r (row_of w memory r)) x e in record {
          row = omega arith;
          long = omega (arith, i.long, length-set groups r x);
          first = ap (λ (s : ℕ). earlier s (earliest (of_rows (status_of f) (stride w) (d - (r + 1)) (r + 1) (drop ((r + 1) * stride w) memory)))) (sym (earlier_none status))
              ∙ status_turn (status_of f) w d r memory status 0 h (sym o.accepted)
              ∙ i.first;
          kept = λ z y. filled_more (λ (n : ℕ). (f n (row_of w memory n)).group) groups r x y (omega (arith, i.long)) o.group (i.kept z y);
        }

    -- or refused
    pub trying_refused : (x : Refusal) → outcome_of g (Err x) ≡ f r (row_of w memory r) → Trying groups (earlier status (number x)) (r + 1)
    trying_refused x e =
        let o = outcome_err g (f r (row_of w memory r)) x e in record {
          row = omega arith;
          long = i.long;
          first = status_turn (status_of f) w d r memory status (number x) h o.refused ∙ i.first;
          kept = λ z. absurd (o.some (sym o.refused ∙ (none_earlier status (number x) z).1));
        }

  pub trying_all : (groups : List Group) (status r : ℕ) → Trying groups status r → d ≤ r → status ≡ earliest (of_rows (status_of f) (stride w) d 0 memory)
  trying_all groups status r i h = sym (status_end (status_of f) w d r memory status h) ∙ i.first

  pub kept_all : (groups : List Group) (status r : ℕ) → Trying groups status r → d ≤ r → status ≡ 0 → Kept f w memory groups d
  kept_all groups status r i h z = λ y k l. i.kept z y k (omega arith)
