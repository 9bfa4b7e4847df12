-- The lists of the table leave what it says, and a 65th key sets the mark.
use mathlib.Core.Path.{◌≡◌, refl, ap, ◌∙◌}
use mathlib.Core.Bool.{true}
use mathlib.Core.List.{List, [], ◌∷◌}
use Prim.Native.Nat.{ℕ, ◌≤◌}
use native.Mathlib.Omega.{arith}
use lib.ListN.{length}
use Rattle.geometry.specs.Geometry.{valid_depth, one_of_powers, valid_width}
use Rattle.watch_list.specs.List.{Watch, listed}
use Rattle.watch_list.specs.Layout.{decode}
use Rattle.watch_claim.specs.Steps.{Step, remove, after, Told}
use Rattle.watch_claim.specs.Claim.{contents}
use Rattle.watch_claim.proofs.Entrywise.{entered}
use Rattle.watch_claim.proofs.Theorem.{by_entries}
use Rattle.watch_cases.specs.Cases.{Case, AllMeet, cases, one, many, Full}
use Rattle.watch_cases.proofs.Told.{all_told}
use Rattle.watch_cases.proofs.Computed.{AllCompute, computed}

depth : valid_depth 1 ≡ true
unfolding valid_depth
depth = refl

width : valid_width 32 ≡ true
unfolding valid_width one_of_powers
width = refl

-- what steps leave, on bytes and on entries
is : (t : ℕ) → 1 ≤ t → (steps : List Step) → Told 1 32 t steps → decode (after 1 32 steps).list ≡ (entered 1 32 steps).watch
is t pos steps told = by_entries 1 32 t depth width pos steps told

all_meet : (cs : List Case) → AllCompute cs → AllMeet cs
all_meet [] h = tt
all_meet (c ∷ cs) h =
    let told = all_told 1 32 300 depth width (omega arith) c.steps h.0.0 in
    let w = is 300 (omega arith) c.steps told in
    ((told, ap (λ (x : Watch). x.mark) w ∙ h.0.1, ap (λ (x : Watch). contents x.entries) w ∙ h.0.2), all_meet cs h.1)

pub cases_meet : AllMeet cases
cases_meet = all_meet cases computed.all

pub full_meets : Full
unfolding Told many
full_meets =
    let last = all_told 1 32 1 depth width (omega arith) (one 64 ∷ remove (0 ∷ []) ∷ many 65) computed.told in
    let w = is 1 (omega arith) (one 64 ∷ remove (0 ∷ []) ∷ many 65) last in
    let removed = is 1 (omega arith) (remove (0 ∷ []) ∷ many 65) last.0 in
    let all = is 1 (omega arith) (many 65) last.0.0 in
    let most = is 1 (omega arith) (many 64) last.0.0.0 in
    record {
      told = last;
      filled = ap (λ (x : Watch). length x.entries) most ∙ computed.filled;
      off = ap (λ (x : Watch). x.mark) most ∙ computed.off;
      on = ap (λ (x : Watch). x.mark) all ∙ computed.on;
      no_place = ap (λ (x : Watch). listed (64 ∷ []) x.entries) all ∙ computed.no_place;
      as_many = ap (λ (x : Watch). length x.entries) all ∙ computed.as_many;
      stays = ap (λ (x : Watch). x.mark) removed ∙ computed.stays;
      joins = ap (λ (x : Watch). listed (64 ∷ []) x.entries) w ∙ computed.joins;
      still = ap (λ (x : Watch). x.mark) w ∙ computed.still;
    }
