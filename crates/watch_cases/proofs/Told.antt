-- The premise as a test, and what is listed after steps for which it holds, on entries.
use mathlib.Core.Path.{◌≡◌}
use mathlib.Core.Bool.{Bool, true, not, ◌&&◌, ◌||◌, and-eq-true_iff}
use mathlib.Core.List.{List, [], ◌∷◌}
use Prim.Native.Nat.{ℕ, ◌≤◌}
use borrow.Author.Tests.{eqb-true}
use lib.Dec.{eqb}
use Rattle.geometry.specs.Geometry.{valid_depth, valid_width}
use Rattle.watch_claim.specs.Steps.{Step, update, remove, ToldThese, Told}
use Rattle.watch_claim.proofs.Entrywise.{passes, entered}
use Rattle.watch_claim.proofs.Theorem.{goes_on}

module _ (d w t : ℕ) where
  unfoldable pub these : Step → Bool
  these (update d' w' key amount t') = eqb d' d && (eqb w' w && eqb t' t)
  these (remove key) = true

  unfoldable pub allTold : List Step → Bool
  allTold [] = true
  allTold (step ∷ steps) = (not (passes step (entered d w steps)) || these step) && allTold steps

  told_these : (step : Step) → these step ≡ true → ToldThese d w t step
  unfolding these ToldThese
  told_these (update d' w' key amount t') e =
      let p = (and-eq-true_iff (eqb d' d) (eqb w' w && eqb t' t)).0 e in
      let q = (and-eq-true_iff (eqb w' w) (eqb t' t)).0 p.1 in
      (eqb-true d' d p.0, eqb-true w' w q.0, eqb-true t' t q.1)
  told_these (remove key) e = tt

  module _ (vd : valid_depth d ≡ true) (vw : valid_width w ≡ true) (pos : 1 ≤ t) where
    pub all_told : (steps : List Step) → allTold steps ≡ true → Told d w t steps
    unfolding allTold Told
    all_told [] e = tt
    all_told (step ∷ steps) e =
        let p = (and-eq-true_iff (not (passes step (entered d w steps)) || these step) (allTold steps)).0 e in
        goes_on d w t vd vw pos steps (all_told steps p.1) step (λ z. told_these step (rw z at p.0))
