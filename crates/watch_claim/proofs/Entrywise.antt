-- Steps on entries instead of bytes, so that what a list of steps leaves can be computed without them: the proof's own terms.
use mathlib.Core.Path.{◌≡◌, refl}
use mathlib.Core.Bool.{Bool, true, false, cond, ◌&&◌}
use mathlib.Core.List.{List, [], ◌∷◌}
use Prim.Native.Nat.{ℕ, zero, suc}
use native.Mathlib.Omega.{arith}
use borrow.Author.Tests.{eqb-true, le-leb}
use lib.Dec.{eqb, leb}
use lib.ListN.{length, replicate}
use Rattle.geometry.specs.Geometry.{size}
use Rattle.geometry.specs.Checks.{bad_key}
use Rattle.meter.specs.Meter.{updated, estimated}
use Rattle.watch_list.specs.List.{Watch, noted, taken_off}
use Rattle.watch_list.specs.Layout.{list_size, sound}
use Rattle.watch_list.proofs.Lists.{by_test, cleared}
use Rattle.watch.specs.Watch.{watched}
use Rattle.watch.proofs.Laws.{watched_accepted, watched_status, removed_status}
use Rattle.watch_claim.specs.Steps.{Step, update, remove, State, status}

-- a meter's memory and the list beside it, as entries
pub record Entered : Type 0 where
  pub memory : List ℕ
  pub watch : Watch

-- whether a step is accepted, and what it then leaves
unfoldable pub passes : Step → Entered → Bool
passes (update d w key amount threshold) x = leb 1 threshold && eqb (updated d w x.memory key amount).answer.status 0
passes (remove key) x = eqb (bad_key (length key)) 0

unfoldable pub changed : Step → Entered → Entered
changed (update d w key amount threshold) x =
    record {
      memory = (updated d w x.memory key amount).memory;
      watch = noted key (estimated d w (updated d w x.memory key amount).memory key).value threshold x.watch;
    }
changed (remove key) x = record { memory = x.memory; watch = taken_off key x.watch }

unfoldable pub entered : ℕ → ℕ → List Step → Entered
entered d w [] = record { memory = replicate (size d w) 0; watch = cleared }
entered d w (step ∷ steps) = cond (passes step (entered d w steps)) (changed step (entered d w steps)) (entered d w steps)

-- with a list that is not broken, a step is accepted as its call is
pub passes_is : (step : Step) (s : State) (x : Entered) → s.memory ≡ x.memory → length s.list ≡ list_size → sound s.list ≡ true
    → eqb (status step s) 0 ≡ passes step x
unfolding status passes
passes_is (update d w key amount zero) s x e long good =
    by_test (eqb (watched d w s.memory s.list key amount 0).answer.status 0) (λ b. b ≡ false)
    (λ p. absurd (omega (arith, (watched_accepted d w s.memory s.list key amount 0 (eqb-true _ 0 p)).positive))) (λ p. refl)
passes_is (update d w key amount (suc t)) s x e long good =
    rw (watched_status d w s.memory s.list key amount (suc t) long good (omega arith), e, le-leb 1 (suc t) (omega arith))
passes_is (remove key) s x e long good = rw (removed_status s.list key long good)
