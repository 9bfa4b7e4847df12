-- The claim, proved of every faithful list of a signed meter's calls: after it the memory holds the list's traffic, and no call but an
-- accepted clearing lowers the level of a counter.
use mathlib.Core.Path.{◌≡◌, refl, sym, ap, ◌∙◌}
use mathlib.Core.Bool.{Bool, true, false, true≢false}
use mathlib.Core.List.{List}
use Prim.Native.Nat.{ℕ, ◌%◌, ◌<◌}
use native.Mathlib.Omega.{arith}
use borrow.Author.Tests.{eq-eqb, eqb-true}
use lib.Dec.{eqb}
use lib.IntN.{pos}
use lib.ListN.{length, replicate}
use Rattle.answer.proofs.Answers.{finish_kept}
use Rattle.geometry.specs.Geometry.{valid_depth, valid_width, size}
use Rattle.traffic.proofs.Answers.{good_key}
use Rattle.signed_number.specs.Number.{signed_of}
use Rattle.signed.specs.Signed.{bad_shape, cleared, updated, combined_meters}
use Rattle.signed_claim.specs.Traffic.{Pair}
use Rattle.signed_claim.specs.Calls.{Call, clear, update, estimate, combine, Source, from, raw, Calls, none, then, traffic, after, behind, run, done, bytes_of, Faithful, Listed, LeftBy}
use Rattle.signed_claim.specs.Claim.{counter_after, Later, now, next, Claim, SignedClaim}
use Rattle.signed_claim.proofs.Holds.{Holds, Grows}
use Rattle.signed_claim.proofs.Calls.{finish_taken}
use Rattle.signed_claim.proofs.Steps.{start_holds, update_step, combine_step}
use Rattle.signed_claim.proofs.Answers.{counters, estimate_is, copy_taken, copy_left}

-- a refused call leaves the memory as it was
pub kept : (d w d' w' : ℕ) (call : Call) (memory : List ℕ) → eqb (done d w d' w' call memory).status 0 ≡ false → (done d w d' w' call memory).memory ≡ memory
unfolding done cleared updated combined_meters
kept d w d' w' clear memory e = finish_kept _ _ _ _ e
kept d w d' w' (update key amount) memory e = finish_kept _ _ _ _ e
kept d w d' w' (estimate key) memory e = refl
kept d w d' w' (combine minus source) memory e = finish_kept _ _ _ _ e

-- a clearing that is accepted leaves what a list starts from
cleared_is : (d w : ℕ) (memory : List ℕ) → length memory ≡ size d w → (cleared d w memory).answer.status ≡ 0 → (cleared d w memory).memory ≡ replicate (size d w) 0
unfolding cleared
cleared_is d w memory l e = (finish_taken (bad_shape d w (length memory)) 0 (replicate (length memory) 0) memory e).1 ∙ ap (λ (n : ℕ). replicate n 0) l

-- a call that was told d and w
told : (d w d' w' : ℕ) (call : Call) (memory : List ℕ) (P : List ℕ → Type 0) → d' ≡ d → w' ≡ w
    → (eqb (done d w d w call memory).status 0 ≡ true → P (done d w d w call memory).memory)
    → eqb (done d w d' w' call memory).status 0 ≡ true → P (done d w d' w' call memory).memory
told d w d' w' call memory P p q f = rw (p, q) f

module _ (d w : ℕ) (vd : valid_depth d ≡ true) (vw : valid_width w ≡ true) where
  mutual
    unfolding run done bytes_of traffic after behind Faithful Listed LeftBy

    -- The invariant: after a faithful list the memory holds the list's traffic.
    pub holds : (calls : Calls) → Faithful d w calls → Holds d w (run d w calls) (traffic calls)
    holds none f = start_holds d w vw
    holds (then calls d' w' call true) f =
        let l = f.2 refl in
        told d w d' w' call (run d w calls) (λ m. Holds d w m (after call (traffic calls))) l.0 l.1
        (λ e. accepted_holds call (run d w calls) (traffic calls) (holds calls f.0) l.2 e) f.1
    holds (then calls d' w' call false) f = rw (kept d w d' w' call (run d w calls) f.1) (holds calls f.0)

    accepted_holds : (call : Call) (memory : List ℕ) (ps : List Pair) → Holds d w memory ps → Listed d w call
        → eqb (done d w d w call memory).status 0 ≡ true → Holds d w (done d w d w call memory).memory (after call ps)
    accepted_holds clear memory ps h l e = rw (cleared_is d w memory h.long (eqb-true _ _ e)) (start_holds d w vw)
    accepted_holds (update key amount) memory ps h l e = (update_step d w vd vw memory ps h key amount (eqb-true _ _ e)).0
    accepted_holds (estimate key) memory ps h l e = h
    accepted_holds (combine minus source) memory ps h l e =
        (combine_step d w vd vw memory ps h minus (bytes_of d w source) (behind source) (source_holds source l) (eqb-true _ _ e)).0

    source_holds : (source : Source) → LeftBy d w source → Holds d w (bytes_of d w source) (behind source)
    source_holds (from calls) l = holds calls l
    source_holds (raw content) l = absurd l

  -- an accepted call other than a clearing lowers no level
  accepted_grows : (call : Call) (memory : List ℕ) (ps : List Pair) → Holds d w memory ps → Listed d w call → (call ≡ clear → ⊥)
      → eqb (done d w d w call memory).status 0 ≡ true → Grows d w memory (done d w d w call memory).memory
  unfolding done Listed
  accepted_grows clear memory ps h l n e = absurd (n refl)
  accepted_grows (update key amount) memory ps h l n e = (update_step d w vd vw memory ps h key amount (eqb-true _ _ e)).1
  accepted_grows (estimate key) memory ps h l n e = λ r s p q. omega arith
  accepted_grows (combine minus source) memory ps h l n e =
      (combine_step d w vd vw memory ps h minus (bytes_of d w source) (behind source) (source_holds source l) (eqb-true _ _ e)).1

  one_grows : (calls : Calls) (d' w' : ℕ) (call : Call) (ok : Bool) → (call ≡ clear → ok ≡ false) → Faithful d w (then calls d' w' call ok)
      → Grows d w (run d w calls) (run d w (then calls d' w' call ok))
  unfolding run Faithful
  one_grows calls d' w' call true n f =
      let l = f.2 refl in
      told d w d' w' call (run d w calls) (Grows d w (run d w calls)) l.0 l.1
      (λ e. accepted_grows call (run d w calls) (traffic calls) (holds calls f.0) l.2 (λ z. true≢false (n z)) e) f.1
  one_grows calls d' w' call false n f = rw (kept d w d' w' call (run d w calls) f.1) (λ r s p q. omega arith)

  later_grows : (calls more : Calls) → Later calls more → Faithful d w more → Grows d w (run d w calls) (run d w more)
  unfolding Faithful
  later_grows calls more now f r s p q = omega arith
  later_grows calls more (next {more = before} l d' w' call ok n) f r s p q =
      omega (arith, later_grows calls before l f.0 r s p q, one_grows before d' w' call ok n f r s p q)

  module _ (odd : d % 2 ≡ 1) (calls : Calls) (f : Faithful d w calls) where
    copy_faithful : Faithful d w (then calls d w (combine true (from calls)) true)
    unfolding Faithful Listed LeftBy done bytes_of
    copy_faithful = (f, eq-eqb _ 0 (copy_taken d w vd odd vw (run d w calls) (traffic calls) (holds calls f)), λ e. (refl, refl, f))

    copy_zero : (r s : ℕ) → r < d → s < w
        → counter_after d w (then calls d w (combine true (from calls)) true) r s
        ≡ record { status = 0; value = signed_of (pos 0); level = (counter_after d w calls r s).level }
    unfolding run done bytes_of
    copy_zero = copy_left d w vd odd vw (run d w calls) (traffic calls) (holds calls f)

    claim : Claim d w calls
    claim =
        record {
          counters = counters d w vd odd vw (run d w calls) (traffic calls) (holds calls f);
          estimates = λ key p q. estimate_is d w vd odd vw (run d w calls) (traffic calls) (holds calls f) key (good_key (length key) p q);
          stays = later_grows calls;
          taken_away = (copy_faithful, copy_zero);
        }

-- Request 3's law, of every list of a signed meter's calls.
pub signed_claim : SignedClaim
signed_claim d w vd odd vw calls f = claim d w vd vw odd calls f

-- The premise excludes no next call: a faithful list goes on with any call that is told d and w, and takes its source from such a list,
-- whatever it answers; and with any other that is refused.
pub goes_on : (d w : ℕ) (calls : Calls) (call : Call) → Faithful d w calls → Listed d w call
    → Faithful d w (then calls d w call (eqb (done d w d w call (run d w calls)).status 0))
unfolding Faithful
goes_on d w calls call f l = (f, refl, λ e. (refl, refl, l))

pub goes_on_refused : (d w d' w' : ℕ) (calls : Calls) (call : Call) → Faithful d w calls → eqb (done d w d' w' call (run d w calls)).status 0 ≡ false
    → Faithful d w (then calls d' w' call false)
unfolding Faithful
goes_on_refused d w d' w' calls call f e = (f, e, λ z. absurd (true≢false (sym z)))
