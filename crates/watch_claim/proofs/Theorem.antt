-- The claim, proved of every list of updates through a watch list and takings off.
use mathlib.Core.Path.{◌≡◌, refl, sym, ap, subst, ◌∙◌}
use mathlib.Core.Bool.{Bool, true, false, cond, not, ◌&&◌, ◌||◌, true≢false}
use mathlib.Core.List.{List, [], ◌∷◌}
use Prim.Native.Nat.{ℕ, zero, suc, ◌^◌, ◌≤◌, ◌<◌}
use native.Mathlib.Omega.{arith}
use borrow.Author.Tests.{eqb-true}
use lib.Dec.{eqb, leb}
use lib.ListN.{length, replicate}
use Rattle.geometry.specs.Geometry.{valid_depth, valid_width}
use Rattle.meter.specs.Meter.{updated, estimated}
use Rattle.meter_keys.specs.Keys.{same_key}
use Rattle.meter_keys.proofs.Same.{key_same}
use Rattle.watch_list.specs.List.{Watch, listed, noted, clear_place, taken_off}
use Rattle.watch_list.specs.Layout.{list_size, sound, encode, decode}
use Rattle.watch_list.proofs.Lists.{Each, same_sym, by_test, decode_encode, encode_long, encode_sound, cleared, cleared_bytes}
use Rattle.watch.specs.Watch.{noted_in, watched}
use Rattle.watch_checks.proofs.Lines.{key_long}
use Rattle.watch.proofs.Laws.{Accepted, watched_accepted, watched_kept, removed_accepted, removed_kept}
use Rattle.traffic.specs.Traffic.{amount_sum, key_total, lower}
use Rattle.traffic.specs.Calls.{watch, traffic, after as after_call, run, done, Faithful, Listed}
use Rattle.traffic.proofs.Theorem.{answers, estimate_small}
use Rattle.watch_claim.specs.Steps.{Step, update, remove, key_of, State, status, stepped, after, entries_after, listed_after, accepted, ToldThese, Told, calls, total}
use Rattle.watch_claim.specs.Claim.{taken_off_since, last_estimate, Once, joins, join_order, finds_full, found_full, Claim, WatchClaim, EqualBytes}
use Rattle.watch_claim.proofs.Entrywise.{Entered, passes, changed, entered, passes_is}
use Rattle.watch_claim.proofs.Holding.{Good, good_formed, good_canonical, Holding, order_now, refused_holding, noted_holding, off_holding}

-- a refused step leaves memory and list
kept_state : (step : Step) (s : State) → eqb (status step s) 0 ≡ false → stepped step s ≡ s
unfolding status stepped
kept_state (update d w key amount threshold) s e =
    let k = watched_kept d w s.memory s.list key amount threshold e in
    rw (k.0, k.1)
kept_state (remove key) s e = rw (removed_kept s.list key e)

-- a cleared list
all_clear : (n : ℕ) → Each (λ e. e ≡ clear_place) (replicate n clear_place)
unfolding Each
all_clear zero = tt
all_clear (suc n) = (refl, all_clear n)

cleared_good : Good cleared
unfolding Each Once
cleared_good = record { mark_le = omega arith; places = refl; used = tt; clear = all_clear 64; once = tt }

module _ (d w t : ℕ) (vd : valid_depth d ≡ true) (vw : valid_width w ≡ true) (pos : 1 ≤ t) where
  -- The meter's calls are a faithful list of calls that leaves the memory that the steps leave.
  faithful : (steps : List Step) → Told d w t steps → Faithful d w (calls d w steps) × (run d w (calls d w steps) ≡ (after d w steps).memory)
  unfolding Told ToldThese Faithful Listed calls run done after stepped accepted status
  faithful [] told = (tt, refl)
  faithful (update d' w' key amount t' ∷ steps) told =
      let f = faithful steps told.0 in (
        (f.0, rw f.1, λ e. let x = told.1 e in (x.0, x.1, tt)),
        ap (λ (m : List ℕ). (watched d' w' m (after d w steps).list key amount t').memory) f.1,
      )
  faithful (remove key ∷ steps) told = faithful steps told.0

  -- what is right of a key's estimate
  abbrev Right : List Step → List ℕ → ℕ → Type 0
  Right steps key x = (total d w steps key ≤ x) × (x ≡ last_estimate d w key steps)

  -- the invariant
  record Inv (steps : List Step) : Type 0 where
    list_is : (after d w steps).list ≡ encode (decode (after d w steps).list)
    holding : Holding t (decode (after d w steps).list) (total d w steps) (Right steps) (λ key. taken_off_since d w key steps) (join_order d w steps) (found_full d w t steps)
    memory_is : (after d w steps).memory ≡ (entered d w steps).memory
    watch_is : decode (after d w steps).list ≡ (entered d w steps).watch

  -- the list is not broken
  inv_unbroken : (steps : List Step) → Inv steps → (length (after d w steps).list ≡ list_size) × (sound (after d w steps).list ≡ true)
  inv_unbroken steps i =
      let watch = decode (after d w steps).list in
      let good = good_formed watch i.holding.good in
      rw i.list_is (encode_long watch good, encode_sound watch good i.holding.good.mark_le)

  inv_passes : (steps : List Step) → Inv steps → (step : Step) → passes step (entered d w steps) ≡ accepted d w steps step
  unfolding accepted
  inv_passes steps i step =
      let u = inv_unbroken steps i in
      sym (passes_is step (after d w steps) (entered d w steps) i.memory_is u.0 u.1)

  start : Inv []
  unfolding after total calls traffic key_total amount_sum taken_off_since join_order found_full listed entered
  start =
      let is : decode (replicate list_size 0) ≡ cleared = ap decode (sym cleared_bytes) ∙ decode_encode cleared (good_formed cleared cleared_good) in
      record {
        list_is = sym cleared_bytes ∙ ap encode (sym is);
        holding =
            rw is
            (record { good = cleared_good; heavy = λ m key l s. absurd (omega (arith, l)); estimates = λ key l. absurd (true≢false (sym l)); order_is = refl; mark_is = refl });
        memory_is = refl;
        watch_is = is;
      }

  module _ (steps : List Step) where
    -- a step, by the list that it leaves
    after_step : (step : Step) (now : Watch) → (after d w (step ∷ steps)).list ≡ encode now
        → Holding t now (total d w (step ∷ steps)) (Right (step ∷ steps)) (λ key. taken_off_since d w key (step ∷ steps)) (order_now (key_of step) (entries_after d w steps) now.entries (join_order d w steps))
        (cond (finds_full d w t steps step) 1 (found_full d w t steps))
        → record { memory = (after d w (step ∷ steps)).memory; watch = now } ≡ entered d w (step ∷ steps)
        → Inv (step ∷ steps)
    unfolding join_order joins found_full
    after_step step now e h x =
        let is : decode (after d w (step ∷ steps)).list ≡ now = ap decode e ∙ decode_encode now (good_formed now h.good) in
        record {
          list_is = e ∙ ap encode (sym is);
          holding =
              subst
              (λ (x : Watch).
              Holding t x (total d w (step ∷ steps)) (Right (step ∷ steps)) (λ key. taken_off_since d w key (step ∷ steps))
              (order_now (key_of step) (entries_after d w steps) x.entries (join_order d w steps)) (cond (finds_full d w t steps step) 1 (found_full d w t steps)))
              (sym is) h;
          memory_is = ap (λ (y : Entered). y.memory) x;
          watch_is = is ∙ ap (λ (y : Entered). y.watch) x;
        }

    -- what it leaves on entries, refused and accepted
    entered_refused : Inv steps → (step : Step) → accepted d w steps step ≡ false → entered d w steps ≡ entered d w (step ∷ steps)
    unfolding entered
    entered_refused i step e = rw (inv_passes steps i step ∙ e)

    entered_accepted : Inv steps → (step : Step) → accepted d w steps step ≡ true
        → changed step (record { memory = (after d w steps).memory; watch = decode (after d w steps).list }) ≡ entered d w (step ∷ steps)
    unfolding entered
    entered_accepted i step e = rw (inv_passes steps i step ∙ e, i.memory_is, i.watch_is)

    -- a refused step
    refused_total : (step : Step) → accepted d w steps step ≡ false → (k : List ℕ) → total d w (step ∷ steps) k ≡ total d w steps k
    unfolding total calls traffic
    refused_total (update d' w' key amount t') e k = rw e
    refused_total (remove key) e k = refl

    refused_since : (step : Step) → accepted d w steps step ≡ false → (k : List ℕ) → taken_off_since d w k (step ∷ steps) ≡ taken_off_since d w k steps
    unfolding taken_off_since
    refused_since (update d' w' key amount t') e k = rw e
    refused_since (remove key) e k = rw e

    refused_last : (step : Step) → accepted d w steps step ≡ false → (k : List ℕ) → last_estimate d w k (step ∷ steps) ≡ last_estimate d w k steps
    unfolding last_estimate
    refused_last (update d' w' key amount t') e k = rw e
    refused_last (remove key) e k = refl

    refused_full : (step : Step) → accepted d w steps step ≡ false → finds_full d w t steps step ≡ false
    unfolding finds_full
    refused_full (update d' w' key amount t') e = rw e
    refused_full (remove key) e = refl

    refused : (step : Step) → accepted d w steps step ≡ false → Inv steps → Inv (step ∷ steps)
    unfolding after accepted
    refused step e i =
        let s : stepped step (after d w steps) ≡ after d w steps = kept_state step (after d w steps) e in
        after_step step (decode (after d w steps).list) (ap (λ (x : State). x.list) s ∙ i.list_is)
        (rw (refused_full step e)
        (refused_holding t (decode (after d w steps).list) (total d w steps) (Right steps) (λ key. taken_off_since d w key steps) (join_order d w steps) (found_full d w t steps) i.holding
        (key_of step) (total d w (step ∷ steps)) (Right (step ∷ steps)) (λ key. taken_off_since d w key (step ∷ steps)) (refused_total step e) (λ k x r. rw (refused_total step e k, refused_last step e k) r) (refused_since step e)))
        (rw (ap (λ (x : State). x.memory) s, i.memory_is, i.watch_is) (entered_refused i step e))

    -- an accepted update
    module _ (key : List ℕ) (amount : ℕ) (told : Told d w t (update d w key amount t ∷ steps)) (i : Inv steps) (e : accepted d w steps (update d w key amount t) ≡ true) where
      abbrev step : Step
      step = update d w key amount t

      -- the estimate that it leaves
      abbrev value : ℕ
      value = (estimated d w (after d w (step ∷ steps)).memory key).value

      abbrev before : Watch
      before = decode (after d w steps).list

      passed : Accepted d w (after d w steps).memory (after d w steps).list key amount t
      unfolding accepted status
      passed = watched_accepted d w (after d w steps).memory (after d w steps).list key amount t (eqb-true _ 0 e)

      memory_now : (after d w (step ∷ steps)).memory ≡ (updated d w (after d w steps).memory key amount).memory
      unfolding after stepped
      memory_now = passed.memory_is

      list_now : (after d w (step ∷ steps)).list ≡ encode (noted key value t before)
      unfolding after stepped noted_in
      list_now = passed.list_is ∙ ap (λ (m : List ℕ). encode (noted key (estimated d w m key).value t before)) (sym memory_now)

      entered_now : record { memory = (after d w (step ∷ steps)).memory; watch = noted key value t before } ≡ entered d w (step ∷ steps)
      unfolding changed
      entered_now =
          ap {B = Entered} (λ (m : List ℕ). record { memory = m; watch = noted key (estimated d w m key).value t before }) memory_now ∙ entered_accepted i step e

      now_faithful : Faithful d w (calls d w (step ∷ steps)) × (run d w (calls d w (step ∷ steps)) ≡ (after d w (step ∷ steps)).memory)
      now_faithful = faithful (step ∷ steps) told

      above : total d w (step ∷ steps) key ≤ value
      unfolding total lower
      above =
          subst (λ (m : List ℕ). key_total key (traffic (calls d w (step ∷ steps))) ≤ (estimated d w m key).value) now_faithful.1
          (answers d w vd vw (calls d w (step ∷ steps)) now_faithful.0 key passed.key_good).1.0

      small : value < 2 ^ 64
      small =
          subst (λ (m : List ℕ). (estimated d w m key).value < 2 ^ 64) now_faithful.1
          (estimate_small d w vd vw (calls d w (step ∷ steps)) now_faithful.0 key passed.key_good)

      others : (k : List ℕ) → same_key key k ≡ false → total d w (step ∷ steps) k ≡ total d w steps k
      unfolding total calls traffic after_call key_total amount_sum
      others k n = rw (e, same_sym k key, n) (omega arith)

      kept : (k : List ℕ) → same_key key k ≡ false → taken_off_since d w k (step ∷ steps) ≡ taken_off_since d w k steps
      unfolding taken_off_since
      kept k n = rw (e, n)

      last_same : last_estimate d w key (step ∷ steps) ≡ value
      unfolding last_estimate
      last_same = rw (e, key_same key)

      last_other : (k : List ℕ) → same_key key k ≡ false → last_estimate d w k (step ∷ steps) ≡ last_estimate d w k steps
      unfolding last_estimate
      last_other k n = rw (e, n)

      full_is : finds_full d w t steps step ≡ (not (listed key before.entries) && (leb t value && eqb (length before.entries) 64))
      unfolding finds_full
      full_is = rw e

      noted_now : Holding t (noted key value t before) (total d w (step ∷ steps)) (Right (step ∷ steps)) (λ k. taken_off_since d w k (step ∷ steps))
          (order_now key before.entries (noted key value t before).entries (join_order d w steps)) (cond (finds_full d w t steps step) 1 (found_full d w t steps))
      noted_now =
          let n = key_long key passed.key_good in
          rw full_is
          (noted_holding t before (total d w steps) (Right steps) (λ k. taken_off_since d w k steps) (join_order d w steps) (found_full d w t steps) i.holding key value n.0 n.1 small
          (total d w (step ∷ steps)) above others (Right (step ∷ steps)) (above, sym last_same) (λ k x n r. rw (others k n, last_other k n) r) (λ k. taken_off_since d w k (step ∷ steps)) kept)

      updates : Inv (step ∷ steps)
      unfolding key_of
      updates =
          after_step step (noted key value t before) list_now noted_now entered_now

    -- an accepted taking off
    removes : (key : List ℕ) → Inv steps → accepted d w steps (remove key) ≡ true → Inv (remove key ∷ steps)
    unfolding accepted status after stepped key_of finds_full total calls last_estimate taken_off_since changed
    removes key i e =
        let before = decode (after d w steps).list in
        let r = removed_accepted (after d w steps).list key (eqb-true _ 0 e) in
        let h = off_holding t before (total d w steps) (Right steps) (λ k. taken_off_since d w k steps) (join_order d w steps) (found_full d w t steps) i.holding key in
        after_step (remove key) (taken_off key before) r.list_is
        (subst
        (λ (b : Bool).
        Holding t (taken_off key before) (total d w steps) (Right steps) (λ k. b && (same_key key k && listed_after d w steps k) || taken_off_since d w k steps)
        (order_now key before.entries (taken_off key before).entries (join_order d w steps)) (found_full d w t steps))
        (sym e) h)
        (entered_accepted i (remove key) e)

  -- a step that was told d, w and t
  told_step : (steps : List Step) (d' w' t' : ℕ) (key : List ℕ) (amount : ℕ) → d' ≡ d → w' ≡ w → t' ≡ t
      → (Told d w t (update d w key amount t ∷ steps) → accepted d w steps (update d w key amount t) ≡ true → Inv (update d w key amount t ∷ steps))
      → Told d w t (update d' w' key amount t' ∷ steps) → accepted d w steps (update d' w' key amount t') ≡ true → Inv (update d' w' key amount t' ∷ steps)
  told_step steps d' w' t' key amount p q r f = rw (p, q, r) f

  invariant : (steps : List Step) → Told d w t steps → Inv steps
  unfolding Told ToldThese
  invariant [] told = start
  invariant (update d' w' key amount t' ∷ steps) told =
      let step = update d' w' key amount t' in
      let i = invariant steps told.0 in
      by_test (accepted d w steps step) (λ b. Inv (step ∷ steps))
      (λ e.
      let x = told.1 e in
      told_step steps d' w' t' key amount x.0 x.1 x.2 (λ y z. updates steps key amount y i z) told e)
      (λ e. refused steps step e i)
  invariant (remove key ∷ steps) told =
      let i = invariant steps told.0 in
      by_test (accepted d w steps (remove key)) (λ b. Inv (remove key ∷ steps)) (λ e. removes steps key i e) (λ e. refused steps (remove key) e i)

  claim : (steps : List Step) → Told d w t steps → Claim d w t steps
  claim steps told =
      let i = invariant steps told in
      let h = i.holding in
      record {
        heavy = h.heavy;
        estimates = λ key l. (h.estimates key l).0;
        latest = λ key l. (h.estimates key l).1;
        once = h.good.once;
        order = h.order_is;
        bytes = i.list_is ∙ ap encode (good_canonical (decode (after d w steps).list) h.good);
        mark = h.mark_is;
        unbroken = inv_unbroken steps i;
      }

-- Request 1's claim.
pub watch_claim : WatchClaim
watch_claim = claim

pub equal_bytes : EqualBytes
equal_bytes d w t d' w' t' steps others c c' m p = c.bytes ∙ rw (m, p) (sym c'.bytes)

-- What steps leave is what they leave on entries.
pub by_entries : (d w t : ℕ) → valid_depth d ≡ true → valid_width w ≡ true → 1 ≤ t → (steps : List Step) → Told d w t steps
    → decode (after d w steps).list ≡ (entered d w steps).watch
by_entries d w t vd vw pos steps told = (invariant d w t vd vw pos steps told).watch_is

-- The premise excludes no next step but an update that is accepted and was told something else.
pub goes_on : (d w t : ℕ) → valid_depth d ≡ true → valid_width w ≡ true → 1 ≤ t → (steps : List Step) → Told d w t steps
    → (step : Step) → (passes step (entered d w steps) ≡ true → ToldThese d w t step) → Told d w t (step ∷ steps)
unfolding Told
goes_on d w t vd vw pos steps told step f = (told, λ e. f (inv_passes d w t vd vw pos steps (invariant d w t vd vw pos steps told) step ∙ e))
