-- The list of doublings is faithful, fills the counter, and what the next calls give is as the table says.
use mathlib.Core.Path.{◌≡◌, refl, ap, ◌∙◌}
use mathlib.Core.Bool.{true, and-eq-true_iff}
use mathlib.Core.List.{List}
use Prim.Native.Nat.{ℕ, zero, suc, ◌+◌, ◌-◌, ◌*◌, ◌^◌}
use native.Mathlib.Nat.{mul_assoc, mul-add}
use native.Mathlib.Omega.{arith}
use lib.Dec.{eqb}
use Rattle.answer.specs.Answers.{Done}
use Rattle.meter.specs.Meter.{united, updated}
use Rattle.meter_keys.specs.Keys.{same_key}
use Rattle.traffic.specs.Traffic.{key_total, lower, amount_sum}
use Rattle.traffic.specs.Calls.{Call, Calls, none, update, estimate, unite, feed, from, traffic, after, behind, run, done, bytes_of, Faithful, Listed, LeftBy}
use Rattle.traffic.proofs.Totals.{sum_append}
use Rattle.traffic_cases.specs.Cases.{at_10, at_11, ◌▸◌, update_words}
use Rattle.traffic_cases.specs.Full.{doubled, full, after_full, Full}
use Rattle.traffic_cases.proofs.Computed.{twice, all_fit, first, nearly, whole, computed}

-- an accepted union with a meter that the same list left
twice_faithful : (calls : Calls) → Faithful 1 32 calls → eqb (united 1 32 (run 1 32 calls) (run 1 32 calls)).answer.status 0 ≡ true
    → Faithful 1 32 (calls ▸ unite (from calls))
unfolding Faithful Listed LeftBy done bytes_of
twice_faithful calls f e = (f, e, λ z. (refl, refl, f))

twice_run : (calls : Calls) (memory : List ℕ) → run 1 32 calls ≡ memory → run 1 32 (calls ▸ unite (from calls)) ≡ (united 1 32 memory memory).memory
unfolding run done bytes_of
twice_run calls memory e = ap (λ (m : List ℕ). (united 1 32 m m).memory) e

doubles : (n : ℕ) (calls : Calls) (memory : List ℕ) → Faithful 1 32 calls → run 1 32 calls ≡ memory → all_fit n memory ≡ true
    → Faithful 1 32 (doubled n calls) × (run 1 32 (doubled n calls) ≡ twice n memory)
unfolding doubled twice all_fit
doubles zero calls memory f e t = (f, e)
doubles (suc n) calls memory f e t =
    let p = (and-eq-true_iff (eqb (united 1 32 memory memory).answer.status 0) (all_fit n (united 1 32 memory memory).memory)).0 t in
    doubles n (calls ▸ unite (from calls)) (united 1 32 memory memory).memory (twice_faithful calls f (rw e p.0)) (twice_run calls memory e) p.1

-- a key's total after doublings, and after an update of the key
doubled_total : (n : ℕ) (calls : Calls) (key : List ℕ) → lower (traffic (doubled n calls)) key ≡ 2 ^ n * lower (traffic calls) key
unfolding lower key_total traffic after behind doubled
doubled_total zero calls key = omega arith
doubled_total (suc n) calls key =
    let t = traffic calls in
    let x = amount_sum (same_key key) t in
    let e : 2 ^ suc n ≡ 2 * 2 ^ n = omega arith in
    doubled_total n (calls ▸ unite (from calls)) key ∙ rw (sum_append (same_key key) t t, e, mul_assoc 2 (2 ^ n) x) (omega (arith, mul-add (2 ^ n) x x))

total_more : (calls : Calls) (amount : ℕ) → lower (traffic (calls ▸ update at_10 amount)) at_10 ≡ amount + lower (traffic calls) at_10
unfolding lower key_total traffic after amount_sum same_key
total_more calls amount = refl

start_total : lower (traffic (none ▸ update at_10 4294967295)) at_10 ≡ 4294967295
unfolding lower key_total traffic after amount_sum same_key
start_total = refl

full_total : lower (traffic full) at_10 ≡ 2 ^ 64 - 1
full_total =
    let d = doubled_total 32 (none ▸ update at_10 4294967295) at_10 ∙ ap (λ (x : ℕ). 2 ^ 32 * x) start_total in
    total_more (doubled 32 (none ▸ update at_10 4294967295)) 4294967295 ∙ ap (λ (x : ℕ). 4294967295 + x) d

full_run : Faithful 1 32 full × (run 1 32 full ≡ whole)
unfolding Faithful Listed run done
full_run =
    let d = doubles 32 (none ▸ update at_10 4294967295) first computed.start_faithful computed.starts computed.fit in
    let m : run 1 32 (doubled 32 (none ▸ update at_10 4294967295)) ≡ nearly = d.1 ∙ computed.doubles in (
      (d.0, rw m (ap (λ (x : Done). eqb x.answer.status 0) computed.last), λ z. (refl, refl, tt)),
      ap (λ (x : List ℕ). (updated 1 32 x at_10 4294967295).memory) m ∙ ap (λ (x : Done). x.memory) computed.last,
    )

-- what a call gives after it
gives : (call : Call) (number : ℕ) → (done 1 32 1 32 call whole).answer.status ≡ number → after_full call ≡ number
gives call number e = ap (λ (m : List ℕ). (done 1 32 1 32 call m).answer.status) full_run.1 ∙ e

twice_status : (calls : Calls) (memory : List ℕ) → run 1 32 calls ≡ memory
    → (done 1 32 1 32 (unite (from calls)) (run 1 32 calls)).answer.status ≡ (united 1 32 memory memory).answer.status
unfolding done bytes_of
twice_status calls memory e = ap (λ (m : List ℕ). (united 1 32 m m).answer.status) e

pub full_meets : Full
full_meets =
    record {
      faithful = full_run.0;
      total = full_total;
      figure = ap (λ (m : List ℕ). (done 1 32 1 32 (estimate at_10) m).answer) full_run.1 ∙ computed.figure;
      nothing = gives (update at_10 0) 0 computed.nothing;
      one = gives (update at_10 1) 6 computed.one;
      near = gives (update at_11 1) 6 computed.near;
      by_record = gives (feed 1 update_words) 6 computed.by_record;
      union = twice_status full whole full_run.1 ∙ computed.union;
    }
