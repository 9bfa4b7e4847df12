-- What holds of a list's entries through each change of it, whatever its bytes: the proof's own terms.
use mathlib.Core.Path.{◌≡◌, refl, sym, ap, ◌∙◌}
use mathlib.Core.Bool.{Bool, true, false, cond, not, ◌&&◌, ◌||◌, true≢false, or-true, or-false}
use mathlib.Core.List.{List, [], ◌∷◌, ◌++◌, map, map-append, append-nil}
use Prim.Native.Nat.{ℕ, suc, ◌+◌, ◌-◌, ◌^◌, ◌≤◌, ◌<◌}
use native.Mathlib.Omega.{arith}
use borrow.Author.Tests.{le-leb, eq-eqb, ne_eqb}
use lib.Dec.{leb, eqb}
use lib.ListN.{length, replicate, length-append, length-replicate, length-map}
use Rattle.meter_keys.specs.Keys.{same_key}
use Rattle.meter_keys.proofs.Same.{same_key_lem, key_same}
use Rattle.watch_list.specs.List.{Entry, Watch, listed, joining, joined, renewed, noted, without, clear_place, taken_off}
use Rattle.watch_list.proofs.Lists.{Each, each_append, each_is, Fits, WellFormed, keys_of, by_test, listed_append, listed_keys, renewed_keys, renewed_each, without_each, without_length, without_other}
use Rattle.watch_claim.specs.Claim.{estimate_in, Once, filter, contents, canonical}
use Rattle.watch_claim.proofs.Entries.{neither, renewed_once, joined_once, without_once, without_same, renewed_same, renewed_other, joined_same, joined_other, without_estimate, all_pass, without_passes}

-- an entry whose unused bytes are 0
pub record Used (e : Entry) : Type 0 where
  pub some : 1 ≤ length e.key
  pub most : length e.key ≤ 64
  pub zeros : e.unused ≡ replicate (64 - length e.key) 0
  pub small : e.estimate < 2 ^ 64

-- a list that clearing and steps leave
pub record Good (watch : Watch) : Type 0 where
  pub mark_le : watch.mark ≤ 1
  pub places : length watch.entries + length watch.free ≡ 64
  pub used : Each Used watch.entries
  pub clear : Each (λ e. e ≡ clear_place) watch.free
  pub once : Once watch.entries

clear_fits : (e : Entry) → e ≡ clear_place → Fits e
clear_fits e p = rw p (record { wide = refl; small = omega arith })

pub good_formed : (watch : Watch) → Good watch → WellFormed watch
good_formed watch good =
    record {
      places = good.places;
      fit = each_append Fits watch.entries watch.free
          (each_is Used Fits (λ e u. record { wide = ap (λ (xs : List ℕ). length e.key + length xs) u.zeros ∙ omega (arith, length-replicate {A = ℕ} (64 - length e.key) 0, u.most); small = u.small }) watch.entries good.used)
          (each_is (λ e. e ≡ clear_place) Fits clear_fits watch.free good.clear);
      used = each_is Used (λ e. 1 ≤ length e.key) (λ e u. u.some) watch.entries good.used;
      unused = each_is (λ e. e ≡ clear_place) (λ e. length e.key ≡ 0) (λ e p. ap (λ (x : Entry). length x.key) p) watch.free good.clear;
    }

-- it is made of its mark, its keys and its estimates
used_are : (es : List Entry) → Each Used es → map (λ p. joining p.0 p.1) (contents es) ≡ es
unfolding Each contents
used_are [] h = refl
used_are (e ∷ es) h = rw (used_are es h.1, ← h.0.zeros)

contents_length : (es : List Entry) → length (contents es) ≡ length es
unfolding contents
contents_length es = length-map es (λ (e : Entry). (e.key, e.estimate))

clear_are : (fs : List Entry) → Each (λ e. e ≡ clear_place) fs → replicate (length fs) clear_place ≡ fs
unfolding Each
clear_are [] h = refl
clear_are (f ∷ fs) h = rw (h.0, clear_are fs h.1)

pub good_canonical : (watch : Watch) → Good watch → watch ≡ canonical watch.mark (contents watch.entries)
unfolding canonical
good_canonical watch good =
    let n : 64 - length (contents watch.entries) ≡ length watch.free = omega (arith, contents_length watch.entries, good.places) in
    rw (used_are watch.entries good.used, n, clear_are watch.free good.clear)

-- what `noted` can leave
pub noted_cases : (key : List ℕ) (v t : ℕ) (watch : Watch) (P : Watch → Type 0)
    → (listed key watch.entries ≡ true → P (record { mark = watch.mark; entries = renewed key v watch.entries; free = watch.free }))
    → (listed key watch.entries ≡ false → leb t v ≡ true → (place : Entry) (places : List Entry) → watch.free ≡ place ∷ places
    → P (record { mark = watch.mark; entries = watch.entries ++ (joining key v ∷ []); free = places }))
    → (listed key watch.entries ≡ false → leb t v ≡ true → watch.free ≡ [] → P (record { mark = 1; entries = watch.entries; free = [] }))
    → (listed key watch.entries ≡ false → leb t v ≡ false → P watch)
    → P (noted key v t watch)
unfolding noted joined
noted_cases key v t watch P renews joins full stays = go (listed key watch.entries) refl (leb t v) refl watch.free refl
  where
    go : (b : Bool) → listed key watch.entries ≡ b → (c : Bool) → leb t v ≡ c → (fs : List Entry) → watch.free ≡ fs
        → P (cond b (record { mark = watch.mark; entries = renewed key v watch.entries; free = watch.free })
        (cond c (joined key v watch.mark watch.entries fs) watch))
    go true p c q fs r = renews p
    go false p true q [] r = full p q r
    go false p true q (place ∷ places) r = joins p q place places r
    go false p false q fs r = stays p q

-- two keys are one or not
same_or_not : {A : Type 0} (key other : List ℕ) → (key ≡ other → A) → (same_key key other ≡ false → A) → A
same_or_not {A = A} key other f g = by_test (same_key key other) (λ b. A) (λ p. f (same_key_lem key other p)) g

-- What holds of a list by a threshold, the keys' totals, what is right of a key's estimate, which keys were taken off since, the order of
-- joining and whether the list was found full.
pub record Holding (t : ℕ) (watch : Watch) (total : List ℕ → ℕ) (Right : List ℕ → ℕ → Type 0) (since : List ℕ → Bool) (order : List (List ℕ)) (full : ℕ) : Type 0 where
  pub good : Good watch
  pub heavy : watch.mark ≡ 0 → (key : List ℕ) → t ≤ total key → since key ≡ false → listed key watch.entries ≡ true
  pub estimates : (key : List ℕ) → listed key watch.entries ≡ true → Right key (estimate_in key watch.entries)
  pub order_is : keys_of watch.entries ≡ order
  pub mark_is : watch.mark ≡ full

-- the order after a change of a list, for a key that may have joined
abbrev pub order_now : List ℕ → List Entry → List Entry → List (List ℕ) → List (List ℕ)
order_now key before now order = filter (λ k. listed k now) order ++ cond (listed key now && not (listed key before)) (key ∷ []) []

-- as it was, if the keys are
same_order : (key : List ℕ) (before now : List Entry) (order : List (List ℕ)) → keys_of now ≡ keys_of before → keys_of before ≡ order
    → keys_of now ≡ order_now key before now order
same_order key before now order e o =
    let l : listed key now ≡ listed key before = listed_keys key now before e in
    let p : filter (λ k. listed k now) (keys_of now) ≡ keys_of now = all_pass (λ k. listed k now) now (λ k h. h) in
    rw (← o, ← e, p, l, never (listed key before)) (sym (append-nil (keys_of now)))
  where
    never : (b : Bool) → (b && not b) ≡ false
    never true = refl
    never false = refl

module _ (t : ℕ) (watch : Watch) (total : List ℕ → ℕ) (Right : List ℕ → ℕ → Type 0) (since : List ℕ → Bool) (order : List (List ℕ)) (full : ℕ)
    (h : Holding t watch total Right since order full) where
  -- a refused step: totals are as they were
  pub refused_holding : (key : List ℕ) (total' : List ℕ → ℕ) (Right' : List ℕ → ℕ → Type 0) (since' : List ℕ → Bool)
      → ((k : List ℕ) → total' k ≡ total k) → ((k : List ℕ) (x : ℕ) → Right k x → Right' k x) → ((k : List ℕ) → since' k ≡ since k)
      → Holding t watch total' Right' since' (order_now key watch.entries watch.entries order) full
  refused_holding key total' Right' since' p r q =
      record {
        good = h.good;
        heavy = λ m k l s. h.heavy m k (rw (← p k) l) (sym (q k) ∙ s);
        estimates = λ k l. r k (estimate_in k watch.entries) (h.estimates k l);
        order_is = same_order key watch.entries watch.entries order refl h.order_is;
        mark_is = h.mark_is;
      }

  -- an accepted update of a key, by its estimate after it
  module _ (key : List ℕ) (v : ℕ) (some : 1 ≤ length key) (most : length key ≤ 64) (small : v < 2 ^ 64)
      (total' : List ℕ → ℕ) (above : total' key ≤ v) (others : (k : List ℕ) → same_key key k ≡ false → total' k ≡ total k)
      (Right' : List ℕ → ℕ → Type 0) (right : Right' key v) (rights : (k : List ℕ) (x : ℕ) → same_key key k ≡ false → Right k x → Right' k x)
      (since' : List ℕ → Bool) (kept : (k : List ℕ) → same_key key k ≡ false → since' k ≡ since k) where
    abbrev Now : Watch → Type 0
    Now now =
        Holding t now total' Right' since' (order_now key watch.entries now.entries order)
        (cond (not (listed key watch.entries) && (leb t v && eqb (length watch.entries) 64)) 1 full)

    -- of another key
    heavy_other : watch.mark ≡ 0 → (k : List ℕ) → same_key key k ≡ false → t ≤ total' k → since' k ≡ false → listed k watch.entries ≡ true
    heavy_other m k n l s = h.heavy m k (rw (← others k n) l) (sym (kept k n) ∙ s)

    estimate_other : (k : List ℕ) → same_key key k ≡ false → listed k watch.entries ≡ true → Right' k (estimate_in k watch.entries)
    estimate_other k n l = rights k (estimate_in k watch.entries) n (h.estimates k l)

    renews : listed key watch.entries ≡ true → Now (record { mark = watch.mark; entries = renewed key v watch.entries; free = watch.free })
    renews l =
        let es = watch.entries in
        let ks = renewed_keys key v es in
        let same : (k : List ℕ) → listed k (renewed key v es) ≡ listed k es = λ k. listed_keys k (renewed key v es) es ks in
        let n : length (renewed key v es) ≡ length es = sym (length-map (renewed key v es) (λ (e : Entry). e.key)) ∙ ap length ks ∙ length-map es (λ (e : Entry). e.key) in
        record {
          good =
              record {
                mark_le = h.good.mark_le;
                places = rw n h.good.places;
                used = renewed_each key v Used (λ e u. record { some = u.some; most = u.most; zeros = u.zeros; small = small }) es h.good.used;
                clear = h.good.clear;
                once = renewed_once key v es h.good.once;
              };
          heavy = λ m k r s. same k ∙ same_or_not key k (λ p. rw (← p) l) (λ p. heavy_other m k p r s);
          estimates = λ k r.
              same_or_not key k (λ p. rw (← p, renewed_same key v es l) right)
              (λ p. rw (renewed_other key v k p es) (estimate_other k p (sym (same k) ∙ r)));
          order_is = same_order key es (renewed key v es) order ks h.order_is;
          mark_is = rw l h.mark_is;
        }

    enters : listed key watch.entries ≡ false → leb t v ≡ true → (place : Entry) (places : List Entry) → watch.free ≡ place ∷ places
        → Now (record { mark = watch.mark; entries = watch.entries ++ (joining key v ∷ []); free = places })
    unfolding Each listed
    enters l q place places f =
        let es = watch.entries in
        let now = es ++ (joining key v ∷ []) in
        let long : length now ≡ length es + 1 = length-append es (joining key v ∷ []) in
        let room : length es + suc (length places) ≡ 64 = rw f at h.good.places in
        let clear : Each (λ e. e ≡ clear_place) (place ∷ places) = rw f at h.good.clear in
        let more : (k : List ℕ) → listed k es ≡ true → listed k now ≡ true = λ k r. rw (listed_append k es (joining key v ∷ []), r) in
        let here : listed key now ≡ true = rw (listed_append key es (joining key v ∷ []), key_same key) (or-true (listed key es)) in
        record {
          good =
              record {
                mark_le = h.good.mark_le;
                places = omega (arith, long, room);
                used = each_append Used es (joining key v ∷ []) h.good.used (record { some = some; most = most; zeros = refl; small = small }, tt);
                clear = clear.1;
                once = joined_once es (joining key v) h.good.once l;
              };
          heavy = λ m k r s. same_or_not key k (λ p. rw (← p) here) (λ p. more k (heavy_other m k p r s));
          estimates = λ k r.
              same_or_not key k (λ p. rw (← p, joined_same es (joining key v) l) right)
              (λ p. rw (joined_other k es (joining key v) p) (estimate_other k p (sym (or-false (listed k es)) ∙ rw (listed_append k es (joining key v ∷ []), p) at r)));
          order_is =
              map-append (λ (e : Entry). e.key) es (joining key v ∷ [])
              ∙ rw (← h.order_is, all_pass (λ k. listed k now) es more, here, l);
          mark_is = rw (l, q, ne_eqb (length es) 64 (λ z. omega (arith, room))) h.mark_is;
        }

    fills : listed key watch.entries ≡ false → leb t v ≡ true → watch.free ≡ [] → Now (record { mark = 1; entries = watch.entries; free = [] })
    unfolding Each
    fills l q f =
        let es = watch.entries in
        let room : length es + 0 ≡ 64 = rw f at h.good.places in
        record {
          good = record { mark_le = omega arith; places = room; used = h.good.used; clear = tt; once = h.good.once };
          heavy = λ m k r s. absurd (omega (arith, m));
          estimates = λ k r. same_or_not key k (λ p. absurd (true≢false (sym r ∙ rw (← p) l))) (λ p. estimate_other k p r);
          order_is = same_order key es es order refl h.order_is;
          mark_is = rw (l, q, eq-eqb (length es) 64 (omega (arith, room)));
        }

    stays : listed key watch.entries ≡ false → leb t v ≡ false → Now watch
    stays l q =
        let es = watch.entries in
        record {
          good = h.good;
          heavy = λ m k r s.
              same_or_not key k (λ p. absurd (true≢false (sym (le-leb t v (omega (arith, above, rw (← p) at r))) ∙ q))) (λ p. heavy_other m k p r s);
          estimates = λ k r. same_or_not key k (λ p. absurd (true≢false (sym r ∙ rw (← p) l))) (λ p. estimate_other k p r);
          order_is = same_order key es es order refl h.order_is;
          mark_is = rw (l, q) h.mark_is;
        }

    pub noted_holding : Now (noted key v t watch)
    noted_holding = noted_cases key v t watch Now renews enters fills stays

  -- an accepted taking off
  module _ (key : List ℕ) where
    abbrev Off : Watch → Type 0
    Off now =
        Holding t now total Right (λ k. same_key key k && listed k watch.entries || since k) (order_now key watch.entries now.entries order) full

    leaves : listed key watch.entries ≡ true → Off (record { mark = watch.mark; entries = without key watch.entries; free = clear_place ∷ watch.free })
    unfolding Each
    leaves l =
        let es = watch.entries in
        let gone : listed key (without key es) ≡ false = without_same key es h.good.once in
        record {
          good =
              record {
                mark_le = h.good.mark_le;
                places = omega (arith, without_length key es l, h.good.places);
                used = without_each key Used es h.good.used;
                clear = (refl, h.good.clear);
                once = without_once key es h.good.once;
              };
          heavy = λ m k r s.
              let n = neither (same_key key k && listed k es) (since k) s in
              let on = h.heavy m k r n.1 in
              same_or_not key k (λ p. absurd (true≢false (sym on ∙ sym (rw (← p, key_same key)) ∙ n.0))) (λ p. without_other key k p es ∙ on);
          estimates = λ k r.
              same_or_not key k (λ p. absurd (true≢false (sym r ∙ rw (← p) gone)))
              (λ p. rw (without_estimate key k p es) (h.estimates k (sym (without_other key k p es) ∙ r)));
          order_is = rw (← h.order_is, without_passes key es h.good.once, gone) (sym (append-nil (keys_of (without key es))));
          mark_is = h.mark_is;
        }

    absent : Off watch
    absent =
        record {
          good = h.good;
          heavy = λ m k r s. h.heavy m k r (neither (same_key key k && listed k watch.entries) (since k) s).1;
          estimates = h.estimates;
          order_is = same_order key watch.entries watch.entries order refl h.order_is;
          mark_is = h.mark_is;
        }

    pub off_holding : Off (taken_off key watch)
    unfolding taken_off
    off_holding =
        by_test (listed key watch.entries)
        (λ b. Off (cond b (record { mark = watch.mark; entries = without key watch.entries; free = clear_place ∷ watch.free }) watch)) leaves (λ l. absent)
