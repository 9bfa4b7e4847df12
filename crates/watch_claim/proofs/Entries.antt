-- Laws of the claim's terms over entries.
use mathlib.Core.Path.{◌≡◌, refl, sym, ap, ◌∙◌}
use mathlib.Core.Bool.{Bool, true, false, cond, ◌||◌, true≢false, or-true}
use mathlib.Core.List.{List, [], ◌∷◌, ◌++◌}
use Prim.Native.Nat.{ℕ}
use Rattle.meter_keys.specs.Keys.{same_key}
use Rattle.meter_keys.proofs.Same.{same_key_lem, key_same}
use Rattle.watch_list.specs.List.{Entry, listed, renewed, without}
use Rattle.watch_list.proofs.Lists.{keys_of, same_sym, by_test, listed_append, listed_keys, renewed_cases, renewed_keys, without_cases}
use Rattle.watch_claim.specs.Claim.{estimate_in, Once, filter}

-- one of two tests that fails
pub neither : (a b : Bool) → (a || b) ≡ false → (a ≡ false) × (b ≡ false)
neither true b e = absurd (true≢false e)
neither false b e = (refl, e)

-- no key twice
pub renewed_once : (key : List ℕ) (estimate : ℕ) (es : List Entry) → Once es → Once (renewed key estimate es)
unfolding renewed Once
renewed_once key estimate [] o = tt
renewed_once key estimate (e ∷ es) o =
    renewed_cases key estimate e es Once (λ p. o)
    (λ p. (listed_keys e.key (renewed key estimate es) es (renewed_keys key estimate es) ∙ o.0, renewed_once key estimate es o.1))

pub joined_once : (es : List Entry) (last : Entry) → Once es → listed last.key es ≡ false → Once (es ++ (last ∷ []))
unfolding Once listed
joined_once [] last o n = (refl, tt)
joined_once (e ∷ es) last o n =
    let p = neither (same_key e.key last.key) (listed last.key es) n in (
      rw (listed_append e.key es (last ∷ []), o.0, same_sym last.key e.key, p.0),
      joined_once es last o.1 p.1,
    )

without_none : (key other : List ℕ) (es : List Entry) → listed other es ≡ false → listed other (without key es) ≡ false
unfolding without listed
without_none key other [] n = refl
without_none key other (e ∷ es) n =
    let q = neither (same_key e.key other) (listed other es) n in
    without_cases key e es (λ now. listed other now ≡ false) (λ p. q.1) (λ p. rw q.0 (without_none key other es q.1))

pub without_once : (key : List ℕ) (es : List Entry) → Once es → Once (without key es)
unfolding without Once
without_once key [] o = tt
without_once key (e ∷ es) o = without_cases key e es Once (λ p. o.1) (λ p. (without_none key e.key es o.0, without_once key es o.1))

-- the key that was taken off is listed no more
pub without_same : (key : List ℕ) (es : List Entry) → Once es → listed key (without key es) ≡ false
unfolding without Once listed
without_same key [] o = refl
without_same key (e ∷ es) o =
    without_cases key e es (λ now. listed key now ≡ false) (λ p. rw (← same_key_lem e.key key p) o.0) (λ p. rw (p, without_same key es o.1))

-- estimates
pub renewed_same : (key : List ℕ) (estimate : ℕ) (es : List Entry) → listed key es ≡ true → estimate_in key (renewed key estimate es) ≡ estimate
unfolding renewed listed estimate_in
renewed_same key estimate [] l = absurd (true≢false (sym l))
renewed_same key estimate (e ∷ es) l =
    renewed_cases key estimate e es (λ now. estimate_in key now ≡ estimate) (λ p. rw p) (λ p. rw p (renewed_same key estimate es (rw p at l)))

pub renewed_other : (key : List ℕ) (estimate : ℕ) (other : List ℕ) → same_key key other ≡ false
    → (es : List Entry) → estimate_in other (renewed key estimate es) ≡ estimate_in other es
unfolding renewed estimate_in
renewed_other key estimate other n [] = refl
renewed_other key estimate other n (e ∷ es) =
    renewed_cases key estimate e es (λ now. estimate_in other now ≡ cond (same_key e.key other) e.estimate (estimate_in other es))
    (λ p. rw (same_key_lem e.key key p, n)) (λ p. rw (renewed_other key estimate other n es))

pub joined_same : (es : List Entry) (last : Entry) → listed last.key es ≡ false → estimate_in last.key (es ++ (last ∷ [])) ≡ last.estimate
unfolding listed estimate_in
joined_same [] last n = rw (key_same last.key)
joined_same (e ∷ es) last n =
    let p = neither (same_key e.key last.key) (listed last.key es) n in
    rw p.0 (joined_same es last p.1)

pub joined_other : (other : List ℕ) (es : List Entry) (last : Entry) → same_key last.key other ≡ false → estimate_in other (es ++ (last ∷ [])) ≡ estimate_in other es
unfolding estimate_in
joined_other other [] last n = rw n
joined_other other (e ∷ es) last n = rw (joined_other other es last n)

pub without_estimate : (key other : List ℕ) → same_key key other ≡ false → (es : List Entry) → estimate_in other (without key es) ≡ estimate_in other es
unfolding without estimate_in
without_estimate key other n [] = refl
without_estimate key other n (e ∷ es) =
    without_cases key e es (λ now. estimate_in other now ≡ cond (same_key e.key other) e.estimate (estimate_in other es))
    (λ p. rw (same_key_lem e.key key p, n)) (λ p. rw (without_estimate key other n es))

-- the order of keys: every key passes, and those that are left after one was taken off
pub all_pass : (test : List ℕ → Bool) (es : List Entry) → ((key : List ℕ) → listed key es ≡ true → test key ≡ true) → filter test (keys_of es) ≡ keys_of es
unfolding filter listed
all_pass test [] h = refl
all_pass test (e ∷ es) h =
    rw (h e.key (rw (key_same e.key)))
    (ap (λ (ks : List (List ℕ)). e.key ∷ ks) (all_pass test es (λ key l. h key (rw l (or-true (same_key e.key key))))))

pass_alike : (p q : List ℕ → Bool) (es : List Entry) → ((key : List ℕ) → listed key es ≡ true → p key ≡ q key) → filter p (keys_of es) ≡ filter q (keys_of es)
unfolding filter listed
pass_alike p q [] h = refl
pass_alike p q (e ∷ es) h =
    rw (h e.key (rw (key_same e.key)), pass_alike p q es (λ key l. h key (rw l (or-true (same_key e.key key)))))

pub without_passes : (key : List ℕ) (es : List Entry) → Once es → filter (λ k. listed k (without key es)) (keys_of es) ≡ keys_of (without key es)
unfolding filter without listed Once
without_passes key [] o = refl
without_passes key (e ∷ es) o =
    without_cases key e es (λ now. filter (λ k. listed k now) (e.key ∷ keys_of es) ≡ keys_of now)
    (λ p. rw o.0 (all_pass (λ k. listed k es) es (λ k l. l)))
    (λ p.
    rw (key_same e.key)
    (ap (λ (ks : List (List ℕ)). e.key ∷ ks)
    (pass_alike (λ k. same_key e.key k || listed k (without key es)) (λ k. listed k (without key es)) es (λ k l. rw (apart k l)) ∙ without_passes key es o.1)))
  where
    -- a key listed after e is not e's
    apart : (k : List ℕ) → listed k es ≡ true → same_key e.key k ≡ false
    apart k l = by_test (same_key e.key k) (λ b. b ≡ false) (λ p. sym l ∙ rw (← same_key_lem e.key k p) o.0) (λ p. refl)
