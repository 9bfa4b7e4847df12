-- Laws of places gone through one by one and eight at a time.
use mathlib.Core.Path.{◌≡◌, refl, ◌∙◌}
use mathlib.Core.Bool.{true, false, cond}
use mathlib.Core.List.{List}
use Prim.Native.Nat.{ℕ, zero, suc, ◌+◌, ◌-◌, ◌≤◌, ◌<◌}
use native.Mathlib.Numerals.{add-one}
use native.Mathlib.Omega.{arith}
use Rattle.meter_keys.specs.Keys.{same_key}
use Rattle.watch_list.specs.Layout.{place_at, places_from}
use Rattle.watch_list.specs.Parts.{index_of}
use Rattle.watch_find.specs.Scan.{AllDiffer}

-- entries gone through one by one
module _ (key xs : List ℕ) (n k : ℕ) (h : k < n) where
  index_next : index_of key (places_from xs (n - k) k) ≡ cond (same_key (place_at xs k).key key) 0 (suc (index_of key (places_from xs (n - (k + 1)) (k + 1))))
  unfolding index_of places_from
  index_next =
      let e : n - k ≡ suc (n - (k + 1)) = omega arith in
      rw (e, add-one k)

  pub index_here : same_key (place_at xs k).key key ≡ true → index_of key (places_from xs (n - k) k) ≡ 0
  index_here e = index_next ∙ rw e

  pub index_past : same_key (place_at xs k).key key ≡ false → k + index_of key (places_from xs (n - k) k) ≡ k + 1 + index_of key (places_from xs (n - (k + 1)) (k + 1))
  index_past e = rw (index_next, e) (omega arith)

-- several places passed at once
pub skip : (key xs : List ℕ) (n k m : ℕ) → k + m ≤ n → AllDiffer xs k m key
    → k + index_of key (places_from xs (n - k) k) ≡ k + m + index_of key (places_from xs (n - (k + m)) (k + m))
skip key xs n k zero h f = let e : k + 0 ≡ k = omega arith in rw e
skip key xs n k (suc m) h f =
    let e : k + suc m ≡ k + m + 1 = omega arith in
    rw e (skip key xs n k m (omega arith) (λ j l. f j (omega arith)) ∙ index_past key xs n (k + m) (omega arith) (f m (omega arith)))

pub none : (key xs : List ℕ) (k : ℕ) → index_of key (places_from xs 0 k) ≡ 0
unfolding index_of places_from
none key xs k = refl
