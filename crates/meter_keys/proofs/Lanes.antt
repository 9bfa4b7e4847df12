-- Laws of a key's slots, row by row.
use mathlib.Core.Path.{◌≡◌, ap, ◌∙◌}
use mathlib.Core.List.{List, [], ◌∷◌}
use Prim.Native.Nat.{ℕ, zero, suc, ◌<◌}
use native.Mathlib.Omega.{arith}
use lib.ListN.{get_or}
use Rattle.hash.specs.Hash.{fnv_step, fnv, row_hash}

-- the hash that took the row number and then the key
pub lane_hash : (state : ℕ) (key : List ℕ) (r : ℕ) {x y : ℕ} → x ≡ fnv y key → y ≡ fnv_step state r → x ≡ row_hash state r key
unfolding fnv
lane_hash state key r f g = f ∙ ap (λ (h : ℕ). fnv h key) g

-- what holds of each of four rows, and of each of eight
module _ (P : ℕ → ℕ → Type 0) where
  pub in_four : (a b c d : ℕ) (rest : List ℕ) → P 0 a → P 1 b → P 2 c → P 3 d → (r : ℕ) → r < 4 → P r (get_or (a ∷ b ∷ c ∷ d ∷ rest) r 0)
  in_four a b c d rest p q s t zero h = p
  in_four a b c d rest p q s t (suc zero) h = q
  in_four a b c d rest p q s t (suc (suc zero)) h = s
  in_four a b c d rest p q s t (suc (suc (suc zero))) h = t
  in_four a b c d rest p q s t (suc (suc (suc (suc r)))) h = absurd (omega arith)

pub in_eight : (P : ℕ → ℕ → Type 0) (a b c d e f g h : ℕ) → P 0 a → P 1 b → P 2 c → P 3 d → P 4 e → P 5 f → P 6 g → P 7 h
    → (r : ℕ) → r < 8 → P r (get_or (a ∷ b ∷ c ∷ d ∷ e ∷ f ∷ g ∷ h ∷ []) r 0)
in_eight P a b c d e f g h p q s t u v x y zero l = p
in_eight P a b c d e f g h p q s t u v x y (suc zero) l = q
in_eight P a b c d e f g h p q s t u v x y (suc (suc zero)) l = s
in_eight P a b c d e f g h p q s t u v x y (suc (suc (suc zero))) l = t
in_eight P a b c d e f g h p q s t u v x y (suc (suc (suc (suc r)))) l =
    in_four (λ (i : ℕ) (z : ℕ). P (suc (suc (suc (suc i)))) z) e f g h [] u v x y r (omega arith)
