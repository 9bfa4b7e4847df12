-- What holds where a line does not apply, and which of them an answer is.
use mathlib.Core.Path.{◌≡◌, refl, sym, ◌∙◌}
use mathlib.Core.Bool.{Bool, true, false, ◌&&◌, and-eq-true_iff}
use mathlib.Core.List.{List, [], ◌∷◌}
use mathlib.Core.Logic.{◌⊎◌, inl, inr}
use Prim.Native.Nat.{ℕ, suc, ◌≤◌}
use native.Mathlib.Omega.{arith}
use borrow.Author.Tests.{eqb-true, leb-true}
use lib.Dec.{eqb, leb}
use lib.ListN.{length}
use Rattle.answer.specs.Order.{unless, first_of, place_in, earlier}
use Rattle.answer.proofs.Order.{first_one, first_stop, first_skip, none_first}
use Rattle.geometry.specs.Checks.{bad_shape, bad_key}
use Rattle.watch_list.specs.Layout.{list_size, sound}
use Rattle.watch_list.specs.Parts.{KeyLong}
use Rattle.watch_checks.specs.Checks.{bad_list, broken_list, bad_threshold, bad_lines}

none_unless : (b : Bool) (n : ℕ) → unless b (suc n) ≡ 0 → b ≡ true
none_unless true n e = refl
none_unless false n e = absurd (omega arith)

pub list_long : (list : List ℕ) → bad_list list ≡ 0 → length list ≡ list_size
list_long list e = eqb-true (length list) list_size (none_unless (eqb (length list) list_size) 2 e)

pub list_sound : (list : List ℕ) → broken_list list ≡ 0 → sound list ≡ true
list_sound list e = none_unless (sound list) 4 e

pub key_long : (key : List ℕ) → bad_key (length key) ≡ 0 → KeyLong key
key_long key e =
    let p = (and-eq-true_iff (leb 1 (length key)) (leb (length key) 64)).0 (none_unless (leb 1 (length key) && leb (length key) 64) 3 e) in
    (leb-true 1 (length key) p.0, leb-true (length key) 64 p.1)

pub threshold_positive : (threshold : ℕ) → bad_threshold threshold ≡ 0 → 1 ≤ threshold
threshold_positive threshold e = leb-true 1 threshold (none_unless (leb 1 threshold) 10 e)

-- lines 3 and 4 of a list and a key
pub arguments_none : (list key : List ℕ) → first_of (bad_list list ∷ bad_key (length key) ∷ []) ≡ 0 → (bad_list list ≡ 0) × (bad_key (length key) ≡ 0)
arguments_none list key e =
    let p = none_first (bad_list list) (bad_key (length key) ∷ []) e in
    (p.0, sym (first_one (bad_key (length key))) ∙ p.1)

module _ (list key : List ℕ) where
  pub arguments_list : (bad_list list ≡ 0 → ⊥) → bad_list list ≡ first_of (bad_list list ∷ bad_key (length key) ∷ [])
  arguments_list h = sym (first_stop (bad_list list) (bad_key (length key) ∷ []) h)

  pub arguments_key : bad_list list ≡ 0 → bad_key (length key) ≡ first_of (bad_list list ∷ bad_key (length key) ∷ [])
  arguments_key e = sym (first_skip (bad_list list) (bad_key (length key) ∷ []) e ∙ first_one (bad_key (length key)))

-- and with them 1 and 2
module _ (d w : ℕ) (memory list key : List ℕ) where
  pub lines_shape : (bad_shape d w (length memory) ≡ 0 → ⊥) → bad_shape d w (length memory) ≡ bad_lines d w memory list key
  unfolding bad_lines
  lines_shape h = sym (first_stop (bad_shape d w (length memory)) (bad_list list ∷ bad_key (length key) ∷ []) h)

  pub lines_arguments : bad_shape d w (length memory) ≡ 0 → first_of (bad_list list ∷ bad_key (length key) ∷ []) ≡ bad_lines d w memory list key
  unfolding bad_lines
  lines_arguments e = sym (first_skip (bad_shape d w (length memory)) (bad_list list ∷ bad_key (length key) ∷ []) e)

-- 5 comes before 11, and one of the two is what a line other than 0 is
pub five_first : (b : Bool) → earlier 5 (unless b 11) ≡ 5
unfolding earlier place_in
five_first true = refl
five_first false = refl

pub own_lines : (a b : Bool) (line : ℕ) → line ≡ earlier (unless a 5) (unless b 11) → (line ≡ 0 → ⊥) → (line ≡ 5) ⊎ (line ≡ 11)
unfolding earlier
own_lines true true line e h = absurd (h e)
own_lines true false line e h = inr e
own_lines false b line e h = inl (e ∙ five_first b)
