-- What the tests of a call's own arguments say.
use mathlib.Core.Path.{◌≡◌, refl, sym, ◌∙◌}
use mathlib.Core.Bool.{Bool, true, false}
use mathlib.Core.List.{List, [], ◌∷◌}
use Prim.Native.Nat.{ℕ, ◌%◌, ◌≤◌}
use native.Mathlib.Decide.{dec_lt}
use native.Mathlib.Omega.{arith}
use lib.Dec.{eqb}
use lib.ListN.{length}
use Rattle.answer.specs.Order.{unless, first_of, earlier, place_in}
use Rattle.answer.proofs.Order.{none_earlier, first_rest, first_part, first_one}
use Rattle.geometry.specs.Geometry.{valid_depth, valid_width, size, RowsIn}
use Rattle.geometry.specs.Checks.{bad_depth, bad_width, bad_length, bad_key}
use Rattle.geometry.specs.Checks as ordinary
use Rattle.geometry.proofs.Widths.{shape_good}
use Rattle.signed.specs.Signed.{bad_parity, bad_shape, bad_call}

-- line 12 stands between 2 and 3: the first of the ordinary tests and it, by the list's order
shape_order : (a b c e : Bool) → first_of (unless a 1 ∷ unless b 2 ∷ unless c 12 ∷ unless e 3 ∷ []) ≡ earlier (first_of (unless a 1 ∷ unless b 2 ∷ unless e 3 ∷ [])) (unless c 12)
unfolding first_of earlier place_in
shape_order true true true true = refl
shape_order true true true false = refl
shape_order true true false true = refl
shape_order true true false false = refl
shape_order true false true true = refl
shape_order true false true false = refl
shape_order true false false true = refl
shape_order true false false false = refl
shape_order false true true true = refl
shape_order false true true false = refl
shape_order false true false true = refl
shape_order false true false false = refl
shape_order false false true true = refl
shape_order false false true false = refl
shape_order false false false true = refl
shape_order false false false false = refl

pub shape_is : (d w bytes : ℕ) → bad_shape d w bytes ≡ earlier (ordinary.bad_shape d w bytes) (bad_parity d)
shape_is d w bytes = shape_order (valid_depth d) (valid_width w) (eqb (d % 2) 1) (eqb bytes (size d w))

-- what passed
pub shape_rows : (d w bytes : ℕ) → bad_shape d w bytes ≡ 0 → (1 ≤ d) × RowsIn d w bytes
shape_rows d w bytes e = shape_good d w bytes (none_earlier _ _ (sym (shape_is d w bytes) ∙ e)).0

-- a call with a key: its shape comes first
pub call_shape_bad : (d w : ℕ) (memory key : List ℕ) → (bad_shape d w (length memory) ≡ 0 → ⊥) → bad_shape d w (length memory) ≡ bad_call d w memory key
unfolding bad_call
call_shape_bad d w memory key h =
    sym (first_part (bad_depth d ∷ bad_width w ∷ bad_parity d ∷ bad_length d w (length memory) ∷ []) (bad_key (length key) ∷ []) (omega arith))

pub call_key : (d w : ℕ) (memory key : List ℕ) → bad_shape d w (length memory) ≡ 0 → bad_key (length key) ≡ bad_call d w memory key
unfolding bad_call
call_key d w memory key h =
    sym (first_rest (bad_depth d ∷ bad_width w ∷ bad_parity d ∷ bad_length d w (length memory) ∷ []) (bad_key (length key) ∷ []) h ∙ first_one (bad_key (length key)))

pub call_good : (d w : ℕ) (memory key : List ℕ) → bad_call d w memory key ≡ 0 → bad_shape d w (length memory) ≡ 0
call_good d w memory key e =
    elim (dec_lt 0 (bad_shape d w (length memory))) [ yes h ↦ call_shape_bad d w memory key (λ z. omega arith) ∙ e | no n ↦ omega arith ]

pub call_rows : (d w : ℕ) (memory key : List ℕ) → bad_call d w memory key ≡ 0 → (1 ≤ d) × RowsIn d w (length memory)
call_rows d w memory key e = shape_rows d w (length memory) (call_good d w memory key e)
