use mathlib.Core.Path.{◌≡◌, sym, ap, ap₂, ◌∙◌}
use Prim.Native.Nat.{ℕ, ◌/◌}
use mathlib.Core.Bool.{Bool}
use mathlib.Core.List.{List}
use mir.Syntax.{w64}
use mir.Facts.{to_z-of_z}
use Rattle.hash.specs.Hash.{sign_of}
use Rattle.geometry.proofs.Widths.{wide}
use Rattle.meter_memory.specs.Rows.{row_of, group_at}
use Rattle.signed_group.specs.Results.{Reading, reading_of}
use Rattle.answer.specs.Refusals.{status}
use Rattle.std.specs.Prelude.{Ok, Err}
use Rattle.std.proofs.lemmas.Result.{err_from_is_err_and}
use Rattle.signed_number.proofs.Integers.{times_zero}
use Rattle.signed_group.specs.Group.{read}
use Rattle.signed_number.specs.Number.{times_sign, integer_of}
use Rattle.signed_row.specs.Hashes.{read_by}
use Rattle.signed_rows.proofs.read_at.Goals as goal

pub scaled-requires : goal.scaled-requires
scaled-requires c = (wide _ c.requires.fact_1.0).shares

pub returns-in_err-c : goal.returns-in_err-c
unfolding row_of status times_sign
returns-in_err-c c = let a = c.args in
    let x = c.in_err-c.field-0.0 in
    let p = err_from_is_err_and c.from_residual.result c.from_residual.ensures.1 in
    let is : reading_of (Err x) ≡ read_by a.w a.hash (row_of a.w a.memory.now a.r) =
    c.in_err-c.ensures.value
    ∙ ap₂ (λ (row : List ℕ) (slot : ℕ). read (group_at a.w row (slot / 8)) slot) c.row_at.ensures.result_value c.scaled.ensures.value in
    rw (p.1, p.2) (record {
      status_value = ap (λ (y : Reading). y.status) is;
      value_value = sym (times_zero (sign_of a.hash)) ∙ ap (λ (y : Reading). times_sign (sign_of a.hash) (integer_of y.value)) is;
    })

pub returns : goal.returns
unfolding row_of status
returns c = let a = c.args in
    let v = c.in_ok-c.c in
    let is : reading_of (Ok v) ≡ read_by a.w a.hash (row_of a.w a.memory.now a.r) =
    c.in_ok-c.ensures.value
    ∙ ap₂ (λ (row : List ℕ) (slot : ℕ). read (group_at a.w row (slot / 8)) slot) c.row_at.ensures.result_value c.scaled.ensures.value in
    let figure : c.to_int.result ≡ times_sign (sign_of a.hash) (integer_of v.value) =
    c.to_int.ensures
    ∙ c.times-sign.ensures v.value.magnitude
    ∙ ap (λ (b : Bool). times_sign b (integer_of v.value)) c.sign.ensures in
    record {
      status_value = ap (λ (y : Reading). y.status) is;
      value_value = to_z-of_z {w = w64} {z = c.to_int.result} (record { sfits = c.to_int.type_inv }) ∙ figure ∙ ap (λ (y : Reading). times_sign (sign_of a.hash) (integer_of y.value)) is;
    }
