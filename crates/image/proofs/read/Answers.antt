use Prim.Native.Nat.{ℕ, ◌-◌, ◌*◌}
use mathlib.Core.Path.{refl, sym, ap, ◌∙◌}
use native.Mathlib.Omega.{arith}
use lib.ListN.{length, take}
use Rattle.image.proofs.Places.{all_of}
use Rattle.image.proofs.Calls.{Sound, sound_call, read_call, read_faulty, read_done}
use Rattle.group_codes.specs.Pack.{code_merge}
use Rattle.std.specs.Prelude.{Ok, Err}
use Rattle.answer.specs.Answers.{refused_at}
use Rattle.word.specs.Step.{step}
use Rattle.answer.proofs.Refusals.{positive}
use Rattle.image_format.specs.Tables.{Reads}
use Rattle.image_format.proofs.Tables.{table_part, fields_part}
use Rattle.answer.specs.Refusals.{number, status}
use Rattle.answer.specs.Answers.{refused}
use Rattle.answer.proofs.Refusals.{ok_status, no_number}
use Rattle.image.proofs.read.Goals as goal
use Rattle.image.proofs.read.Goals.{After-field_table-fields, In_default}

pub returns-in-Err : goal.returns-in-Err
unfolding status
returns-in-Err c = let a = c.args in
    let n = number c.in-Err.why in
    let e = read_call a.d a.w a.memory.now a.words.now n c.in-Err.ensures (no_number c.in-Err.why) in
    let r = all_of a.d a.w a.memory.now a.words.now _ _ _ e (c.refused.ensures ∙ ap (λ (n : ℕ). refused n) c.number.ensures) refl in
    record { value = r.0; memory_after = r.1.0; position_in_bounds = r.1.1 }

-- a call whose shape is accepted
sound : (c : In_default) → let a = c.args in Sound a.d a.w (length a.memory.now)
sound c = let a = c.args in sound_call a.d a.w (length a.memory.now) (ok_status _ _ c.in_default.ensures)

pub table_size-n-requires : goal.table_size-n-requires
table_size-n-requires c = let k = sound c in record { fact_1 = omega arith; fact_2 = omega arith }

-- the tables that are lent
module _ (c : After-field_table-fields) where
  abbrev size : ℕ
  size = c.table_size-n.result

  tables : Reads (take (size - 0) c.layout_table-layouts.result) (take (17 * size - 0) c.field_table-fields.result)
  tables = (table_part (λ (k : ℕ). code_merge k) c.layout_table-layouts.result size c.layout_table-layouts.ensures, fields_part c.field_table-fields.result size c.field_table-fields.ensures)

pub check-requires : goal.check-requires
check-requires c = let k = sound (goal.at.check-requires c).In_default in
    record { fact_1 = omega arith; fact_2 = omega arith; fact_3 = tables (goal.at.check-requires c).After-field_table-fields }

pub read_rows-requires : goal.read_rows-requires
read_rows-requires c = let k = sound (goal.at.read_rows-requires c).In_default in
    record { fact_1 = omega arith; fact_2 = omega arith; fact_3 = omega arith; fact_4 = tables (goal.at.read_rows-requires c).After-field_table-fields }

pub returns-in-Ok : goal.returns-in-Ok
returns-in-Ok c = let a = c.args in
    let s = sym (ok_status _ _ c.in_default.ensures) in
    let e = read_done a.d a.w a.memory.now a.words.now 0 s refl (step (Ok c.in-Ok.end)) c.in-Ok.ensures refl in
    let r = all_of a.d a.w a.memory.now a.words.now _ _ _ e c.accepted.ensures c.read_rows.ensures in
    record { value = r.0; memory_after = r.1.0; position_in_bounds = r.1.1 }

pub returns-in-Err-check : goal.returns-in-Err-check
returns-in-Err-check c = let a = c.args in
    let s = sym (ok_status _ _ c.in_default.ensures) in
    let f = c.in-Err-check.fault in
    let e = read_faulty a.d a.w a.memory.now a.words.now 0 s refl (step (Err f)) c.in-Err-check.ensures (λ z. omega (arith, positive f.refusal)) in
    let r = all_of a.d a.w a.memory.now a.words.now _ _ _ e (c.refused_at.ensures ∙ ap (λ (n : ℕ). refused_at n f.position) c.number-in-Err-check.ensures) refl in
    record { value = r.0; memory_after = r.1.0; position_in_bounds = r.1.1 }
