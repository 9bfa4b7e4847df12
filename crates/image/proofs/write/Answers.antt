use mathlib.Core.Path.{◌≡◌, refl, sym, ap, ◌∙◌}
use Prim.Native.Nat.{ℕ, ◌+◌, ◌≤◌}
use native.Mathlib.Omega.{arith}
use lib.ListN.{length}
use Rattle.image_size.proofs.Laws.{image_length}
use Rattle.image.proofs.Calls.{write_call, write_invalid, write_short, write_done}
use Rattle.answer.specs.Answers.{accepted}
use Rattle.image_format.specs.Image.{image}
use Rattle.image_format.specs.Write.{group_size, Written}
use Rattle.geometry.specs.Geometry.{RowsIn}
use Rattle.geometry.proofs.Widths.{shape_good, stride_is}
use Rattle.geometry.proofs.Widths.{one_row}
use Rattle.group_codes.specs.Codes.{code_of}
use Rattle.image_format.proofs.Tables.{table_part, fields_part}
use Rattle.answer.specs.Refusals.{number, status}
use Rattle.answer.specs.Answers.{refused}
use Rattle.answer.proofs.Refusals.{ok_status, no_number}
use Rattle.image.proofs.write.Goals as goal
use Rattle.image.proofs.write.Goals.{In_default}

pub returns-in-Err : goal.returns-in-Err
unfolding status
returns-in-Err c = let a = c.args in
    let n = number c.in-Err.why in
    let e = write_call a.d a.w a.memory.now a.words.now n c.in-Err.ensures (no_number c.in-Err.why) in record { value = (c.refused.ensures ∙ ap (λ (n : ℕ). refused n) c.number.ensures) ∙ ap (λ (x : Written). x.answer) (sym e); words_after = ap (λ (x : Written). x.words) (sym e) }

-- a call whose depth, width and memory have passed
shape : (c : In_default) → let a = c.args in (1 ≤ a.d) × RowsIn a.d a.w (length a.memory.now)
shape c = let a = c.args in shape_good a.d a.w (length a.memory.now) (ok_status _ _ c.in_default.ensures)

pub rows_valid-requires : goal.rows_valid-requires
rows_valid-requires c = (shape c).1

pub returns-then-not-rows_valid : goal.returns-then-not-rows_valid
returns-then-not-rows_valid c = let a = c.args in
    let s = sym (ok_status _ _ c.in_default.ensures) in
    let v = sym c.rows_valid.ensures ∙ c.if-not-rows_valid.true in
    let e = write_invalid a.d a.w a.memory.now a.words.now 0 s refl v in record { value = c.refused-then-not-rows_valid.ensures ∙ ap (λ (x : Written). x.answer) (sym e); words_after = ap (λ (x : Written). x.words) (sym e) }

pub table_size-n-requires : goal.table_size-n-requires
table_size-n-requires c = let a = c.args in
    let k = shape (goal.at.table_size-n-requires c).In_default in
    omega (arith, (one_row a.d a.w 0 k.1 k.0).2, stride_is a.w)

pub rows_size-count-requires : goal.rows_size-count-requires
rows_size-count-requires c = let t = c.size_table-sizes in record { fact_1 = (shape (goal.at.rows_size-count-requires c).In_default).1; fact_2 = table_part group_size t.result c.table_size-n.result t.ensures }

pub returns-then-words-count : goal.returns-then-words-count
returns-then-words-count c = let a = c.args in
    let s = sym (ok_status _ _ c.in_default.ensures) in
    let v = sym c.rows_valid.ensures ∙ c.if-not-rows_valid.false in
    let e = write_short a.d a.w a.memory.now a.words.now 0 s refl v (omega (arith, image_length a.d a.w a.memory.now, c.rows_size-count.ensures.value)) in record { value = c.refused-then-words-count.ensures ∙ ap (λ (x : Written). x.answer) (sym e); words_after = ap (λ (x : Written). x.words) (sym e) }

pub put_image-requires : goal.put_image-requires
put_image-requires c = let a = c.args in
    let t = c.code_table-codes in
    let f = c.field_table-fields in record { fact_1 = (shape (goal.at.put_image-requires c).In_default).1; fact_2 = omega (arith, image_length a.d a.w a.memory.now, c.rows_size-count.ensures.value); fact_3 = (table_part code_of t.result c.table_size-n.result t.ensures, fields_part f.result _ f.ensures) }

pub returns : goal.returns
returns c = let a = c.args in
    let s = sym (ok_status _ _ c.in_default.ensures) in
    let v = sym c.rows_valid.ensures ∙ c.if-not-rows_valid.false in
    let n : c.rows_size-count.result + 2 ≡ length (image a.d a.w a.memory.now) = omega (arith, image_length a.d a.w a.memory.now, c.rows_size-count.ensures.value) in
    let e = write_done a.d a.w a.memory.now a.words.now 0 s refl v (omega (arith, n)) in record { value = c.accepted.ensures ∙ ap accepted n ∙ ap (λ (x : Written). x.answer) (sym e); words_after = c.put_image.ensures ∙ ap (λ (x : Written). x.words) (sym e) }
