use mathlib.Core.Path.{◌≡◌, refl, ap, ◌∙◌}
use mathlib.Core.Bool.{cond}
use mathlib.Core.List.{List}
use Prim.Native.Nat.{ℕ, ◌<◌}
use lib.Dec.{eqb}
use lib.IntN.{ℤ}
use lib.ListN.{get_or}
use mir.Syntax.{w32}
use mir.Facts.{to_z-of_z}
use Rattle.hash.specs.Hash.{row_hash}
use Rattle.meter_keys.proofs.Landing.{hash_lt}
use Rattle.signed_number.specs.Number.{integer_of}
use Rattle.signed_number.proofs.Integers.{integer_of_lem}
use Rattle.signed_row.specs.Hashes.{tried_status, added_rows}
use Rattle.signed.proofs.Tests.{call_rows}
use Rattle.answer.specs.Refusals.{status}
use Rattle.answer.proofs.Refusals.{ok_status, err_status}
use Rattle.answer.proofs.Answers.{done_is, done_handed}
use Rattle.signed.proofs.Calls.{status_by_key, added_by_key, updated_bad, updated_rows}
use Rattle.signed.proofs.update.Goals as goal

pub returns-in_err-check_call : goal.returns-in_err-check_call
returns-in_err-check_call c = let a = c.args in
    let e = c.in_err-check_call.ensures in
    let p = updated_bad a.d a.w a.memory.now a.key.now a.amount _ refl (err_status _ _ _ e) in record { value = done_handed _ _ _ e _ c.from_residual.ensures.1 ∙ p.0; memory_after = p.1 }

pub key_hashes-hashes-requires : goal.key_hashes-hashes-requires
key_hashes-hashes-requires c = (call_rows _ _ _ _ (ok_status _ _ c.in_ok-check_call.ensures)).1.1

pub update_rows-requires : goal.update_rows-requires
update_rows-requires c = record { fact_1 = (call_rows _ _ _ _ (ok_status _ _ c.in_ok-check_call.ensures)).1; fact_2 = λ r h. rw (c.key_hashes-hashes.ensures r h) (hash_lt _ r _) }

pub returns : goal.returns
returns c = let a = c.args in
    let hashes = c.key_hashes-hashes.result in
    let good = ok_status _ _ c.in_ok-check_call.ensures in
    let start = c.start.ensures in
    let at : (r : ℕ) → r < a.d → get_or hashes r 0 ≡ row_hash c.start.result.state r a.key.now =
    λ r h. c.key_hashes-hashes.ensures r h ∙ ap (row_hash c.start.result.state r) c.whole.ensures in
    let amount : integer_of c.from-a.result ≡ a.amount = ap integer_of c.from-a.ensures.0 ∙ integer_of_lem _ ∙ to_z-of_z {w = w32} {z = a.amount} c.ranges.amount in
    let first = c.update_rows.ensures.value ∙ ap (λ (v : ℤ). tried_status a.d a.w hashes v a.memory.now) amount ∙ status_by_key a.d a.w a.memory.now a.key.now hashes start at a.amount in
    let after =
    c.update_rows.ensures.memory_after
    ∙ ap (λ (m : List ℕ). cond (eqb (status c.update_rows.result) 0) m a.memory.now)
    (ap (λ (v : ℤ). added_rows a.d a.w hashes v a.memory.now) amount ∙ added_by_key a.d a.w a.memory.now a.key.now hashes start at a.amount) in
    let p = updated_rows a.d a.w a.memory.now a.key.now a.amount good (status c.update_rows.result) _ first after in record { value = done_is c.update_rows.result ∙ p.0; memory_after = p.1 }
