use mathlib.Core.Path.{◌≡◌, refl, ap, ap₂, ◌∙◌}
use Prim.Native.Nat.{ℕ, ◌<◌}
use lib.ListN.{get_or}
use mir.Syntax.{w64}
use mir.Facts.{to_z-of_z}
use Rattle.hash.specs.Hash.{row_hash}
use Rattle.meter_keys.proofs.Landing.{hash_lt}
use Rattle.signed_median.specs.Median.{median}
use Rattle.signed.specs.Signed.{signed_answer}
use Rattle.signed.proofs.Tests.{call_rows}
use Rattle.answer.proofs.Refusals.{ok_status, err_status}
use Rattle.signed.proofs.Calls.{signed_told_is, signed_handed, read_status_by_key, figures_by_key, estimated_bad, estimated_good}
use borrow.Author.Rules.{rules}
use Rattle.signed.proofs.estimate.Goals as goal

pub returns-in_err-check_call : goal.returns-in_err-check_call
returns-in_err-check_call c = let a = c.args in
    let e = c.in_err-check_call.ensures in
    signed_handed _ _ _ e _ c.from_residual.ensures.1 ∙ estimated_bad a.d a.w a.memory.now a.key.now _ refl (err_status _ _ _ e)

pub key_hashes-hashes-requires : goal.key_hashes-hashes-requires
key_hashes-hashes-requires c = (call_rows _ _ _ _ (ok_status _ _ c.in_ok-check_call.ensures)).1.1

pub read_rows-f-requires : goal.read_rows-f-requires
read_rows-f-requires c = let p = call_rows _ _ _ _ (ok_status _ _ c.in_ok-check_call.ensures) in record { fact_1 = p.0; fact_2 = p.1; fact_3 = λ r h. rw (c.key_hashes-hashes.ensures r h) (hash_lt _ r _) }

pub returns : goal.returns
returns c = let f = c.read_rows-f in
    let a = c.args in
    let good = ok_status _ _ c.in_ok-check_call.ensures in
    let start = c.start.ensures in
    let at : (r : ℕ) → r < a.d → get_or c.key_hashes-hashes.result r 0 ≡ row_hash c.start.result.state r a.key.now =
    λ r h. c.key_hashes-hashes.ensures r h ∙ ap (row_hash c.start.result.state r) c.whole.ensures in
    let status = f.ensures.status_value ∙ read_status_by_key a.d a.w a.memory.now a.key.now c.key_hashes-hashes.result start at in
    let value = f.ensures.value_value ∙ ap median (figures_by_key a.d a.w a.memory.now a.key.now c.key_hashes-hashes.result start at) in
    let same = to_z-of_z {w = w64} {z = f.result.value} (search rules) in
    rw (c.and.ensures, same) (signed_told_is f.result.status f.result.value ∙ ap₂ signed_answer status value) ∙ estimated_good a.d a.w a.memory.now a.key.now good
