use mathlib.Core.Path.{◌≡◌, refl, sym, ap, ◌∙◌}
use Prim.Native.Nat.{ℕ}
use native.Mathlib.Nat.{zero-add}
use native.Mathlib.Omega.{arith}
use borrow.Author.Rules.{rules}
use lib.IntN.{ℤ, pos}
use Rattle.std.specs.Prelude.{Result, Ok, Err, ⊤}
use Rattle.std.specs.Result.{result_and}
use Rattle.answer.specs.declared.Refusal.{Refusal}
use Rattle.answer.specs.Refusals.{status}
use lib.ListN.{take, length-set}
use mir.Syntax.{w64}
use mir.Facts.{to_z-of_z}
use Rattle.geometry.specs.Geometry.{stride}
use Rattle.geometry.proofs.Widths.{one_row}
use Rattle.meter_memory.specs.Rows.{row_of, of_rows}
use Rattle.meter_memory.proofs.Gather.{status_turn, status_end, rows_start}
use Rattle.meter_memory.proofs.Lists.{filled_more, rows_list}
use Rattle.signed_median.specs.Median.{median}
use Rattle.signed_row.specs.Hashes.{hash_status, hash_figure}
use Rattle.signed_rows.proofs.read_rows.Goals as goal

pub loop-r-init : goal.loop-r-init
unfolding status
loop-r-init c = let a = c.args in
    (omega arith, rows_start (hash_status a.w a.hashes.now) a.w a.d a.memory.now, λ k h. absurd (omega arith), search rules)

pub bounds-hashes-r : goal.bounds-hashes-r
bounds-hashes-r c = omega (arith, c.requires.fact_2.1)

pub read_at-f-requires : goal.read_at-f-requires
read_at-f-requires c = record { fact_1 = one_row c.args.d c.args.w _ c.requires.fact_2 c.loop-r-test.true; fact_2 = c.requires.fact_3 c.loop-r.r c.loop-r-test.true }

pub bounds-values-r : goal.bounds-values-r
bounds-values-r c = omega (arith, c.requires.fact_2.1)

-- the status alone
alone : (f : Result ℤ Refusal) → status (result_and {U = ⊤} f (Ok (tt {0}))) ≡ status f
unfolding status
alone (Ok v) = refl
alone (Err x) = refl

pub loop-r-preserved : goal.loop-r-preserved
loop-r-preserved c = let l = c.loop-r in
    let a = c.args in
    let f = c.read_at-f in
    let v = c.unwrap_or.result in
    let is-v = to_z-of_z {w = w64} {z = v} (record { sfits = c.unwrap_or.type_inv }) in
    let value = c.unwrap_or.ensures ∙ f.ensures.value_value in (
      omega arith,
      rw (c.first-taken.ensures, c.and.ensures, alone f.result)
          (status_turn (hash_status a.w a.hashes.now) a.w a.d l.r a.memory.now (status l.taken) (status f.result) (omega arith) f.ensures.status_value ∙ l.invariant.1),
      rw is-v
          (filled_more (λ (k : ℕ). hash_figure a.w a.hashes.now k (row_of a.w a.memory.now k)) l.values l.r v (pos 0) (omega (arith, c.requires.fact_2.1)) value l.invariant.2),
      rw is-v (length-set l.values l.r v ∙ l.invariant.3),
    )

pub returns : goal.returns
unfolding row_of
returns c = let l = c.loop-r in
    let a = c.args in
    let at : l.r ≡ a.d = omega arith in
    let all : take a.d l.values ≡ of_rows (hash_figure a.w a.hashes.now) (stride a.w) a.d 0 a.memory.now =
    rows_list (hash_figure a.w a.hashes.now) (stride a.w) a.d 0 a.memory.now l.values (pos 0) (omega (arith, c.requires.fact_2.1))
    (λ k h. l.invariant.2 k (omega arith) ∙ ap (λ (i : ℕ). hash_figure a.w a.hashes.now i (row_of a.w a.memory.now k)) (sym (zero-add k))) in record { status_value = sym (status_end (hash_status a.w a.hashes.now) a.w a.d l.r a.memory.now (status l.taken) (omega arith)) ∙ l.invariant.1; value_value = to_z-of_z {w = w64} {z = c.median.result} (record { sfits = c.median.type_inv }) ∙ c.median.ensures ∙ ap median all }
