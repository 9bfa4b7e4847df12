use mathlib.Core.Path.{ap}
use Prim.Native.Nat.{◌/◌}
use native.Mathlib.Omega.{arith}
use lib.ListN.{get_or}
use Rattle.std.proofs.lemmas.Result.{err_from_is_err_and}
use Rattle.answer.specs.Refusals.{status}
use Rattle.geometry.proofs.Widths.{one_row}
use Rattle.hash.specs.Hash.{slot_of}
use Rattle.meter_memory.specs.Rows.{row_of, group_at}
use Rattle.meter_memory.proofs.Gather.{rows_start}
use Rattle.signed_number.specs.Number.{integer}
use Rattle.signed_row.specs.Hashes.{added_status}
use Rattle.signed_update.proofs.Trying.{trying_taken, trying_refused, trying_all, kept_all}
use Rattle.signed_update.proofs.try_rows.Invariants.{outcome}
use Rattle.signed_update.proofs.try_rows.Goals as goal
use Rattle.signed_update.proofs.try_rows.Goals.{in-Ok, in-Err}

pub loop-r-init : goal.loop-r-init
unfolding status
loop-r-init c = let a = c.args in
    record {
      row = omega arith;
      long = c.requires.fact_1.1;
      first = rows_start (added_status a.w a.hashes.now (integer a.minus a.magnitude)) a.w a.d a.memory.now;
      kept = λ e z k h. absurd (omega arith);
    }

pub bounds-hashes-r : goal.bounds-hashes-r
bounds-hashes-r c = omega (arith, c.requires.fact_1.1)

pub add_at-requires : goal.add_at-requires
add_at-requires c = record { fact_1 = one_row _ _ _ c.requires.fact_1 c.loop-r-test.true; fact_2 = c.requires.fact_2 c.loop-r.r c.loop-r-test.true }

pub bounds-groups-r : goal.bounds-groups-r
bounds-groups-r c = omega (arith, c.requires.fact_1.1)

pub loop-r-preserved : goal.loop-r-preserved
unfolding status
loop-r-preserved c = let a = c.args in
    let l = c.loop-r in
    let f = outcome a.w a.hashes.now (integer a.minus a.magnitude) in
    let g = group_at a.w (row_of a.w a.memory.now l.r) (slot_of (get_or a.hashes.now l.r 0) a.w / 8) in
    elim c.match-add_at.branch [
      | in-Ok w ↦ rw (w.groups-is, w.taken-is) (trying_taken f a.d a.w a.memory.now l.groups (status l.taken) l.r l.invariant c.loop-r-test.true g w.in-Ok.g w.in-Ok.ensures)
      | in-Err w ↦ rw (w.groups-is, w.taken-is, w.first-taken.ensures) (trying_refused f a.d a.w a.memory.now l.groups (status l.taken) l.r l.invariant c.loop-r-test.true g w.in-Err.why w.in-Err.ensures)
    ]

pub returns-in_err-taken : goal.returns-in_err-taken
unfolding status
returns-in_err-taken c = let a = c.args in
    let l = c.loop-r in
    let p = err_from_is_err_and c.from_residual.result c.from_residual.ensures.1 in
    let all = trying_all (outcome a.w a.hashes.now (integer a.minus a.magnitude)) a.d a.w a.memory.now l.groups (status l.taken) l.r l.invariant (omega arith) in
    rw (p.1, p.2) (record { status_value = rw c.in_err-taken.was at all; added = tt })

pub returns : goal.returns
unfolding status
returns c = let a = c.args in
    let l = c.loop-r in
    let f = outcome a.w a.hashes.now (integer a.minus a.magnitude) in
    let all = trying_all f a.d a.w a.memory.now l.groups (status l.taken) l.r l.invariant (omega arith) in
    record { status_value = rw c.in_ok-taken.was at all; added = kept_all f a.d a.w a.memory.now l.groups (status l.taken) l.r l.invariant (omega arith) (ap status c.in_ok-taken.was) }
