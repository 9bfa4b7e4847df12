use mathlib.Core.Path.{◌≡◌, sym, ap, ◌∙◌}
use mathlib.Core.List.{List}
use Prim.Native.Nat.{ℕ, ◌-◌, ◌/◌, ◌<◌}
use native.Mathlib.Omega.{arith}
use lib.ListN.{length, get_or, take, drop, length-drop}
use lib.Seq.{get_or-drop, take_all}
use Rattle.answer.specs.declared.Answer.{Answer}
use Rattle.answer.specs.Answers.{told}
use Rattle.answer.specs.Order.{earlier}
use Rattle.answer.specs.Refusals.{number, status}
use Rattle.answer.proofs.Order.{earlier_none}
use Rattle.group.proofs.Results.{answer_ok, answer_err}
use Rattle.geometry.specs.Geometry.{stride}
use Rattle.geometry.proofs.Widths.{stride_is}
use Rattle.group.specs.Group.{widest_of}
use Rattle.meter_memory.specs.Rows.{group_at}
use Rattle.meter_memory.proofs.Lists.{status_start, level_start, status_turn, status_end, level_turn, level_end}
use Rattle.meter_row.specs.Row.{level_status, group_level, widest_status, widest_row}
use Rattle.meter_row.proofs.widest_row.Goals as goal
use Rattle.meter_row.proofs.widest_row.Goals.{in-Ok, in-Err}

-- the bytes after the counts are the merge bytes, one for each group
module _ (w : ℕ) (row : List ℕ) (e : length row ≡ stride w) where
  merges_is : take (length row - w) (drop w row) ≡ drop w row
  merges_is = take_all (length row - w) (drop w row) (rw length-drop (omega arith))

  merges_long : length (take (length row - w) (drop w row)) ≡ w / 8
  merges_long = rw (merges_is, length-drop) (omega (arith, stride_is w))

  merge_is : (g : ℕ) → get_or (take (length row - w) (drop w row)) g 0 ≡ (group_at w row g).merge
  unfolding group_at
  merge_is g = rw merges_is (get_or-drop w row g 0)

pub slice_bounds-merge-items-count : goal.slice_bounds-merge-items-count
slice_bounds-merge-items-count c = omega (arith, stride_is c.args.w)

pub slice_bounds-merge-items-start : goal.slice_bounds-merge-items-start
slice_bounds-merge-items-start c = omega (arith, stride_is c.args.w)

pub loop-merge-init : goal.loop-merge-init
unfolding status widest_status widest_row
loop-merge-init c = let a = c.args in
    (status_start (level_status a.w a.row.now) (a.w / 8), level_start (group_level a.w a.row.now) (a.w / 8))

pub loop-merge-preserved : goal.loop-merge-preserved
unfolding level_status group_level status
loop-merge-preserved c = let a = c.args in
    let l = c.loop-merge in
    let m = c.match-widest in
    let of : Answer = widest_of (group_at a.w a.row.now l.merge-index).merge in
    let e : told c.widest.result ≡ of = c.widest.ensures ∙ ap widest_of (merge_is a.w a.row.now c.requires.fact_2 l.merge-index) in
    let inside : l.merge-index < a.w / 8 = omega (arith, merges_long a.w a.row.now c.requires.fact_2) in
    elim m.branch [
      | in-Ok w ↦
          let k = answer_ok of w.in-Ok.level (sym (ap told w.in-Ok.is) ∙ e) in (
            cc (
              status_turn (level_status a.w a.row.now) (a.w / 8) l.merge-index (status l.status) 0 inside (sym k.accepted),
              earlier_none (status l.status),
              w.status-is,
              l.invariant.0,
            ),
            omega (arith, level_turn (group_level a.w a.row.now) (a.w / 8) l.merge-index l.value w.in-Ok.level inside k.value, l.invariant.1),
          )
      | in-Err w ↦
          let u = answer_err of w.in-Err.refusal (sym (ap told w.in-Err.is) ∙ e) in
          let first : status m.status ≡ earlier (status l.status) (number w.in-Err.refusal) = ap (status {A = _}) w.status-is ∙ w.first-status.ensures in (
            rw first (status_turn (level_status a.w a.row.now) (a.w / 8) l.merge-index (status l.status) (number w.in-Err.refusal) inside u.refused ∙ l.invariant.0),
            omega (arith, level_turn (group_level a.w a.row.now) (a.w / 8) l.merge-index l.value 0 inside (sym u.value), l.invariant.1),
          )
    ]

pub returns : goal.returns
returns c = let a = c.args in
    let l = c.loop-merge in
    let end = merges_long a.w a.row.now c.requires.fact_2 in record {
      status_value = sym (status_end (level_status a.w a.row.now) (a.w / 8) l.merge-index (status l.status) (omega (arith, end))) ∙ l.invariant.0;
      value_value = sym (level_end (group_level a.w a.row.now) (a.w / 8) l.merge-index l.value (omega (arith, end))) ∙ l.invariant.1;
    }
