use mathlib.Core.Path.{◌≡◌, sym, ap, ◌∙◌}
use Prim.Native.Nat.{◌+◌, ◌-◌}
use native.Mathlib.Omega.{arith}
use lib.ListN.{length, get_or, take, drop}
use lib.Seq.{get_or-take, get_or-drop}
use Rattle.image_format.specs.Write.{group_size}
use Rattle.image_size.proofs.Laws.{groups_size_step, groups_none}
use Rattle.image_size.proofs.Plain.{clear_size}
use Rattle.image_size.proofs.groups_size.Goals as goal

pub returns-then-clear-clause-value : goal.returns-then-clear-clause-value
returns-then-clear-clause-value c = let a = c.args in
    sym (clear_size a.w a.g a.row.now (c.clear.ensures c.if-clear.true).1)

pub loop-merge-preserved : goal.loop-merge-preserved
loop-merge-preserved c = let l = c.loop-merge in
    let a = c.args in
    let i = l.merge-index in
    let at = a.w + a.g in
    let n = at + 4 - at in
    let e : get_or (take n (drop at a.row.now)) i 0 ≡ get_or a.row.now (at + i) 0 = get_or-take n (drop at a.row.now) i 0 (omega arith) ∙ get_or-drop at a.row.now i 0 in
    let s : c.size_at-n.result ≡ group_size (get_or a.row.now (at + i) 0) = c.size_at-n.ensures.value ∙ ap group_size e in
    (omega arith, omega (arith, groups_size_step 4 i a.g a.w a.row.now (omega arith), s))

pub returns-clause-value : goal.returns-clause-value
returns-clause-value c = let l = c.loop-merge in
    let a = c.args in
    omega (arith, ap length (groups_none (4 - l.merge-index) (a.g + l.merge-index) a.w a.row.now (omega arith)))
