use mathlib.Core.Path.{sym, ap, ◌∙◌}
use Prim.Native.Nat.{ℕ, ◌<◌}
use native.Mathlib.Omega.{arith}
use Rattle.little_endian.specs.Bytes.{number}
use Rattle.group_block.specs.Block.{cap}
use Rattle.std.proofs.lemmas.Result.{err_from_is_err_and}
use Rattle.group.specs.Group.{decode, unchanged}
use Rattle.group.proofs.Laws.{united_refused, united_taken, united_ok}
use Rattle.group.proofs.Results.{status_ok, status_err}
use Rattle.group.proofs.unite.Goals as goal

pub returns-in_err-unite_status : goal.returns-in_err-unite_status
returns-in_err-unite_status c = let a = c.args in
    let s = status_err Unit c.in_err-unite_status.field-0.0 _ c.in_err-unite_status.ensures in
    let p = err_from_is_err_and c.from_residual.result c.from_residual.ensures.1 in
    rw (p.1, p.2) (ap (λ (n : ℕ). unchanged n a.target) s.refused ∙ sym (united_refused a.target a.source s.some))

pub unwrap-requires : goal.unwrap-requires
unfolding decode cap
unwrap-requires c =
    let a = c.args in
    let h : number a.target.counts < cap 3 = rw (← c.number_of-word.ensures) (omega arith) in
    let k : number a.source.counts < cap 3 = rw (← c.number_of-source_word.ensures) (omega arith) in
    let t = united_taken a.target a.source h k (status_ok _ _ c.in_ok-unite_status.ensures) in
    rw (c.unite-united.ensures, c.number_of-word.ensures, c.number_of-source_word.ensures) (united_ok a.target a.source h k t.0 t.1 t.2)
