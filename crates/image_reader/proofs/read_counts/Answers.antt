use mathlib.Core.Path.{◌≡◌, refl, sym, ap, ◌∙◌}
use Prim.Native.Nat.{ℕ, suc, ◌+◌, ◌%◌}
use native.Mathlib.Nat.{add-zero}
use native.Mathlib.Omega.{arith}
use lib.ListN.{length-set}
use lib.Seq.{sets}
use Rattle.image_format.proofs.Plain.{counts_step, counts_none}
use Rattle.image_reader.proofs.read_counts.Goals as goal

pub loop-i-init : goal.loop-i-init
loop-i-init c = let a = c.args in
    (refl, rw (add-zero a.at) refl)

pub loop-i-preserved : goal.loop-i-preserved
loop-i-preserved c = let l = c.loop-i in
    let a = c.args in
    let e : a.at + (l.i + 1) ≡ suc (a.at + l.i) = omega arith in (
      simp length-set l.invariant.0,
      rw e (ap (sets l.row (a.at + l.i)) (sym (counts_step (λ (x : ℕ). x % 256) a.words.now l.i (omega arith))) ∙ l.invariant.1),
    )

pub returns : goal.returns
returns c = let l = c.loop-i in
    let a = c.args in
    sym (ap (sets l.row (a.at + l.i)) (counts_none (λ (x : ℕ). x % 256) a.words.now l.i (omega arith))) ∙ l.invariant.1
