use mathlib.Core.Path.{◌≡◌, refl, sym, ap, ◌∙◌}
use mathlib.Core.List.{List}
use Prim.Native.Nat.{ℕ, ◌+◌, ◌-◌}
use native.Mathlib.Omega.{arith}
use lib.ListN.{length}
use lib.Seq.{sets}
use native.Mathlib.Nat.{add-zero}
use Rattle.group.specs.declared.Group.{Group}
use Rattle.meter_memory.specs.Rows.{group_at}
use Rattle.image_format.specs.Image.{group_words, groups_words}
use Rattle.image_format.specs.Write.{group_size}
use Rattle.image_size.proofs.Laws.{group_length, groups_length_step, groups_step, groups_none}
use Rattle.image_counters.proofs.Laws.{put_turn}
use Rattle.image_writer.proofs.put_groups.Goals as goal

pub loop-i-init : goal.loop-i-init
loop-i-init c = let a = c.args in
    let e = ap (λ (x : ℕ). groups_words 4 x a.w a.row.now) (add-zero a.g) in
    (omega arith, ap (λ (x : List ℕ). a.p + length x) e, refl, ap (sets a.words.now a.p) e)

pub put_any-at-requires : goal.put_any-at-requires
put_any-at-requires c = let l = c.loop-i in
    let a = c.args in record { fact_1 = omega (arith, groups_length_step 4 l.i a.g a.w a.row.now (omega arith), ap (λ (x : Group). group_size x.merge) c.load.ensures); fact_2 = c.requires.fact_4 }

pub loop-i-preserved : goal.loop-i-preserved
loop-i-preserved c = let l = c.loop-i in
    let a = c.args in
    let s = c.put_any-at in
    let g = group_at a.w a.row.now (a.g + l.i) in
    let e = c.load.ensures in
    let z : s.result ≡ l.at + group_size g.merge = s.ensures.value ∙ ap (λ (x : Group). l.at + group_size x.merge) e in (
      omega arith,
      omega (arith, groups_length_step 4 l.i a.g a.w a.row.now (omega arith), z),
      omega arith,
      put_turn l.words _ l.at s.result (group_words g) _ (s.ensures.words_after ∙ ap (λ (x : Group). sets l.words l.at (group_words x)) e)
          (z ∙ ap (λ (n : ℕ). l.at + n) (sym (group_length g)))
          ∙ ap (sets l.words l.at) (sym (groups_step 4 l.i a.g a.w a.row.now (omega arith))) ∙ l.invariant.3,
    )

pub returns : goal.returns
returns c = let l = c.loop-i in
    let a = c.args in
    let e = groups_none (4 - l.i) (a.g + l.i) a.w a.row.now (omega arith) in record { value = omega (arith, ap length e); words_after = sym (ap (sets l.words l.at) e) ∙ l.invariant.3 }
