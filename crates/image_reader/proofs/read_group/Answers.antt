use mathlib.Core.Path.{refl, sym, ap, ◌∙◌}
use Prim.Native.Nat.{◌-◌, ◌<◌}
use native.Mathlib.Omega.{arith}
use lib.Pow.{pow_pos}
use Rattle.group.specs.Results.{Outcome}
use Rattle.image_format.specs.Image.{level_at}
use Rattle.image_format.specs.Write.{group_size}
use Rattle.image_format.specs.Read.{read_group}
use Rattle.image_format.proofs.Laws.{size_first, sizes_none}
use Rattle.image_reader.proofs.Laws.{read_slots_none}
use Rattle.image_format.proofs.Counters.{sizes_turn}
use Rattle.image_format.proofs.Sizes.{behind_is}
use Rattle.image_group_checker.proofs.Steps.{stands_first, stands_next, step_small}
use Rattle.image_reader.proofs.Steps.{reads_step}
use Rattle.image_reader.proofs.read_group.Goals as goal

pub loop-k-init : goal.loop-k-init
unfolding group_size read_group
loop-k-init c = (stands_first _, omega arith, refl, refl, refl)

pub overflow_add-k : goal.overflow_add-k
overflow_add-k c = let v = c.level_at-level in
    record { fits = omega (arith, (step_small v.result v.ensures.upper_bound).1) }

pub loop-k-smaller : goal.loop-k-smaller
loop-k-smaller c = let v = c.level_at-level in
    omega (arith, (step_small v.result v.ensures.upper_bound).0)

pub loop-k-preserved : goal.loop-k-preserved
loop-k-preserved c = let l = c.loop-k in
    let a = c.args in
    let v = c.level_at-level in
    let n = c.word_count-n in
    let x = c.value_at in
    let k : l.k < 8 = omega arith in
    let f = l.invariant.0.1 k in
    let s = reads_step a.merge l.k l.g c.change-o.result.group v.result n.result x.result a.words.now l.at
    l.invariant.2 k f v.ensures.value n.ensures.value x.ensures (ap (λ (o : Outcome). o.group) c.change-o.ensures) in
    rw (behind_is a.merge l.k v.result v.ensures.value) (
      stands_next a.merge l.k k f,
      omega (arith, pow_pos (level_at a.merge l.k)),
      s.0,
      omega (arith, size_first a.merge l.k v.result n.result v.ensures.value f n.ensures.value, sizes_turn l.k a.merge k f, l.invariant.3),
      s.1 ∙ l.invariant.4,
    )

pub returns : goal.returns
returns c = let l = c.loop-k in
    let a = c.args in record { group_value = sym (read_slots_none (8 - l.k) l.k l.g a.words.now l.at (omega arith)) ∙ l.invariant.4; position_value = omega (arith, sizes_none (8 - l.k) l.k a.merge (omega arith), l.invariant.3); position_bound = omega arith }
