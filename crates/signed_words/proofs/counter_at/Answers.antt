use mathlib.Core.Path.{ap, ◌∙◌}
use Prim.Native.Nat.{◌≤◌, ◌<◌}
use native.Mathlib.Omega.{arith}
use Rattle.group_block.specs.Block.{cap}
use Rattle.signed_number.specs.Number.{signed_of}
use Rattle.signed_words.proofs.Places.{level_of_lem, counter_in, value_is, clean_value}
use Rattle.signed_words.proofs.counter_at.Goals as goal
use Rattle.signed_words.proofs.counter_at.Goals.{After-counter_at-c}

in_level : (c : After-counter_at-c) → (c.counter_at-c.result.level ≤ 3) × (c.counter_at-c.result.value < cap c.counter_at-c.result.level)
unfolding cap
in_level c = let a = c.args in counter_in a.word a.merge a.slot c.counter_at-c.result c.counter_at-c.ensures (omega arith)

pub value-requires : goal.value-requires
value-requires c =
    let r = in_level c in
    record { fact_1 = r.0; fact_2 = r.1 }

pub returns : goal.returns
returns c = let a = c.args in
    let k = c.counter_at-c in record {
      value_value = c.value.ensures.canonical (clean_value a.word a.merge a.slot k.result k.ensures c.requires.fact_3)
          ∙ ap signed_of (c.value.ensures.result_value ∙ value_is a.word a.merge a.slot k.result k.ensures);
      level_value = level_of_lem a.word a.merge a.slot k.result k.ensures;
      level_bound = (in_level (goal.at.returns c).After-counter_at-c).0;
      magnitude_bound = c.value.ensures.magnitude_bound;
    }
