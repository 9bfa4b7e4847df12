use mathlib.Core.Path.{ap, ap₂, ◌∙◌}
use Prim.Native.Nat.{ℕ}
use native.Mathlib.Omega.{arith}
use Rattle.feed.specs.declared.Recorded.{Recorded}
use Rattle.feed_line.specs.declared.Line.{Line}
use Rattle.feed_lines.specs.Line.{line_of}
use Rattle.feed_lines.specs.Step.{taken_by, progress_of, progress}
use Rattle.feed_lines.proofs.Record.{step_lies}
use Rattle.feed_lines.proofs.step.Goals as goal

pub overflow_add-next : goal.overflow_add-next
overflow_add-next c = let a = c.args in
    record {
      fits = omega (
        arith,
        c.requires.memory_value_2,
        c.requires.before_bound_1,
        step_lies a.d a.w a.memory.now a.before a.records a.words.now _ _ _ c.requires.memory_value_1
            c.record-r.ensures.value c.line_of-line.ensures c.taken-n.ensures,
      );
    }

pub returns : goal.returns
unfolding progress
returns c = let a = c.args in
    let r = c.record-r in
    let l = c.line_of-line.ensures ∙ ap (λ (x : Recorded). line_of x a.before a.records) r.ensures.value in
    let n = c.taken-n.ensures ∙ ap (λ (x : Line). taken_by x a.words.now) l in
    let lies = step_lies a.d a.w a.memory.now a.before a.records a.words.now _ _ _ c.requires.memory_value_1 r.ensures.value c.line_of-line.ensures c.taken-n.ensures in record { value = ap₂ (λ (x : Line) (y : ℕ). progress_of x y a.before a.records) l n; memory_after = r.ensures.memory_after; taken_in_bounds = lies }
