use mathlib.Core.Path.{◌≡◌, sym, ap, ◌∙◌}
use mathlib.Core.List.{List}
use Prim.Native.Nat.{ℕ, ◌+◌, ◌-◌}
use native.Mathlib.Omega.{arith}
use lib.ListN.{set, drop, length-take}
use Rattle.meter_memory.specs.Rows.{with_group}
use Rattle.image_format.specs.Write.{group_size}
use Rattle.image_format.specs.Read.{read_group}
use Rattle.image_reader.proofs.Plain.{plain_read, plain_size}
use Rattle.image_reader.proofs.read_into.Goals as goal

pub read_counts-requires : goal.read_counts-requires
read_counts-requires c = let a = c.args in
    omega (arith, length-take (a.p + 8 - a.p) (drop a.p a.words.now))

pub returns-then-are_counts : goal.returns-then-are_counts
returns-then-are_counts c = let a = c.args in
    let z = c.are_counts.ensures c.if-are_counts.true in
    let m = c.if-merge-eq0.true in
    let eight : a.p + 8 - a.p ≡ 8 = omega arith in
    let n : group_size a.merge ≡ 8 = plain_size a.merge m in record {
      value = omega (arith, n);
      upper_bound = omega arith;
      row_after = ap (λ (x : List ℕ). set x (a.w + a.g) 0) (rw eight at c.read_counts.ensures)
          ∙ plain_read a.w a.g a.row.now a.words.now a.p (omega arith) z
          ∙ ap (λ (x : ℕ). with_group a.w a.row.now a.g (read_group x a.words.now a.p)) (sym m);
    }

pub returns : goal.returns
returns c = let a = c.args in
    let t = c.read_any-t in record { value = t.ensures.position_value; upper_bound = t.ensures.position_bound; row_after = c.store.ensures ∙ ap (with_group a.w a.row.now a.g) t.ensures.group_value }
