use mathlib.Core.Path.{◌≡◌, refl, sym, ap, ap₂, ◌∙◌}
use mathlib.Core.List.{List}
use Prim.Native.Nat.{ℕ, ◌+◌}
use native.Mathlib.Omega.{arith}
use borrow.Author.Rules.{rules}
use lib.ListN.{length, get_or, drop}
use native.Mathlib.Nat.{add-zero}
use Rattle.meter_memory.specs.Rows.{with_group}
use Rattle.image_format.specs.Write.{group_size}
use Rattle.image_format.specs.Read.{read_group, after_groups, read_groups}
use Rattle.image_reader.proofs.Laws.{after_groups_step, after_groups_none, read_groups_step, read_groups_none}
use Rattle.group_codes.specs.Codes.{merges_of}
use Rattle.group_codes.proofs.Packing.{merge_at, merges_length}
use Rattle.image_reader.proofs.read_groups.Goals as goal

pub loop-i-init : goal.loop-i-init
loop-i-init c = let a = c.args in
    (omega arith, omega arith, refl, refl, ap (λ (x : ℕ). read_groups (merges_of a.codes) x a.w a.row.now a.words.now a.p) (add-zero a.g))

pub merge_of-requires : goal.merge_of-requires
merge_of-requires c = record { fact_1 = c.requires.all_codes_1 c.loop-i.i; fact_2 = c.requires.all_codes_2.0 }

pub read_into-at-requires : goal.read_into-at-requires
read_into-at-requires c = let l = c.loop-i in record { g_bound_1 = omega arith; g_bound_2 = omega arith; g_bound_3 = omega arith; c_bound_1 = c.requires.all_codes_1 l.i; c_bound_2 = c.merge_of.ensures; c_bound_3 = c.requires.all_codes_2.1 }

pub loop-i-preserved : goal.loop-i-preserved
loop-i-preserved c = let l = c.loop-i in
    let a = c.args in
    let s = c.read_into-at in
    let ms = merges_of a.codes in
    let long : length a.codes ≡ 4 = search rules in
    let four : length ms ≡ 4 = merges_length a.codes ∙ long in
    let m = c.merge_of.ensures ∙ sym (merge_at a.codes l.i) in
    let z : s.result ≡ l.at + group_size (get_or ms l.i 0) = s.ensures.value ∙ ap (λ (x : ℕ). l.at + group_size x) m in (
      omega arith,
      omega arith,
      omega arith,
      ap (after_groups (drop (l.i + 1) ms)) z ∙ sym (after_groups_step ms l.i l.at (omega (arith, four))) ∙ l.invariant.3,
      ap₂ (λ (x : List ℕ) (n : ℕ). read_groups (drop (l.i + 1) ms) (a.g + (l.i + 1)) a.w x a.words.now n)
          (s.ensures.row_after ∙ ap (λ (x : ℕ). with_group a.w l.row (a.g + l.i) (read_group x a.words.now l.at)) m) z
          ∙ sym (read_groups_step ms l.i a.g a.w l.row a.words.now l.at (omega (arith, four))) ∙ l.invariant.4,
    )

pub returns : goal.returns
returns c = let l = c.loop-i in
    let a = c.args in
    let long : length a.codes ≡ 4 = search rules in
    let four : length (merges_of a.codes) ≡ 4 = merges_length a.codes ∙ long in record { value = sym (after_groups_none (merges_of a.codes) l.i l.at (omega (arith, four))) ∙ l.invariant.3; upper_bound = omega arith; row_after = sym (read_groups_none (merges_of a.codes) l.i (a.g + l.i) a.w l.row a.words.now l.at (omega (arith, four))) ∙ l.invariant.4 }
