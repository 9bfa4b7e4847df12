use mathlib.Core.Path.{◌≡◌, refl, sym, ap, ap₂, ◌∙◌}
use mathlib.Core.List.{List}
use Prim.Native.Nat.{ℕ, ◌+◌, ◌-◌, ◌*◌, ◌/◌}
use native.Mathlib.Omega.{arith}
use native.Mathlib.Nat.{sub-zero}
use Rattle.image_format.specs.Read.{merges_at, after_groups, read_groups, after_fours, read_fours}
use Rattle.image_reader.proofs.Laws.{after_fours_step, after_fours_none, read_fours_step, read_fours_none}
use Rattle.image_reader.proofs.read_row.Goals as goal

pub loop-i-init : goal.loop-i-init
loop-i-init c = let a = c.args in
    (omega arith, refl, omega arith, refl, ap (λ (x : ℕ). after_fours x a.words.now a.p) (sub-zero (a.w / 32)), ap (λ (x : ℕ). read_fours x 0 a.w a.row.now a.words.now a.p) (sub-zero (a.w / 32)))

pub read_groups-at-requires : goal.read_groups-at-requires
read_groups-at-requires c = let t = c.requires.fact_4 in record { g_bound_1 = omega arith; g_bound_2 = omega arith; g_bound_3 = omega arith; all_codes_1 = c.codes_at.ensures.all_codes; all_codes_2 = t }

pub loop-i-preserved : goal.loop-i-preserved
loop-i-preserved c = let l = c.loop-i in
    let a = c.args in
    let s = c.read_groups-at in
    let m = c.codes_at.ensures.result_value in
    let n = a.w / 32 - (l.i + 1) in
    let z : s.result ≡ after_groups (merges_at a.words.now l.at) (l.at + 1) = s.ensures.value ∙ ap (λ (x : List ℕ). after_groups x (l.at + 1)) m in (
      omega arith,
      l.invariant.1,
      omega arith,
      omega arith,
      ap (after_fours n a.words.now) z ∙ sym (after_fours_step (a.w / 32) l.i a.words.now l.at (omega arith)) ∙ l.invariant.4,
      ap₂ (λ (x : List ℕ) (q : ℕ). read_fours n (4 * (l.i + 1)) a.w x a.words.now q)
          (s.ensures.row_after ∙ ap (λ (x : List ℕ). read_groups x (4 * l.i) a.w l.row a.words.now (l.at + 1)) m) z
          ∙ sym (read_fours_step (a.w / 32) l.i a.w l.row a.words.now l.at (omega arith)) ∙ l.invariant.5,
    )

pub returns : goal.returns
returns c = let l = c.loop-i in
    let a = c.args in record { value = sym (after_fours_none (a.w / 32 - l.i) a.words.now l.at (omega arith)) ∙ l.invariant.4; upper_bound = omega arith; row_after = sym (read_fours_none (a.w / 32 - l.i) (4 * l.i) a.w l.row a.words.now l.at (omega arith)) ∙ l.invariant.5 }
