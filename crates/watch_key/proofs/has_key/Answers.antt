use mathlib.Core.Path.{◌≡◌, sym, ap, ◌∙◌}
use mathlib.Core.List.{List}
use Prim.Native.Nat.{ℕ, ◌+◌, ◌-◌, ◌*◌}
use native.Mathlib.Omega.{arith}
use lib.ListN.{length, take, drop}
use Rattle.meter_keys.specs.Keys.{same_key}
use Rattle.watch_key.proofs.Keys.{key_of_place, other_length}
use Rattle.watch_key.proofs.has_key.Goals as goal

pub returns-then-from-size : goal.returns-then-from-size
returns-then-from-size c = let a = c.args in
    sym (other_length a.list.now c.requires.fact_1 a.k c.requires.fact_2.0 a.key.now c.requires.fact_2.1 (λ e. omega (arith, c.from.ensures)))

pub returns : goal.returns
returns c = let a = c.args in
    let n = length a.key.now in
    let part : 65 + a.k * 64 + n - (65 + a.k * 64) ≡ n = omega arith in
    let is = key_of_place a.list.now c.requires.fact_1 a.k c.requires.fact_2.0 (omega (arith, c.from.ensures)) c.requires.fact_3.1 in
    c.same_bytes.ensures
    ∙ ap (λ (x : List ℕ). same_key x a.key.now) (ap (λ (m : ℕ). take m (drop (65 + a.k * 64) a.list.now)) part ∙ sym is)
