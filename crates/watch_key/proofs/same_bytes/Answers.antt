use mathlib.Core.Path.{◌≡◌, refl, sym, ap, ap₂, ◌∙◌}
use mathlib.Core.List.{List}
use Prim.Native.Nat.{ℕ, ◌+◌, ◌-◌, ◌*◌, ◌/◌}
use native.Mathlib.Omega.{arith}
use lib.ListN.{length, take, drop, length-drop}
use lib.Seq.{take_all}
use Rattle.laws.proofs.Lists.{Bytes}
use Rattle.little_endian.specs.Bytes.{number}
use Rattle.meter_keys.specs.Keys.{same_key}
use Rattle.meter_keys.proofs.Same.{key_differs}
use Rattle.watch_key.proofs.Keys.{word_turn, rest_tells, same_key_is}
use Rattle.watch_key.proofs.same_bytes.Goals as goal

pub loop-i-init : goal.loop-i-init
loop-i-init c = (omega arith, refl, c.requires, refl)

pub returns-then-word_at : goal.returns-then-word_at
returns-then-word_at c = let l = c.loop-i in
    let a = c.args in
    sym (key_differs a.a.now a.b.now (λ e. c.if-word_at.true (c.word_at.ensures ∙ ap (λ (x : List ℕ). number (take 8 (drop (l.i * 8) x))) e ∙ sym c.word_at-in-loop-i.ensures)))

pub loop-i-preserved : goal.loop-i-preserved
loop-i-preserved c = let l = c.loop-i in
    let a = c.args in
    let small-a : Bytes a.a.now = λ i. (c.type_inv.a i).fits in
    let small_b : Bytes a.b.now = λ i. (c.type_inv.b i).fits in
    let next : (l.i + 1) * 8 ≡ l.i * 8 + 8 = omega arith in
    let same = sym c.word_at.ensures ∙ c.if-word_at.false ∙ c.word_at-in-loop-i.ensures in
    (omega arith, refl, l.invariant.2, rw next (word_turn a.a.now a.b.now l.invariant.2 (l.i * 8) (omega arith) small-a small_b l.invariant.3 same))

pub returns : goal.returns
returns c = let l = c.loop-i in
    let xs = c.args.a.now in
    let ys = c.args.b.now in
    let n = length xs / 8 * 8 in
    let long : length xs ≡ length ys = c.requires in
    let at : l.i ≡ length xs / 8 = omega arith in
    let front : take n xs ≡ take n ys = rw at at l.invariant.3 in
    let left : take (length xs - n) (drop n xs) ≡ drop n xs = take_all (length xs - n) (drop n xs) (omega (arith, length-drop n xs)) in
    let right : take (length ys - n) (drop n ys) ≡ drop n ys = take_all (length ys - n) (drop n ys) (omega (arith, length-drop n ys)) in
    c.eq.ensures ∙ same_key_is _ _ ∙ ap₂ same_key left right ∙ rest_tells n xs ys long (omega arith) front
