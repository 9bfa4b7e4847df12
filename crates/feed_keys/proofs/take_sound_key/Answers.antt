use mathlib.Core.Path.{◌≡◌, refl, ap, sym, ◌∙◌}
use mathlib.Core.Bool.{true≢false}
use Prim.Native.Nat.{ℕ, ◌+◌, ◌-◌, ◌*◌, ◌/◌, ◌%◌, ◌^◌}
use native.Mathlib.Omega.{arith}
use borrow.Author.Count.{below_more}
use borrow.Author.Tests.{eqb-true}
use lib.Bits.{bit_xor, xor_shr}
use lib.ListN.{length, take, drop, get_or}
use Rattle.std.proofs.lemmas.List.{get_or-take, get_or-drop}
use Rattle.geometry.proofs.Bits.{or_none}
use Rattle.word.specs.Word.{payload}
use Rattle.feed_keys.specs.Keys.{key_kind, key_from}
use Rattle.laws.proofs.Shifts.{one_shl, one_shl_pos}
use Rattle.feed_keys.proofs.Laws.{key_taken, word_more, stored_length, xor_none, key_sound}
use Rattle.feed_keys.proofs.take_sound_key.Goals as goal

pub returns-then-words-m : goal.returns-then-words-m
returns-then-words-m c = record { words_value = λ e. absurd (true≢false (sym e)); key_after = λ e. absurd (true≢false (sym e)) }

pub loop-i-init : goal.loop-i-init
unfolding key_from
loop-i-init c = (omega arith, c.key_words-m.ensures, c.requires.fact_1, c.requires.fact_2, omega arith, λ z j l. absurd (omega arith), refl)

pub loop-i-preserved : goal.loop-i-preserved
unfolding payload
loop-i-preserved c = let l = c.loop-i in
    let w = c.args.words.now in
    let m = c.key_words-m.result in
    let v = get_or (take (m + 1 - 1) (drop 1 w)) l.i 0 in
    let r : v ≡ get_or w (1 + l.i) 0 = get_or-take (m + 1 - 1) (drop 1 w) l.i 0 (omega arith) ∙ get_or-drop 1 w l.i 0 in
    let b = c.put_three.ensures in
    let d = c.differing_bits in
    let x : d.result ≡ bit_xor v (key_kind * 2 ^ 28) = d.ensures (omega (arith, c.code.ensures)) ∙ ap (λ (k : ℕ). bit_xor v (k * 2 ^ 28)) c.code.ensures in (
      omega arith,
      l.invariant.1,
      l.invariant.2,
      ap length b ∙ stored_length l.key l.i v ∙ l.invariant.3,
      l.invariant.4,
      λ z. let e = or_none l.bad (d.result / 2 ^ 24) z in
          let f = sym (xor_shr v (key_kind * 2 ^ 28) 24) ∙ ap (λ (x : ℕ). x / 2 ^ 24) (sym x) ∙ e.1 in
          below_more (λ (j : ℕ). get_or w (1 + j) 0 / 2 ^ 24 ≡ 0x70) l.i (l.invariant.5 e.0) (rw r at (xor_none (v / 2 ^ 24) 0x70 f)),
      ap (take (3 * (l.i + 1))) b ∙ word_more l.key w l.i v (omega arith) (ap (λ (x : ℕ). x % 2 ^ 28) r) l.invariant.6,
    )

pub returns-then-bad-ne0 : goal.returns-then-bad-ne0
returns-then-bad-ne0 c = record { words_value = λ e. absurd (true≢false (sym e)); key_after = λ e. absurd (true≢false (sym e)) }

pub nonzero_rem-result : goal.nonzero_rem-result
nonzero_rem-result c = one_shl_pos 32 _ (omega arith)

pub returns : goal.returns
returns c = let l = c.loop-i in
    let k = c.key_words-m in
    let a = c.args in
    let b = 8 * (3 * k.result - a.n) in record {
      words_value = λ t.
          key_sound a.n a.words.now (omega arith) (λ j h. l.invariant.5 c.if-bad-ne0.false j (omega arith))
          (rw (one_shl 32 b (omega arith), k.ensures) at (eqb-true (get_or a.words.now k.result 0 % (1 * 2 ^ b % 2 ^ 32)) 0 t));
      key_after = λ t. key_taken a.n (3 * l.i) l.key a.words.now (omega arith) l.invariant.6;
    }
