use mathlib.Core.Path.{◌≡◌, refl, sym, ap, ap₂, ◌∙◌}
use Prim.Native.Nat.{ℕ, ◌+◌, ◌-◌, ◌*◌}
use native.Mathlib.Nat.{sub-zero, mod-eq_of_lt}
use native.Mathlib.Omega.{arith}
use lib.ListN.{length, take}
use Rattle.word.specs.Word.{go}
use Rattle.word.proofs.Laws.{one_on}
use Rattle.word.proofs.Results.{next_ok, next_handed_on}
use Rattle.word.specs.Step.{step}
use Rattle.feed_keys.specs.Keys.{key_kind, key_words, key_word, check_key, key_from}
use Rattle.feed_keys.proofs.Laws.{handed_status, key_step, key_none, key_taken, word_more, stored_length}
use Rattle.feed_keys.proofs.take_key.Goals as goal

pub loop-i-init : goal.loop-i-init
unfolding key_from
loop-i-init c = let a = c.args in
    let e = c.key_words-i-end.ensures in (
      omega arith,
      e,
      c.requires.fact_1,
      c.requires.fact_2,
      rw e (ap₂ (λ (k n : ℕ). check_key k n a.words.now 1) (sub-zero (key_words a.n)) (sub-zero a.n)),
      refl,
    )

pub returns-in_err-key_word : goal.returns-in_err-key_word
returns-in_err-key_word c = let l = c.loop-i in
    let a = c.args in
    let k = c.key_words-i-end.result in
    let h = c.from_residual.ensures.1 in
    let v = next_handed_on _ _ _ _ h c.in_err-key_word.ensures ∙ sym (key_step (k - l.i) (a.n - 3 * l.i) a.words.now (1 + l.i) (omega arith)) ∙ l.invariant.4 in
    let f : (step c.from_residual.result).status ≡ 0 → ⊥ = handed_status _ _ h in
    record { value = v; position_value = λ z. absurd (f z); key_after = λ z. absurd (f z) }

pub loop-i-preserved : goal.loop-i-preserved
unfolding key_word
loop-i-preserved c = let l = c.loop-i in
    let a = c.args in
    let k = c.key_words-i-end.result in
    let q = c.in_ok-key_word.field-0 in
    let s = c.in_ok-key_word.ensures in
    let v = c.payload-v in
    let b = c.put_three.ensures in
    let f : k - (l.i + 1) ≡ k - l.i - 1 = omega arith in
    let g : a.n - 3 * (l.i + 1) ≡ a.n - 3 * l.i - 3 = omega arith in
    let p : q ≡ 1 + l.i + 1 = one_on (go q) a.words.now (1 + l.i) key_kind _ _ (λ e. omega arith) s refl in
    let r : 1 + (l.i + 1) ≡ q = omega arith in (
      omega arith,
      l.invariant.1,
      l.invariant.2,
      ap length b ∙ stored_length l.key l.i v.result ∙ l.invariant.3,
      ap₂ (λ (x y : ℕ). check_key x y a.words.now (1 + (l.i + 1))) f g ∙ ap (check_key (k - l.i - 1) (a.n - 3 * l.i - 3) a.words.now) r
          ∙ sym (next_ok _ _ q s) ∙ sym (key_step (k - l.i) (a.n - 3 * l.i) a.words.now (1 + l.i) (omega arith)) ∙ l.invariant.4,
      ap (take (3 * (l.i + 1))) b ∙ word_more l.key a.words.now l.i v.result (omega arith) (mod-eq_of_lt v.ensures.upper_bound ∙ v.ensures.value) l.invariant.5,
    )

pub returns : goal.returns
returns c = let l = c.loop-i in
    let a = c.args in
    let k = c.key_words-i-end.result in
    let w = c.key_words in
    let i : 1 + w.result ≡ 1 + l.i = omega arith in
    let e = ap (λ (p : ℕ). go p) i ∙ sym (key_none (k - l.i) (a.n - 3 * l.i) a.words.now (1 + l.i) (omega arith)) ∙ l.invariant.4 in record { value = e; position_value = λ z. ap (λ (x : ℕ). 1 + x) w.ensures; key_after = λ z. key_taken a.n (3 * l.i) l.key a.words.now (omega arith) l.invariant.5 }
