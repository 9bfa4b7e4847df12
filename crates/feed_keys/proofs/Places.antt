-- The tests of key words: where they end, which numbers they give, and that they look at no word past the key's.
use mathlib.Core.Path.{◌≡◌, refl, sym, ap, ◌∙◌}
use mathlib.Core.List.{List}
use Prim.Native.Nat.{ℕ, zero, suc, ◌+◌, ◌-◌, ◌/◌, ◌≤◌, ◌<◌}
use native.Mathlib.Nat.{add-zero}
use native.Mathlib.Omega.{arith}
use lib.ListN.{length, take}
use Rattle.answer.specs.Numbers.{bad_payload, bad_word}
use Rattle.word.specs.Step.{Step}
use Rattle.word.specs.Word.{go, payload}
use Rattle.word.proofs.Passed.{passed, tested_is}
use Rattle.word.proofs.Places.{In, tested_in, next_in, tested_on, next_on, tested_status, next_status}
use Rattle.word.proofs.Before.{next_same, payload_same, tested_same}
use Rattle.feed_keys.specs.Keys.{key_kind, key_words, key_payload, key_word, check_key, key_byte, key_from, key_of}

-- inside the words lent
pub key_in : (k n : ℕ) (words : List ℕ) (p : ℕ) → p ≤ length words → In (length words) (check_key k n words p)
unfolding check_key key_word
key_in zero n words p h = h
key_in (suc k) n words p h =
    next_in (length words) (key_word n words p) (λ q. check_key k (n - 3) words q) (tested_in words p _ _ _ h) (λ q l. key_in k (n - 3) words q l)

-- the tests of a key go on by one for each word
pub key_on : (k n : ℕ) (words : List ℕ) (p : ℕ) → (check_key k n words p).position ≤ p + k
unfolding check_key key_word
key_on zero n words p = omega arith
key_on (suc k) n words p =
    let h = tested_on words p key_kind (key_payload n (payload words p)) bad_payload in
    next_on (p + suc k) (key_word n words p) (λ q. check_key k (n - 3) words q) (omega arith) (omega (arith, key_on k (n - 3) words (key_word n words p).position))

-- tests that pass end after the key's words
pub key_ends : (k n : ℕ) (words : List ℕ) (p q : ℕ) → check_key k n words p ≡ go q → q ≡ p + k
unfolding check_key key_word
key_ends zero n words p q e = sym (ap (λ (s : Step). s.position) e) ∙ sym (add-zero p)
key_ends (suc k) n words p q e =
    let s = key_word n words p in
    let t = passed s (λ r. check_key k (n - 3) words r) q e in
    let x = tested_is words p key_kind (key_payload n (payload words p)) bad_payload s.position (omega arith) t.here in
    key_ends k (n - 3) words s.position q t.after ∙ omega (arith, x.position)

-- the number of a key's faulty word is 8 or 9
pub key_status : (P : ℕ → Type 0) → P 0 → P bad_payload → P bad_word → (k n : ℕ) (words : List ℕ) (p : ℕ) → P (check_key k n words p).status
unfolding check_key key_word
key_status P a b c zero n words p = a
key_status P a b c (suc k) n words p =
    next_status (key_word n words p) (λ q. check_key k (n - 3) words q) P (tested_status words p key_kind (key_payload n (payload words p)) bad_payload P a b c)
    (λ q. key_status P a b c k (n - 3) words q)

module _ (words : List ℕ) (n : ℕ) where
  abbrev front : List ℕ
  front = take n words

  key_word_same : (m p : ℕ) → p < n → key_word m front p ≡ key_word m words p
  unfolding key_word
  key_word_same m p l = tested_same words n p key_kind bad_payload (key_payload m (payload words p)) (key_payload m (payload front p)) l (ap (key_payload m) (payload_same words n p l))

  pub key_words_same : (k m p : ℕ) → p + k ≤ n → check_key k m front p ≡ check_key k m words p
  unfolding check_key key_word
  key_words_same zero m p h = refl
  key_words_same (suc k) m p h =
      let l = tested_on words p key_kind (key_payload m (payload words p)) bad_payload in
      next_same (key_word m front p) (key_word m words p) (λ q. check_key k (m - 3) front q) (λ q. check_key k (m - 3) words q) (key_word_same m p (omega arith))
      (key_words_same k (m - 3) (key_word m words p).position (omega arith))

  key_from_same : (k i : ℕ) → 1 + key_words (i + k) ≤ n → key_from k front i ≡ key_from k words i
  unfolding key_from key_byte
  key_from_same zero i h = refl
  key_from_same (suc k) i h = rw (payload_same words n (1 + i / 3) (omega arith), key_from_same k (i + 1) (omega arith))

  pub key_same : (m : ℕ) → 1 + key_words m ≤ n → key_of m front ≡ key_of m words
  key_same m h = key_from_same m 0 (omega arith)
