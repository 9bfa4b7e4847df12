-- Laws of key words that the code's proofs use.
use mathlib.Core.Path.{◌≡◌, refl, sym, ap, ap₂, ◌∙◌}
use mathlib.Core.List.{List, [], ◌∷◌, ◌++◌}
use Prim.Native.Nat.{ℕ, zero, suc, ◌+◌, ◌-◌, ◌*◌, ◌%◌, ◌^◌, ◌≤◌, ◌<◌, ◌/◌}
use native.Mathlib.Nat.{add-zero, sub-zero, zero-add, div-one, mod-one}
use native.Mathlib.Decide.{dec_lt}
use native.Mathlib.Numerals.{sub-one}
use native.Mathlib.Omega.{arith}
use lib.ListN.{length, take, set, get_or, length-set}
use lib.Seq.{take-suc-set, take-take}
use borrow.Author.Tests.{lt-ltb, eq-eqb}
use lib.Pow.{mod-mod-pow}
use lib.Bits.{bit_xor, xor_add_and, and_le_l, and_le_r}
use Rattle.std.specs.Prelude.{Result, Ok, Err, IsErrAnd}
use Rattle.word.specs.declared.Fault.{Fault}
use Rattle.word.specs.Step.{step}
use Rattle.word.proofs.Results.{number_above}
use Rattle.word.specs.Word.{go, next, payload, is_due, tested}
use Rattle.word.proofs.Laws.{turn}
use Rattle.feed_keys.specs.Keys.{key_words, key_payload, key_word, check_key, key_byte, key_from, key_of}
use Rattle.feed_keys.specs.Stored.{stored}

-- the next of k key words
pub key_step : (k n : ℕ) (words : List ℕ) (p : ℕ) → 0 < k → check_key k n words p ≡ next (key_word n words p) (λ q. check_key (k - 1) (n - 3) words q)
unfolding check_key
key_step zero n words p h = absurd (omega arith)
key_step (suc k) n words p h = rw (sub-one (suc k))

pub key_none : (k n : ℕ) (words : List ℕ) (p : ℕ) → k ≡ 0 → check_key k n words p ≡ go p
unfolding check_key
key_none k n words p e = rw e

-- a fault handed on is no step that passes
pub handed_status : (r : Result ℕ Fault) (f : Fault) → IsErrAnd r (λ x. x ≡ f) → (step r).status ≡ 0 → ⊥
handed_status (Ok q) f h e = absurd h
handed_status (Err x) f h e = omega (arith, number_above x.refusal)

-- one byte more of a key
pub key_more : (n : ℕ) (words : List ℕ) (i : ℕ) → key_from (suc n) words i ≡ key_from n words i ++ (key_byte words (i + n) ∷ [])
unfolding key_from
key_more zero words i = rw add-zero
key_more (suc n) words i =
    let e : i + 1 + n ≡ i + suc n = omega arith in
    ap (λ (k : List ℕ). key_byte words i ∷ k) (rw e at (key_more n words (i + 1)))

-- the first bytes of a key
key_front : (n m : ℕ) (words : List ℕ) (i : ℕ) → n ≤ m → take n (key_from m words i) ≡ key_from n words i
unfolding key_from
key_front zero m words i h = refl
key_front (suc n) zero words i h = absurd (omega arith)
key_front (suc n) (suc m) words i h = ap (λ (k : List ℕ). key_byte words i ∷ k) (key_front n m words (i + 1) (omega arith))

pub key_taken : (n m : ℕ) (key words : List ℕ) → n ≤ m → take m key ≡ key_of m words → take n key ≡ key_of n words
key_taken n m key words h e = sym (take-take n m key h) ∙ ap (take n) e ∙ key_front n m words 0 h

-- a byte of a key stored behind those before it
byte_more : (key words : List ℕ) (m n x : ℕ) → n ≡ suc m → m < length key → take m key ≡ key_of m words → x ≡ key_byte words m → take n (set key m x) ≡ key_of n words
byte_more key words m n x k h e f =
    rw k (take-suc-set key m x h ∙ ap₂ (λ (l : List ℕ) (y : ℕ). l ++ (y ∷ [])) e (f ∙ ap (key_byte words) (sym (zero-add m))) ∙ sym (key_more m words 0))

-- the three bytes of key word j
byte_0 : (words : List ℕ) (j : ℕ) → payload words (1 + j) / 65536 % 256 ≡ key_byte words (3 * j)
unfolding key_byte
byte_0 words j =
    let q : 3 * j / 3 ≡ j = omega arith in
    let r : 3 * j % 3 ≡ 0 = omega arith in
    rw (q, r)

byte_1 : (words : List ℕ) (j : ℕ) → payload words (1 + j) / 256 % 256 ≡ key_byte words (3 * j + 1)
unfolding key_byte
byte_1 words j =
    let q : (3 * j + 1) / 3 ≡ j = omega arith in
    let r : (3 * j + 1) % 3 ≡ 1 = omega arith in
    rw (q, r)

byte_2 : (words : List ℕ) (j : ℕ) → payload words (1 + j) % 256 ≡ key_byte words (3 * j + 2)
unfolding key_byte
byte_2 words j =
    let q : (3 * j + 2) / 3 ≡ j = omega arith in
    let r : (3 * j + 2) % 3 ≡ 2 = omega arith in
    rw (q, r, div-one)

-- a key with its word j stored, whatever the word's kind
pub word_more : (key words : List ℕ) (j v : ℕ) → 3 * j + 3 ≤ length key → v % 2 ^ 28 ≡ payload words (1 + j) → take (3 * j) key ≡ key_of (3 * j) words
    → take (3 * (j + 1)) (stored key j v) ≡ key_of (3 * (j + 1)) words
word_more key words j v h p e =
    let a = v / 65536 % 256 in
    let b = v / 256 % 256 in
    let k = set key (3 * j) a in
    let long : length k ≡ length key = length-set key (3 * j) a in
    let x : a ≡ v % 2 ^ 28 / 65536 % 256 = omega arith in
    let y : b ≡ v % 2 ^ 28 / 256 % 256 = omega arith in
    let z : v % 256 ≡ v % 2 ^ 28 % 256 = omega arith in
    let first = byte_more key words (3 * j) (3 * j + 1) a (omega arith) (omega arith) e (x ∙ rw p (byte_0 words j)) in
    let second = byte_more k words (3 * j + 1) (3 * j + 2) b (omega arith) (omega arith) first (y ∙ rw p (byte_1 words j)) in
    byte_more (set k (3 * j + 1) b) words (3 * j + 2) (3 * (j + 1)) (v % 256) (omega arith) (omega (arith, length-set k (3 * j + 1) b)) second (z ∙ rw p (byte_2 words j))

pub stored_length : (key : List ℕ) (j v : ℕ) → length (stored key j v) ≡ length key
stored_length key j v = rw (length-set, length-set, length-set)

-- bits that do not differ
pub xor_none : (a b : ℕ) → bit_xor a b ≡ 0 → a ≡ b
xor_none a b e = omega (arith, xor_add_and a b, and_le_l a b, and_le_r a b)

-- A sound key word, with n bytes of the key left: its kind with bits 24 to 27, and the unused bytes.
abbrev SoundWord : ℕ → List ℕ → ℕ → Type 0
SoundWord n words p = (p < length words) × (get_or words p 0 / 2 ^ 24 ≡ 0x70) × (get_or words p 0 % 2 ^ (8 * (3 - n)) ≡ 0)

sound_word : (n : ℕ) (words : List ℕ) (p : ℕ) → SoundWord n words p → key_word n words p ≡ go (p + 1)
unfolding key_word key_payload tested is_due payload
sound_word n words p h =
    let w = get_or words p 0 in
    let b = 8 * (3 - n) in
    let kind : w / 2 ^ 28 ≡ 7 = omega arith in
    let small : w % 2 ^ 28 < 2 ^ 24 = omega arith in
    let all : 28 - b + b ≡ 28 = omega arith in
    let clear : w % 2 ^ 28 % 2 ^ b ≡ 0 = rw all at (mod-mod-pow w (28 - b) b) ∙ h.2 in
    rw (lt-ltb _ _ h.0, eq-eqb _ _ kind, lt-ltb _ _ small, eq-eqb _ _ clear)

-- key words that are sound one by one
sound_words : (k n : ℕ) (words : List ℕ) (p : ℕ) → ((j : ℕ) → j < k → SoundWord (n - 3 * j) words (p + j)) → check_key k n words p ≡ go (p + k)
unfolding check_key
sound_words zero n words p h = rw add-zero
sound_words (suc k) n words p h =
    let first : SoundWord n words p = rw (sub-zero, add-zero) at (h 0 (omega arith)) in
    turn (go (p + 1)) (key_word n words p) (λ q. check_key k (n - 3) words q) (sym (sound_word n words p first)) refl
    ∙ sound_words k (n - 3) words (p + 1) rest
    ∙ ap (λ (q : ℕ). go q) (omega arith)
  where
    rest : (j : ℕ) → j < k → SoundWord (n - 3 - 3 * j) words (p + 1 + j)
    rest j l =
        let e : n - 3 * (j + 1) ≡ n - 3 - 3 * j = omega arith in
        let f : p + (j + 1) ≡ p + 1 + j = omega arith in
        rw (e, f) at (h (j + 1) (omega arith))

-- Of a record's key words only the last has unused bytes.
pub key_sound : (n : ℕ) (words : List ℕ) → key_words n < length words → ((j : ℕ) → j < key_words n → get_or words (1 + j) 0 / 2 ^ 24 ≡ 0x70)
    → get_or words (key_words n) 0 % 2 ^ (8 * (3 * key_words n - n)) ≡ 0 → check_key (key_words n) n words 1 ≡ go (1 + key_words n)
key_sound n words h top low = sound_words (key_words n) n words 1 (λ j l. (omega arith, top j l, unused j l))
  where
    unused : (j : ℕ) → j < key_words n → get_or words (1 + j) 0 % 2 ^ (8 * (3 - (n - 3 * j))) ≡ 0
    unused j l = elim (dec_lt (j + 1) (key_words n)) [
      | yes m ↦ let z : 3 - (n - 3 * j) ≡ 0 = omega arith in rw (z, mod-one)
      | no m ↦ let e : 3 - (n - 3 * j) ≡ 3 * key_words n - n = omega arith in
          let f : 1 + j ≡ key_words n = omega arith in
          rw (e, f) low
    ]

pub key_length : (n : ℕ) (words : List ℕ) (i : ℕ) → length (key_from n words i) ≡ n
unfolding key_from
key_length zero words i = refl
key_length (suc n) words i = ap suc (key_length n words (i + 1))
