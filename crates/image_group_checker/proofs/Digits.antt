-- The words of a counter are its value's digits: they pass the tests.
use mathlib.Core.Path.{◌≡◌, sym, ap, ◌∙◌}
use mathlib.Core.Bool.{true}
use mathlib.Core.List.{List, ◌∷◌, ◌++◌}
use Prim.Native.Nat.{ℕ, zero, suc, ◌+◌, ◌-◌, ◌*◌, ◌/◌, ◌%◌, ◌^◌, ◌<◌}
use native.Mathlib.Nat.{add-zero, mod-lt, mod-le}
use native.Mathlib.Omega.{arith}
use borrow.Author.Tests.{lt-ltb, eq-eqb}
use lib.ListN.{length, get_or, drop, length-drop}
use lib.Pow.{shr_lt}
use lib.Seq.{get_or-drop, drop-drop}
use Rattle.word.specs.Word.{go, next, payload, is_due, tested, below}
use Rattle.image_format.specs.Image.{word, count_kind, parts, word_count}
use Rattle.image_format.proofs.Fields.{words_bits}
use Rattle.image_format.specs.Read.{check_parts, first_bits}

-- the word at a position
pub record Here (words : List ℕ) (p x : ℕ) (rest : List ℕ) : Type 0 where
  pub inside : p < length words
  pub is : get_or words p 0 ≡ x
  pub after : drop (p + 1) words ≡ rest

pub here : (words : List ℕ) (p x : ℕ) (rest : List ℕ) → drop p words ≡ x ∷ rest → Here words p x rest
here words p x rest e =
    let z = add-zero p in
    record {
      inside = omega (arith, ap length e, length-drop p words);
      is = sym (rw z at (get_or-drop p words 0 0)) ∙ ap (λ (l : List ℕ). get_or l 0 0) e;
      after = sym (drop-drop 1 p words) ∙ ap (drop 1) e;
    }

-- a word that was written passes its tests
module _ (words : List ℕ) (p kind x : ℕ) (rest : List ℕ) (e : drop p words ≡ word kind x ∷ rest) (h : x < 2 ^ 28) where
  pub payload_here : payload words p ≡ x
  unfolding payload word
  payload_here = rw (here words p (word kind x) rest e).is (omega arith)

  pub due_here : is_due words p kind ≡ true
  unfolding is_due word
  due_here =
      let k : word kind x / 2 ^ 28 ≡ kind = omega arith in
      rw (lt-ltb p (length words) (here words p (word kind x) rest e).inside, (here words p (word kind x) rest e).is) (eq-eqb (word kind x / 2 ^ 28) kind k)

  pub below_here : (limit : ℕ) → x < limit → below words p kind limit ≡ go (p + 1)
  unfolding below tested
  below_here limit l = rw (due_here, payload_here, lt-ltb x limit l)

pub digit_lt : (v n : ℕ) → v / 2 ^ (24 * n) % 2 ^ 24 < 2 ^ 24
digit_lt v n = mod-lt (v / 2 ^ (24 * n)) (omega arith)

pub check_digits : (n v : ℕ) (words : List ℕ) (p : ℕ) (rest : List ℕ) → drop p words ≡ parts n v ++ rest → check_parts n words p (2 ^ 24) ≡ go (p + n)
unfolding check_parts parts next
check_digits zero v words p rest e = ap go (sym (add-zero p))
check_digits (suc n) v words p rest e =
    let x = v / 2 ^ (24 * n) % 2 ^ 24 in
    rw (below_here words p count_kind x (parts n v ++ rest) e (omega (arith, digit_lt v n)) (2 ^ 24) (digit_lt v n))
    (check_digits n v words (p + 1) rest (here words p (word count_kind x) (parts n v ++ rest) e).after ∙ ap go (omega arith))

pub check_value : (n v : ℕ) (words : List ℕ) (p : ℕ) (rest : List ℕ) (limit : ℕ) → drop p words ≡ parts (suc n) v ++ rest → v / 2 ^ (24 * n) % 2 ^ 24 < limit
    → check_parts (suc n) words p limit ≡ go (p + suc n)
unfolding check_parts parts next
check_value n v words p rest limit e l =
    let x = v / 2 ^ (24 * n) % 2 ^ 24 in
    rw (below_here words p count_kind x (parts n v ++ rest) e (omega (arith, digit_lt v n)) limit l)
    (check_digits n v words (p + 1) rest (here words p (word count_kind x) (parts n v ++ rest) e).after ∙ ap go (omega arith))

pub check_counter : (level v : ℕ) (words : List ℕ) (p : ℕ) (rest : List ℕ) → v < 2 ^ (8 * 2 ^ level) → drop p words ≡ parts (word_count level) v ++ rest
    → check_parts (word_count level) words p (2 ^ first_bits level) ≡ go (p + word_count level)
check_counter level v words p rest h e =
    let b = words_bits level in
    let n = word_count level - 1 in
    let s : word_count level ≡ suc n = omega arith in
    let l : v / 2 ^ (24 * n) < 2 ^ first_bits level = shr_lt (first_bits level) (24 * n) (rw b.1 h) in
    rw s (check_value n v words p rest (2 ^ first_bits level) (rw s at e) (omega (arith, l, mod-le (v / 2 ^ (24 * n)) (2 ^ 24))))
