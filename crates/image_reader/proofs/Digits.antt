-- The words of a counter are its value's digits: they make the value again.
use mathlib.Core.Path.{◌≡◌, sym, ap, ap₂, ◌∙◌}
use mathlib.Core.List.{List, ◌++◌}
use Prim.Native.Nat.{ℕ, zero, suc, ◌+◌, ◌*◌, ◌/◌, ◌%◌, ◌^◌, ◌≤◌, ◌<◌}
use native.Mathlib.Nat.{add-zero, zero-add, mod-one, mod-eq_of_lt, mul-one, mul_assoc, mul-le-mul_left, add-mul, zero-mul}
use native.Mathlib.Omega.{arith}
use lib.ListN.{drop}
use lib.Pow.{pow-add, pow_mono, pow_pos, mod-pow-add}
use lib.Seq.{drop-drop, drop_at}
use Rattle.word.specs.Word.{payload}
use Rattle.image_format.specs.Image.{word, count_kind, parts, word_count}
use Rattle.image_format.specs.Read.{value_from}
use Rattle.image_format.proofs.Laws.{parts_length}
use Rattle.image_format.proofs.Fields.{words_bits}
use Rattle.image_group_checker.proofs.Digits.{here, payload_here, digit_lt}

pub power_step : (n : ℕ) → 2 ^ (24 * suc n) ≡ 2 ^ 24 * 2 ^ (24 * n)
power_step n = ap (λ (k : ℕ). 2 ^ k) (omega arith) ∙ pow-add 2 24 (24 * n)

pub value_digits : (n u v : ℕ) (words : List ℕ) (p : ℕ) (rest : List ℕ) → u * 2 ^ (24 * n) + v % 2 ^ (24 * n) < 2 ^ 64 → drop p words ≡ parts n v ++ rest
    → value_from n u words p ≡ u * 2 ^ (24 * n) + v % 2 ^ (24 * n)
unfolding value_from parts
value_digits zero u v words p rest h e = sym (ap₂ (λ (x y : ℕ). x + y) (mul-one u) (mod-one v) ∙ add-zero u)
value_digits (suc n) u v words p rest h e =
    let x = v / 2 ^ (24 * n) % 2 ^ 24 in
    let q = 2 ^ (24 * n) in
    let x< = digit_lt v n in
    let small : x < 2 ^ 28 = omega (arith, x<) in
    let a : u * 2 ^ (24 * suc n) ≡ u * 2 ^ 24 * q = ap (λ (z : ℕ). u * z) (power_step n) ∙ sym (mul_assoc u (2 ^ 24) q) in
    let t : u * 2 ^ 24 * 1 ≤ u * 2 ^ 24 * q = mul-le-mul_left {m = 1} {n = q} (u * 2 ^ 24) (pow_pos (24 * n)) in
    let f : 24 * suc n ≡ 24 + 24 * n = omega arith in
    let w : v % 2 ^ (24 * suc n) ≡ x * q + v % q = ap (λ (z : ℕ). v % 2 ^ z) f ∙ mod-pow-add v 24 (24 * n) in
    let d : (u * 2 ^ 24 + x) * q ≡ u * 2 ^ 24 * q + x * q = add-mul (u * 2 ^ 24) x q in
    let whole : (u * 2 ^ 24 + x) * q + v % q ≡ u * 2 ^ (24 * suc n) + v % 2 ^ (24 * suc n) = omega (arith, a, w, d) in
    let u< : u < 2 ^ 40 = omega (arith, a, t, h) in
    let m : u % 2 ^ 40 ≡ u = mod-eq_of_lt {n = u} {m = 2 ^ 40} u< in
    let y : payload words p % 2 ^ 24 ≡ x = ap (λ (z : ℕ). z % 2 ^ 24) (payload_here words p count_kind x (parts n v ++ rest) e small) ∙ mod-eq_of_lt {n = x} {m = 2 ^ 24} x< in
    rw (m, y)
    (value_digits n (u * 2 ^ 24 + x) v words (p + 1) rest (omega (arith, whole, h)) (here words p (word count_kind x) (parts n v ++ rest) e).after
    ∙ whole)

pub value_counter : (level v : ℕ) (words : List ℕ) (p : ℕ) (rest : List ℕ) → level ≤ 3 → v < 2 ^ (8 * 2 ^ level) → drop p words ≡ parts (word_count level) v ++ rest
    → value_from (word_count level) 0 words p ≡ v
value_counter level v words p rest l h e =
    let n = word_count level in
    let w = words_bits level in
    let b : v < 2 ^ (24 * n) = omega (arith, h, pow_mono {i = 8 * 2 ^ level} {j = 24 * n} (omega arith)) in
    let s : v < 2 ^ 64 = omega (arith, h, pow_mono {i = 8 * 2 ^ level} {j = 64} (omega (arith, pow_mono {i = level} {j = 3} l))) in
    let m : v % 2 ^ (24 * n) ≡ v = mod-eq_of_lt {n = v} {m = 2 ^ (24 * n)} b in
    let t : 0 * 2 ^ (24 * n) + v % 2 ^ (24 * n) ≡ v = rw (m, zero-mul (2 ^ (24 * n))) (zero-add v) in
    value_digits n 0 v words p rest (omega (arith, t, s)) e ∙ t

pub parts_after : (n v : ℕ) (words : List ℕ) (p : ℕ) (rest : List ℕ) → drop p words ≡ parts n v ++ rest → drop (p + n) words ≡ rest
parts_after n v words p rest e = sym (drop-drop n p words) ∙ ap (drop n) e ∙ drop_at (parts n v) rest n (parts_length n v)
