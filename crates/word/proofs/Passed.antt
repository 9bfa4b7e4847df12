-- What a test that was passed says of the word.
use mathlib.Core.Path.{◌≡◌, sym, ap, ap₂, ◌∙◌}
use mathlib.Core.Bool.{Bool, true}
use mathlib.Core.List.{List, ◌∷◌}
use Prim.Native.Nat.{ℕ, ◌+◌, ◌*◌, ◌/◌, ◌%◌, ◌^◌, ◌<◌}
use native.Mathlib.Numerals.{add-one}
use native.Mathlib.Omega.{arith}
use borrow.Author.Tests.{eqb-true, eqb-false, ltb-true}
use borrow.Table.Steps.{cases}
use lib.Dec.{eqb, ltb}
use lib.ListN.{length, get_or, drop}
use lib.Seq.{drop-cons}
use Rattle.answer.specs.Numbers.{bad_payload}
use Rattle.word.specs.Step.{Step}
use Rattle.word.specs.Word.{go, next, payload, is_due, tested, below}
use Rattle.word.proofs.Laws.{both}

-- a step by its status 0
pub goes : (s : Step) → s.status ≡ 0 → s ≡ go s.position
goes s e = ap (λ (z : ℕ). record { status = z; position = s.position }) e

-- a test that was passed, and the tests after it
pub record Passed (s : Step) (f : ℕ → Step) (q : ℕ) : Type 0 where
  pub here : s ≡ go s.position
  pub after : f s.position ≡ go q

pub passed : (s : Step) (f : ℕ → Step) (q : ℕ) → next s f ≡ go q → Passed s f q
unfolding next
passed s f q e =
    cases (eqb s.status 0)
    (λ t. record { here = goes s (eqb-true s.status 0 t); after = rw t at e })
    (λ t. absurd (eqb-false s.status 0 t (ap (λ (x : Step). x.status) (rw t at e))))

-- a word that has passed its test: its kind and its payload, and the position after it
pub record Word (words : List ℕ) (p kind : ℕ) (holds : Bool) (q : ℕ) : Type 0 where
  pub true_of : holds ≡ true
  pub position : q ≡ p + 1
  pub inside : p < length words
  pub is : drop p words ≡ (kind * 2 ^ 28 + payload words p) ∷ drop (p + 1) words

due_is : (words : List ℕ) (p kind : ℕ) → is_due words p kind ≡ true → (p < length words) × (drop p words ≡ (kind * 2 ^ 28 + payload words p) ∷ drop (p + 1) words)
unfolding is_due payload
due_is words p kind e =
    let t = both (ltb p (length words)) (eqb (get_or words p 0 / 2 ^ 28) kind) e in
    let l = ltb-true p (length words) t.0 in
    let k = eqb-true (get_or words p 0 / 2 ^ 28) kind t.1 in
    let x : get_or words p 0 ≡ kind * 2 ^ 28 + get_or words p 0 % 2 ^ 28 = omega arith in
    (l, drop-cons words p 0 l ∙ ap₂ (λ (y i : ℕ). y ∷ drop i words) x (sym (add-one p)))

pub tested_is : (words : List ℕ) (p kind : ℕ) (holds : Bool) (line q : ℕ) → 0 < line → tested words p kind holds line ≡ go q → Word words p kind holds q
unfolding tested
tested_is words p kind holds line q h e =
    cases (is_due words p kind)
    (λ t. cases holds
    (λ u. let d = due_is words p kind t in
    record { true_of = u; position = ap (λ (x : Step). x.position) (sym (rw (t, u) at e)); inside = d.0; is = d.1 })
    (λ u. absurd (omega (arith, ap (λ (x : Step). x.status) (rw (t, u) at e)))))
    (λ t. absurd (omega (arith, ap (λ (x : Step). x.status) (rw t at e))))

pub below_is : (words : List ℕ) (p kind limit q : ℕ) → below words p kind limit ≡ go q → Word words p kind (ltb (payload words p) limit) q
unfolding below
below_is words p kind limit q e = tested_is words p kind (ltb (payload words p) limit) bad_payload q (omega arith) e
