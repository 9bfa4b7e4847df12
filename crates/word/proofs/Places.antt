-- Where tests end: a step's position is the index of a word that is there, or the number of words.
use mathlib.Core.Path.{◌≡◌, refl}
use mathlib.Core.Bool.{Bool, true, false, cond}
use mathlib.Core.List.{List}
use Prim.Native.Nat.{ℕ, ◌+◌, ◌≤◌, ◌<◌}
use native.Mathlib.Omega.{arith}
use borrow.Table.Steps.{cases}
use lib.Dec.{eqb, ltb}
use lib.ListN.{length}
use Rattle.answer.specs.Numbers.{bad_payload, bad_word}
use Rattle.word.specs.Step.{Step}
use Rattle.word.specs.Word.{go, stop, next, payload, is_due, tested, below}
use Rattle.word.proofs.Laws.{due_in}

-- a step inside so many words
abbrev pub In : ℕ → Step → Type 0
In n s = s.position ≤ n

pub tested_in : (words : List ℕ) (p kind : ℕ) (holds : Bool) (line : ℕ) → p ≤ length words → In (length words) (tested words p kind holds line)
unfolding tested
tested_in words p kind holds line h = due (is_due words p kind) refl
  where
    passed : (t : Bool) → p < length words → In (length words) (cond t (go (p + 1)) (stop line p))
    passed true l = omega arith
    passed false l = h

    due : (t : Bool) → is_due words p kind ≡ t → In (length words) (cond t (cond holds (go (p + 1)) (stop line p)) (stop bad_word p))
    due true e = passed holds (due_in words p kind e)
    due false e = h

pub below_in : (words : List ℕ) (p kind limit : ℕ) → p ≤ length words → In (length words) (below words p kind limit)
unfolding below
below_in words p kind limit h = tested_in words p kind (ltb (payload words p) limit) bad_payload h

pub next_in : (n : ℕ) (s : Step) (f : ℕ → Step) → In n s → ((q : ℕ) → q ≤ n → In n (f q)) → In n (next s f)
unfolding next
next_in n s f h k = test (eqb s.status 0)
  where
    test : (t : Bool) → In n (cond t (f s.position) s)
    test true = k s.position h
    test false = h

-- tests from position p on of n words: they do not go back, nor past the words
pub record Ahead (n p : ℕ) (s : Step) : Type 0 where
  pub forward : p ≤ s.position
  pub inside : p ≤ n → In n s

-- a test goes on by one word at most
pub tested_on : (words : List ℕ) (p kind : ℕ) (holds : Bool) (line : ℕ) → (tested words p kind holds line).position ≤ p + 1
unfolding tested
tested_on words p kind holds line = due (is_due words p kind)
  where
    passed : (t : Bool) → (cond t (go (p + 1)) (stop line p)).position ≤ p + 1
    passed true = omega arith
    passed false = omega arith

    due : (t : Bool) → (cond t (cond holds (go (p + 1)) (stop line p)) (stop bad_word p)).position ≤ p + 1
    due true = passed holds
    due false = omega arith

pub below_on : (words : List ℕ) (p kind limit : ℕ) → (below words p kind limit).position ≤ p + 1
unfolding below
below_on words p kind limit = tested_on words p kind (ltb (payload words p) limit) bad_payload

pub next_on : (n : ℕ) (s : Step) (f : ℕ → Step) → s.position ≤ n → (f s.position).position ≤ n → (next s f).position ≤ n
unfolding next
next_on n s f h k = test (eqb s.status 0)
  where
    test : (t : Bool) → (cond t (f s.position) s).position ≤ n
    test true = k
    test false = h

-- the number of a failed test is 8 or the line's; of tests one after another, that of one of them
pub tested_status : (words : List ℕ) (p kind : ℕ) (holds : Bool) (line : ℕ) (P : ℕ → Type 0) → P 0 → P line → P bad_word → P (tested words p kind holds line).status
unfolding tested
tested_status words p kind holds line P a b c = due (is_due words p kind)
  where
    passed : (t : Bool) → P (cond t (go (p + 1)) (stop line p)).status
    passed true = a
    passed false = b

    due : (t : Bool) → P (cond t (cond holds (go (p + 1)) (stop line p)) (stop bad_word p)).status
    due true = passed holds
    due false = c

pub next_status : (s : Step) (f : ℕ → Step) (P : ℕ → Type 0) → P s.status → ((q : ℕ) → P (f q).status) → P (next s f).status
unfolding next
next_status s f P a b = test (eqb s.status 0)
  where
    test : (t : Bool) → P (cond t (f s.position) s).status
    test true = b s.position
    test false = a

-- a test that is not passed ends at its own word
pub tested_at : (words : List ℕ) (p kind : ℕ) (holds : Bool) (line : ℕ) → ((tested words p kind holds line).status ≡ 0 → ⊥) → (tested words p kind holds line).position ≡ p
unfolding tested
tested_at words p kind holds line n =
    cases (is_due words p kind) (λ t. cases holds (λ u. absurd ((rw (t, u) at n) refl)) (λ u. rw (t, u))) (λ t. rw t)
