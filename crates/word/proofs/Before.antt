-- A test looks at no word past its own: with the words before a position alone it does the same, or finds the next one missing.
use mathlib.Core.Path.{◌≡◌, refl, ap, ◌∙◌}
use mathlib.Core.Bool.{Bool, true, false}
use mathlib.Core.List.{List}
use Prim.Native.Nat.{ℕ, ◌%◌, ◌^◌, ◌≤◌, ◌<◌}
use native.Mathlib.Decide.{dec_lt}
use native.Mathlib.Omega.{arith}
use borrow.Author.Tests.{eqb-true, eqb-false, lt-ltb, le-ltb}
use borrow.Table.Steps.{cases}
use lib.Dec.{eqb, ltb}
use lib.ListN.{length, take, length-take}
use lib.Seq.{get_or-take}
use Rattle.answer.specs.Numbers.{bad_payload, bad_word}
use Rattle.word.specs.Step.{Step}
use Rattle.word.specs.Word.{go, stop, next, payload, is_due, tested, below}
use Rattle.word.proofs.Laws.{due_in}
use Rattle.word.proofs.Places.{Ahead}

pub next_same : (s t : Step) (f g : ℕ → Step) → s ≡ t → f t.position ≡ g t.position → next s f ≡ next t g
unfolding next
next_same s t f g e h = rw (e, h)

-- a test of all n words, from position p on, and the same of the words before position q
pub record Cut (n q p : ℕ) (s t : Step) : Type 0 where
  pub ahead : Ahead n p s
  pub same : s.status ≡ 0 → s.position ≤ q → t ≡ s
  pub ends : (s.status ≡ 0 → ⊥) → s.position ≡ q → t ≡ stop bad_word q

pub cut_go : (n q p : ℕ) → Cut n q p (go p) (go p)
cut_go n q p = record { ahead = record { forward = omega arith; inside = λ h. h }; same = λ e h. refl; ends = λ m h. absurd (m refl) }

pub next_cut : (n q p : ℕ) (s t : Step) (f g : ℕ → Step) → Cut n q p s t → ((r : ℕ) → Ahead n r (f r))
    → (s.status ≡ 0 → s.position ≤ q → Cut n q s.position (f s.position) (g s.position)) → Cut n q p (next s f) (next t g)
unfolding next
next_cut n q p s t f g c w d =
    cases (eqb s.status 0)
    (λ u.
    let z = eqb-true s.status 0 u in
    let y = (w s.position).forward in
    let x = c.ahead.forward in
    rw u (record {
      ahead = record { forward = omega arith; inside = λ h. (w s.position).inside (c.ahead.inside h) };
      same = λ e h. rw (c.same z (omega arith), u) ((d z (omega arith)).same e h);
      ends = λ m h. rw (c.same z (omega arith), u) ((d z (omega arith)).ends m h);
    }))
    (λ u. rw u (record {
      ahead = c.ahead;
      same = λ e h. absurd (eqb-false s.status 0 u e);
      ends = λ m h. rw (c.ends m h);
    }))

module _ (words : List ℕ) (n : ℕ) where
  abbrev front : List ℕ
  front = take n words

  pub payload_same : (p : ℕ) → p < n → payload front p ≡ payload words p
  unfolding payload
  payload_same p h = ap (λ (x : ℕ). x % 2 ^ 28) (get_or-take n words p 0 h)

  pub due_same : (p kind : ℕ) → p < n → is_due front p kind ≡ is_due words p kind
  unfolding is_due
  due_same p kind h =
      elim (dec_lt p (length words)) [
        | yes l ↦ rw (lt-ltb p (length front) (omega (arith, length-take n words)), lt-ltb p (length words) l, get_or-take n words p 0 h)
        | no l ↦ rw (le-ltb p (length front) (omega (arith, length-take n words)), le-ltb p (length words) (omega arith))
      ]

  pub none_due : (p kind : ℕ) → n ≤ p → is_due front p kind ≡ false
  unfolding is_due
  none_due p kind h = rw (le-ltb p (length front) (omega (arith, length-take n words)))

  pub tested_same : (p kind line : ℕ) (h i : Bool) → p < n → i ≡ h → tested front p kind i line ≡ tested words p kind h line
  unfolding tested
  tested_same p kind line h i l e = rw (due_same p kind l, e)

  pub below_same : (p kind limit : ℕ) → p < n → below front p kind limit ≡ below words p kind limit
  unfolding below
  below_same p kind limit l = tested_same p kind bad_payload (ltb (payload words p) limit) (ltb (payload front p) limit) l (ap (λ (x : ℕ). ltb x limit) (payload_same p l))

  pub tested_cut : (p kind line : ℕ) (h i : Bool) → 0 < line → (p < n → i ≡ h) → Cut (length words) n p (tested words p kind h line) (tested front p kind i line)
  unfolding tested
  tested_cut p kind line h i l f =
      cases (is_due words p kind)
      (λ t. cases h
      (λ u.
      let d = due_in words p kind t in
      rw (t, u) (record {
        ahead = record { forward = omega arith; inside = λ k. omega arith };
        same = λ e k. let x : i ≡ true = f (omega arith) ∙ u in rw (due_same p kind (omega arith), t, x);
        ends = λ m k. absurd (m refl);
      }))
      (λ u. rw (t, u) (missing p line l (tested front p kind i line) (none p kind i line))))
      (λ t. rw t (missing p bad_word (omega arith) (tested front p kind i line) (none p kind i line)))
    where
      -- the words before a position have no word at it
      none : (p kind : ℕ) (i : Bool) (line : ℕ) → p ≡ n → tested front p kind i line ≡ stop bad_word p
      none p kind i line e = rw (none_due p kind (omega arith))

      missing : (p line : ℕ) → 0 < line → (t : Step) → (p ≡ n → t ≡ stop bad_word p) → Cut (length words) n p (stop line p) t
      missing p line l t g = record {
        ahead = record { forward = omega arith; inside = λ k. k };
        same = λ e k. absurd (omega arith);
        ends = λ m k. g k ∙ ap (stop bad_word) k;
      }

  pub below_cut : (p kind limit : ℕ) → Cut (length words) n p (below words p kind limit) (below front p kind limit)
  unfolding below
  below_cut p kind limit =
      tested_cut p kind bad_payload (ltb (payload words p) limit) (ltb (payload front p) limit) (omega arith) (λ h. ap (λ (x : ℕ). ltb x limit) (payload_same p h))
