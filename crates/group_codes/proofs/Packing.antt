-- Layout codes of groups: packing and unpacking are inverse, and the codes are exactly the numbers below 26 and below 456,976.
use mathlib.Core.Path.{◌≡◌, refl, sym, ap, ◌∙◌}
use mathlib.Core.Bool.{Bool, true, false, cond, ◌&&◌}
use Prim.Native.Nat.{ℕ, zero, suc, ◌+◌, ◌*◌, ◌/◌, ◌%◌, ◌≤◌, ◌<◌}
use mathlib.Core.List.{List, [], ◌∷◌}
use native.Mathlib.Nat.{mod-eq_of_lt}
use native.Mathlib.Omega.{arith}
use native.Mathlib.Decide.{dec_lt}
use borrow.Author.Tests.{lt-ltb, le-ltb}
use lib.Dec.{ltb}
use lib.ListN.{length, get_or, length-map, get_or-map}
use Rattle.group_layout.specs.Layout.{layout, valid, bit, ones, marks}
use Rattle.group_layout.specs.Code.{layouts, merged_code, code, uncode}
use Rattle.group_layout.proofs.Laws.{layout_marks, marks_layout, valid_marks}
use Rattle.group_layout.proofs.Codes.{code_lt, uncode_code, code_uncode}
use Rattle.group.specs.Group.{valid_merge}
use Rattle.std.specs.Prelude.{Result, Ok, Err}
use Rattle.std.specs.Result.{IsOk}
use Rattle.answer.specs.declared.Refusal.{Refusal}
use Rattle.answer.specs.Refusals.{number}
use Rattle.answer.proofs.Refusals.{positive}
use Rattle.answer.specs.Answers as answers
use Rattle.answer.specs.Answers.{accepted, refused}
use Rattle.answer.specs.Numbers.{invalid_content, bad_payload}
use Rattle.group_codes.specs.Pack.{Unpacked, layouts_of, merge_code, code_merge, code_of_four, four_code, packed, four_merges, unpacked, unpacked_of}
use Rattle.group_codes.specs.Codes.{code_of, is_code, four_of, codes_of, merges_of}

-- how many numbers below n pass a test
pub count : (ℕ → Bool) → ℕ → ℕ
count p zero = 0
count p (suc n) = cond (p n) 1 0 + count p n

-- exactly 26 merge bytes are valid
pub valid_count : count valid_merge 256 ≡ 26
unfolding count valid ones
valid_count = refl

-- the layouts of one group are those of a block of level 3
pub layouts_three : layouts 3 ≡ layouts_of 1
unfolding layouts
layouts_three = refl

pub code_below : (m : ℕ) → merge_code m < 26
unfolding layouts
code_below m = code_lt (layout 3 m)

pub merge_code_lem : (m : ℕ) → valid_merge m ≡ true → code_merge (merge_code m) ≡ m
merge_code_lem m v = rw (uncode_code (layout 3 m)) (marks_layout 3 m v)

pub code_merge_lem : (c : ℕ) → c < 26 → (valid_merge (code_merge c) ≡ true) × (merge_code (code_merge c) ≡ c)
unfolding layouts
code_merge_lem c h = (valid_marks (uncode 3 c), rw (layout_marks (uncode 3 c)) (code_uncode 3 c h))

pub four_below : (a b c d : ℕ) → four_code a b c d < layouts_of 4
unfolding four_code
four_below a b c d = omega (arith, code_below a, code_below b, code_below c, code_below d)

-- four digits of base 26
record Digits (n w x y z : ℕ) : Type 0 where
  first : n / layouts_of 3 ≡ w
  second : n / layouts_of 2 % 26 ≡ x
  third : n / 26 % 26 ≡ y
  last : n % 26 ≡ z

digits : (w x y z : ℕ) → w < 26 → x < 26 → y < 26 → z < 26 → Digits (w * layouts_of 3 + x * layouts_of 2 + y * 26 + z) w x y z
digits w x y z hw hx hy hz = record { first = omega arith; second = omega arith; third = omega arith; last = omega arith }

-- what is packed unpacks to the same merge bytes
pub unpack_pack : (a b c d : ℕ) → valid_merge a ≡ true → valid_merge b ≡ true → valid_merge c ≡ true → valid_merge d ≡ true
    → unpacked (four_code a b c d) ≡ record { answer = accepted 0; merges = a ∷ b ∷ c ∷ d ∷ [] }
unfolding unpacked four_merges four_code
unpack_pack a b c d va vb vc vd =
    let q = digits (merge_code a) (merge_code b) (merge_code c) (merge_code d) (code_below a) (code_below b) (code_below c) (code_below d) in
    rw (
      lt-ltb (four_code a b c d) (layouts_of 4) (four_below a b c d),
      q.first,
      q.second,
      q.third,
      q.last,
      merge_code_lem a va,
      merge_code_lem b vb,
      merge_code_lem c vc,
      merge_code_lem d vd,
    )

-- a code below 456,976 unpacks to valid merge bytes that pack to it
pub pack_unpack : (c : ℕ) → c < layouts_of 4 → packed (code_merge (c / layouts_of 3)) (code_merge (c / layouts_of 2 % 26)) (code_merge (c / 26 % 26)) (code_merge (c % 26)) ≡ accepted c
unfolding packed four_code
pack_unpack c h =
    let p = code_merge_lem (c / layouts_of 3) (omega arith) in
    let q = code_merge_lem (c / layouts_of 2 % 26) (omega arith) in
    let r = code_merge_lem (c / 26 % 26) (omega arith) in
    let s = code_merge_lem (c % 26) (omega arith) in
    rw (p.0, q.0, r.0, s.0, p.1, q.1, r.1, s.1) (ap accepted (omega arith))

-- where nothing is merged the codes are 0
pub merge_none : code_merge 0 ≡ 0
unfolding uncode merged_code layouts marks ones
merge_none = refl

pub packed_none : (packed 0 0 0 0).value ≡ 0
unfolding packed four_code code merged_code layouts layout valid bit ones
packed_none = refl

pub packed_lt : (a b c d : ℕ) → (packed a b c d).value < layouts_of 4
unfolding packed
packed_lt a b c d = go (valid_merge a && valid_merge b && valid_merge c && valid_merge d)
  where
    go : (t : Bool) → (cond t (accepted (four_code a b c d)) (refused invalid_content)).value < layouts_of 4
    go true = four_below a b c d
    go false = omega arith

-- a code of a group by itself is that of a valid group's layout
pub code_is : (m c : ℕ) → c ≡ code_of m → c < layouts_of 1 → (valid_merge m ≡ true) × (code_merge c ≡ m)
code_is m c e h = go (valid_merge m) refl
  where
    go : (b : Bool) → valid_merge m ≡ b → (valid_merge m ≡ true) × (code_merge c ≡ m)
    go true v = (v, ap code_merge (e ∙ ap (λ (b : Bool). cond b (merge_code m) 26) v) ∙ merge_code_lem m v)
    go false v = let z : c ≡ 26 = e ∙ ap (λ (b : Bool). cond b (merge_code m) 26) v in absurd (omega arith)

-- the code of four groups by the codes of each
pub four_of_lem : (a b c d : ℕ) → (packed a b c d).value ≡ four_of (code_of a) (code_of b) (code_of c) (code_of d)
unfolding packed four_code four_of
four_of_lem a b c d =
    go (merge_code a) (merge_code b) (merge_code c) (merge_code d) (code_below a) (code_below b) (code_below c) (code_below d) (valid_merge a) (valid_merge b) (valid_merge c) (valid_merge d)
  where
    go : (w x y z : ℕ) → w < 26 → x < 26 → y < 26 → z < 26 → (p q r s : Bool)
        → (cond (p && q && r && s) (accepted (code_of_four w x y z)) (refused invalid_content)).value
        ≡ cond (is_code (cond p w 26) && is_code (cond q x 26) && is_code (cond r y 26) && is_code (cond s z 26))
        (code_of_four (cond p w 26) (cond q x 26) (cond r y 26) (cond s z 26)) 0
    go w x y z hw hx hy hz false q r s = refl
    go w x y z hw hx hy hz true false r s = rw (lt-ltb w 26 hw)
    go w x y z hw hx hy hz true true false s = rw (lt-ltb w 26 hw, lt-ltb x 26 hx)
    go w x y z hw hx hy hz true true true false = rw (lt-ltb w 26 hw, lt-ltb x 26 hx, lt-ltb y 26 hy)
    go w x y z hw hx hy hz true true true true = rw (lt-ltb w 26 hw, lt-ltb x 26 hx, lt-ltb y 26 hy, lt-ltb z 26 hz)

-- the merge bytes of groups by their codes
pub merge_at : (codes : List ℕ) (i : ℕ) → get_or (merges_of codes) i 0 ≡ code_merge (get_or codes i 0)
merge_at codes i = ap (get_or (merges_of codes) i) (sym merge_none) ∙ get_or-map (λ (c : ℕ). code_merge c) codes i 0

pub merges_length : (codes : List ℕ) → length (merges_of codes) ≡ length codes
merges_length codes = length-map codes (λ (c : ℕ). code_merge c)

pub codes_are : (c : ℕ) → merges_of (codes_of c) ≡ (unpacked c).merges
unfolding unpacked four_merges codes_of
codes_are c = go (ltb c (layouts_of 4))
  where
    go : (b : Bool)
        → merges_of (cond b (c / layouts_of 3 ∷ c / layouts_of 2 % layouts_of 1 ∷ c / layouts_of 1 % layouts_of 1 ∷ c % layouts_of 1 ∷ []) (0 ∷ 0 ∷ 0 ∷ 0 ∷ []))
        ≡ (cond {A = Unpacked} b (record { answer = accepted 0; merges = four_merges c }) (record { answer = refused bad_payload; merges = 0 ∷ 0 ∷ 0 ∷ 0 ∷ [] })).merges
    go true = refl
    go false = rw merge_none

-- the last merge byte of a code of one group
pub last_merge : (c : ℕ) → c < layouts_of 1 → get_or (unpacked c).merges 3 0 ≡ code_merge c
unfolding unpacked four_merges
last_merge c h = rw (lt-ltb c (layouts_of 4) (omega arith), mod-eq_of_lt {n = c} {m = 26} h)

pub four_small : (a b c d : ℕ) → a < 26 → b < 26 → c < 26 → d < 26 → (i : ℕ) → get_or (a ∷ b ∷ c ∷ d ∷ []) i 0 < 26
four_small a b c d p q r s zero = p
four_small a b c d p q r s (suc zero) = q
four_small a b c d p q r s (suc (suc zero)) = r
four_small a b c d p q r s (suc (suc (suc zero))) = s
four_small a b c d p q r s (suc (suc (suc (suc i)))) = omega arith

-- What follows for a caller from the result of unpacking a code: below 456,976 it has the merge bytes, else it is refused.
pub record IsUnpacked (c : ℕ) (merges : List ℕ) : Type 0 where
  pub below : c < layouts_of 4
  pub accepted : (unpacked c).answer.status ≡ 0
  pub merges_are : merges ≡ (unpacked c).merges

pub unpacked_ok : (c : ℕ) (merges : List ℕ) → unpacked_of (Ok merges) ≡ unpacked c → IsUnpacked c merges
unfolding unpacked
unpacked_ok c merges e =
    let a = ap (λ (u : Unpacked). u.answer.status) e in
    elim (dec_lt c (layouts_of 4)) [
      | yes h ↦ record { below = h; accepted = sym a; merges_are = ap (λ (u : Unpacked). u.merges) e }
      | no h ↦ absurd (let z : 0 ≡ bad_payload = rw (le-ltb c (layouts_of 4) (omega arith)) at a in omega arith)
    ]

pub record IsBadCode (c : ℕ) (r : Refusal) : Type 0 where
  pub past : layouts_of 4 ≤ c
  pub refused : number r ≡ (unpacked c).answer.status
  pub answer_is : answers.refused (number r) ≡ (unpacked c).answer
  pub merges_are : (unpacked c).merges ≡ 0 ∷ 0 ∷ 0 ∷ 0 ∷ []

pub unpacked_err : (c : ℕ) (r : Refusal) → unpacked_of (Err r) ≡ unpacked c → IsBadCode c r
unfolding unpacked
unpacked_err c r e =
    let a = ap (λ (u : Unpacked). u.answer.status) e in
    elim (dec_lt c (layouts_of 4)) [
      | yes h ↦ absurd (let z : number r ≡ 0 = rw (lt-ltb c (layouts_of 4) h) at a in omega (arith, positive r))
      | no h ↦ record {
        past = omega arith;
        refused = a;
        answer_is = ap (λ (u : Unpacked). u.answer) e;
        merges_are = sym (ap (λ (u : Unpacked). u.merges) e);
      }
    ]

-- a code of four groups is not refused
pub unpacks : (c : ℕ) (r : Result (List ℕ) Refusal) → c < layouts_of 4 → unpacked_of r ≡ unpacked c → IsOk r
unpacks c (Ok merges) h e = refl
unpacks c (Err r) h e = absurd (omega (arith, (unpacked_err c r e).past))

-- the last merge byte that a code of one group is unpacked to
pub last_unpacked : (c : ℕ) (merges : List ℕ) → c < layouts_of 1 → unpacked_of (Ok merges) ≡ unpacked c → get_or merges 3 0 ≡ code_merge c
last_unpacked c merges h e = ap (λ (u : Unpacked). get_or u.merges 3 0) e ∙ last_merge c h
