-- Each refused call of the table gives its number, and together they leave the meter and its traffic as they were; and what calls give
-- on damaged contents.
use mathlib.Core.Path.{◌≡◌, refl, ◌∙◌}
use mathlib.Core.Bool.{true, false, ◌&&◌, and-eq-true_iff}
use mathlib.Core.List.{List, [], ◌∷◌}
use Prim.Native.Nat.{ℕ}
use native.Mathlib.Omega.{arith}
use borrow.Author.Tests.{eqb-true, ne_eqb, ltb-true}
use lib.Dec.{eqb, ltb}
use Rattle.signed_claim.specs.Calls.{Calls, then, traffic, run, done, Faithful}
use Rattle.signed_claim.proofs.Theorem.{kept, goes_on_refused}
use Rattle.signed_cases.specs.Refusals.{holding, Refusal, AllRefuse, refusals, Unmoved, Damaged, AllGive, damaged}
use Rattle.signed_cases.proofs.Computed.{all_refuse, all_give, held, computed}

by_test : (memory : List ℕ) (rs : List Refusal) → all_refuse memory rs ≡ true → AllRefuse memory rs
unfolding all_refuse
by_test memory [] e = tt
by_test memory (r ∷ rs) e =
    let s = (done 1 32 r.d r.w r.call memory).status in
    let p = (and-eq-true_iff (eqb s r.number) (ltb 0 r.number && all_refuse memory rs)).0 e in
    let q = (and-eq-true_iff (ltb 0 r.number) (all_refuse memory rs)).0 p.1 in
    ((eqb-true s r.number p.0, ltb-true 0 r.number q.0), by_test memory rs q.1)

-- refused calls leave a list's memory and traffic as they were
all_unmoved : (rs : List Refusal) (calls : Calls) → Faithful 1 32 calls → AllRefuse (run 1 32 calls) rs → Unmoved calls rs
unfolding run traffic
all_unmoved [] calls f h = record { gives = tt; faithful = f; memory = refl; pairs = refl }
all_unmoved (r ∷ rs) calls f h =
    let s = (done 1 32 r.d r.w r.call (run 1 32 calls)).status in
    let n : eqb s 0 ≡ false = ne_eqb s 0 (λ z. omega (arith, h.0.0, h.0.1)) in
    let k = kept 1 32 r.d r.w r.call (run 1 32 calls) n in
    let t = all_unmoved rs (then calls r.d r.w r.call false) (goes_on_refused 1 32 r.d r.w calls r.call f n) (rw k h.1) in
    record { gives = h; faithful = t.faithful; memory = t.memory ∙ k; pairs = t.pairs }

pub refusals_meet : Unmoved holding refusals
refusals_meet = all_unmoved refusals holding computed.holding_faithful (rw computed.holds (by_test held refusals computed.refuse))

all_give_lem : (xs : List Damaged) → all_give xs ≡ true → AllGive xs
unfolding all_give
all_give_lem [] e = tt
all_give_lem (x ∷ xs) e =
    let s = (done x.d 32 x.d 32 x.call x.content).status in
    let p = (and-eq-true_iff (eqb s x.number) (all_give xs)).0 e in
    (eqb-true s x.number p.0, all_give_lem xs p.1)

pub damaged_give : AllGive damaged
damaged_give = all_give_lem damaged computed.give
