-- What follows for a caller from a call's result.
use mathlib.Core.Path.{◌≡◌, refl, sym, ap, ◌∙◌}
use mathlib.Core.Bool.{Bool, true, false, cond}
use mathlib.Core.List.{List}
use Prim.Native.Nat.{ℕ}
use native.Mathlib.Omega.{arith}
use Rattle.std.specs.Prelude.{Some, None, Result, Ok, Err}
use Rattle.std.specs.Result.{result_unwrap_or}
use Rattle.answer.specs.declared.Answer.{Answer}
use Rattle.answer.specs.declared.Refusal.{Refusal}
use Rattle.answer.specs.Answers.{told}
use Rattle.answer.specs.Refusals.{number, status}
use Rattle.answer.proofs.Refusals.{positive}
use Rattle.group_block.specs.declared.Counter.{Counter}
use Rattle.group.specs.declared.Group.{Group}
use Rattle.group.specs.declared.Kept.{Kept}
use Rattle.group.specs.Results.{Reading, Outcome, reading_of, outcome_of}
use Rattle.group.specs.Group.{read, added, holds}
use Rattle.group.specs.Stored.{kept}
use Rattle.group.proofs.Laws.{added_held}

-- a refusal's number is not 0, which says that nothing is refused
number_some : (r : Refusal) → number r ≡ 0 → ⊥
number_some r e = absurd (omega (arith, positive r))

-- a counter that was read, or why not
pub record IsRead (g : Group) (slot : ℕ) (c : Counter) : Type 0 where
  pub accepted : (read g slot).status ≡ 0
  pub value : c.value ≡ (read g slot).value
  pub level : c.level ≡ (read g slot).level

pub read_ok : (g : Group) (slot : ℕ) (c : Counter) → reading_of (Ok c) ≡ read g slot → IsRead g slot c
read_ok g slot c e = record {
  accepted = sym (ap (λ (r : Reading). r.status) e);
  value = ap (λ (r : Reading). r.value) e;
  level = ap (λ (r : Reading). r.level) e;
}

pub record IsUnread (g : Group) (slot : ℕ) (r : Refusal) : Type 0 where
  pub refused : number r ≡ (read g slot).status
  pub some : (read g slot).status ≡ 0 → ⊥
  pub value : (read g slot).value ≡ 0
  pub level : (read g slot).level ≡ 0

pub read_err : (g : Group) (slot : ℕ) (r : Refusal) → reading_of (Err r) ≡ read g slot → IsUnread g slot r
read_err g slot r e =
    let s = ap (λ (x : Reading). x.status) e in record {
      refused = s;
      some = λ z. number_some r (s ∙ z);
      value = sym (ap (λ (x : Reading). x.value) e);
      level = sym (ap (λ (x : Reading). x.level) e);
    }

-- a group that an addition, a change or a union left, or why it left none; o is the outcome
pub record IsLeft (o : Outcome) (h : Group) : Type 0 where
  pub accepted : o.status ≡ 0
  pub group : h ≡ o.group

pub outcome_ok : (g : Group) (o : Outcome) (h : Group) → outcome_of g (Ok h) ≡ o → IsLeft o h
outcome_ok g o h e = record { accepted = sym (ap (λ (x : Outcome). x.status) e); group = ap (λ (x : Outcome). x.group) e }

pub record IsRefused (g : Group) (o : Outcome) (r : Refusal) : Type 0 where
  pub refused : number r ≡ o.status
  pub some : o.status ≡ 0 → ⊥
  pub group : g ≡ o.group

pub outcome_err : (g : Group) (o : Outcome) (r : Refusal) → outcome_of g (Err r) ≡ o → IsRefused g o r
outcome_err g o r e =
    let s = ap (λ (x : Outcome). x.status) e in record { refused = s; some = λ z. number_some r (s ∙ z); group = ap (λ (x : Outcome). x.group) e }

-- a value or why there is none; a is the answer
pub record IsAnswered (a : Answer) (v : ℕ) : Type 0 where
  pub accepted : a.status ≡ 0
  pub value : v ≡ a.value

pub answer_ok : (a : Answer) (v : ℕ) → told (Ok v) ≡ a → IsAnswered a v
unfolding told
answer_ok a v e = record { accepted = sym (ap (λ (x : Answer). x.status) e); value = ap (λ (x : Answer). x.value) e }

pub record IsUnanswered (a : Answer) (r : Refusal) : Type 0 where
  pub refused : number r ≡ a.status
  pub some : a.status ≡ 0 → ⊥
  pub value : a.value ≡ 0

pub answer_err : (a : Answer) (r : Refusal) → told (Err r) ≡ a → IsUnanswered a r
unfolding told
answer_err a r e =
    let s = ap (λ (x : Answer). x.status) e in record { refused = s; some = λ z. number_some r (s ∙ z); value = sym (ap (λ (x : Answer). x.value) e) }

-- a status of 0 or a refusal's
pub status_ok : {A : Type 0} (v : A) (n : ℕ) → status (Ok v) ≡ n → n ≡ 0
unfolding status
status_ok v n e = sym e

pub record IsStatus (n : ℕ) (r : Refusal) : Type 0 where
  pub refused : number r ≡ n
  pub some : n ≡ 0 → ⊥

pub status_err : (A : Type 0) (r : Refusal) (n : ℕ) → status {A = A} (Err r) ≡ n → IsStatus n r
unfolding status
status_err A r n e = record { refused = e; some = λ z. number_some r (e ∙ z) }

-- an addition in place
module _ (g : Group) (slot amount : ℕ) where
  pub record IsKept (k : Kept) : Type 0 where
    pub held : holds g slot amount ≡ true
    pub counts : k.counts ≡ (added g slot amount).group.counts
    pub value : k.value ≡ (read (added g slot amount).group slot).value

  pub kept_ok : (k : Kept) → IsKept k → Some k ≡ kept g slot amount
  unfolding kept
  kept_ok k i = rw i.held (ap (λ (x : List ℕ). Some (record { counts = x; value = k.value })) i.counts ∙ ap (λ (x : ℕ). Some (record { counts = (added g slot amount).group.counts; value = x })) i.value)

  pub kept_none : holds g slot amount ≡ false → None ≡ kept g slot amount
  unfolding kept
  kept_none h = rw h

  pub not_kept : None ≡ kept g slot amount → holds g slot amount ≡ false
  unfolding kept
  not_kept = go (holds g slot amount) _
    where
      go : (b : Bool) (k : Kept) → None ≡ cond b (Some k) None → b ≡ false
      go true k e = cc
      go false k e = refl

  pub kept_some : (k : Kept) → Some k ≡ kept g slot amount → IsKept k
  unfolding kept
  kept_some k e = go (holds g slot amount) refl e
    where
      go : (b : Bool) → holds g slot amount ≡ b
          → Some k ≡ cond b (Some (record { counts = (added g slot amount).group.counts; value = (read (added g slot amount).group slot).value })) None
          → IsKept k
      go true h e = let same : k ≡ record { counts = (added g slot amount).group.counts; value = (read (added g slot amount).group slot).value } = cc in record { held = h; counts = ap (λ (x : Kept). x.counts) same; value = ap (λ (x : Kept). x.value) same }
      go false h e = cc

-- the group that an addition or a union left, or the one that was there
pub group_or : (g : Group) (r : Result Group Refusal) → result_unwrap_or r g ≡ (outcome_of g r).group
group_or g (Ok h) = refl
group_or g (Err r) = refl

-- the group with the count bytes of an addition in place is the one that the addition leaves
pub added_kept : (g : Group) (slot amount : ℕ) (k : Kept) → IsKept g slot amount k
    → added g slot amount ≡ record { status = 0; group = record { counts = k.counts; merge = g.merge } }
added_kept g slot amount k i =
    added_held g slot amount i.held ∙ ap (λ (l : List ℕ). record { status = 0; group = record { counts = l; merge = g.merge } }) (sym i.counts)

pub kept_added : (g : Group) (slot amount : ℕ) (k : Kept) → kept g slot amount ≡ Some k
    → record { status = 0; group = record { counts = k.counts; merge = g.merge } } ≡ added g slot amount
kept_added g slot amount k e = sym (added_kept g slot amount k (kept_some g slot amount k (sym e)))
