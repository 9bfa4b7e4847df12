-- What the code's results come to.
use mathlib.Core.Path.{◌≡◌, sym, ap, ap₂, ◌∙◌}
use mathlib.Core.Bool.{Bool}
use Prim.Native.Nat.{ℕ, ◌%◌}
use native.Mathlib.Omega.{arith}
use borrow.Author.Tests.{eq-eqb, ne_eqb}
use lib.IntN.{ℤ}
use Rattle.std.specs.Prelude.{Result, Ok, Err}
use Rattle.std.specs.Result.{result_unwrap_or}
use Rattle.answer.specs.declared.Refusal.{Refusal}
use Rattle.answer.specs.declared.Refusal.TheVariants.{CounterFull}
use Rattle.answer.specs.Refusals.{number}
use Rattle.answer.proofs.Refusals.{positive}
use Rattle.group_layout.specs.Layout.{layout, level_of}
use Rattle.group_block.specs.Block.{counter_value}
use Rattle.group_block.specs.declared.Packed.{Packed}
use Rattle.group_block.specs.Sum.{SumOf}
use Rattle.group.specs.declared.Group.{Group}
use Rattle.group.specs.Group.{unchanged, settle}
use Rattle.group.specs.Results.{Outcome, outcome_of}
use Rattle.group.specs.Stored.{stored}
use Rattle.signed_number.specs.declared.Signed.{Signed}
use Rattle.signed_number.specs.Number.{signed_of}
use Rattle.signed_block.specs.Signed.{signed}
use Rattle.signed_block.specs.Passed.{signed_summed}
use Rattle.signed_words.specs.declared.Counter.{Counter}
use Rattle.signed_group.specs.Group.{decode, bad_group, bad_pair, read, added, combined}
use Rattle.signed_group.specs.Results.{reading_of}
use Rattle.signed_group.proofs.Laws.{stored_is, full_is, added_refused, combined_refused}

-- a refusal's number is not 0, which says that nothing is refused
some : (r : Refusal) (n : ℕ) → number r ≡ n → n ≡ 0 → ⊥
some r n e z = absurd (omega (arith, positive r))

module _ (g : Group) (slot : ℕ) where
  pub read_refused : (r : Refusal) → number r ≡ bad_group g → reading_of (Err r) ≡ read g slot
  unfolding read
  read_refused r e = rw (ne_eqb (bad_group g) 0 (some r (bad_group g) e), e)

  pub read_accepted : (c : Counter) → bad_group g ≡ 0 → c.value ≡ signed_of (counter_value (decode g) (slot % 8)) → c.level ≡ level_of (layout 3 g.merge) (slot % 8)
      → reading_of (Ok c) ≡ read g slot
  unfolding read
  read_accepted c z v l = rw (eq-eqb (bad_group g) 0 z) (ap₂ (λ (v : Signed) (l : ℕ). record { status = 0; value = v; level = l }) v l)

  pub addition_refused : (a : ℤ) (r : Refusal) → number r ≡ bad_group g → outcome_of g (Err r) ≡ added g slot a
  addition_refused a r e = ap (λ (n : ℕ). unchanged n g) e ∙ sym (added_refused g slot a (some r (bad_group g) e))

pub status_refused : (minus : Bool) (g h : Group) (r : Refusal) → number r ≡ bad_pair g h → number r ≡ (combined minus g h).status
status_refused minus g h r e = e ∙ sym (ap (λ (o : Outcome). o.status) (combined_refused minus g h (some r (bad_pair g h) e)))

-- the group that an addition or a union left
module _ (g : Group) (x : SumOf signed 3) where
  pub outcome_stored : (p : Packed) → Ok p ≡ signed_summed x → (h : Group) → h ≡ (stored p).group → outcome_of g (Ok h) ≡ settle g x
  unfolding stored
  outcome_stored p e h i = ap (λ (k : Group). record { status = 0; group = k }) i ∙ stored_is g x p e

  pub outcome_full : (s : Signed) → Err s ≡ signed_summed x → outcome_of g (Err CounterFull) ≡ settle g x
  unfolding number
  outcome_full s e = full_is g x s e

-- where none is left, the group as it was
pub left_of : (g : Group) (r : Result Group Refusal) (o : Outcome) → outcome_of g r ≡ o → result_unwrap_or r g ≡ o.group
left_of g (Ok h) o e = ap (λ (x : Outcome). x.group) e
left_of g (Err r) o e = ap (λ (x : Outcome). x.group) e
