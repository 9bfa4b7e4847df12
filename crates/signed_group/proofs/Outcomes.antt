-- What an addition or a union of signed groups leaves: if accepted, the encoding of a block whose counters hold their values; if
-- refused, the group as it was; and eight count bytes.
use mathlib.Core.Path.{◌≡◌, refl, ap, ◌∙◌}
use mathlib.Core.Bool.{Bool, true, false, cond}
use Prim.Native.Nat.{ℕ, ◌%◌, ◌<◌}
use native.Mathlib.Omega.{arith}
use borrow.Author.Tests.{eqb-true, eq-eqb}
use lib.Dec.{eqb}
use lib.IntN.{ℤ}
use lib.ListN.{length}
use Rattle.little_endian.specs.Bytes.{number}
use Rattle.group_block.specs.Block.{BlockOf, cap, Fits}
use Rattle.group_block.specs.Sum.{SumOf, fits, over, add, unite}
use Rattle.group_block.proofs.Adding.{Sound, add_sound}
use Rattle.group.specs.declared.Group.{Group}
use Rattle.group.specs.Results.{Outcome}
use Rattle.group.specs.Group.{encode, unchanged, settle}
use Rattle.group.proofs.Outcomes.{settle_eight}
use Rattle.signed_block.specs.Signed.{signed, times_block}
use Rattle.signed_group.specs.Group.{decode, bad_group, bad_pair, added, combined}
use Rattle.signed_group.proofs.Laws.{decode_encode, encode_good, decode_fits, united_sound}

-- a sum that is a block, and the group that encodes it
pub record Left (x : SumOf signed 3) (g : Group) : Type 0 where
  pub block : BlockOf signed 3
  pub sum_is : x ≡ fits block
  pub holds : Fits block
  pub group_is : g ≡ encode block

-- which stands for the block and is refused by no line
pub left_block : {x : SumOf signed 3} {g : Group} (l : Left x g) → decode g ≡ l.block
left_block l = ap decode l.group_is ∙ decode_encode l.block l.holds

pub left_good : {x : SumOf signed 3} {g : Group} → Left x g → bad_group g ≡ 0
left_good l = ap bad_group l.group_is ∙ encode_good l.block l.holds

-- a call's outcome, by the line that refuses it and by the sum
abbrev call : ℕ → Group → SumOf signed 3 → Outcome
call s g x = cond (eqb s 0) (settle g x) (unchanged s g)

settle_accepted : (g : Group) (x : SumOf signed 3) → Sound x → (settle g x).status ≡ 0 → Left x (settle g x).group
unfolding settle Sound
settle_accepted g (fits b) f e = record { block = b; sum_is = refl; holds = f; group_is = refl }
settle_accepted g (over s) f e = absurd (omega arith)

settle_refused : (g : Group) (x : SumOf signed 3) → ((settle g x).status ≡ 0 → ⊥) → (settle g x).group ≡ g
unfolding settle
settle_refused g (fits b) n = absurd (n refl)
settle_refused g (over s) n = refl

module _ (s : ℕ) (g : Group) (x : SumOf signed 3) where
  call_clean : (call s g x).status ≡ 0 → s ≡ 0
  call_clean = go (eqb s 0) refl
    where
      go : (t : Bool) → eqb s 0 ≡ t → (cond t (settle g x) (unchanged s g)).status ≡ 0 → s ≡ 0
      go true t e = eqb-true s 0 t
      go false t e = e

  call_accepted : Sound x → (call s g x).status ≡ 0 → (s ≡ 0) × Left x (call s g x).group
  call_accepted f e =
      let z = call_clean e in
      rw (eq-eqb s 0 z) (z, settle_accepted g x f (rw (eq-eqb s 0 z) at e))

  call_refused : ((call s g x).status ≡ 0 → ⊥) → (call s g x).group ≡ g
  call_refused = go (eqb s 0)
    where
      go : (t : Bool) → ((cond t (settle g x) (unchanged s g)).status ≡ 0 → ⊥) → (cond t (settle g x) (unchanged s g)).group ≡ g
      go true n = settle_refused g x n
      go false n = refl

  call_eight : length g.counts ≡ 8 → length (call s g x).group.counts ≡ 8
  call_eight h = go (eqb s 0)
    where
      go : (t : Bool) → length (cond t (settle g x) (unchanged s g)).group.counts ≡ 8
      go true = settle_eight g x h
      go false = h

-- an addition
module _ (g : Group) (slot : ℕ) (a : ℤ) where
  pub added_accepted : number g.counts < cap 3 → (added g slot a).status ≡ 0 → (bad_group g ≡ 0) × Left (add (decode g) (slot % 8) a) (added g slot a).group
  unfolding added
  added_accepted h e =
      call_accepted (bad_group g) g (add (decode g) (slot % 8) a) (add_sound (decode g) (slot % 8) a (decode_fits g h)) e

  pub added_same : ((added g slot a).status ≡ 0 → ⊥) → (added g slot a).group ≡ g
  unfolding added
  added_same n = call_refused (bad_group g) g (add (decode g) (slot % 8) a) n

  pub added_eight : length g.counts ≡ 8 → length (added g slot a).group.counts ≡ 8
  unfolding added
  added_eight h = call_eight (bad_group g) g (add (decode g) (slot % 8) a) h

-- a source times a sign united with a target
module _ (minus : Bool) (g h : Group) where
  pub combined_clean : (combined minus g h).status ≡ 0 → bad_pair g h ≡ 0
  unfolding combined
  combined_clean e = call_clean (bad_pair g h) g (unite (decode g) (times_block minus (decode h))) e

  pub combined_accepted : number g.counts < cap 3 → number h.counts < cap 3 → (combined minus g h).status ≡ 0
      → (bad_pair g h ≡ 0) × Left (unite (decode g) (times_block minus (decode h))) (combined minus g h).group
  unfolding combined
  combined_accepted k k' e = call_accepted (bad_pair g h) g (unite (decode g) (times_block minus (decode h))) (united_sound minus g h k k') e

  pub combined_same : ((combined minus g h).status ≡ 0 → ⊥) → (combined minus g h).group ≡ g
  unfolding combined
  combined_same n = call_refused (bad_pair g h) g (unite (decode g) (times_block minus (decode h))) n

  pub combined_eight : length g.counts ≡ 8 → length (combined minus g h).group.counts ≡ 8
  unfolding combined
  combined_eight k = call_eight (bad_pair g h) g (unite (decode g) (times_block minus (decode h))) k
