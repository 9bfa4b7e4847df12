-- What an addition or a union leaves: eight count bytes and, if accepted, a valid merge byte. And how an addition's status stands to a
-- reading's.
use mathlib.Core.Path.{◌≡◌, refl}
use mathlib.Core.Bool.{Bool, true, false, cond, ◌&&◌}
use Prim.Native.Nat.{ℕ, ◌%◌}
use native.Mathlib.Omega.{arith}
use lib.ListN.{length}
use Rattle.little_endian.proofs.Bytes.{bytes_length}
use Rattle.group_layout.specs.Layout.{valid}
use Rattle.group_block.specs.Block.{number_of, counter_at}
use Rattle.group_block.specs.Kind.{Kind}
use Rattle.group_block.specs.Sum.{SumOf, Sum, fits, over, add, unite}
use Rattle.group.specs.declared.Group.{Group}
use Rattle.answer.specs.Numbers.{invalid_content}
use Rattle.group.specs.Results.{Reading}
use Rattle.group.specs.Group.{decode, encode, settle, unchanged, read, reading, added, united_groups}
use Rattle.group.proofs.Laws.{encode_valid}

pub settle_eight : {K : Kind} (g : Group) (x : SumOf K 3) → length g.counts ≡ 8 → length (settle g x).group.counts ≡ 8
unfolding settle encode
settle_eight g (fits b) h = bytes_length 8 (number_of b)
settle_eight g (over s) h = h

pub settle_valid : {K : Kind} (g : Group) (x : SumOf K 3) → (settle g x).status ≡ 0 → valid 3 (settle g x).group.merge ≡ true
unfolding settle
settle_valid g (fits b) e = encode_valid b
settle_valid g (over s) e = absurd (omega arith)

either_eight : (b : Bool) (g : Group) (x : Sum 3) → length g.counts ≡ 8 → length (cond b (settle g x) (unchanged invalid_content g)).group.counts ≡ 8
either_eight true g x h = settle_eight g x h
either_eight false g x h = h

either_valid : (b : Bool) (g : Group) (x : Sum 3) → (cond b (settle g x) (unchanged invalid_content g)).status ≡ 0
    → valid 3 (cond b (settle g x) (unchanged invalid_content g)).group.merge ≡ true
either_valid true g x e = settle_valid g x e
either_valid false g x e = absurd (omega arith)

pub added_eight : (g : Group) (slot amount : ℕ) → length g.counts ≡ 8 → length (added g slot amount).group.counts ≡ 8
unfolding added
added_eight g slot amount h = either_eight (valid 3 g.merge) g (add (decode g) (slot % 8) amount) h

pub added_valid : (g : Group) (slot amount : ℕ) → (added g slot amount).status ≡ 0 → valid 3 (added g slot amount).group.merge ≡ true
unfolding added
added_valid g slot amount e = either_valid (valid 3 g.merge) g (add (decode g) (slot % 8) amount) e

pub united_eight : (target source : Group) → length target.counts ≡ 8 → length (united_groups target source).group.counts ≡ 8
unfolding united_groups
united_eight target source h = either_eight (valid 3 target.merge && valid 3 source.merge) target (unite (decode target) (decode source)) h

-- a counter is read of what an addition leaves
pub read_added : (g : Group) (slot amount : ℕ) → (added g slot amount).status ≡ 0 → (read (added g slot amount).group slot).status ≡ 0
unfolding read reading
read_added g slot amount e = rw (added_valid g slot amount e)

pub united_valid : (target source : Group) → (united_groups target source).status ≡ 0 → valid 3 (united_groups target source).group.merge ≡ true
unfolding united_groups
united_valid target source e = either_valid (valid 3 target.merge && valid 3 source.merge) target (unite (decode target) (decode source)) e

-- the statuses of an addition and of a reading of the same slot: both refuse the merge byte, or only the addition may refuse, with 6
pub data Statuses : ℕ → ℕ → Type 0 where
  neither : Statuses 0 0
  full : Statuses 6 0
  invalid : Statuses 5 5

settle_status : (g : Group) (x : Sum 3) → Statuses (settle g x).status 0
unfolding settle
settle_status g (fits b) = neither
settle_status g (over s) = full

either_status : (b : Bool) (g : Group) (x : Sum 3) (r : Reading) → r.status ≡ 0
    → Statuses (cond b (settle g x) (unchanged invalid_content g)).status (cond b r (record { status = invalid_content; value = 0; level = 0 })).status
either_status true g x r e = rw e (settle_status g x)
either_status false g x r e = invalid

pub added_read : (g : Group) (slot amount : ℕ) → Statuses (added g slot amount).status (read g slot).status
unfolding added read reading
added_read g slot amount =
    either_status (valid 3 g.merge) g (add (decode g) (slot % 8) amount) (reading (counter_at (decode g) (slot % 8))) refl
