-- What a merge byte alone says of a group: the levels of its slots and the number of its words.
use mathlib.Core.Path.{◌≡◌, refl, ap}
use mathlib.Core.Bool.{true, false}
use Prim.Native.Nat.{ℕ, zero, suc, ◌+◌, ◌*◌, ◌%◌, ◌^◌, ◌≤◌, ◌<◌}
use native.Mathlib.Nat.{zero-mod, mod-one}
use native.Mathlib.Omega.{arith}
use borrow.Author.Tests.{eq-eqb, ne_eqb}
use lib.ListN.{replicate}
use Rattle.group.specs.declared.Group.{Group}
use Rattle.group.specs.Results.{Reading}
use Rattle.group.specs.Group.{valid_merge, read}
use Rattle.group.proofs.Changing.{zero_good}
use Rattle.group_fields.proofs.Readings.{none_merged_lem, level_most, level_by_merge, invalid_reading, plain_reading}
use Rattle.image_format.specs.Image.{word_count, level_at, is_first}
use Rattle.image_format.specs.Write.{slot_size, slots_size, group_size}
use Rattle.laws.proofs.Shifts.{one_shl}

-- the group with a merge byte and no counts
abbrev pub empty : ℕ → Group
empty m = record { counts = replicate 8 0; merge = m }

-- the level that is read of a slot depends on the merge byte alone
pub read_level : (g : Group) (k : ℕ) → (read g k).level ≡ level_at g.merge k
unfolding level_at
read_level g k = level_by_merge g (empty g.merge) k refl

-- slot 0 starts a counter
pub first_zero : (m : ℕ) → is_first m 0 ≡ true
unfolding is_first
first_zero m = eq-eqb (0 % 2 ^ level_at m 0) 0 (zero-mod (2 ^ level_at m 0))

pub level_at_le : (m k : ℕ) → level_at m k ≤ 3
unfolding level_at
level_at_le m k = level_most (empty m) k

-- the slot behind a counter, as the code finds it
pub behind_is : (m k level : ℕ) → level ≡ level_at m k → k + 1 * 2 ^ level % 2 ^ 64 ≡ k + 2 ^ level_at m k
behind_is m k level e = rw e (ap (λ (n : ℕ). k + n) (one_shl 64 (level_at m k) (omega (arith, level_at_le m k))))

-- whether slot k is the first of its counter, as the code finds it
pub first_here : (m k level : ℕ) → level ≡ level_at m k → k % (1 * 2 ^ level % 2 ^ 64) ≡ 0 → is_first m k ≡ true
unfolding is_first
first_here m k level e h = rw (← e) (eq-eqb (k % 2 ^ level) 0 (rw (one_shl 64 level (rw e (omega (arith, level_at_le m k)))) at h))

pub none_here : (m k level : ℕ) → level ≡ level_at m k → (k % (1 * 2 ^ level % 2 ^ 64) ≡ 0 → ⊥) → is_first m k ≡ false
unfolding is_first
none_here m k level e h = rw (← e) (ne_eqb (k % 2 ^ level) 0 (λ z. h (rw (one_shl 64 level (rw e (omega (arith, level_at_le m k)))) z)))

-- every slot of an invalid group is a counter of its own, and of one where nothing is merged
pub invalid_level : (m k : ℕ) → valid_merge m ≡ false → level_at m k ≡ 0
unfolding level_at
invalid_level m k e = ap (λ (r : Reading). r.level) (invalid_reading (empty m) k e)

pub plain_level : (k : ℕ) → k < 8 → level_at 0 k ≡ 0
unfolding level_at
plain_level k h = ap (λ (r : Reading). r.level) (plain_reading (replicate 8 0) k (zero_good 0 none_merged_lem).eight h)

single_sizes : (n k m : ℕ) → k + n ≤ 8 → ((i : ℕ) → i < 8 → level_at m i ≡ 0) → slots_size n k m ≡ n
unfolding slots_size slot_size is_first word_count
single_sizes zero k m h e = refl
single_sizes (suc n) k m h e = rw (e k (omega arith), eq-eqb (k % 1) 0 (mod-one k), single_sizes n (k + 1) m (omega arith) e) (omega arith)

pub invalid_size : (m : ℕ) → valid_merge m ≡ false → group_size m ≡ 8
unfolding group_size
invalid_size m e = single_sizes 8 0 m (omega arith) (λ i h. invalid_level m i e)

pub size_none : group_size 0 ≡ 8
unfolding group_size
size_none = single_sizes 8 0 0 (omega arith) plain_level
