-- Two blocks and the sums of their slots, as the code passes them. The code's own terms; no public contract cites them.
use Rattle.std.specs.Prelude.{ℕ, ◌/◌, ◌%◌, ◌^◌, ◌<◌, ◌≡◌, cond, eqb, Result}
use Rattle.group_block.specs.declared.Packed.{Packed}
use Rattle.signed_number.specs.declared.Signed.{Signed}
use Rattle.group_block.specs.Block.{cap}
use Rattle.group_block.specs.Sum.{unite}
use Rattle.signed_block.specs.Passed.{signed_block, signed_summed}
use Rattle.signed_slots.specs.Slots.{sums_of, over_of}
use Rattle.signed_nodes.specs.declared.Node.{Node}
use Rattle.signed_nodes.specs.Nodes.{IsNode, Sides}
use Rattle.signed_union.specs.declared.Blocks.{Blocks}

-- what is known of two blocks of level n
abbrev pub NodeOf : ℕ → Node → Blocks → Type 0
NodeOf n s b = IsNode n s b.word b.merge b.other_word b.other_merge

abbrev pub SidesOf : ℕ → Node → Blocks → Type 0
SidesOf n s b = Sides n s b.word b.merge b.other_word b.other_merge

-- the union as the code passes it
abbrev pub united : Blocks → Result Packed Signed
united b = signed_summed (unite (signed_block 3 b.word b.merge) (signed_block 3 b.other_word b.other_merge))

-- blocks of level n, with the words of their slots
pub record Slotted (n : ℕ) (b : Blocks) : Type 0 where
  pub word_in : b.word < cap n
  pub other_in : b.other_word < cap n
  pub merge_in : b.merge < 2 ^ (2 ^ n)
  pub other_merge_in : b.other_merge < 2 ^ (2 ^ n)
  pub sums_are : b.sums ≡ sums_of n b.word b.other_word
  pub overs_are : b.overs ≡ over_of n b.word b.other_word

-- their halves of level n
unfoldable pub lefts_of : ℕ → Blocks → Blocks
lefts_of n b = record {
  word = b.word % cap n;
  merge = b.merge % 2 ^ (2 ^ n);
  other_word = b.other_word % cap n;
  other_merge = b.other_merge % 2 ^ (2 ^ n);
  sums = b.sums % cap n;
  overs = b.overs % cap n;
}

unfoldable pub rights_of : ℕ → Blocks → Blocks
rights_of n b = record {
  word = b.word / cap n;
  merge = b.merge / 2 ^ (2 ^ n);
  other_word = b.other_word / cap n;
  other_merge = b.other_merge / 2 ^ (2 ^ n);
  sums = b.sums / cap n;
  overs = b.overs / cap n;
}

-- the left, 0, or the right
unfoldable pub halves_of : ℕ → ℕ → Blocks → Blocks
halves_of n h b = cond (eqb h 0) (lefts_of n b) (rights_of n b)
