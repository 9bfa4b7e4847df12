use Rattle.std.proofs.Common.{◌≡◌, ℕ, fold}
use lib.Bits.{bit_or}
use borrow.Author.Rules.{rules}
use Rattle.group_side.proofs.Bytes.{any_fold}
use Rattle.group_side.proofs.any_merged.Goals as goal

pub returns : goal.returns
returns c = let e : c.fold.result ≡ fold (λ (a m : ℕ). bit_or a m) 0 c.args.merges.now = search rules in
    rw e (any_fold c.args.merges.now)
