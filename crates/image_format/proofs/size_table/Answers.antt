use borrow.Author.Rules.{rules}
use Rattle.image_format.proofs.size_table.Goals as goal

pub returns : goal.returns
returns c = λ k h. let r = c.table.ensures k h in search (rules, r)
