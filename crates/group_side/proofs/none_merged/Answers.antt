use Rattle.group_side.proofs.Bytes.{words_none}
use Rattle.group_side.proofs.none_merged.Goals as goal

pub returns : goal.returns
returns c = let a = c.args in
    rw (c.word.ensures, c.word-2.ensures) (words_none a.merges.now a.source.now)
