use Rattle.run_feed.proofs.head.Goals as goal

pub returns : goal.returns
returns c = let e = c.assemble-n.ensures.words_after_2 in record { value = rw e at c.head.ensures.value; fitting_line = c.head.ensures.fitting_line }
