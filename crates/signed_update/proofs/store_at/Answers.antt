use Rattle.geometry.proofs.Widths.{wide}
use Rattle.signed_update.proofs.store_at.Goals as goal

pub scaled-requires : goal.scaled-requires
scaled-requires c = (wide c.args.w c.requires.fact_1).shares

pub returns : goal.returns
returns c = rw (← c.scaled.ensures.value) c.update_row.ensures
