use Rattle.geometry.proofs.Widths.{wide}
use Rattle.meter_memory.specs.Rows.{row_of}
use Rattle.signed_update.proofs.add_at.Goals as goal

pub scaled-requires : goal.scaled-requires
scaled-requires c = (wide c.args.w c.requires.fact_1.0).shares

pub returns : goal.returns
unfolding row_of
returns c = rw (← c.row_at.ensures.result_value, ← c.scaled.ensures.value, ← c.sign.ensures, ← c.times-sign.ensures c.args.magnitude)
    c.add_in_row.ensures
