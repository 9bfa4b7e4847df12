-- What a kind's counters as bits have to obey.
pub use Rattle.group_block.specs.Figure.{Codes, ordinary_codes}
