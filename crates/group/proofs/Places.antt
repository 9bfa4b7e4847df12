-- A counter's place in a group's count bytes, taken as one number.
pub use Rattle.group_sums.proofs.Places.{counter_at_lem, value_put}
