-- The head of a feed, passed on from the crate of the head. Cited by contracts.
pub use Rattle.feed_head.specs.Head.{head_depth}
unfoldable pub use Rattle.feed_head.specs.Head.{head_width, bad_geometry, head_step, headed}
