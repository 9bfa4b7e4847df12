-- What follows of any sum.
pub use Rattle.group_block.specs.Figure.{Sums, ordinary_sums}
use mathlib.Core.Path.{◌≡◌, sym, ap, ◌∙◌}
use Rattle.group_block.specs.Kind.{Kind}

module _ {K : Kind} (S : Sums K) where
  pub swap : (a b c : K.Value) → K.plus (K.plus a b) c ≡ K.plus (K.plus a c) b
  swap a b c = S.assoc a b c ∙ ap (K.plus a) (S.comm b c) ∙ sym (S.assoc a c b)

  pub cross : (a b c d : K.Value) → K.plus (K.plus a b) (K.plus c d) ≡ K.plus (K.plus a c) (K.plus b d)
  cross a b c d = sym (S.assoc (K.plus a b) c d) ∙ ap (λ (x : K.Value). K.plus x d) (swap a b c) ∙ S.assoc (K.plus a c) b d
