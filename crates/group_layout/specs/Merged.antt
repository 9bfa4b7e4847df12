-- Whether a block is merged, as the code tests it. The code's own terms.
use Rattle.std.specs.Prelude.{ℕ, Bool, true, false}
use Rattle.group_layout.specs.Layout.{Layout, merged, halves}

unfoldable pub is_merged : {n : ℕ} → Layout n → Bool
is_merged merged = true
is_merged (halves l r) = false
