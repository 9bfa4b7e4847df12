use mathlib.Core.Path.{ap, ◌∙◌}
use mathlib.Core.List.{List}
use Prim.Native.Nat.{ℕ, ◌+◌, ◌*◌}
use Rattle.watch_list.specs.Layout.{keys_at, estimates_at}
use Rattle.watch_list.specs.Parts.{closed, closed_place}
use Rattle.watch_places.proofs.remove.Goals as goal

pub returns : goal.returns
unfolding closed_place
returns c = let a = c.args in
    c.close-3.ensures
    ∙ ap (λ (xs : List ℕ). closed xs (estimates_at + a.i * 8) (estimates_at + a.n * 8) 8)
    (c.close-2.ensures ∙ ap (λ (xs : List ℕ). closed xs (keys_at + a.i * 64) (keys_at + a.n * 64) 64) c.close.ensures)
