use mathlib.Core.Path.{ap, ◌∙◌}
use mathlib.Core.List.{List, ◌++◌}
use Prim.Native.Nat.{ℕ, ◌+◌, ◌*◌}
use native.Mathlib.Omega.{arith}
use lib.ListN.{length, take, drop, length-set}
use Rattle.little_endian.specs.Bytes.{bytes}
use Rattle.watch_list.specs.List.{joining}
use Rattle.watch_list.specs.Layout.{keys_at, estimates_at, length_field, key_field, estimate_field}
use Rattle.watch_list.specs.Parts.{put, put_place}
use Rattle.watch_places.proofs.Pasting.{put_one, put_eight}
use Rattle.watch_places.proofs.join.Goals as goal

pub put_key-requires : goal.put_key-requires
put_key-requires c = let a = c.args in record { fact_1 = omega (arith, length-set a.list.now a.n (length a.key.now), c.requires.fact_1, c.requires.fact_2); fact_2 = c.requires.fact_3 }

pub put_eight-requires : goal.put_eight-requires
put_eight-requires c = let a = c.args in
    omega (arith, length-set a.list.now a.n (length a.key.now), c.requires.fact_1, c.requires.fact_2)

pub shape_of-list : goal.shape_of-list
shape_of-list c = let a = c.args in
    omega (arith, length-set a.list.now a.n (length a.key.now))

pub returns : goal.returns
unfolding put_place length_field key_field estimate_field
returns c = let a = c.args in
    let at = estimates_at + a.n * 8 in
    let keys = c.put_key.new.list in
    let first = put_one a.list.now a.n (length a.key.now) (omega (arith, c.requires.fact_1, c.requires.fact_2)) in
    c.put_eight.ensures
    ∙ ap (λ (ys : List ℕ). take at keys ++ ys ++ drop (at + 8) keys) c.bytes_of.ensures
    ∙ put_eight keys at a.estimate
    ∙ ap (λ (xs : List ℕ). put xs at (bytes 8 a.estimate)) (c.put_key.ensures ∙ ap (λ (xs : List ℕ). put xs (keys_at + a.n * 64) ((joining a.key.now 0).key ++ (joining a.key.now 0).unused)) first)
