use mathlib.Core.Path.{◌≡◌, refl}
use mathlib.Core.Bool.{Bool, true, false, cond}
use native.Mathlib.Numerals.{add-one}
use lib.Dec.{eqb}
use Rattle.signed_union.specs.declared.Blocks.{Blocks}
use Rattle.signed_union.specs.Slotted.{lefts_of, rights_of, halves_of}
use Rattle.signed_union.proofs.Slots.{sums_in, overs_in}
use Rattle.signed_union.proofs.halves.Goals as goal

-- a choice of two, part by part
parts : (t : Bool) (l r : Blocks)
    → record { word = cond t l.word r.word; merge = cond t l.merge r.merge; other_word = cond t l.other_word r.other_word; other_merge = cond t l.other_merge r.other_merge; sums = cond t l.sums r.sums; overs = cond t l.overs r.overs }
    ≡ cond t l r
parts true l r = refl
parts false l r = refl

pub half_word-requires-3 : goal.half_word-requires-3
half_word-requires-3 c = let p = c.requires in record { fact_1 = p.fact_1; fact_2 = p.fact_2; fact_3 = rw (add-one c.args.half) (sums_in c.args.half c.args.b (rw (add-one c.args.half) at p.fact_3)) }

pub half_word-requires-4 : goal.half_word-requires-4
half_word-requires-4 c = let p = c.requires in record { fact_1 = p.fact_1; fact_2 = p.fact_2; fact_3 = rw (add-one c.args.half) (overs_in c.args.half c.args.b (rw (add-one c.args.half) at p.fact_3)) }

pub returns : goal.returns
unfolding halves_of lefts_of rights_of
returns c = let a = c.args in
    rw (c.half_word.ensures, c.half_merge.ensures, c.half_word-2.ensures, c.half_merge-2.ensures, c.half_word-3.ensures, c.half_word-4.ensures)
    (parts (eqb a.h 0) (lefts_of a.half a.b) (rights_of a.half a.b))
