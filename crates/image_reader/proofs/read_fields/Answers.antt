use mathlib.Core.Path.{◌≡◌, sym, ap, ◌∙◌}
use Prim.Native.Nat.{ℕ, ◌+◌, ◌*◌, ◌%◌, ◌^◌, ◌≤◌, ◌<◌}
use native.Mathlib.Nat.{add-zero, zero-add}
use native.Mathlib.Omega.{arith}
use lib.ListN.{get_or, drop}
use Rattle.group_codes.specs.Pack.{code_merge}
use Rattle.group_codes.proofs.Packing.{code_merge_lem}
use Rattle.group_fields.specs.declared.Fields as fields
use Rattle.group_fields.specs.Fields.{group_of}
use Rattle.word.specs.Word.{payload}
use Rattle.image_format.specs.Write.{group_size}
use Rattle.image_format.specs.Read.{read_group}
use Rattle.image_format.specs.Fields.{group_fields, field_at, Described}
use Rattle.image_format.proofs.Fields.{size_most}
use Rattle.image_reader.proofs.Fields.{fields_sum, read_fields_lem, sum_step, sum_none, described_in}
use Rattle.image_reader.proofs.read_fields.Goals as goal
use Rattle.image_reader.proofs.read_fields.Goals.{After-payload, Start}

-- the description of the layout, and what its words hold
module _ (s : Start) where
  abbrev merge : ℕ
  merge = code_merge s.args.c

  told : Described merge s.args.fields.now (17 * s.args.c)
  told = s.requires.fact_4 s.args.c s.requires.fact_3

  size : get_or s.args.fields.now (17 * s.args.c) 0 ≤ 8
  size = rw told.0 (size_most merge)

  whole : let x = fields_sum (group_fields merge) s.args.words.now s.args.p in
      (read_group merge s.args.words.now s.args.p ≡ group_of merge (record { word = x })) × (x < 2 ^ 64)
  whole = read_fields_lem merge (code_merge_lem s.args.c s.requires.fact_1).0 s.args.words.now s.args.p

pub overflow_cast-n : goal.overflow_cast-n
overflow_cast-n c = omega (arith, size (goal.at.overflow_cast-n c).Start)

pub loop-i-init : goal.loop-i-init
loop-i-init c = let e : c.none-x.result.word ≡ 0 = ap (λ (f : fields.Fields). f.word) c.none-x.ensures in
    (omega arith, size (goal.at.loop-i-init c).Start, (told (goal.at.loop-i-init c).Start).0, rw e (zero-add _ ∙ ap (fields_sum (group_fields (merge (goal.at.loop-i-init c).Start)) c.args.words.now) (add-zero c.args.p)))

-- a word more of the sum
turn_sum : (c : After-payload) → let l = c.loop-i in let t = c.args.fields.now in
    l.x.word + c.payload.result % 2 ^ get_or t (17 * c.args.c + 9 + l.i) 0 * 2 ^ get_or t (17 * c.args.c + 1 + l.i) 0
    + fields_sum (drop (l.i + 1) (group_fields (merge (goal.at.After-payload c).Start))) c.args.words.now (c.args.p + (l.i + 1)) ≡ fields_sum (group_fields (merge (goal.at.After-payload c).Start)) c.args.words.now c.args.p
turn_sum c = let l = c.loop-i in
    let t = c.args.fields.now in
    let h : l.i < group_size (merge (goal.at.After-payload c).Start) = omega arith in
    let d = (told (goal.at.After-payload c).Start).1 l.i h in
    let f = field_at (group_fields (merge (goal.at.After-payload c).Start)) l.i in
    let e : c.payload.result % 2 ^ get_or t (17 * c.args.c + 9 + l.i) 0 * 2 ^ get_or t (17 * c.args.c + 1 + l.i) 0 ≡ payload c.args.words.now (c.args.p + l.i) % 2 ^ f.bits * 2 ^ f.place
    = rw (c.payload.ensures.value, d.0, d.1) in
    omega (arith, e, sum_step (merge (goal.at.After-payload c).Start) c.args.words.now c.args.p l.i h, l.invariant.3)

pub put-x-requires : goal.put-x-requires
put-x-requires c = let l = c.loop-i in
    let d = described_in (merge (goal.at.put-x-requires c).Start) c.args.fields.now (17 * c.args.c) l.i (told (goal.at.put-x-requires c).Start) (omega arith) in record { fact_1 = d.2; fact_2 = d.0; fact_3 = d.1; fact_4 = omega (arith, turn_sum c, (whole (goal.at.put-x-requires c).Start).1) }

pub loop-i-preserved : goal.loop-i-preserved
loop-i-preserved c = let l = c.loop-i in
    (omega arith, l.invariant.1, l.invariant.2, rw c.put-x.ensures (turn_sum (goal.at.loop-i-preserved c).After-payload))

pub returns : goal.returns
returns c = let l = c.loop-i in
    let e : l.x.word ≡ fields_sum (group_fields (merge (goal.at.returns c).Start)) c.args.words.now c.args.p
    = omega (arith, sum_none (merge (goal.at.returns c).Start) c.args.words.now (c.args.p + l.i) l.i (omega arith), l.invariant.3) in
    ap (λ (x : ℕ). group_of (merge (goal.at.returns c).Start) (record { word = x })) e ∙ sym (whole (goal.at.returns c).Start).0
