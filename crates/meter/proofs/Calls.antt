-- What each call answers and leaves, by the tests that led there.
use mathlib.Core.Path.{◌≡◌, refl, sym, ◌∙◌}
use mathlib.Core.Bool.{cond}
use mathlib.Core.List.{List, [], ◌∷◌}
use Prim.Native.Nat.{ℕ, ◌≤◌}
use native.Mathlib.Decide.{dec_lt}
use native.Mathlib.Omega.{arith}
use borrow.Author.Tests.{eq-eqb, ne_eqb}
use lib.Dec.{eqb}
use lib.ListN.{length, replicate}
use Rattle.hash.specs.Hash.{basis}
use Rattle.geometry.specs.Geometry.{stride, size, RowsIn}
use Rattle.answer.specs.Answers.{answer_of, finish, leaves}
use Rattle.answer.specs.Order.{first_of, earliest}
use Rattle.geometry.specs.Checks.{bad_depth, bad_width, bad_length, bad_shape, bad_key}
use Rattle.meter_memory.specs.Rows.{map_rows, of_rows, least, largest}
use Rattle.meter_row.specs.Row.{update_status, update_row}
use Rattle.answer.proofs.Order.{first_rest, first_part, first_one, first_stop, first_skip}
use Rattle.geometry.proofs.Widths.{shape_good}
use Rattle.meter.specs.Meter.{bad_call, cleared, updated, read_status, read_value, estimated, row_status, row_level, widest, source_status, source_added, united}
use Rattle.answer.proofs.Answers.{answer_bad, refusing, accepting}

-- a call with a key: its shape comes first
pub call_shape_bad : (d w : ℕ) (memory key : List ℕ) → (bad_shape d w (length memory) ≡ 0 → ⊥) → bad_shape d w (length memory) ≡ bad_call d w memory key
unfolding bad_call
call_shape_bad d w memory key h =
    sym (first_part (bad_depth d ∷ bad_width w ∷ bad_length d w (length memory) ∷ []) (bad_key (length key) ∷ []) (omega arith))

pub call_key : (d w : ℕ) (memory key : List ℕ) → bad_shape d w (length memory) ≡ 0 → bad_key (length key) ≡ bad_call d w memory key
unfolding bad_call
call_key d w memory key h =
    sym (first_rest (bad_depth d ∷ bad_width w ∷ bad_length d w (length memory) ∷ []) (bad_key (length key) ∷ []) h ∙ first_one (bad_key (length key)))

pub call_good : (d w : ℕ) (memory key : List ℕ) → bad_call d w memory key ≡ 0 → bad_shape d w (length memory) ≡ 0
call_good d w memory key e =
    elim (dec_lt 0 (bad_shape d w (length memory))) [ yes h ↦ call_shape_bad d w memory key (λ z. omega arith) ∙ e | no n ↦ omega arith ]

pub call_rows : (d w : ℕ) (memory key : List ℕ) → bad_call d w memory key ≡ 0 → (1 ≤ d) × RowsIn d w (length memory)
call_rows d w memory key e = shape_good d w (length memory) (call_good d w memory key e)

module _ (d w : ℕ) (memory : List ℕ) where
  pub cleared_bad : (s : ℕ) → s ≡ bad_shape d w (length memory) → (s ≡ 0 → ⊥) → (answer_of s 0 ≡ (cleared d w memory).answer) × (memory ≡ (cleared d w memory).memory)
  unfolding cleared
  cleared_bad s e h = refusing s (bad_shape d w (length memory)) (replicate (length memory) 0) memory (sym e) h

  pub cleared_good : bad_shape d w (length memory) ≡ 0 → (answer_of 0 0 ≡ (cleared d w memory).answer) × (replicate (length memory) 0 ≡ (cleared d w memory).memory)
  unfolding cleared
  cleared_good e = accepting (bad_shape d w (length memory)) (replicate (length memory) 0) memory e

  module _ (key : List ℕ) (amount : ℕ) where
    rows : ℕ
    rows = earliest (of_rows (update_status basis w key amount) (stride w) d 0 memory)

    after : List ℕ
    after = map_rows (update_row basis w key amount) (stride w) d 0 memory

    pub updated_bad : (s : ℕ) → s ≡ bad_call d w memory key → (s ≡ 0 → ⊥)
        → (answer_of s 0 ≡ (updated d w memory key amount).answer) × (memory ≡ (updated d w memory key amount).memory)
    unfolding updated rows after
    updated_bad s e h =
        refusing s (first_of (bad_call d w memory key ∷ rows ∷ [])) after memory (rw (← e) (first_stop s (rows ∷ []) h)) h

    pub updated_rows : bad_call d w memory key ≡ 0 → (s : ℕ) (m : List ℕ) → s ≡ earliest (of_rows (update_status basis w key amount) (stride w) d 0 memory)
        → m ≡ cond (eqb s 0) (map_rows (update_row basis w key amount) (stride w) d 0 memory) memory
        → (answer_of s 0 ≡ (updated d w memory key amount).answer) × (m ≡ (updated d w memory key amount).memory)
    unfolding updated finish leaves rows after
    updated_rows b s m e h =
        let t : first_of (bad_call d w memory key ∷ rows ∷ []) ≡ s = first_skip (bad_call d w memory key) (rows ∷ []) b ∙ first_one rows ∙ sym e in
        rw t (refl, h)

    pub updated_good : bad_call d w memory key ≡ 0 → earliest (of_rows (update_status basis w key amount) (stride w) d 0 memory) ≡ 0
        → (answer_of 0 0 ≡ (updated d w memory key amount).answer)
        × (map_rows (update_row basis w key amount) (stride w) d 0 memory ≡ (updated d w memory key amount).memory)
    unfolding updated rows after
    updated_good b e = accepting (first_of (bad_call d w memory key ∷ rows ∷ [])) after memory (first_skip (bad_call d w memory key) (rows ∷ []) b ∙ first_one rows ∙ e)

  pub estimated_bad : (key : List ℕ) (s : ℕ) → s ≡ bad_call d w memory key → (s ≡ 0 → ⊥) → answer_of s 0 ≡ estimated d w memory key
  unfolding estimated
  estimated_bad key s e h =
      rw (← e, first_stop s (earliest (of_rows (read_status w key) (stride w) d 0 memory) ∷ []) h) (answer_bad s (least (of_rows (read_value w key) (stride w) d 0 memory)) h)

  pub estimated_good : (key : List ℕ) → bad_call d w memory key ≡ 0
      → answer_of (earliest (of_rows (read_status w key) (stride w) d 0 memory)) (least (of_rows (read_value w key) (stride w) d 0 memory)) ≡ estimated d w memory key
  unfolding estimated
  estimated_good key b =
      rw (first_skip (bad_call d w memory key) (earliest (of_rows (read_status w key) (stride w) d 0 memory) ∷ []) b, first_one (earliest (of_rows (read_status w key) (stride w) d 0 memory)))

  pub widest_bad : (s : ℕ) → s ≡ bad_shape d w (length memory) → (s ≡ 0 → ⊥) → answer_of s 0 ≡ widest d w memory
  unfolding widest
  widest_bad s e h =
      rw (← e, first_stop s (earliest (of_rows (row_status w) (stride w) d 0 memory) ∷ []) h) (answer_bad s (largest (of_rows (row_level w) (stride w) d 0 memory)) h)

  pub widest_good : bad_shape d w (length memory) ≡ 0
      → answer_of (earliest (of_rows (row_status w) (stride w) d 0 memory)) (largest (of_rows (row_level w) (stride w) d 0 memory)) ≡ widest d w memory
  unfolding widest
  widest_good b =
      rw (first_skip (bad_shape d w (length memory)) (earliest (of_rows (row_status w) (stride w) d 0 memory) ∷ []) b, first_one (earliest (of_rows (row_status w) (stride w) d 0 memory)))

  module _ (source : List ℕ) where
    sources : ℕ
    sources = earliest (of_rows (source_status w source) (stride w) d 0 memory)

    tests : ℕ
    tests = first_of (bad_shape d w (length memory) ∷ bad_length d w (length source) ∷ sources ∷ [])

    sum : List ℕ
    sum = map_rows (source_added w source) (stride w) d 0 memory

    pub united_bad : (s : ℕ) → s ≡ bad_shape d w (length memory) → (s ≡ 0 → ⊥) → (answer_of s 0 ≡ (united d w memory source).answer) × (memory ≡ (united d w memory source).memory)
    unfolding united sources tests sum
    united_bad s e h = refusing s tests sum memory (rw (← e) (first_stop s (bad_length d w (length source) ∷ sources ∷ []) h)) h

    pub united_length : bad_shape d w (length memory) ≡ 0 → (length source ≡ length memory → ⊥)
        → (answer_of 3 0 ≡ (united d w memory source).answer) × (memory ≡ (united d w memory source).memory)
    unfolding united sources tests sum
    united_length b h =
        let long : length memory ≡ size d w = (shape_good d w (length memory) b).1.2 in
        refusing 3 tests sum memory
        (first_skip (bad_shape d w (length memory)) (bad_length d w (length source) ∷ sources ∷ []) b
        ∙ rw (ne_eqb (length source) (size d w) (λ e. h (e ∙ sym long))) (first_stop 3 (sources ∷ []) (λ z. omega arith))) (λ z. omega arith)

    united_tests : bad_shape d w (length memory) ≡ 0 → length source ≡ length memory → tests ≡ sources
    unfolding sources tests
    united_tests b l =
        let long : length memory ≡ size d w = (shape_good d w (length memory) b).1.2 in
        first_skip (bad_shape d w (length memory)) (bad_length d w (length source) ∷ sources ∷ []) b
        ∙ first_skip (bad_length d w (length source)) (sources ∷ []) (rw (eq-eqb (length source) (size d w) (l ∙ long)))
        ∙ first_one sources

    pub united_full : bad_shape d w (length memory) ≡ 0 → length source ≡ length memory
        → (s : ℕ) → s ≡ earliest (of_rows (source_status w source) (stride w) d 0 memory) → (s ≡ 0 → ⊥)
        → (answer_of s 0 ≡ (united d w memory source).answer) × (memory ≡ (united d w memory source).memory)
    unfolding united sources tests sum
    united_full b l s e h = refusing s tests sum memory (united_tests b l ∙ sym e) h

    pub united_good : bad_shape d w (length memory) ≡ 0 → length source ≡ length memory → earliest (of_rows (source_status w source) (stride w) d 0 memory) ≡ 0
        → (answer_of 0 0 ≡ (united d w memory source).answer) × (map_rows (source_added w source) (stride w) d 0 memory ≡ (united d w memory source).memory)
    unfolding united sources tests sum
    united_good b l e = accepting tests sum memory (united_tests b l ∙ e)
