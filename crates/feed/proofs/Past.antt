-- A call looks at no word past its record or end: with those words alone, or any after them, it does the same.
use mathlib.Core.Path.{◌≡◌, refl}
use mathlib.Core.List.{List}
use Prim.Native.Nat.{ℕ, zero, suc, ◌≤◌}
use native.Mathlib.Omega.{arith}
use lib.ListN.{length, take}
use Rattle.geometry.specs.Checks.{bad_shape}
use Rattle.feed_records.specs.Openings.{Opening}
use Rattle.feed_records.specs.Openings as opening
use Rattle.feed_records.specs.Bodies.{Body}
use Rattle.feed_records.specs.Bodies as body
use Rattle.feed_keys.specs.Keys.{key_of}
use Rattle.feed_lengths.specs.Lengths.{words_needed}
use Rattle.feed_records.specs.Words.{opened, update_body, query_body}
use Rattle.feed.specs.Record.{update_outcome, queried, opened_outcome, record_outcome, recorded}
use Rattle.feed.proofs.Cases.{carried_update, carried, carried_after, by_cases}
use Rattle.feed_keys.proofs.Places.{key_same}
use Rattle.feed_lengths.proofs.Laws.{some_needed}
use Rattle.feed_records.proofs.Past.{taken, opened_needed, update_same, query_same, opened_same}

module _ (words : List ℕ) (n : ℕ) where
  abbrev front : List ℕ
  front = take n words

  module _ (d w : ℕ) (memory : List ℕ) where
    update_carried : (m : ℕ) (b : Body) → key_of m front ≡ key_of m words → carried_update d w memory m front b ≡ carried_update d w memory m words b
    unfolding carried_update update_outcome
    update_carried m (body.Sound a) e = rw e
    update_carried m (body.Refused s p) e = refl

    query_carried : (m : ℕ) (b : Body) → key_of m front ≡ key_of m words → queried d w memory m front b ≡ queried d w memory m words b
    unfolding queried
    query_carried m (body.Sound a) e = rw e
    query_carried m (body.Refused s p) e = refl

    carried_same : (o : Opening) → taken o ≤ n → carried d w memory front o ≡ carried d w memory words o
    unfolding carried opened_outcome taken
    carried_same (opening.Update m) h = rw (update_same words n m h) (update_carried m (update_body m words) (key_same words n m (omega arith)))
    carried_same (opening.Query m) h = rw (query_same words n m h, query_carried m (query_body m words) (key_same words n m h))
    carried_same opening.End h = refl
    carried_same (opening.Refused s) h = refl

    after_same : (s before : ℕ) → words_needed words ≤ n → carried_after s d w memory before front ≡ carried_after s d w memory before words
    unfolding carried_after record_outcome
    after_same zero before h =
        let l = some_needed words in
        rw (opened_same words n before (omega arith)) (carried_same (opened before words) (omega (arith, opened_needed before words)))
    after_same (suc s) before h = refl

    pub record_alone : (before : ℕ) → words_needed words ≤ n → recorded d w memory before (take n words) ≡ recorded d w memory before words
    record_alone before h = rw (by_cases d w memory before front, by_cases d w memory before words) (after_same (bad_shape d w (length memory)) before h)
