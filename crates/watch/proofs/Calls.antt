-- What each call answers and leaves, by the tests that led there.
use mathlib.Core.Path.{◌≡◌, refl, sym, ap, ◌∙◌}
use mathlib.Core.Bool.{true, false}
use mathlib.Core.List.{List, [], ◌∷◌}
use Prim.Native.Nat.{ℕ}
use native.Mathlib.Omega.{arith}
use borrow.Author.Tests.{ne_eqb}
use lib.Dec.{leb}
use lib.ListN.{length, replicate}
use Rattle.answer.specs.Numbers.{invalid_content}
use Rattle.answer.specs.Answers.{answer_of, leaves}
use Rattle.answer.specs.Order.{first_of, earlier, earliest}
use Rattle.answer.proofs.Order.{earlier_none, none_earlier, first_rest, first_part, first_one, first_stop, first_skip, none_first}
use Rattle.answer.proofs.Answers.{refusing, accepting, finish_kept}
use Rattle.geometry.specs.Checks.{bad_shape, bad_key}
use Rattle.meter.specs.Meter.{bad_call, updated, estimated}
use Rattle.meter.proofs.Calls.{call_key}
use Rattle.meter.proofs.Refusals.{refused_as_estimated}
use Rattle.watch_list.specs.List.{taken_off}
use Rattle.watch_list.specs.Layout.{list_size, sound, encode, decode}
use Rattle.watch_list.specs.Parts.{KeyLong}
use Rattle.watch_checks.specs.Checks.{bad_list, broken_list, bad_threshold, bad_lines}
use Rattle.watch_checks.proofs.Lines.{list_long, key_long, arguments_none, own_lines}
use Rattle.watch.specs.Watch.{list_cleared, watch_status, noted_in, watched, bad_removal, removed}

-- clearing
module _ (list : List ℕ) where
  pub cleared_bad : (s : ℕ) → s ≡ bad_list list → (s ≡ 0 → ⊥) → (answer_of s 0 ≡ (list_cleared list).answer) × (list ≡ (list_cleared list).memory)
  unfolding list_cleared
  cleared_bad s e h = refusing s (bad_list list) _ list (sym e) h

  pub cleared_good : bad_list list ≡ 0 → (answer_of 0 0 ≡ (list_cleared list).answer) × (replicate (length list) 0 ≡ (list_cleared list).memory)
  unfolding list_cleared
  cleared_good e = accepting (bad_list list) (replicate (length list) 0) list e

-- lines 1 to 4
module _ (d w : ℕ) (memory list key : List ℕ) where
  pub lines_good : bad_lines d w memory list key ≡ 0 → (bad_call d w memory key ≡ 0) × (length list ≡ list_size) × KeyLong key
  unfolding bad_lines
  lines_good e =
      let p = none_first (bad_shape d w (length memory)) (bad_list list ∷ bad_key (length key) ∷ []) e in
      let q = arguments_none list key p.1 in
      (sym (call_key d w memory key p.0) ∙ q.1, list_long list q.0, key_long key q.1)

  -- an update through a list
  module _ (amount threshold : ℕ) where
    status : ℕ
    status = (updated d w memory key amount).answer.status

    lines : ℕ
    lines = earlier (broken_list list) (bad_threshold threshold)

    later : earliest (status ∷ broken_list list ∷ bad_threshold threshold ∷ []) ≡ earlier status lines
    unfolding status lines earliest
    later = rw (earlier_none (bad_threshold threshold))

    -- a refused update leaves the memory
    update_kept : {s : ℕ} → s ≡ (updated d w memory key amount).answer.status → (s ≡ 0 → ⊥) → (updated d w memory key amount).memory ≡ memory
    unfolding updated
    update_kept {s} e h = finish_kept _ _ _ _ (ne_eqb _ 0 (λ z. h (e ∙ z)))

    Refused : ℕ → Type 0
    Refused s =
        (answer_of s 0 ≡ (watched d w memory list key amount threshold).answer)
        × ((memory ≡ (watched d w memory list key amount threshold).memory) × (list ≡ (watched d w memory list key amount threshold).list))

    refused_by : (s : ℕ) → s ≡ watch_status d w memory list key amount threshold → (s ≡ 0 → ⊥) → Refused s
    unfolding watched leaves Refused
    refused_by s e h = rw (← e, ne_eqb s 0 h) (refl, (refl, refl))

    pub watched_bad : (s : ℕ) → s ≡ bad_lines d w memory list key → (s ≡ 0 → ⊥)
        → (answer_of s 0 ≡ (watched d w memory list key amount threshold).answer)
        × ((memory ≡ (watched d w memory list key amount threshold).memory) × (list ≡ (watched d w memory list key amount threshold).list))
    unfolding watch_status Refused
    watched_bad s e h = refused_by s (e ∙ sym (first_stop (bad_lines d w memory list key) _ (λ z. h (e ∙ z)))) h

    module _ (good : bad_lines d w memory list key ≡ 0) where
      by_lines : watch_status d w memory list key amount threshold ≡ earlier status lines
      unfolding watch_status status
      by_lines =
          first_skip (bad_lines d w memory list key) (earliest ((updated d w memory key amount).answer.status ∷ broken_list list ∷ bad_threshold threshold ∷ []) ∷ []) good
          ∙ first_one (earliest ((updated d w memory key amount).answer.status ∷ broken_list list ∷ bad_threshold threshold ∷ []))
          ∙ later

      -- a list that is broken, or a threshold of 0: an estimate's status does for the update's
      pub watched_line : (line s : ℕ) → line ≡ earlier (broken_list list) (bad_threshold threshold) → (line ≡ 0 → ⊥) → s ≡ (estimated d w memory key).status
          → (answer_of (earlier s line) 0 ≡ (watched d w memory list key amount threshold).answer)
          × ((memory ≡ (watched d w memory list key amount threshold).memory) × (list ≡ (watched d w memory list key amount threshold).list))
      unfolding status lines Refused
      watched_line line s e h u =
          refused_by (earlier s line)
          (ap (λ (x : ℕ). earlier x line) u
          ∙ sym (refused_as_estimated d w memory key amount line (lines_good good).0 (own_lines (sound list) (leb 1 threshold) line e h))
          ∙ ap (earlier (updated d w memory key amount).answer.status) e
          ∙ sym by_lines)
          (λ z. h (none_earlier s line z).1)

      module _ (clean : earlier (broken_list list) (bad_threshold threshold) ≡ 0) where
        by_update : watch_status d w memory list key amount threshold ≡ (updated d w memory key amount).answer.status
        unfolding status lines
        by_update = by_lines ∙ ap (earlier (updated d w memory key amount).answer.status) clean ∙ earlier_none (updated d w memory key amount).answer.status

        -- an update that the meter refuses, and one that it takes
        pub watched_full : (s : ℕ) → s ≡ (updated d w memory key amount).answer.status → (s ≡ 0 → ⊥)
            → (answer_of s 0 ≡ (watched d w memory list key amount threshold).answer)
            × (((updated d w memory key amount).memory ≡ (watched d w memory list key amount threshold).memory) × (list ≡ (watched d w memory list key amount threshold).list))
        unfolding Refused
        watched_full s u h =
            let r = refused_by s (u ∙ sym by_update) h in
            (r.0, (update_kept u h ∙ r.1.0, r.1.1))

        pub watched_done : (updated d w memory key amount).answer.status ≡ 0
            → (answer_of 0 0 ≡ (watched d w memory list key amount threshold).answer)
            × (((updated d w memory key amount).memory ≡ (watched d w memory list key amount threshold).memory)
            × (noted_in d w (updated d w memory key amount).memory list key threshold ≡ (watched d w memory list key amount threshold).list))
        unfolding watched leaves
        watched_done u = rw (by_update, u) (refl, (refl, refl))

-- taking a key off
module _ (list key : List ℕ) where
  pub removed_bad : (s : ℕ) → s ≡ first_of (bad_list list ∷ bad_key (length key) ∷ []) → (s ≡ 0 → ⊥) → (answer_of s 0 ≡ (removed list key).answer) × (list ≡ (removed list key).memory)
  unfolding removed bad_removal
  removed_bad s e h =
      refusing s (bad_removal list key) (encode (taken_off key (decode list))) list
      (first_part (bad_list list ∷ bad_key (length key) ∷ []) (broken_list list ∷ []) (omega arith) ∙ sym e) h

  module _ (good : first_of (bad_list list ∷ bad_key (length key) ∷ []) ≡ 0) where
    by_content : bad_removal list key ≡ broken_list list
    unfolding bad_removal
    by_content = first_rest (bad_list list ∷ bad_key (length key) ∷ []) (broken_list list ∷ []) good ∙ first_one (broken_list list)

    pub removed_broken : sound list ≡ false → (answer_of invalid_content 0 ≡ (removed list key).answer) × (list ≡ (removed list key).memory)
    unfolding removed
    removed_broken e = refusing invalid_content (bad_removal list key) (encode (taken_off key (decode list))) list (by_content ∙ rw e) (λ z. omega arith)

    pub removed_good : sound list ≡ true → (answer_of 0 0 ≡ (removed list key).answer) × (encode (taken_off key (decode list)) ≡ (removed list key).memory)
    unfolding removed
    removed_good e = accepting (bad_removal list key) (encode (taken_off key (decode list))) list (by_content ∙ rw e)
