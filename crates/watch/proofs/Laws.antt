-- What the calls of a watch list leave, by whether they are accepted.
use mathlib.Core.Path.{◌≡◌, refl, sym, ap, ◌∙◌}
use mathlib.Core.Bool.{true, false}
use mathlib.Core.List.{List, [], ◌∷◌}
use Prim.Native.Nat.{ℕ, zero, suc, ◌≤◌}
use native.Mathlib.Decide.{ℕ_discrete}
use borrow.Author.Tests.{eq-eqb, le-leb}
use lib.Dec.{eqb}
use lib.ListN.{length, replicate}
use Rattle.answer.specs.declared.Answer.{Answer}
use Rattle.answer.specs.Answers.{leaves, finish}
use Rattle.answer.specs.Order.{first_of, earlier, earliest}
use Rattle.answer.proofs.Answers.{status_is, left_after, finish_kept}
use Rattle.answer.proofs.Order.{first_one, first_stop, first_skip, none_first, earlier_none, none_earlier}
use Rattle.geometry.specs.Checks.{bad_shape, bad_key}
use Rattle.meter.specs.Meter.{bad_call, updated}
use Rattle.meter.proofs.Calls.{call_shape_bad, call_key, updated_bad}
use Rattle.watch_list.specs.List.{taken_off}
use Rattle.watch_list.specs.Layout.{list_size, sound, encode, decode}
use Rattle.watch_checks.proofs.Lines.{list_long as long-list, list_sound as sound-list, threshold_positive, arguments_none}
use Rattle.watch_checks.specs.Checks.{bad_list, broken_list, bad_threshold, bad_lines}
use Rattle.watch.specs.Watch.{list_cleared, watch_status, noted_in, watched, bad_removal, removed}

-- a cleared list is what steps start from
pub cleared_is : (list : List ℕ) → length list ≡ list_size → (list_cleared list).memory ≡ replicate list_size 0
unfolding list_cleared finish leaves
cleared_is list long = rw long

module _ (d w : ℕ) (memory list key : List ℕ) (amount threshold : ℕ) where
  -- what an accepted update through a list has passed, and what it leaves
  pub record Accepted : Type 0 where
    pub shape : bad_shape d w (length memory) ≡ 0
    pub long : length list ≡ list_size
    pub key_good : bad_key (length key) ≡ 0
    pub update : (updated d w memory key amount).answer.status ≡ 0
    pub list_sound : sound list ≡ true
    pub positive : 1 ≤ threshold
    pub memory_is : (watched d w memory list key amount threshold).memory ≡ (updated d w memory key amount).memory
    pub list_is : (watched d w memory list key amount threshold).list ≡ noted_in d w (updated d w memory key amount).memory list key threshold

  status_none : (watched d w memory list key amount threshold).answer.status ≡ 0 → watch_status d w memory list key amount threshold ≡ 0
  unfolding watched
  status_none e = sym (status_is (watch_status d w memory list key amount threshold) 0) ∙ e

  pub watched_accepted : (watched d w memory list key amount threshold).answer.status ≡ 0 → Accepted
  unfolding watched watch_status bad_lines earliest
  watched_accepted e =
      let s = status_none e in
      let rest = earliest ((updated d w memory key amount).answer.status ∷ broken_list list ∷ bad_threshold threshold ∷ []) in
      let p = none_first (bad_lines d w memory list key) (rest ∷ []) s in
      let q = none_first (bad_shape d w (length memory)) (bad_list list ∷ bad_key (length key) ∷ []) p.0 in
      let r = arguments_none list key q.1 in
      let t = none_earlier (updated d w memory key amount).answer.status (earliest (broken_list list ∷ bad_threshold threshold ∷ [])) (sym (first_one rest) ∙ p.1) in
      let u = none_earlier (broken_list list) (earliest (bad_threshold threshold ∷ [])) t.1 in
      let v = none_earlier (bad_threshold threshold) 0 u.1 in
      record {
        shape = q.0;
        long = long-list list r.0;
        key_good = r.1;
        update = t.0;
        list_sound = sound-list list u.0;
        positive = threshold_positive threshold v.0;
        memory_is = left_after (watch_status d w memory list key amount threshold) (updated d w memory key amount).memory memory s;
        list_is = left_after (watch_status d w memory list key amount threshold) (noted_in d w (updated d w memory key amount).memory list key threshold) list s;
      }

  -- a refused one leaves memory and list as they were
  pub watched_kept : eqb (watched d w memory list key amount threshold).answer.status 0 ≡ false
      → ((watched d w memory list key amount threshold).memory ≡ memory) × ((watched d w memory list key amount threshold).list ≡ list)
  unfolding watched leaves
  watched_kept e = rw (rw (status_is (watch_status d w memory list key amount threshold) 0) at e) (refl, refl)

-- With a list that is not broken and a threshold of 1 or more, the number is that of the meter's update.
module _ (d w : ℕ) (memory list key : List ℕ) (amount threshold : ℕ) (long : length list ≡ list_size) (good : sound list ≡ true) where
  lines_are : bad_lines d w memory list key ≡ bad_call d w memory key
  unfolding bad_lines
  lines_are =
      rw (eq-eqb (length list) list_size long)
      (elim (ℕ_discrete (bad_shape d w (length memory)) 0) [
        | yes z ↦ first_skip (bad_shape d w (length memory)) (0 ∷ bad_key (length key) ∷ []) z
            ∙ first_skip 0 (bad_key (length key) ∷ []) refl
            ∙ first_one (bad_key (length key))
            ∙ call_key d w memory key z
        | no n ↦ first_stop (bad_shape d w (length memory)) (0 ∷ bad_key (length key) ∷ []) n ∙ call_shape_bad d w memory key n
      ])

  pub watched_status : 1 ≤ threshold → (watched d w memory list key amount threshold).answer.status ≡ (updated d w memory key amount).answer.status
  unfolding watched watch_status earliest earlier
  watched_status p =
      let u = (updated d w memory key amount).answer.status in
      let bad = bad_call d w memory key in
      status_is (watch_status d w memory list key amount threshold) 0
      ∙ rw (lines_are, good, le-leb 1 threshold p, earlier_none u)
      (elim (ℕ_discrete bad 0) [
        | yes z ↦ first_skip bad (u ∷ []) z ∙ first_one u
        | no n ↦ first_stop bad (u ∷ []) n ∙ sym (status_is bad 0) ∙ ap (λ (x : Answer). x.status) (updated_bad d w memory key amount bad refl n).0
      ])

-- taking off
module _ (list key : List ℕ) where
  pub record Removed : Type 0 where
    pub long : length list ≡ list_size
    pub key_good : bad_key (length key) ≡ 0
    pub list_sound : sound list ≡ true
    pub list_is : (removed list key).memory ≡ encode (taken_off key (decode list))

  pub removed_accepted : (removed list key).answer.status ≡ 0 → Removed
  unfolding removed bad_removal finish
  removed_accepted e =
      let tests = first_of (bad_list list ∷ bad_key (length key) ∷ broken_list list ∷ []) in
      let s : tests ≡ 0 = sym (status_is tests 0) ∙ e in
      let p = none_first (bad_list list) (bad_key (length key) ∷ broken_list list ∷ []) s in
      let q = none_first (bad_key (length key)) (broken_list list ∷ []) p.1 in
      record {
        long = long-list list p.0;
        key_good = q.0;
        list_sound = sound-list list (sym (first_one (broken_list list)) ∙ q.1);
        list_is = left_after tests (encode (taken_off key (decode list))) list s;
      }

  pub removed_kept : eqb (removed list key).answer.status 0 ≡ false → (removed list key).memory ≡ list
  unfolding removed
  removed_kept e = finish_kept _ _ _ _ e

  pub removed_status : length list ≡ list_size → sound list ≡ true → (removed list key).answer.status ≡ bad_key (length key)
  unfolding removed bad_removal finish first_of
  removed_status long good =
      status_is (first_of (bad_list list ∷ bad_key (length key) ∷ broken_list list ∷ [])) 0
      ∙ rw (eq-eqb (length list) list_size long, good) (last (bad_key (length key)))
    where
      last : (s : ℕ) → first_of (0 ∷ s ∷ 0 ∷ []) ≡ s
      last zero = refl
      last (suc s) = refl
