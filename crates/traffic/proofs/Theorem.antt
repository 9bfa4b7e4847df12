-- The claim, proved of every faithful list of calls: after it the memory holds the list's traffic, and so answers as document 01 says.
use mathlib.Core.Path.{◌≡◌, refl, sym, ap, subst, ◌∙◌}
use mathlib.Core.Bool.{true, false, cond, true≢false}
use mathlib.Core.List.{List, ◌∷◌, ◌++◌}
use Prim.Native.Nat.{ℕ, ◌^◌, ◌≤◌, ◌<◌}
use native.Mathlib.Decide.{ℕ_discrete}
use borrow.Author.Tests.{eqb-true}
use lib.Dec.{eqb}
use lib.ListN.{length, drop, replicate}
use Rattle.answer.specs.declared.Answer.{Answer}
use Rattle.answer.specs.Answers.{accepted}
use Rattle.group_block.specs.Block.{cap}
use Rattle.geometry.specs.Geometry.{valid_depth, valid_width, size}
use Rattle.geometry.specs.Checks.{bad_key}
use Rattle.meter.specs.Meter.{cleared, updated, estimated}
use Rattle.meter.proofs.Calls.{cleared_good, call_key, estimated_bad}
use Rattle.image_format.specs.Image.{image}
use Rattle.image_format.specs.Write.{written}
use Rattle.image_format.specs.Read.{taken}
use Rattle.image.proofs.Calls.{write_done}
use Rattle.image_laws.proofs.Theorems.{restored}
use Rattle.word.specs.Word.{payload, is_due}
use Rattle.feed.specs.declared.Recorded.TheVariants as case
use Rattle.feed.specs.Answers.{record_answer}
use Rattle.feed_records.specs.Words.{update_kind, key_of, amount_of}
use Rattle.feed.specs.Record.{recorded}
use Rattle.watch.specs.Watch.{watched}
use Rattle.watch.proofs.Laws.{watched_accepted}
use Rattle.traffic.specs.Traffic.{Pair}
use Rattle.traffic.specs.Calls.{Call, clear, update, estimate, widest, unite, write, read, feed, watch, Source, from, raw, Calls, none, then, record_pair, traffic, after, behind, run, done, bytes_of, words_of, Faithful, Listed, LeftBy}
use Rattle.traffic.proofs.Holds.{Holds}
use Rattle.traffic.specs.Claim.{Between, Claim, Demand3}
use Rattle.traffic.proofs.Answers.{good_shape, good_key, widest_holds, estimate_holds, estimate_fits, estimate_between}
use Rattle.traffic.proofs.Steps.{start_holds, update_holds, unite_holds}
use Rattle.traffic.proofs.Records.{record_cases, outcome_status, query_is}
use Rattle.answer.proofs.Answers.{status_is}
use Rattle.traffic.proofs.Refused.{kept}
use Rattle.traffic.proofs.Bytes.{SameTotals, all_bytes, one_memory, holds_valid}

-- a clearing that is accepted leaves what a list starts from
pub cleared_is : (d w : ℕ) (memory : List ℕ) → valid_depth d ≡ true → valid_width w ≡ true → length memory ≡ size d w → (cleared d w memory).memory ≡ replicate (size d w) 0
cleared_is d w memory vd vw e =
    sym (cleared_good d w memory (good_shape d w (length memory) vd vw e)).1 ∙ ap (λ (n : ℕ). replicate n 0) e

-- a call that was told d and w
told : (d w d' w' : ℕ) (call : Call) (memory : List ℕ) (P : List ℕ → Type 0) → d' ≡ d → w' ≡ w
    → (eqb (done d w d w call memory).answer.status 0 ≡ true → P (done d w d w call memory).memory)
    → eqb (done d w d' w' call memory).answer.status 0 ≡ true → P (done d w d' w' call memory).memory
told d w d' w' call memory P p q f = rw (p, q) f

module _ (d w : ℕ) (vd : valid_depth d ≡ true) (vw : valid_width w ≡ true) where
  image_holds : (memory old : List ℕ) (ps : List Pair) → Holds d w memory ps → length old ≡ size d w → Holds d w (taken d w old (image d w memory)).memory ps
  image_holds memory old ps holds long =
      let back = restored d w memory old (good_shape d w (length memory) vd vw holds.long) (all_bytes d w vw memory ps holds) (holds_valid d w memory ps holds) (long ∙ sym holds.long) in
      rw back holds

  -- a record or the end
  record_holds : (memory : List ℕ) (ps : List Pair) → Holds d w memory ps → (before : ℕ) (words : List ℕ)
      → eqb (record_answer (recorded d w memory before words).outcome).status 0 ≡ true
      → Holds d w (recorded d w memory before words).memory (cond (is_due words 0 update_kind) (record_pair words ∷ ps) ps)
  unfolding record_pair
  record_holds memory ps h before words =
      let k = key_of (payload words 0) words in
      let a = amount_of (payload words 0) words in
      let m = (updated d w memory k a).answer in
      record_cases d w memory before words
      (λ c. eqb (record_answer c.outcome).status 0 ≡ true → Holds d w c.memory (cond (is_due words 0 update_kind) (record_pair words ∷ ps) ps))
      (λ s p f e. absurd (true≢false (sym e ∙ f)))
      (λ due e. rw due (update_holds d w vw vd memory ps h k a (eqb-true m.status 0 (sym (outcome_status m case.Updated refl) ∙ e))))
      (λ due q e. rw due h)
      (λ due q e. rw due h)

  -- an update through a watch list
  watch_holds : (memory : List ℕ) (ps : List Pair) → Holds d w memory ps → (list key : List ℕ) (amount threshold : ℕ)
      → (watched d w memory list key amount threshold).answer.status ≡ 0
      → Holds d w (watched d w memory list key amount threshold).memory (record { key = key; amount = amount } ∷ ps)
  watch_holds memory ps h list key amount threshold e =
      let a = watched_accepted d w memory list key amount threshold e in
      rw a.memory_is (update_holds d w vw vd memory ps h key amount a.update)

  mutual
    unfolding run done bytes_of words_of traffic after behind Faithful Listed LeftBy

    -- The invariant: after a faithful list the memory holds the list's traffic.
    pub holds : (calls : Calls) → Faithful d w calls → Holds d w (run d w calls) (traffic calls)
    holds none f = start_holds d w vw
    holds (then calls d' w' call true) f =
        let l = f.2 refl in
        told d w d' w' call (run d w calls) (λ m. Holds d w m (after call (traffic calls))) l.0 l.1
        (λ e. accepted_holds call (run d w calls) (traffic calls) (holds calls f.0) l.2 e) f.1
    holds (then calls d' w' call false) f = rw (kept d w d' w' call (run d w calls) f.1) (holds calls f.0)

    accepted_holds : (call : Call) (memory : List ℕ) (ps : List Pair) → Holds d w memory ps → Listed d w call
        → eqb (done d w d w call memory).answer.status 0 ≡ true → Holds d w (done d w d w call memory).memory (after call ps)
    accepted_holds clear memory ps h l e = rw (cleared_is d w memory vd vw h.long) (start_holds d w vw)
    accepted_holds (update key amount) memory ps h l e = update_holds d w vw vd memory ps h key amount (eqb-true _ _ e)
    accepted_holds (estimate key) memory ps h l e = h
    accepted_holds widest memory ps h l e = h
    accepted_holds (unite source) memory ps h l e = unite_holds d w vw vd memory ps h (bytes_of d w source) (behind source) (source_holds source l) (eqb-true _ _ e)
    accepted_holds (write words) memory ps h l e = h
    accepted_holds (read source) memory ps h l e = read_holds source memory h.long l
    accepted_holds (feed before words) memory ps h l e = record_holds memory ps h before words e
    accepted_holds (watch list key amount threshold) memory ps h l e = watch_holds memory ps h list key amount threshold (eqb-true _ _ e)

    source_holds : (source : Source) → LeftBy d w source → Holds d w (bytes_of d w source) (behind source)
    source_holds (from calls) l = holds calls l
    source_holds (raw content) l = absurd l

    read_holds : (source : Source) (memory : List ℕ) → length memory ≡ size d w → LeftBy d w source → Holds d w (taken d w memory (words_of d w source)).memory (behind source)
    read_holds (from calls) memory long l = image_holds (run d w calls) memory (traffic calls) (holds calls l) long
    read_holds (raw content) memory long l = absurd l

  -- The memory is a function of the traffic's totals alone, so the order of its pairs has no part in it.
  pub same_totals : (calls others : Calls) → Faithful d w calls → Faithful d w others → SameTotals d w (traffic calls) (traffic others) → run d w calls ≡ run d w others
  same_totals calls others f g e = one_memory d w vw (run d w calls) (run d w others) (traffic calls) (traffic others) e (holds calls f) (holds others g)

  -- The image of a list is what the writer gives: it refuses no meter that a list left, if the words suffice.
  pub written_is : (calls : Calls) (lent : List ℕ) → Faithful d w calls → length (image d w (run d w calls)) ≤ length lent
      → written d w (run d w calls) lent
      ≡ record { answer = accepted (length (image d w (run d w calls))); words = image d w (run d w calls) ++ drop (length (image d w (run d w calls))) lent }
  written_is calls lent f room =
      let h = holds calls f in
      write_done d w (run d w calls) lent 0 (sym (good_shape d w (length (run d w calls)) vd vw h.long)) refl (holds_valid d w (run d w calls) (traffic calls) h) room

  module _ (calls : Calls) (f : Faithful d w calls) where
    pub answers : (key : List ℕ) → bad_key (length key) ≡ 0
        → (estimated d w (run d w calls) key ≡ accepted (estimated d w (run d w calls) key).value) × Between d w (traffic calls) key (estimated d w (run d w calls) key).value
    answers key k =
        rw (estimate_holds d w vd vw (run d w calls) (traffic calls) (holds calls f) key k)
        (refl, estimate_between d w vd vw (run d w calls) (traffic calls) (holds calls f) key)

    -- an estimate has 64 bits
    pub estimate_small : (key : List ℕ) → bad_key (length key) ≡ 0 → (estimated d w (run d w calls) key).value < 2 ^ 64
    unfolding cap
    estimate_small key k =
        rw (estimate_holds d w vd vw (run d w calls) (traffic calls) (holds calls f) key k) (estimate_fits d w vd vw (run d w calls) (traffic calls) (holds calls f) key)

    -- an estimate that was accepted had a sound key
    sound_key : (key : List ℕ) → (estimated d w (run d w calls) key).status ≡ 0 → bad_key (length key) ≡ 0
    sound_key key e =
        let m = run d w calls in
        let good = good_shape d w (length m) vd vw (holds calls f).long in
        elim (ℕ_discrete (bad_key (length key)) 0) [
          | yes z ↦ z
          | no n ↦ absurd (n (sym (status_is (bad_key (length key)) 0)
              ∙ ap (λ (x : Answer). x.status) (estimated_bad d w m key (bad_key (length key)) (call_key d w m key good) n) ∙ e))
        ]

    estimates : (key : List ℕ) → (estimated d w (run d w calls) key).status ≡ 0 → Between d w (traffic calls) key (estimated d w (run d w calls) key).value
    estimates key e = (answers key (sound_key key e)).1

    claim : Claim d w calls
    unfolding done
    claim =
        record {
          accepts = λ key p q. (answers key (good_key (length key) p q)).0;
          estimates = estimates;
          records = λ before words due e.
              let q = query_is d w (run d w calls) before words due e in
              let k = key_of (payload words 0) words in
              subst (λ (v : ℕ). Between d w (traffic calls) k v) q.1 (estimates k q.0);
          widest_level = widest_holds d w vd vw (run d w calls) (traffic calls) (holds calls f);
        }

-- Document 01's claim, of every list of calls.
pub demand_3 : Demand3
demand_3 = claim

-- The premise excludes no next call: a faithful list goes on with any call that is told d and w, and takes its source or image from such
-- a list, whatever it answers; and with any other that is refused.
pub goes_on : (d w : ℕ) (calls : Calls) (call : Call) → Faithful d w calls → Listed d w call
    → Faithful d w (then calls d w call (eqb (done d w d w call (run d w calls)).answer.status 0))
unfolding Faithful
goes_on d w calls call f l = (f, refl, λ e. (refl, refl, l))

pub goes_on_refused : (d w d' w' : ℕ) (calls : Calls) (call : Call) → Faithful d w calls → eqb (done d w d' w' call (run d w calls)).answer.status 0 ≡ false
    → Faithful d w (then calls d' w' call false)
unfolding Faithful
goes_on_refused d w d' w' calls call f e = (f, e, λ z. absurd (true≢false (sym z)))
