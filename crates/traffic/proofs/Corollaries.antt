-- What follows from the claim and its invariant, of every faithful list of calls.
use mathlib.Core.Path.{◌≡◌, refl, ap, ◌∙◌}
use mathlib.Core.Bool.{Bool, true, cond}
use mathlib.Core.List.Permᴰ
use mathlib.Core.List.{List}
use Prim.Native.Nat.{ℕ}
use native.Mathlib.Omega.{arith}
use borrow.Author.Tests.{eqb-true}
use lib.Dec.{eqb}
use Rattle.answer.specs.declared.Answer.{Answer}
use Rattle.geometry.specs.Geometry.{valid_depth, valid_width}
use Rattle.word.specs.Word.{payload}
use Rattle.feed_records.specs.Words.{key_of}
use Rattle.feed.specs.declared.Recorded.{Recorded}
use Rattle.feed.specs.declared.Recorded.TheVariants as case
use Rattle.feed.specs.Answers.{record_answer}
use Rattle.feed.specs.Record.{recorded}
use Rattle.traffic.specs.Traffic.{Pair, amount_sum, block_of, block_total}
use Rattle.traffic.specs.Calls.{Call, clear, update, estimate, widest, unite, write, read, feed, watch, Source, from, raw, Calls, none, then, traffic, run, done, Faithful, Listed, LeftBy}
use Rattle.traffic.specs.Claim.{Between, Claim}
use Rattle.traffic.specs.Corollaries.{EveryAnswer, Answered, EveryBehind, Within, Reordered, AnyOrder}
use Rattle.traffic.proofs.Records.{only_queries}
use Rattle.traffic.proofs.Theorem.{demand_3, same_totals}

module _ (d w : ℕ) (vd : valid_depth d ≡ true) (vw : valid_width w ≡ true) where
  mutual
    unfolding EveryAnswer Answered EveryBehind Faithful Listed LeftBy done

    -- each call is told d and w after a list for which the claim holds
    every : (calls : Calls) → Faithful d w calls → EveryAnswer d w calls
    every none f = tt
    every (then calls d' w' call ok) f = (
      every calls f.0,
      λ e.
          let l = f.2 e in
          let s : eqb (done d w d w call (run d w calls)).answer.status 0 ≡ true = rw (l.0, l.1) at (f.1 ∙ e) in
          rw (l.0, l.1) (answered calls (demand_3 d w vd vw calls f.0) call l.2 (eqb-true _ _ s)),
    )

    answered : (calls : Calls) → Claim d w calls → (call : Call) → Listed d w call → (done d w d w call (run d w calls)).answer.status ≡ 0
        → Answered d w (traffic calls) call (done d w d w call (run d w calls)).answer
    answered calls c clear l e = tt
    answered calls c (update key amount) l e = tt
    answered calls c (estimate key) l e = c.estimates key e
    answered calls c widest l e = ap (λ (x : Answer). x.value) c.widest_level
    answered calls c (unite source) l e = every_behind source l
    answered calls c (write words) l e = tt
    answered calls c (read source) l e = every_behind source l
    answered calls c (feed before words) l e = λ due. c.records before words due e
    answered calls c (watch list key amount threshold) l e = tt

    every_behind : (source : Source) → LeftBy d w source → EveryBehind d w source
    every_behind (from calls) l = every calls l
    every_behind (raw content) l = absurd l

-- Demand 3 of every answer within a list.
pub within : Within
within = every

-- The record clause once more, by the case of the enum: only an asking record gives it.
pub outcomes : (d w : ℕ) → valid_depth d ≡ true → valid_width w ≡ true → (calls : Calls) → Faithful d w calls → (before : ℕ) (words : List ℕ) (value : ℕ)
    → (recorded d w (run d w calls) before words).outcome ≡ case.Estimate value → Between d w (traffic calls) (key_of (payload words 0) words) value
unfolding done
outcomes d w vd vw calls f before words value e =
    let due = only_queries d w (run d w calls) before words value e in
    rw e at ((demand_3 d w vd vw calls f).records before words due (ap (λ (x : Recorded). (record_answer x).status) e))

-- what a pair adds to a sum
abbrev counted : (List ℕ → Bool) → Pair → ℕ
counted f p = cond (f p.key) p.amount 0

-- a sum over pairs does not depend on their order
pub sum_reordered : (f : List ℕ → Bool) {ps qs : List Pair} → Reordered ps qs → amount_sum f ps ≡ amount_sum f qs
unfolding amount_sum
sum_reordered f Permᴰ.nil = refl
sum_reordered f (Permᴰ.cons e p) = omega (arith, ap (counted f) e, sum_reordered f p)
sum_reordered f (Permᴰ.swap e g) = omega (arith, ap (counted f) e, ap (counted f) g)
sum_reordered f (Permᴰ.trans p q) = sum_reordered f p ∙ sum_reordered f q

pub any_order : AnyOrder
unfolding block_total
any_order d w vd vw calls others f g p = same_totals d w vd vw calls others f g (λ r h n i. sum_reordered (λ key. eqb (block_of w r n key) i) p)
