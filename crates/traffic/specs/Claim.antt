-- What is claimed of every list of calls. Document 01, 'Traffic and its two figures'. Cited by theorems.
use Rattle.std.specs.Prelude.{ℕ, ◌≤◌, ◌≡◌, true, List, length}
use Rattle.answer.specs.declared.Answer.{Answer}
use Rattle.answer.specs.Answers.{accepted}
use Rattle.geometry.specs.Geometry.{valid_depth, valid_width}
use Rattle.word.specs.Word.{payload, is_due}
use Rattle.feed_records.specs.Words.{query_kind, key_of}
use Rattle.traffic.specs.Traffic.{Pair, lower, upper, level}
use Rattle.traffic.specs.Calls.{Call, estimate, widest, feed, Calls, traffic, run, done, Faithful}

-- an estimate of a key is at least the lower and at most the upper figure
abbrev pub Between : ℕ → ℕ → List Pair → List ℕ → ℕ → Type 0
Between d w pairs key value = (lower pairs key ≤ value) × (value ≤ upper d w pairs key)

-- what a call that is told d and w answers after a list: document 01's number, place and figure
abbrev pub answer_to : ℕ → ℕ → Calls → Call → Answer
answer_to d w calls call = (done d w d w call (run d w calls)).answer

-- what holds after a list of calls on a meter of d rows of w slots
pub record Claim (d w : ℕ) (calls : Calls) : Type 0 where
  -- told the meter's d and w, the estimate call accepts every key
  pub accepts : (key : List ℕ) → 1 ≤ length key → length key ≤ 64
      → answer_to d w calls (estimate key) ≡ accepted (answer_to d w calls (estimate key)).value
  -- each accepted estimate, by call or asking record (kind 6), lies between the two figures
  pub estimates : (key : List ℕ) → (answer_to d w calls (estimate key)).status ≡ 0
      → Between d w (traffic calls) key (answer_to d w calls (estimate key)).value
  pub records : (before : ℕ) (words : List ℕ) → is_due words 0 query_kind ≡ true → (answer_to d w calls (feed before words)).status ≡ 0
      → Between d w (traffic calls) (key_of (payload words 0) words) (answer_to d w calls (feed before words)).value
  -- the widest level call gives number 0 and the figure L
  pub widest_level : answer_to d w calls widest ≡ accepted (level d w (traffic calls))

-- Demand 3: the claim, of every depth and width and every faithful list.
abbrev pub Demand3 : Type 0
Demand3 = (d w : ℕ) → valid_depth d ≡ true → valid_width w ≡ true → (calls : Calls) → Faithful d w calls → Claim d w calls
