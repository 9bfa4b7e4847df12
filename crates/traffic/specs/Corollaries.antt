-- What follows of every list of calls: each answer within it, and its traffic in any order. Cited by theorems. Document 01, 'Traffic and
-- its two figures'.
use Rattle.std.specs.Prelude.{ℕ, ◌≡◌, true}
use mathlib.Core.List.{List, Permᴰ}
use Rattle.answer.specs.declared.Answer.{Answer}
use Rattle.geometry.specs.Geometry.{valid_depth, valid_width}
use Rattle.word.specs.Word.{payload, is_due}
use Rattle.feed_records.specs.Words.{query_kind, key_of}
use Rattle.traffic.specs.Traffic.{Pair, level}
use Rattle.traffic.specs.Calls.{Call, clear, update, estimate, widest, unite, write, read, feed, watch, Source, from, raw, Calls, none, then, traffic, run, done, Faithful}
use Rattle.traffic.specs.Claim.{Between}

unfoldable mutual
  -- what each accepted call of a list answered, on the memory that the calls before it left, is by the traffic up to there
  pub EveryAnswer : ℕ → ℕ → Calls → Type 0
  EveryAnswer d w none = Unit
  EveryAnswer d w (then calls d' w' call ok) =
      EveryAnswer d w calls × (ok ≡ true → Answered d w (traffic calls) call (done d w d' w' call (run d w calls)).answer)

  -- An estimate, by call or asking record (kind 6), lies between the two figures, and a widest level is L. So it is in the list behind a
  -- union's source or an image, too.
  pub Answered : ℕ → ℕ → List Pair → Call → Answer → Type 0
  Answered d w pairs clear answer = Unit
  Answered d w pairs (update key amount) answer = Unit
  Answered d w pairs (estimate key) answer = Between d w pairs key answer.value
  Answered d w pairs widest answer = answer.value ≡ level d w pairs
  Answered d w pairs (unite source) answer = EveryBehind d w source
  Answered d w pairs (write words) answer = Unit
  Answered d w pairs (read source) answer = EveryBehind d w source
  Answered d w pairs (feed before words) answer = is_due words 0 query_kind ≡ true → Between d w pairs (key_of (payload words 0) words) answer.value
  Answered d w pairs (watch list key amount threshold) answer = Unit

  pub EveryBehind : ℕ → ℕ → Source → Type 0
  EveryBehind d w (from calls) = EveryAnswer d w calls
  EveryBehind d w (raw content) = Unit

-- Demand 3 within a list.
abbrev pub Within : Type 0
Within = (d w : ℕ) → valid_depth d ≡ true → valid_width w ≡ true → (calls : Calls) → Faithful d w calls → EveryAnswer d w calls

-- The same pairs, as often, in any order: the library's permutations of a list.
abbrev pub Reordered : List Pair → List Pair → Type 0
Reordered pairs others = Permᴰ pairs others

-- Lists whose traffic is the same but for the order of its pairs leave the same bytes.
abbrev pub AnyOrder : Type 0
AnyOrder =
    (d w : ℕ) → valid_depth d ≡ true → valid_width w ≡ true → (calls others : Calls) → Faithful d w calls → Faithful d w others
    → Reordered (traffic calls) (traffic others)
    → run d w calls ≡ run d w others
