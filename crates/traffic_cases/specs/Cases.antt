-- Lists of calls with the figures after them: that the claim's premise can be met, and that its parts are tight. Cited by theorems.
use Rattle.std.specs.Prelude.{ℕ, ◌≡◌, true, false, cond, List, [], ◌∷◌, ◌++◌, replicate}
use Rattle.answer.specs.Answers.{accepted}
use Rattle.meter.specs.Meter as meter
use Rattle.image_format.specs.Read.{taken}
use Rattle.watch_list.specs.Layout.{list_size}
use Rattle.traffic.specs.Traffic.{level, lower, upper}
use Rattle.traffic.specs.Calls.{Call, Calls, none, then, clear, update, estimate, widest, unite, write, read, feed, watch, from, raw, traffic, run, done, Faithful}
use Rattle.traffic.specs.Claim.{answer_to}

-- Keys of one byte that land at slots 0, 8, 10, 11 and 12.
abbrev pub at_0 : List ℕ
at_0 = 10 ∷ []

abbrev pub at_8 : List ℕ
at_8 = 74 ∷ []

abbrev pub at_10 : List ℕ
at_10 = 65 ∷ []

abbrev pub at_11 : List ℕ
at_11 = 114 ∷ []

abbrev pub at_12 : List ℕ
at_12 = 106 ∷ []

infixl 20 ◌▸◌
infixl 20 ◌▹◌
-- then a call that was accepted, and one that was refused, told the meter's 1 and 32
abbrev pub ◌▸◌ : Calls → Call → Calls
calls ▸ call = then calls 1 32 call true

abbrev pub ◌▹◌ : Calls → Call → Calls
calls ▹ call = then calls 1 32 call false

-- the feed of document 01's program: an update of the key at slot 10 by 300, a query of it and the end
abbrev pub update_words : List ℕ
update_words = 0x50000001 ∷ 0x70410000 ∷ 0x80000000 ∷ 0x8000012c ∷ []

abbrev pub query_words : List ℕ
query_words = 0x60000001 ∷ 0x70410000 ∷ []

abbrev pub end_words : List ℕ
end_words = 0x40000007 ∷ []

-- another meter: document 01's feed, then a union with a third
abbrev pub other : Calls
other = none ▸ feed 1 update_words ▸ feed 5 query_words ▸ feed 7 end_words ▸ unite (from (none ▸ update at_8 70000))

-- Every kind of call but the one through a watch list, which `watching` has, accepted and refused. Refused are a record whose words are
-- missing, a call told another depth and width, an image written into too few words, a union with too few bytes and an image of no words.
abbrev pub mixed : Calls
mixed = none ▸ update at_0 9 ▸ clear ▸ update at_11 7 ▸ estimate at_11 ▸ unite (from other) ▸ read (from other)

abbrev pub fed : Calls
fed = mixed ▹ feed 0 [] ▸ feed 1 update_words ▸ feed 5 query_words ▸ feed 7 end_words

abbrev pub every : Calls
every = then fed 2 64 (update at_8 1) false ▸ widest ▸ write (replicate 40 0) ▹ write [] ▹ unite (raw []) ▹ read (raw [])

-- A clearing that was accepted empties the traffic, and one that was refused, told 64 slots, does not: 5 and 6 are left, where a
-- traffic that is not emptied has 311 and one that a refused clearing empties has 6.
abbrev pub clearings : Calls
clearings = then (none ▸ update at_10 300 ▸ clear ▸ update at_10 5) 1 64 clear false ▸ update at_10 6

-- a cleared watch list, and one with a key length above 64
abbrev pub cleared : List ℕ
cleared = replicate list_size 0

abbrev pub broken : List ℕ
broken = 65 ∷ replicate 4672 0

-- Updates through a watch list, whatever it holds. Refused, with a list that is broken or a threshold of 0, they leave no trace.
abbrev pub watching : Calls
watching = none ▸ update at_10 300 ▹ watch broken at_10 7 1 ▸ watch cleared at_10 5 1 ▹ watch cleared at_10 7 0

-- on a meter of 2 rows of 32 slots: the keys of bytes 65 and 122 land together in row 0 and apart in row 1
abbrev pub two_rows : Calls
two_rows = then (then none 2 32 (update at_10 5) true) 2 32 (update (122 ∷ []) 7) true

-- the numbers of the refused calls of a list, the last first
unfoldable pub numbers : ℕ → ℕ → Calls → List ℕ
numbers d w none = []
numbers d w (then calls d' w' call ok) =
    cond ok (numbers d w calls) ((done d w d' w' call (run d w calls)).answer.status ∷ numbers d w calls)

-- a list of calls on a meter of d rows of w slots, and the figures of a key after it
pub record Case : Type 0 where
  pub d : ℕ
  pub w : ℕ
  pub calls : Calls
  pub refused : List ℕ
  pub key : List ℕ
  pub widest_level : ℕ
  pub low : ℕ
  pub value : ℕ
  pub high : ℕ

abbrev pub Meets : Case → Type 0
Meets c =
    Faithful c.d c.w c.calls
    × (numbers c.d c.w c.calls ≡ c.refused)
    × (level c.d c.w (traffic c.calls) ≡ c.widest_level)
    × (lower (traffic c.calls) c.key ≡ c.low)
    × (answer_to c.d c.w c.calls (estimate c.key) ≡ accepted c.value)
    × (upper c.d c.w (traffic c.calls) c.key ≡ c.high)

abbrev pub AllMeet : List Case → Type 0
AllMeet [] = Unit
AllMeet (c ∷ cs) = Meets c × AllMeet cs

-- of the key at slot 10 of 1 row of 32 slots: the numbers of the refused calls, L, the lower figure, the estimate and the upper figure
abbrev pub small : Calls → List ℕ → ℕ → ℕ → ℕ → ℕ → Case
small calls refused l low value high =
    record { d = 1; w = 32; calls = calls; refused = refused; key = at_10; widest_level = l; low = low; value = value; high = high }

-- L is each of 0 to 3, and an estimate is the lower figure, the upper, or between them.
abbrev pub cases : List Case
cases =
    small none [] 0 0 0 0
    ∷ small (none ▸ update at_8 300 ▸ update at_10 5 ▸ update at_11 7) [] 1 5 5 12
    ∷ small (none ▸ update at_10 300 ▸ update at_11 7) [] 1 300 307 307
    ∷ small (none ▸ update at_10 300 ▸ update at_11 7 ▸ update at_8 9 ▸ update at_0 70000) [] 2 300 307 316
    ∷ small (none ▸ update at_10 4294967295 ▸ update at_12 9 ▸ update at_10 1) [] 3 4294967296 4294967305 4294967305
    ∷ small clearings (3 ∷ []) 0 11 11 11
    ∷ small every (8 ∷ 3 ∷ 7 ∷ 3 ∷ 8 ∷ []) 2 600 70600 70600
    ∷ small watching (11 ∷ 5 ∷ []) 1 305 305 305
    ∷ record { d = 2; w = 32; calls = two_rows; refused = []; key = at_10; widest_level = 0; low = 5; value = 5; high = 5 }
    ∷ []

-- An image made by hand: slots 0 and 1 are merged and hold 0. It is accepted, but no traffic leaves such a meter: its widest level is 1,
-- and where all totals are 0 so is L. The premise on an accepted image cannot be left out.
abbrev pub hand_made : List ℕ
hand_made = 0x10000051 ∷ 0x2002ae90 ∷ replicate 31 0x30000000 ++ 0x40000021 ∷ []

abbrev pub ByHand : List ℕ → Type 0
ByHand words =
    ((taken 1 32 (replicate 36 0) words).answer.status ≡ 0)
    × (meter.widest 1 32 (taken 1 32 (replicate 36 0) words).memory ≡ accepted 1)
    × (level 1 32 [] ≡ 0)
