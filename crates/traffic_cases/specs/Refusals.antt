-- Refused calls of every kind, with each number that the kind can give within a list of calls. Cited by theorems.
use Rattle.std.specs.Prelude.{ℕ, ◌<◌, ◌≡◌, true, false, List, [], ◌∷◌, ◌++◌, replicate}
use Rattle.traffic.specs.Traffic.{Pair}
use Rattle.traffic.specs.Calls.{Call, Calls, none, then, clear, update, estimate, widest, unite, write, read, feed, watch, from, raw, traffic, run, done, Faithful}
use Rattle.traffic_cases.specs.Cases.{at_0, at_8, update_words, end_words, cleared, broken}

-- updates of keys of one byte on a meter of 1 row of 64 slots, the last first
abbrev pub one : ℕ → ℕ → Pair
one byte amount = record { key = byte ∷ []; amount = amount }

abbrev pub updates : List Pair → Calls
updates [] = none
updates (p ∷ ps) = then (updates ps) 1 64 (update p.key p.amount) true

-- A meter that holds 255 in each of slots 0 to 7, 127 in slot 32 and 2 in slot 33. Read as 2 rows of 32 slots, which are as many bytes,
-- slots 32 to 35 are the merge bytes of row 0: its first group is one counter of 2 ^ 64 - 1, and the merge byte of its second is invalid.
abbrev pub holding : Calls
holding =
    updates (one 14 255 ∷ one 10 255 ∷ one 6 255 ∷ one 2 255 ∷ one 0 255 ∷ one 58 255 ∷ one 54 255 ∷ one 50 255 ∷ one 142 127 ∷ one 138 2 ∷ [])

-- 72 bytes as a union's source: with a merge byte that is not valid, and with a first group of 2 ^ 64 - 1
abbrev pub invalid_bytes : List ℕ
invalid_bytes = replicate 64 0 ++ 0x02 ∷ replicate 7 0

abbrev pub full_bytes : List ℕ
full_bytes = replicate 8 255 ++ replicate 56 0 ++ 0x7f ∷ replicate 7 0

-- a call, the d and w that it is told, and the number that it gives
pub record Refusal : Type 0 where
  pub d : ℕ
  pub w : ℕ
  pub call : Call
  pub number : ℕ

abbrev pub told : ℕ → ℕ → Call → ℕ → Refusal
told d w call number = record { d = d; w = w; call = call; number = number }

abbrev pub Refuses : List ℕ → Refusal → Type 0
Refuses memory r = ((done 1 64 r.d r.w r.call memory).answer.status ≡ r.number) × (0 < r.number)

abbrev pub AllRefuse : List ℕ → List Refusal → Type 0
AllRefuse memory [] = Unit
AllRefuse memory (r ∷ rs) = Refuses memory r × AllRefuse memory rs

abbrev pub refusals : List Refusal
refusals =
    told 0 64 clear 1
    ∷ told 1 63 clear 2
    ∷ told 1 32768 clear 2
    ∷ told 1 32 clear 3
    ∷ told 9 64 (update at_0 1) 1
    ∷ told 1 0 (update at_0 1) 2
    ∷ told 1 65536 (update at_0 1) 2
    ∷ told 1 32 (update at_0 1) 3
    ∷ told 1 64 (update [] 1) 4
    ∷ told 2 32 (update at_8 1) 5
    ∷ told 2 32 (update at_0 1) 6
    ∷ told 9 64 (estimate at_0) 1
    ∷ told 1 32768 (estimate at_0) 2
    ∷ told 1 65536 (estimate at_0) 2
    ∷ told 1 16384 (estimate at_0) 3
    ∷ told 2 64 (estimate at_0) 3
    ∷ told 1 64 (estimate (replicate 65 7)) 4
    ∷ told 2 32 (estimate at_8) 5
    ∷ told 9 64 widest 1
    ∷ told 1 16 widest 2
    ∷ told 1 32768 widest 2
    ∷ told 1 32 widest 3
    ∷ told 2 32 widest 5
    ∷ told 9 64 (unite (from none)) 1
    ∷ told 1 96 (unite (from none)) 2
    ∷ told 1 65536 (unite (from none)) 2
    ∷ told 1 64 (unite (raw [])) 3
    ∷ told 1 64 (unite (raw invalid_bytes)) 5
    ∷ told 1 64 (unite (raw full_bytes)) 6
    ∷ told 9 64 (write []) 1
    ∷ told 1 63 (write []) 2
    ∷ told 1 32768 (write []) 2
    ∷ told 1 32 (write []) 3
    ∷ told 2 32 (write []) 5
    ∷ told 1 64 (write []) 7
    ∷ told 9 64 (read (from none)) 1
    ∷ told 1 63 (read (from none)) 2
    ∷ told 1 65536 (read (from none)) 2
    ∷ told 1 32 (read (from none)) 3
    ∷ told 1 64 (read (raw [])) 8
    ∷ told 1 64 (read (raw (0x10000261 ∷ []))) 9
    ∷ told 2 32 (read (from none)) 10
    ∷ told 1 64 (read (raw (0x100000f1 ∷ []))) 10
    ∷ told 1 64 (read (raw (0x10000101 ∷ []))) 10
    ∷ told 9 64 (feed 1 update_words) 1
    ∷ told 1 63 (feed 1 update_words) 2
    ∷ told 1 32768 (feed 1 update_words) 2
    ∷ told 1 32 (feed 1 update_words) 3
    ∷ told 1 64 (feed 1 (0x50000000 ∷ [])) 4
    ∷ told 2 32 (feed 1 (0x60000001 ∷ 0x704a0000 ∷ [])) 5
    ∷ told 2 32 (feed 1 (0x50000001 ∷ 0x700a0000 ∷ 0x80000000 ∷ 0x80000001 ∷ [])) 6
    ∷ told 1 64 (feed 1 []) 8
    ∷ told 1 64 (feed 1 end_words) 9
    ∷ told 9 64 (watch cleared at_0 1 1) 1
    ∷ told 1 63 (watch cleared at_0 1 1) 2
    ∷ told 1 65536 (watch cleared at_0 1 1) 2
    ∷ told 1 32 (watch cleared at_0 1 1) 3
    ∷ told 1 64 (watch [] [] 1 1) 3
    ∷ told 1 64 (watch broken [] 1 0) 4
    ∷ told 2 32 (watch cleared at_8 1 0) 5
    ∷ told 2 32 (watch broken at_0 1 0) 5
    ∷ told 2 32 (watch cleared at_0 1 0) 11
    ∷ told 2 32 (watch cleared at_0 1 1) 6
    ∷ []

-- a list, then these refused calls
abbrev pub refused : Calls → List Refusal → Calls
refused calls [] = calls
refused calls (r ∷ rs) = refused (then calls r.d r.w r.call false) rs

-- each gives its number after the list, and together with it they are a list in which none leaves a trace
pub record Unmoved (calls : Calls) (rs : List Refusal) : Type 0 where
  pub gives : AllRefuse (run 1 64 calls) rs
  pub faithful : Faithful 1 64 (refused calls rs)
  pub memory : run 1 64 (refused calls rs) ≡ run 1 64 calls
  pub pairs : traffic (refused calls rs) ≡ traffic calls
