-- Refused calls of every kind, with each number of the kind, and calls on damaged contents. Document 02, request 3. Cited by theorems.
use Rattle.std.specs.Prelude.{ℕ, ◌<◌, ◌≡◌, true, false, List, [], ◌∷◌, ◌++◌, pos, replicate}
use Rattle.signed_claim.specs.Calls.{Call, clear, update, estimate, combine, from, raw, Calls, none, then, traffic, run, done, Faithful}
use Rattle.signed_cases.specs.Cases.{minus_10, plus_12, plus_16, minus, ◌▸◌}

-- a group of zeros; a group that is one counter of 2 ^ 63 - 1, and one of minus that, each with merge byte 0x7f
abbrev pub zeros : List ℕ
zeros = replicate 8 0

abbrev pub full : List ℕ
full = replicate 7 255 ++ 127 ∷ []

abbrev pub full_minus : List ℕ
full_minus = replicate 8 255

-- a group whose first slot holds minus zero, and one whose fifth does
abbrev pub first : List ℕ
first = 128 ∷ replicate 7 0

abbrev pub fifth : List ℕ
fifth = replicate 4 0 ++ 128 ∷ replicate 3 0

-- a row of 32 slots: four groups and their merge bytes; 0x02 is not valid
abbrev pub row : List ℕ → List ℕ → List ℕ → List ℕ → List ℕ → List ℕ
row a b c d merges = a ++ b ++ c ++ d ++ merges

-- a meter that holds 1 in slot 0: the sign of the key of byte 10 is minus there
abbrev pub holding : Calls
holding = none ▸ update (10 ∷ []) (minus 1)

-- a call, the d and w that it is told, and the number that it gives
pub record Refusal : Type 0 where
  pub d : ℕ
  pub w : ℕ
  pub call : Call
  pub number : ℕ

abbrev pub told : ℕ → ℕ → Call → ℕ → Refusal
told d w call number = record { d = d; w = w; call = call; number = number }

abbrev pub Refuses : List ℕ → Refusal → Type 0
Refuses memory r = ((done 1 32 r.d r.w r.call memory).status ≡ r.number) × (0 < r.number)

abbrev pub AllRefuse : List ℕ → List Refusal → Type 0
AllRefuse memory [] = Unit
AllRefuse memory (r ∷ rs) = Refuses memory r × AllRefuse memory rs

-- The calls break as many lines as they can, and the first gives the number: 1, 2, 12, 3, 4; of a source 5, in whatever group, before 13
-- in another and 13 before 6.
abbrev pub refusals : List Refusal
refusals =
    told 0 33 clear 1
    ∷ told 2 33 clear 2
    ∷ told 2 32768 clear 2
    ∷ told 2 32 clear 12
    ∷ told 1 64 clear 3
    ∷ told 10 33 (update [] (pos 1)) 1
    ∷ told 2 33 (update [] (pos 1)) 2
    ∷ told 2 65536 (update [] (pos 1)) 2
    ∷ told 2 32 (update [] (pos 1)) 12
    ∷ told 3 32 (update [] (pos 1)) 3
    ∷ told 1 32 (update [] (pos 1)) 4
    ∷ told 1 32 (update (replicate 65 7) (pos 1)) 4
    ∷ told 10 33 (estimate []) 1
    ∷ told 2 33 (estimate []) 2
    ∷ told 2 32768 (estimate []) 2
    ∷ told 2 16384 (estimate []) 12
    ∷ told 2 32 (estimate []) 12
    ∷ told 3 32 (estimate []) 3
    ∷ told 1 32 (estimate []) 4
    ∷ told 10 33 (combine false (raw [])) 1
    ∷ told 2 33 (combine true (raw [])) 2
    ∷ told 2 65536 (combine true (raw [])) 2
    ∷ told 2 32 (combine false (raw [])) 12
    ∷ told 3 32 (combine true (raw (replicate 108 0))) 3
    ∷ told 1 32 (combine false (raw (0 ∷ row full first zeros zeros (0x7f ∷ 0 ∷ 0 ∷ 0x02 ∷ [])))) 3
    ∷ told 1 32 (combine false (raw (row full first zeros zeros (0x7f ∷ 0 ∷ 0 ∷ 0x02 ∷ [])))) 5
    ∷ told 1 32 (combine true (raw (row full_minus zeros zeros fifth (0x7f ∷ 0x02 ∷ 0 ∷ 0 ∷ [])))) 5
    ∷ told 1 32 (combine false (raw (row full zeros zeros fifth (0x7f ∷ 0 ∷ 0 ∷ 0 ∷ [])))) 13
    ∷ told 1 32 (combine true (raw (row full_minus first zeros zeros (0x7f ∷ 0 ∷ 0 ∷ 0 ∷ [])))) 13
    ∷ told 1 32 (combine false (raw (row full zeros zeros zeros (0x7f ∷ 0 ∷ 0 ∷ 0 ∷ [])))) 6
    ∷ told 1 32 (combine true (raw (row full_minus zeros zeros zeros (0x7f ∷ 0 ∷ 0 ∷ 0 ∷ [])))) 6
    ∷ []

-- a list, then these refused calls
abbrev pub refused : Calls → List Refusal → Calls
refused calls [] = calls
refused calls (r ∷ rs) = refused (then calls r.d r.w r.call false) rs

-- each gives its number after the list, and together with it they are a list in which none leaves a trace
pub record Unmoved (calls : Calls) (rs : List Refusal) : Type 0 where
  pub gives : AllRefuse (run 1 32 calls) rs
  pub faithful : Faithful 1 32 (refused calls rs)
  pub memory : run 1 32 (refused calls rs) ≡ run 1 32 calls
  pub pairs : traffic (refused calls rs) ≡ traffic calls

-- what a call gives on a content of d rows of 32 slots that no list leaves
pub record Damaged : Type 0 where
  pub d : ℕ
  pub content : List ℕ
  pub call : Call
  pub number : ℕ

abbrev pub on : ℕ → List ℕ → Call → ℕ → Damaged
on d content call number = record { d = d; content = content; call = call; number = number }

abbrev pub Gives : Damaged → Type 0
Gives x = (done x.d 32 x.d 32 x.call x.content).status ≡ x.number

abbrev pub AllGive : List Damaged → Type 0
AllGive [] = Unit
AllGive (x ∷ xs) = Gives x × AllGive xs

-- minus zero in slot 12, and that in a group with a merge byte that is not valid
abbrev pub minus_zeroed : List ℕ
minus_zeroed = row zeros fifth zeros zeros (replicate 4 0)

abbrev pub invalid : List ℕ
invalid = row zeros fifth zeros zeros (0 ∷ 0x02 ∷ 0 ∷ 0 ∷ [])

-- slots 8 to 15 are one counter of 2 ^ 63 - 1
abbrev pub filled : List ℕ
filled = row zeros full zeros zeros (0 ∷ 0x7f ∷ 0 ∷ 0 ∷ [])

-- a row with minus zero in slot 10, one with minus zero in slot 5, and one whose first merge byte is not valid: where the key of byte 65
-- lands in rows 0, 1 and 2, but for the last, where it is slot 3
abbrev pub zero_at_10 : List ℕ
zero_at_10 = row zeros (0 ∷ 0 ∷ 128 ∷ replicate 5 0) zeros zeros (replicate 4 0)

abbrev pub zero_at_5 : List ℕ
zero_at_5 = row (replicate 5 0 ++ 128 ∷ 0 ∷ 0 ∷ []) zeros zeros zeros (replicate 4 0)

abbrev pub invalid_at_3 : List ℕ
invalid_at_3 = row zeros zeros zeros zeros (0x02 ∷ 0 ∷ 0 ∷ 0 ∷ [])

abbrev pub damaged : List Damaged
damaged =
    -- a clearing reads nothing
    on 1 invalid clear 0
    -- only the groups that a call reads count
    ∷ on 1 minus_zeroed (update plus_12 (pos 1)) 13
    ∷ on 1 minus_zeroed (estimate plus_12) 13
    ∷ on 1 minus_zeroed (estimate minus_10) 13
    ∷ on 1 minus_zeroed (update plus_16 (pos 1)) 0
    ∷ on 1 minus_zeroed (estimate plus_16) 0
    ∷ on 1 minus_zeroed (combine false (from none)) 13
    ∷ on 1 invalid (update plus_12 (pos 1)) 5
    ∷ on 1 invalid (estimate plus_12) 5
    ∷ on 1 invalid (combine true (from none)) 5
    -- a full counter takes what makes its magnitude no larger
    ∷ on 1 filled (update plus_12 (pos 1)) 6
    ∷ on 1 filled (update minus_10 (minus 1)) 6
    ∷ on 1 filled (update plus_12 (minus 1)) 0
    ∷ on 1 filled (update plus_12 (pos 0)) 0
    ∷ on 1 filled (estimate plus_12) 0
    ∷ on 1 filled (combine true (raw filled)) 0
    ∷ on 1 filled (combine false (raw filled)) 6
    -- 5 in any group or row before 13 in any, and 13 before 6
    ∷ on 1 minus_zeroed (combine false (raw (row zeros zeros zeros zeros (0 ∷ 0 ∷ 0 ∷ 0x02 ∷ [])))) 5
    ∷ on 1 filled (combine false (raw (row zeros full zeros first (0 ∷ 0x7f ∷ 0 ∷ 0 ∷ [])))) 13
    ∷ on 3 (zero_at_10 ++ zero_at_5 ++ invalid_at_3) (estimate minus_10) 5
    ∷ on 3 (filled ++ zero_at_5 ++ replicate 36 0) (update minus_10 (minus 1)) 13
    ∷ on 3 (filled ++ replicate 72 0) (update minus_10 (minus 1)) 6
    ∷ []
