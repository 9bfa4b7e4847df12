-- Lists of a signed meter's calls, the traffic of a list and the memory that it leaves. Document 02, request 3. Cited by theorems.
use Rattle.std.specs.Prelude.{ℕ, ◌≡◌, Bool, true, cond, List, [], ◌∷◌, ◌++◌, eqb, replicate, ℤ}
use Rattle.geometry.specs.Geometry.{size}
use Rattle.signed.specs.Signed.{cleared, updated, estimated, combined_meters}
use Rattle.signed_claim.specs.Traffic.{Pair, times_pairs}

mutual
  -- A call's arguments, but for the d and w that it is told.
  pub data Call : Type 0 where
    clear : Call
    update : (key : List ℕ) (amount : ℤ) → Call
    estimate : (key : List ℕ) → Call
    -- a source added or, with a minus, taken away
    combine : (minus : Bool) → Source → Call

  -- Where a source comes from: the list that left the meter, or anything at all.
  pub data Source : Type 0 where
    from : Calls → Source
    raw : List ℕ → Source

  -- A list of calls, the last one outermost: `then calls d w call ok` is `calls`, then `call` told d and w, with ok whether its status
  -- (document 01: number) was 0.
  pub data Calls : Type 0 where
    none : Calls
    then : Calls → (d w : ℕ) → Call → (ok : Bool) → Calls

-- The traffic (document 01: the book) sees the calls and whether each was accepted, and no memory. An accepted update adds its pair; an
-- accepted clearing empties it; an accepted source's traffic is added, that of one taken away with the other sign. All else, refused
-- calls too, leaves it.
unfoldable mutual
  pub traffic : Calls → List Pair
  traffic none = []
  traffic (then calls d w call ok) = cond ok (after call (traffic calls)) (traffic calls)

  pub after : Call → List Pair → List Pair
  after clear pairs = []
  after (update key amount) pairs = record { key = key; amount = amount } ∷ pairs
  after (estimate key) pairs = pairs
  after (combine minus source) pairs = times_pairs minus (behind source) ++ pairs

  pub behind : Source → List Pair
  behind (from calls) = traffic calls
  behind (raw content) = []

-- what a call answers, by its status, and leaves
pub record Left : Type 0 where
  pub status : ℕ
  pub memory : List ℕ

-- The memory that a list leaves, of a meter of d rows of w slots: it starts cleared, and each call gets the memory that the last one
-- left. What a call answers and leaves is by the definitions that its contract cites; d' and w' are what it was told.
unfoldable mutual
  pub run : ℕ → ℕ → Calls → List ℕ
  run d w none = replicate (size d w) 0
  run d w (then calls d' w' call ok) = (done d w d' w' call (run d w calls)).memory

  pub done : ℕ → ℕ → ℕ → ℕ → Call → List ℕ → Left
  done d w d' w' clear memory = record { status = (cleared d' w' memory).answer.status; memory = (cleared d' w' memory).memory }
  done d w d' w' (update key amount) memory =
      record { status = (updated d' w' memory key amount).answer.status; memory = (updated d' w' memory key amount).memory }
  done d w d' w' (estimate key) memory = record { status = (estimated d' w' memory key).status; memory = memory }
  done d w d' w' (combine minus source) memory =
      record {
        status = (combined_meters minus d' w' memory (bytes_of d w source)).answer.status;
        memory = (combined_meters minus d' w' memory (bytes_of d w source)).memory;
      }

  pub bytes_of : ℕ → ℕ → Source → List ℕ
  bytes_of d w (from calls) = run d w calls
  bytes_of d w (raw content) = content

-- A list is faithful if ok says of each call whether its status was 0 on the memory that the calls before it left, and if each accepted
-- call was told d and w and took its source, if any, from a meter that such a list left. A refused call may have been told anything and
-- may have any source.
unfoldable mutual
  pub Faithful : ℕ → ℕ → Calls → Type 0
  Faithful d w none = Unit
  Faithful d w (then calls d' w' call ok) =
      Faithful d w calls × (eqb (done d w d' w' call (run d w calls)).status 0 ≡ ok) × (ok ≡ true → (d' ≡ d) × (w' ≡ w) × Listed d w call)

  pub Listed : ℕ → ℕ → Call → Type 0
  Listed d w clear = Unit
  Listed d w (update key amount) = Unit
  Listed d w (estimate key) = Unit
  Listed d w (combine minus source) = LeftBy d w source

  pub LeftBy : ℕ → ℕ → Source → Type 0
  LeftBy d w (from calls) = Faithful d w calls
  LeftBy d w (raw content) = ⊥
