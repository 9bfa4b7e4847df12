-- Lists of calls, the traffic of a list and the memory that it leaves. Document 01, 'Traffic and its two figures'. Cited by theorems.
use Rattle.std.specs.Prelude.{ℕ, ◌≡◌, Bool, true, cond, List, [], ◌∷◌, ◌++◌, eqb, replicate}
use Rattle.geometry.specs.Geometry.{size}
use Rattle.answer.specs.Answers.{Done}
use Rattle.meter.specs.Meter.{cleared, updated, estimated, united}
use Rattle.meter.specs.Meter as meter
use Rattle.image_format.specs.Image.{image}
use Rattle.image_format.specs.Write.{written}
use Rattle.image_format.specs.Read.{taken}
use Rattle.word.specs.Word.{payload, is_due}
use Rattle.feed.specs.Answers.{record_answer}
use Rattle.feed_records.specs.Words.{update_kind, key_of, amount_of}
use Rattle.feed.specs.Record.{recorded}
use Rattle.watch.specs.Watch.{watched}
use Rattle.traffic.specs.Traffic.{Pair}

mutual
  -- A call's arguments, but for the d and w that it is told.
  pub data Call : Type 0 where
    clear : Call
    update : (key : List ℕ) (amount : ℕ) → Call
    estimate : (key : List ℕ) → Call
    widest : Call
    unite : Source → Call
    -- an image written into lent words, and an image read
    write : (words : List ℕ) → Call
    read : Source → Call
    -- a feed's record or end, in the words lent from there on, told how many words came before
    feed : (before : ℕ) (words : List ℕ) → Call
    -- an update through a watch list, with any content of the list
    watch : (list key : List ℕ) (amount threshold : ℕ) → Call

  -- Where a union's source or an image comes from: the list that left the meter, or anything at all, bytes or words.
  pub data Source : Type 0 where
    from : Calls → Source
    raw : List ℕ → Source

  -- A list of calls, the last one outermost: `then calls d w call ok` is `calls`, then `call` told d and w, with ok whether its status
  -- (document 01: number) was 0.
  pub data Calls : Type 0 where
    none : Calls
    then : Calls → (d w : ℕ) → Call → (ok : Bool) → Calls

-- the pair of an update record: the words give it, and no memory
unfoldable pub record_pair : List ℕ → Pair
record_pair words = record { key = key_of (payload words 0) words; amount = amount_of (payload words 0) words }

-- The traffic (document 01: the book) sees the calls and whether each was accepted, and no memory. An accepted update, by call, by
-- record or through a watch list, adds its pair; an accepted clearing empties it; an accepted union adds the traffic of the source's
-- list; an accepted image puts that of the image's list in its place. All else, refused calls too, leaves it.
unfoldable mutual
  pub traffic : Calls → List Pair
  traffic none = []
  traffic (then calls d w call ok) = cond ok (after call (traffic calls)) (traffic calls)

  pub after : Call → List Pair → List Pair
  after clear pairs = []
  after (update key amount) pairs = record { key = key; amount = amount } ∷ pairs
  after (estimate key) pairs = pairs
  after widest pairs = pairs
  after (unite source) pairs = behind source ++ pairs
  after (write words) pairs = pairs
  after (read source) pairs = behind source
  after (feed before words) pairs = cond (is_due words 0 update_kind) (record_pair words ∷ pairs) pairs
  after (watch list key amount threshold) pairs = record { key = key; amount = amount } ∷ pairs

  pub behind : Source → List Pair
  behind (from calls) = traffic calls
  behind (raw content) = []

-- The memory that a list leaves, of a meter of d rows of w slots: it starts cleared, and each call gets the memory that the last one
-- left. What a call answers and leaves is by the definitions that its contract cites; d' and w' are what it was told. What is left of a
-- watch list is not the meter's.
unfoldable mutual
  pub run : ℕ → ℕ → Calls → List ℕ
  run d w none = replicate (size d w) 0
  run d w (then calls d' w' call ok) = (done d w d' w' call (run d w calls)).memory

  pub done : ℕ → ℕ → ℕ → ℕ → Call → List ℕ → Done
  done d w d' w' clear memory = cleared d' w' memory
  done d w d' w' (update key amount) memory = updated d' w' memory key amount
  done d w d' w' (estimate key) memory = record { answer = estimated d' w' memory key; memory = memory }
  done d w d' w' widest memory = record { answer = meter.widest d' w' memory; memory = memory }
  done d w d' w' (unite source) memory = united d' w' memory (bytes_of d w source)
  done d w d' w' (write words) memory = record { answer = (written d' w' memory words).answer; memory = memory }
  done d w d' w' (read source) memory = taken d' w' memory (words_of d w source)
  done d w d' w' (feed before words) memory =
      record { answer = record_answer (recorded d' w' memory before words).outcome; memory = (recorded d' w' memory before words).memory }
  done d w d' w' (watch list key amount threshold) memory =
      record { answer = (watched d' w' memory list key amount threshold).answer; memory = (watched d' w' memory list key amount threshold).memory }

  -- a union's source
  pub bytes_of : ℕ → ℕ → Source → List ℕ
  bytes_of d w (from calls) = run d w calls
  bytes_of d w (raw content) = content

  -- an image
  pub words_of : ℕ → ℕ → Source → List ℕ
  words_of d w (from calls) = image d w (run d w calls)
  words_of d w (raw content) = content

-- A list is faithful if ok says of each call whether its status was 0 on the memory that the calls before it left, and if each accepted
-- call was told d and w and took its source or its image, if any, from a meter that such a list left. A refused call may have been told
-- anything and may have any source or image.
unfoldable mutual
  pub Faithful : ℕ → ℕ → Calls → Type 0
  Faithful d w none = Unit
  Faithful d w (then calls d' w' call ok) =
      Faithful d w calls
      × (eqb (done d w d' w' call (run d w calls)).answer.status 0 ≡ ok)
      × (ok ≡ true → (d' ≡ d) × (w' ≡ w) × Listed d w call)

  pub Listed : ℕ → ℕ → Call → Type 0
  Listed d w clear = Unit
  Listed d w (update key amount) = Unit
  Listed d w (estimate key) = Unit
  Listed d w widest = Unit
  Listed d w (unite source) = LeftBy d w source
  Listed d w (write words) = Unit
  Listed d w (read source) = LeftBy d w source
  Listed d w (feed before words) = Unit
  Listed d w (watch list key amount threshold) = Unit

  pub LeftBy : ℕ → ℕ → Source → Type 0
  LeftBy d w (from calls) = Faithful d w calls
  LeftBy d w (raw content) = ⊥
