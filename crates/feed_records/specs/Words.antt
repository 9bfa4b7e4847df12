-- The words of a record. Document 01, 'Images and feeds'. Cited by contracts.
use Rattle.std.specs.Prelude.{ℕ, ◌+◌, ◌*◌, ◌%◌, ◌^◌, cond, List, eqb}
use Rattle.answer.specs.Numbers.{bad_payload, bad_word}
use Rattle.geometry.specs.Checks.{bad_key}
use Rattle.word.specs.Step.{Step}
use Rattle.word.specs.Word.{end_kind, next, payload, is_due, below}
use Rattle.feed_records.specs.Openings.{Opening}
use Rattle.feed_records.specs.Openings as opening
use Rattle.feed_records.specs.Bodies.{Body}
use Rattle.feed_records.specs.Bodies as body
-- the kinds of a first word and the key words, for those who cite them with the rest
pub use Rattle.feed_lengths.specs.Lengths.{update_kind, query_kind}
pub use Rattle.feed_keys.specs.Keys.{key_kind, key_words, key_of}
unfoldable pub use Rattle.feed_keys.specs.Keys.{key_payload, key_word, check_key, key_byte, key_from}

-- the kind of an amount's words
abbrev pub amount_kind : ℕ
amount_kind = 8

-- a record is opened only if its key length is 1 to 64
unfoldable pub opens_key : ℕ → Opening → Opening
opens_key n o = cond (eqb (bad_key n) 0) o (opening.Refused (bad_key n))

-- The first word: kinds 5 and 6 with the key length, or the end with the number of words before it, modulo 2 ^ 28.
unfoldable pub opened : ℕ → List ℕ → Opening
opened before words =
    cond (is_due words 0 update_kind) (opens_key (payload words 0) (opening.Update (payload words 0)))
    (cond (is_due words 0 query_kind) (opens_key (payload words 0) (opening.Query (payload words 0)))
    (cond (is_due words 0 end_kind) (cond (eqb (payload words 0) (before % 2 ^ 28)) opening.End (opening.Refused bad_payload)) (opening.Refused bad_word)))

-- an amount: two words with 16 bits each
unfoldable pub check_amount : List ℕ → ℕ → Step
check_amount words p = next (below words p amount_kind (2 ^ 16)) (λ q. below words q amount_kind (2 ^ 16))

-- the amount of an update with a key of n bytes, high part first
unfoldable pub amount_of : ℕ → List ℕ → ℕ
amount_of n words = payload words (1 + key_words n) % 2 ^ 16 * 2 ^ 16 + payload words (2 + key_words n) % 2 ^ 16

-- what follows the first word of an update, and of a query
unfoldable pub update_step : ℕ → List ℕ → Step
update_step n words = next (check_key (key_words n) n words 1) (λ p. check_amount words p)

unfoldable pub query_step : ℕ → List ℕ → Step
query_step n words = check_key (key_words n) n words 1

-- the first faulty word, or the amount read; a query's is 0
unfoldable pub body_of : Step → ℕ → Body
body_of s a = cond (eqb s.status 0) (body.Sound a) (body.Refused s.status s.position)

unfoldable pub update_body : ℕ → List ℕ → Body
update_body n words = body_of (update_step n words) (amount_of n words)

unfoldable pub query_body : ℕ → List ℕ → Body
query_body n words = body_of (query_step n words) 0
