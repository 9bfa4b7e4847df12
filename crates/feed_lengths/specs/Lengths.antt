-- How many words a record takes and needs. Document 01, 'Images and feeds'. Cited by contracts.
use Rattle.std.specs.Prelude.{ℕ, ◌+◌, cond, List, eqb}
use Rattle.geometry.specs.Checks.{bad_key}
use Rattle.word.specs.Word.{payload, is_due}
use Rattle.feed_keys.specs.Keys.{key_words}

-- the kinds of a record's first word; a query is document 01's asking record
abbrev pub update_kind : ℕ
update_kind = 5

abbrev pub query_kind : ℕ
query_kind = 6

-- The number of words that a record or the end takes follows from the first word's kind and key length.
unfoldable pub words_taken : List ℕ → ℕ
words_taken words =
    cond (is_due words 0 update_kind) (1 + key_words (payload words 0) + 2) (cond (is_due words 0 query_kind) (1 + key_words (payload words 0)) 1)

-- The number of words that must be at hand for a record to be carried out: one, and after a first word that opens a record all its words.
unfoldable pub words_needed : List ℕ → ℕ
words_needed words = cond (eqb (bad_key (payload words 0)) 0) (words_taken words) 1
