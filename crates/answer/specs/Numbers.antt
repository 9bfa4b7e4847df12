-- The numbers of refusals, of documents 01 and 02, in checking order. Cited by contracts and theorems.
use Rattle.std.specs.Prelude.{ℕ, List, [], ◌∷◌}

abbrev pub invalid_depth : ℕ
invalid_depth = 1

abbrev pub invalid_width : ℕ
invalid_width = 2

abbrev pub wrong_length : ℕ
wrong_length = 3

abbrev pub invalid_key_length : ℕ
invalid_key_length = 4

-- a merge byte, or what is kept beside a meter, that is not valid
abbrev pub invalid_content : ℕ
invalid_content = 5

abbrev pub counter_full : ℕ
counter_full = 6

abbrev pub too_few_words : ℕ
too_few_words = 7

abbrev pub bad_word : ℕ
bad_word = 8

abbrev pub bad_payload : ℕ
bad_payload = 9

abbrev pub other_meter : ℕ
other_meter = 10

abbrev pub zero_threshold : ℕ
zero_threshold = 11

abbrev pub even_depth : ℕ
even_depth = 12

-- a counter of a signed meter that holds minus zero
abbrev pub minus_zero : ℕ
minus_zero = 13

-- The list. A number's line comes before another's where it stands before it here, whatever their sizes.
abbrev pub order : List ℕ
order =
    invalid_depth
    ∷ invalid_width
    ∷ even_depth
    ∷ wrong_length
    ∷ invalid_key_length
    ∷ invalid_content
    ∷ minus_zero
    ∷ zero_threshold
    ∷ counter_full
    ∷ too_few_words
    ∷ bad_word
    ∷ bad_payload
    ∷ other_meter
    ∷ []
