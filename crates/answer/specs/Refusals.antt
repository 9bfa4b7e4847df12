-- The number of each refusal, and of a result. Cited by contracts.
use Rattle.std.specs.Prelude.{ℕ, Result, Ok, Err}
use Rattle.answer.specs.Numbers as numbers
use Rattle.answer.specs.declared.Refusal.{Refusal}
use Rattle.answer.specs.declared.Refusal.TheVariants.{InvalidDepth, InvalidWidth, EvenDepth, WrongLength, InvalidKeyLength, InvalidContent, MinusZero, ZeroThreshold, CounterFull, TooFewWords, BadWord, BadPayload, OtherMeter}

unfoldable pub number : Refusal → ℕ
number InvalidDepth = numbers.invalid_depth
number InvalidWidth = numbers.invalid_width
number EvenDepth = numbers.even_depth
number WrongLength = numbers.wrong_length
number InvalidKeyLength = numbers.invalid_key_length
number InvalidContent = numbers.invalid_content
number MinusZero = numbers.minus_zero
number ZeroThreshold = numbers.zero_threshold
number CounterFull = numbers.counter_full
number TooFewWords = numbers.too_few_words
number BadWord = numbers.bad_word
number BadPayload = numbers.bad_payload
number OtherMeter = numbers.other_meter

-- the status of a result: 0 says that nothing is refused
unfoldable pub status : {A : Type 0} → Result A Refusal → ℕ
status (Ok v) = 0
status (Err r) = number r
