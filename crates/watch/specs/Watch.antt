-- The calls of a watch list. Document 02, request 1. Cited by contracts and theorems.
use Rattle.std.specs.Prelude.{ℕ, List, [], ◌∷◌, length, replicate}
use Rattle.answer.specs.declared.Answer.{Answer}
use Rattle.answer.specs.Order.{first_of, earliest}
use Rattle.answer.specs.Answers.{answer_of, leaves, Done, finish}
use Rattle.geometry.specs.Checks.{bad_key}
use Rattle.meter.specs.Meter.{updated, estimated}
use Rattle.watch_list.specs.List.{noted, taken_off}
use Rattle.watch_list.specs.Layout.{encode, decode}
use Rattle.watch_checks.specs.Checks.{bad_list, broken_list, bad_threshold, bad_lines}

-- Clearing a list tests its length alone and sets every byte to 0.
unfoldable pub list_cleared : List ℕ → Done
list_cleared list = finish (bad_list list) 0 (replicate (length list) 0) list

-- what an update through a list answers and leaves in the memory and in the list
pub record Watched : Type 0 where
  pub answer : Answer
  pub memory : List ℕ
  pub list : List ℕ

-- lines 1 to 4, then the first of 5, 11 and 6
unfoldable pub watch_status : ℕ → ℕ → List ℕ → List ℕ → List ℕ → ℕ → ℕ → ℕ
watch_status d w memory list key amount threshold =
    first_of (bad_lines d w memory list key ∷ earliest ((updated d w memory key amount).answer.status ∷ broken_list list ∷ bad_threshold threshold ∷ []) ∷ [])

-- An update through a list is the meter's update; then the list notes the key's estimate, taken from the memory that the update left.
unfoldable pub noted_in : ℕ → ℕ → List ℕ → List ℕ → List ℕ → ℕ → List ℕ
noted_in d w memory list key threshold = encode (noted key (estimated d w memory key).value threshold (decode list))

unfoldable pub watched : ℕ → ℕ → List ℕ → List ℕ → List ℕ → ℕ → ℕ → Watched
watched d w memory list key amount threshold =
    record {
      answer = answer_of (watch_status d w memory list key amount threshold) 0;
      memory = leaves (watch_status d w memory list key amount threshold) (updated d w memory key amount).memory memory;
      list = leaves (watch_status d w memory list key amount threshold) (noted_in d w (updated d w memory key amount).memory list key threshold) list;
    }

-- Taking a key off.
unfoldable pub bad_removal : List ℕ → List ℕ → ℕ
bad_removal list key = first_of (bad_list list ∷ bad_key (length key) ∷ broken_list list ∷ [])

unfoldable pub removed : List ℕ → List ℕ → Done
removed list key = finish (bad_removal list key) 0 (encode (taken_off key (decode list))) list
