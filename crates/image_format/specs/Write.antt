-- Writing an image. Document 01, 'Images and feeds' and 'Turned away, in checking order'. Cited by contracts and theorems.
use Rattle.std.specs.Prelude.{ℕ, zero, suc, ◌+◌, Bool, true, cond, ◌&&◌, List, [], ◌∷◌, ◌++◌, leb, length, take, drop}
use Rattle.answer.specs.declared.Answer.{Answer}
use Rattle.group.specs.Group.{valid_merge}
use Rattle.answer.specs.Answers.{answer_of, leaves}
use Rattle.answer.specs.Numbers.{invalid_content, too_few_words}
use Rattle.geometry.specs.Geometry.{stride}
use Rattle.answer.specs.Order.{unless, first_of}
use Rattle.geometry.specs.Checks.{bad_shape}
use Rattle.image_format.specs.Image.{word_count, level_at, is_first, image}

-- whether all of these merge bytes are valid
unfoldable pub all_valid : List ℕ → Bool
all_valid [] = true
all_valid (m ∷ ms) = valid_merge m && all_valid ms

-- whether the merge bytes of n rows of w slots are valid; a row's are those after its w count bytes
unfoldable pub valid_rows : ℕ → ℕ → List ℕ → Bool
valid_rows zero w memory = true
valid_rows (suc n) w memory = all_valid (drop w (take (stride w) memory)) && valid_rows n w (drop (stride w) memory)

-- the number of words that n slots of a group with this merge byte take, the first of which is slot k
unfoldable pub slot_size : ℕ → ℕ → ℕ
slot_size merge k = cond (is_first merge k) (word_count (level_at merge k)) 0

unfoldable pub slots_size : ℕ → ℕ → ℕ → ℕ
slots_size zero k merge = 0
slots_size (suc n) k merge = slot_size merge k + slots_size n (k + 1) merge

unfoldable pub group_size : ℕ → ℕ
group_size merge = slots_size 8 0 merge

-- what a call answers and leaves in the words it may write
pub record Written : Type 0 where
  pub answer : Answer
  pub words : List ℕ

unfoldable pub write_status : ℕ → ℕ → List ℕ → List ℕ → ℕ
write_status d w memory words =
    first_of
    (bad_shape d w (length memory) ∷ unless (valid_rows d w memory) invalid_content
    ∷ unless (leb (length (image d w memory)) (length words)) too_few_words ∷ [])

-- Lent words past the image stay.
unfoldable pub finish_write : ℕ → List ℕ → List ℕ → Written
finish_write status new words = record { answer = answer_of status (length new); words = leaves status (new ++ drop (length new) words) words }

unfoldable pub written : ℕ → ℕ → List ℕ → List ℕ → Written
written d w memory words = finish_write (write_status d w memory words) (image d w memory) words
