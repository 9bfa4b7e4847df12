-- Which words are the image of a meter. Document 01, 'Images and feeds'. Cited by theorems.
use Rattle.std.specs.Prelude.{ℕ, ◌<◌, ◌≡◌, true, List, length, get_or}
use Rattle.geometry.specs.Checks.{bad_shape}
use Rattle.image_format.specs.Image.{image}
use Rattle.image_format.specs.Write.{valid_rows}

-- the memory of a meter of depth d and width w: its length is theirs, it is of bytes, and its merge bytes are valid
pub record Meter (d w : ℕ) (memory : List ℕ) : Type 0 where
  pub shape : bad_shape d w (length memory) ≡ 0
  pub bytes : (i : ℕ) → get_or memory i 0 < 256
  pub merges : valid_rows d w memory ≡ true

-- words that are the image of such a memory
pub record IsImage (d w : ℕ) (words : List ℕ) : Type 0 where
  pub memory : List ℕ
  pub meter : Meter d w memory
  pub is : words ≡ image d w memory
