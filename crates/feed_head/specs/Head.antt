-- A feed's head. Document 01, 'Images and feeds' and 'Turned away, in checking order'. Cited by contracts.
use Rattle.std.specs.Prelude.{ℕ, ◌/◌, ◌%◌, ◌^◌, cond, List, [], ◌∷◌, eqb}
use Rattle.answer.specs.declared.Answer.{Answer}
use Rattle.answer.specs.Answers.{accepted, refused_at}
use Rattle.answer.specs.Order.{first_of}
use Rattle.geometry.specs.Checks.{bad_depth, bad_width}
use Rattle.word.specs.Step.{Step}
use Rattle.word.specs.Word.{head_kind, stop, next, payload, below}

-- d is in the low four bits of the head's payload, log2 w in the next five
abbrev pub head_depth : ℕ → ℕ
head_depth v = v % 16

unfoldable pub head_width : ℕ → ℕ
head_width v = 2 ^ (v / 16 % 32)

-- lines 1 and 2
unfoldable pub bad_geometry : ℕ → ℕ
bad_geometry v = first_of (bad_depth (head_depth v) ∷ bad_width (head_width v) ∷ [])

-- Bits 9 to 27 are 0; then lines 1 and 2.
unfoldable pub head_step : List ℕ → Step
head_step words = next (below words 0 head_kind (2 ^ 9)) (λ p. stop (bad_geometry (payload words 0)) 0)

-- The value of an accepted head is its payload.
unfoldable pub headed : List ℕ → Answer
headed words = cond (eqb (head_step words).status 0) (accepted (payload words 0)) (refused_at (head_step words).status (head_step words).position)
