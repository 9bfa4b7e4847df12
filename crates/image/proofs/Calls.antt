-- What the calls answer, by their tests.
use mathlib.Core.Path.{◌≡◌, refl}
use mathlib.Core.Bool.{true, false}
use mathlib.Core.List.{List, [], ◌∷◌, ◌++◌}
use Prim.Native.Nat.{ℕ, zero, suc, ◌*◌, ◌≤◌, ◌<◌}
use borrow.Author.Tests.{eq-eqb, ne_eqb, le-leb, lt-leb}
use lib.Dec.{leb}
use lib.ListN.{length, drop}
use Rattle.answer.specs.Answers.{accepted, refused, answer_of, leaves}
use Rattle.answer.specs.Numbers.{invalid_content, too_few_words}
use Rattle.geometry.specs.Geometry.{stride, size}
use Rattle.answer.specs.Order.{unless, first_of}
use Rattle.geometry.specs.Checks.{bad_shape}
use Rattle.geometry.proofs.Widths.{Wide, wide, shape_good}
use Rattle.word.specs.Step.{Step}
use Rattle.image_format.specs.Image.{image}
use Rattle.image_format.specs.Write.{valid_rows, write_status, finish_write, written}
use Rattle.image_format.specs.Read.{checked, read_rows, read_answer, finish_read, taken}

-- a call whose depth, width and memory have passed
pub record Sound (d w n : ℕ) : Type 0 where
  pub deep : 1 ≤ d
  pub depth : d ≤ 8
  pub width : Wide w
  pub long : n ≡ d * stride w

pub sound_call : (d w n : ℕ) → bad_shape d w n ≡ 0 → Sound d w n
unfolding size
sound_call d w n e =
    let s = shape_good d w n e in
    record { deep = s.0; depth = s.1.1; width = wide w s.1.0; long = s.1.2 }

module _ (d w : ℕ) (memory words : List ℕ) where
  pub write_call : (s : ℕ) → s ≡ bad_shape d w (length memory) → (s ≡ 0 → ⊥) → written d w memory words ≡ record { answer = refused s; words = words }
  unfolding written write_status first_of finish_write answer_of leaves
  write_call s e h = rw (← e) (go s h)
    where
      go : (s : ℕ) → (s ≡ 0 → ⊥)
          → finish_write (first_of (s ∷ unless (valid_rows d w memory) invalid_content ∷ unless (leb (length (image d w memory)) (length words)) too_few_words ∷ [])) (image d w memory) words ≡ record { answer = refused s; words = words }
      go zero h = absurd (h refl)
      go (suc s) h = rw (ne_eqb (suc s) 0 h)

  module _ (s : ℕ) (e : s ≡ bad_shape d w (length memory)) (z : s ≡ 0) where
    pub write_invalid : valid_rows d w memory ≡ false → written d w memory words ≡ record { answer = refused invalid_content; words = words }
    unfolding written write_status first_of finish_write answer_of leaves
    write_invalid v = rw (← e, z, v)

    pub write_short : valid_rows d w memory ≡ true → length words < length (image d w memory) → written d w memory words ≡ record { answer = refused too_few_words; words = words }
    unfolding written write_status first_of finish_write answer_of leaves
    write_short v l = rw (← e, z, v, lt-leb (length (image d w memory)) (length words) l)

    pub write_done : valid_rows d w memory ≡ true → length (image d w memory) ≤ length words
        → written d w memory words ≡ record { answer = accepted (length (image d w memory)); words = image d w memory ++ drop (length (image d w memory)) words }
    unfolding written write_status first_of finish_write answer_of leaves
    write_done v l = rw (← e, z, v, le-leb (length (image d w memory)) (length words) l)

  pub read_call : (s : ℕ) → s ≡ bad_shape d w (length memory) → (s ≡ 0 → ⊥) → taken d w memory words ≡ record { answer = refused s; memory = memory }
  unfolding taken read_answer finish_read leaves
  read_call s e h = rw (← e) (go s h)
    where
      go : (s : ℕ) → (s ≡ 0 → ⊥) → finish_read (read_answer s (checked d w words)) (read_rows d w memory words 1) memory ≡ record { answer = refused s; memory = memory }
      go zero h = absurd (h refl)
      go (suc s) h = rw (ne_eqb (suc s) 0 h)

  module _ (s : ℕ) (e : s ≡ bad_shape d w (length memory)) (z : s ≡ 0) (t : Step) (f : t ≡ checked d w words) where
    pub read_faulty : (t.status ≡ 0 → ⊥) → taken d w memory words ≡ record { answer = record { status = t.status; position = t.position; value = 0 }; memory = memory }
    unfolding taken read_answer finish_read leaves
    read_faulty h = rw (← e, z, ← f, ne_eqb t.status 0 h, ne_eqb t.status 0 h)

    pub read_done : t.status ≡ 0 → taken d w memory words ≡ record { answer = accepted t.position; memory = read_rows d w memory words 1 }
    unfolding taken read_answer finish_read leaves
    read_done h = rw (← e, z, ← f, eq-eqb t.status 0 h)
