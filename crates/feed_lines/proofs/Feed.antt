-- Steps one after another give the lines of the whole feed, however its bytes are read in pieces.
use mathlib.Core.Logic.{◌⊎◌, ⊎_elim, inl, inr}
use mathlib.Core.Path.{◌≡◌, refl, sym, ap, ◌∙◌}
use mathlib.Core.Bool.{true, false}
use mathlib.Core.List.{List, [], ◌∷◌, ◌++◌, append-nil}
use Prim.Native.Nat.{ℕ, zero, suc, ◌+◌, ◌*◌, ◌≤◌, ◌<◌}
use native.Mathlib.Omega.{arith}
use lib.ListN.{length, take, drop, replicate, length-take, length-drop, length-append, length-replicate}
use lib.Seq.{drop-append-le}
use Rattle.geometry.specs.Geometry.{size}
use Rattle.geometry.specs.Checks.{bad_shape}
use Rattle.feed_lengths.specs.Lengths.{words_taken, words_needed}
use Rattle.feed_lengths.proofs.Laws.{some_taken, some_needed, needed_most, taken_same, needed_same}
use Rattle.feed.specs.Head.{headed}
use Rattle.feed.specs.Record.{Carried, recorded}
use Rattle.feed.proofs.Past.{record_alone}
use Rattle.feed_head.proofs.Laws.{head_alone}
use Rattle.feed_line.specs.declared.Line.{Line}
use Rattle.feed_line.specs.declared.Line.TheVariants as line
use Rattle.word_bytes.specs.Words.{whole_words}
use Rattle.feed_line.specs.Line.{continues, is_end}
use Rattle.word_bytes.proofs.Laws.{words_length, words_front}
use Rattle.feed_lines.specs.declared.Progress.{Progress}
use Rattle.feed_lines.specs.Line.{head_line, line_of}
use Rattle.feed_lines.specs.Feed.{followed, record_line, after_end, past, record_lines, after_head, feed_lines}
use Rattle.feed_lines.specs.Step.{taken_by, progress, lines_from, bytes_needed, Enough}
use Rattle.feed_lines.specs.Bounds.{Fitting}
use Rattle.feed_lines.proofs.Heads.{accepted_some, head_fits, head_geometry, fitting_shape}
use borrow.Table.Steps.{cases}
use Rattle.feed_lines.proofs.Record.{record_keeps, record_lies}

-- lines after a line, where they are printed
pub followed_same : (l : Line) (a b x y : List Line) → (continues l ≡ true → a ≡ b) → (is_end l ≡ true → x ≡ y) → followed l a x ≡ followed l b y
unfolding followed
followed_same l a b x y f g =
    cases (continues l) (λ t. rw (t, f t)) (λ t. rw t (cases (is_end l) (λ e. rw (e, g e)) (λ e. rw e)))

-- a record that does not stop the feed took all its words
pub taken_on : (l : Line) (words : List ℕ) → continues l ≡ true → taken_by l words ≡ words_taken words
unfolding taken_by
taken_on l words t = rw t

taken_end : (l : Line) (words : List ℕ) → is_end l ≡ true → taken_by l words ≡ words_taken words
unfolding taken_by
taken_end l words t = cases (continues l) (λ c. rw c) (λ c. rw (c, t))

-- Each record takes a word or more, so with more lines allowed than there are words, their number does not matter.
pub enough : (d w n m : ℕ) (memory : List ℕ) (before records : ℕ) (bytes : List ℕ) → bad_shape d w (length memory) ≡ 0
    → length (whole_words bytes) < n → length (whole_words bytes) < m
    → record_lines n d w memory before records bytes ≡ record_lines m d w memory before records bytes
unfolding record_lines
enough d w zero m memory before records bytes shape h k = absurd (omega arith)
enough d w (suc n) zero memory before records bytes shape h k = absurd (omega arith)
enough d w (suc n) (suc m) memory before records bytes shape h k =
    let ws = whole_words bytes in
    let l = record_line d w memory before records ws in
    let after = (recorded d w memory before ws).memory in
    followed_same l _ _ _ _
    (λ t.
    let all = taken_on l ws t in
    let lies = record_lies d w memory before ws shape records in
    let less : length (whole_words (past bytes)) < length ws =
    omega (arith, all, lies, some_taken ws, words_length bytes, words_length (past bytes), length-drop (4 * words_taken ws) bytes) in
    enough d w n m after (before + words_taken ws) (records + 1) (past bytes)
    (ap (bad_shape d w) (record_keeps d w memory before ws shape) ∙ shape) (omega arith) (omega arith))
    (λ t. refl)

-- the words at hand are those of all bytes
lent_front : (n : ℕ) (lent rest : List ℕ) → (4 * n ≤ length lent) ⊎ (rest ≡ []) → take n (whole_words (lent ++ rest)) ≡ take n (whole_words lent)
lent_front n lent rest h = ⊎_elim (λ l. words_front n lent rest l) (λ e. ap (λ (r : List ℕ). take n (whole_words (lent ++ r))) e ∙ ap (λ (b : List ℕ). take n (whole_words b)) (append-nil lent)) h

one_more : (n d w : ℕ) (memory : List ℕ) (before records : ℕ) (bytes : List ℕ) (c : Carried) (k : ℕ) → recorded d w memory before (whole_words bytes) ≡ c
    → words_taken (whole_words bytes) ≡ k
    → record_lines (suc n) d w memory before records bytes
    ≡ followed (line_of c.outcome before records) (record_lines n d w c.memory (before + k) (records + 1) (drop (4 * k) bytes)) (after_end (before + k) (drop (4 * k) bytes))
unfolding record_lines
one_more n d w memory before records bytes c k e f = rw (e, f)

-- the first word tells how many words are needed
pub first_needs : (lent rest : List ℕ) → Enough 4 lent rest → words_needed (whole_words (lent ++ rest)) ≡ words_needed (whole_words lent)
first_needs lent rest held =
    sym (needed_same (whole_words (lent ++ rest)) 1 (omega arith))
    ∙ ap words_needed (lent_front 1 lent rest (⊎_elim (λ l. inl (omega arith)) (λ e. inr e) held))
    ∙ needed_same (whole_words lent) 1 (omega arith)

-- A record's words at hand are enough: with them alone, or any after them, it does the same.
module _ (lent rest : List ℕ) (held : Enough (bytes_needed lent) lent rest) where
  abbrev hand : List ℕ
  hand = whole_words lent

  abbrev need : ℕ
  need = words_needed hand

  front : take need (whole_words (lent ++ rest)) ≡ take need hand
  front = lent_front need lent rest held

  need_same : words_needed (whole_words (lent ++ rest)) ≡ need
  need_same = first_needs lent rest (⊎_elim (λ l. inl (omega (arith, some_needed hand))) (λ e. inr e) held)

  record_same : (d w : ℕ) (memory : List ℕ) (before : ℕ) → recorded d w memory before (whole_words (lent ++ rest)) ≡ recorded d w memory before (take 25 hand)
  record_same d w memory before =
      sym (record_alone (whole_words (lent ++ rest)) need d w memory before (omega (arith, need_same)))
      ∙ ap (recorded d w memory before) front
      ∙ record_alone hand need d w memory before (omega arith)
      ∙ sym (record_alone hand 25 d w memory before (needed_most hand))

  took_same : words_taken (whole_words (lent ++ rest)) ≡ words_taken (take 25 hand)
  took_same =
      sym (taken_same (whole_words (lent ++ rest)) need (some_needed hand)) ∙ ap words_taken front ∙ taken_same hand need (some_needed hand)
      ∙ sym (taken_same hand 25 (omega arith))

module _ (d w : ℕ) (memory : List ℕ) (before records : ℕ) (lent rest : List ℕ) (shape : bad_shape d w (length memory) ≡ 0)
    (held : Enough (bytes_needed lent) lent rest) where
  abbrev words : List ℕ
  words = take 25 (whole_words lent)

  abbrev done : Progress
  done = progress d w memory before records words

  cut : (k : ℕ) → k ≤ length words → drop (4 * k) (lent ++ rest) ≡ drop (4 * k) lent ++ rest
  cut k h = drop-append-le (4 * k) lent rest (omega (arith, length-take 25 (whole_words lent), words_length lent))

  pub fewer : (k : ℕ) → 1 ≤ k → k ≤ length words → length (whole_words (drop (4 * k) lent ++ rest)) < length (whole_words (lent ++ rest))
  fewer k s h =
      rw (words_length (drop (4 * k) lent ++ rest), words_length (lent ++ rest), length-append (drop (4 * k) lent) rest, length-append lent rest, length-drop (4 * k) lent)
      (omega (arith, length-take 25 (whole_words lent), words_length lent))

  -- One step over the bytes at hand, of which there are those of the record or all that come.
  pub step_lines_lem : lines_from d w memory before records (lent ++ rest)
      ≡ followed done.line (lines_from d w (recorded d w memory before words).memory done.words done.records (drop (4 * done.taken) lent ++ rest))
      (after_end done.words (drop (4 * done.taken) lent ++ rest))
  unfolding progress
  step_lines_lem =
      let all = whole_words (lent ++ rest) in
      let l = record_line d w memory before records words in
      let same = record_same lent rest held d w memory before in
      let took = took_same lent rest held in
      let lies = record_lies d w memory before words shape records in
      one_more (length all) d w memory before records (lent ++ rest) (recorded d w memory before words) (words_taken words) same took
      ∙ followed_same l _ _ _ _
      (λ t.
      let k = taken_on l words t in
      rw k
      (rw (cut (words_taken words) (omega (arith, k, lies)))
      (enough d w (length all) (suc (length (whole_words (drop (4 * words_taken words) lent ++ rest)))) (recorded d w memory before words).memory (before + words_taken words) (records + 1)
      (drop (4 * words_taken words) lent ++ rest)
      (ap (bad_shape d w) (record_keeps d w memory before words shape) ∙ shape)
      (fewer (words_taken words) (some_taken words) (omega (arith, k, lies)))
      (omega arith))))
      (λ t.
      let k = taken_end l words t in
      rw k (rw (cut (words_taken words) (omega (arith, k, lies)))))

module _ (lent rest : List ℕ) (held : Enough 4 lent rest) where
  abbrev first : List ℕ
  first = take 1 (whole_words lent)

  head_same : headed (whole_words (lent ++ rest)) ≡ headed first
  head_same =
      sym (head_alone (whole_words (lent ++ rest)) 1 (omega arith))
      ∙ ap headed (lent_front 1 lent rest (⊎_elim (λ l. inl (omega arith)) (λ e. inr e) held))

  -- The head's line is the only one, or the records' follow, on a cleared meter.
  pub head_stops : continues (head_line (headed first)) ≡ false → feed_lines (lent ++ rest) ≡ head_line (headed first) ∷ []
  unfolding feed_lines followed
  head_stops e = rw (head_same, e) (cases (is_end (head_line (headed first))) (λ t. rw t) (λ t. rw t))

  pub head_lines : (d w : ℕ) → head_line (headed first) ≡ line.Geometry d w
      → feed_lines (lent ++ rest) ≡ line.Geometry d w ∷ lines_from d w (replicate (size d w) 0) 1 0 (drop 4 lent ++ rest)
  unfolding feed_lines after_head followed continues
  head_lines d w e =
      let g = head_geometry (headed first) d w e in
      let fits : Fitting d w = rw e at (head_fits first) in
      let some : 4 ≤ length lent = omega (arith, accepted_some first g.0, length-take 1 (whole_words lent), words_length lent) in
      let zeros : length {A = ℕ} (replicate (size d w) 0) ≡ size d w = length-replicate (size d w) 0 in
      let fewer : length (whole_words (drop 4 lent ++ rest)) < length (whole_words (lent ++ rest)) =
      rw (words_length (drop 4 lent ++ rest), words_length (lent ++ rest), length-append (drop 4 lent) rest, length-append lent rest, length-drop 4 lent) (omega arith) in
      rw (head_same, e, g.1, g.2)
      (ap (λ (ls : List Line). line.Geometry d w ∷ ls)
      (ap (record_lines (length (whole_words (lent ++ rest))) d w (replicate (size d w) 0) 1 0) (drop-append-le 4 lent rest some)
      ∙ enough d w (length (whole_words (lent ++ rest))) (suc (length (whole_words (drop 4 lent ++ rest)))) (replicate (size d w) 0) 1 0 (drop 4 lent ++ rest)
      (fitting_shape d w _ fits zeros) fewer (omega arith)))
