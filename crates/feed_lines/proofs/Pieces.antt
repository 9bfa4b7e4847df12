-- However a feed comes in pieces, the steps of the program give the lines of the whole feed.
use mathlib.Core.Logic.{⊎_elim, inl, inr}
use mathlib.Core.Path.{◌≡◌, refl, sym, ap, ◌∙◌}
use mathlib.Core.Bool.{true, false}
use mathlib.Core.List.{List, [], ◌∷◌, ◌++◌, append_assoc}
use Prim.Native.Nat.{ℕ, zero, suc, ◌*◌, ◌≤◌, ◌<◌}
use native.Mathlib.Omega.{arith}
use borrow.Author.Tests.{leb-true}
use lib.Dec.{leb}
use lib.ListN.{length, take, drop, replicate, length-append, length-take, length-drop, length-replicate}
use Rattle.geometry.specs.Geometry.{size}
use Rattle.geometry.specs.Checks.{bad_shape}
use Rattle.feed_lengths.proofs.Laws.{some_taken}
use Rattle.feed.specs.Head.{head_depth, head_width, headed}
use Rattle.feed.specs.Record.{recorded}
use Rattle.feed_line.specs.declared.Line.{Line}
use Rattle.word_bytes.specs.Words.{whole_words}
use Rattle.feed_line.specs.Line.{continues, is_end}
use Rattle.feed_lines.specs.Line.{head_line}
use Rattle.feed_lines.specs.Feed.{followed, after_end, feed_lines}
use Rattle.feed_lines.specs.Step.{progress, lines_from, bytes_needed, Enough}
use Rattle.feed_lines.specs.Bounds.{Fitting}
use Rattle.feed_lines.specs.Pieces.{Held, joined, read_on, head_needs, end_needs, lent, done, next, step_lines, piece_lines}
use Rattle.word_bytes.proofs.Laws.{words_length}
use Rattle.feed_lines.proofs.Heads.{accepted_some, head_fits, head_geometry, goes_on, fitting_shape}
use borrow.Table.Steps.{cases}
use Rattle.feed_lines.proofs.Record.{record_keeps, record_lies}
use Rattle.feed_lines.proofs.Feed.{followed_same, taken_on, fewer, step_lines_lem, head_lines, head_stops}

-- all bytes that are at hand or still to come
abbrev all : Held → List ℕ
all h = h.bytes ++ joined h.pieces

-- reading on loses none, and brings enough for a step
pub read_on_lem : (need : List ℕ → ℕ) (bytes : List ℕ) (pieces : List (List ℕ)) → (all (read_on need bytes pieces) ≡ bytes ++ joined pieces)
    × Enough (need (read_on need bytes pieces).bytes) (read_on need bytes pieces).bytes (joined (read_on need bytes pieces).pieces)
unfolding read_on joined
read_on_lem need bytes [] = (refl, inr refl)
read_on_lem need bytes (p ∷ ps) =
    cases (leb (need bytes) (length bytes)) (λ t. rw t (refl, inl (leb-true (need bytes) (length bytes) t)))
    (λ t. let more = read_on_lem need (bytes ++ p) ps in rw t (more.0 ∙ append_assoc bytes p (joined ps), more.1))

-- whether a byte is at hand tells whether one comes
after_same : (before : ℕ) (held rest : List ℕ) → Enough 1 held rest → after_end before held ≡ after_end before (held ++ rest)
unfolding after_end
after_same before [] rest h = ⊎_elim (λ l. absurd (omega arith)) (λ e. rw e) h
after_same before (x ∷ xs) rest h = refl

pub steps_are : (n d w : ℕ) (memory : List ℕ) (before records : ℕ) (h : Held) → bad_shape d w (length memory) ≡ 0
    → Enough (bytes_needed h.bytes) h.bytes (joined h.pieces)
    → length (whole_words (all h)) < n → step_lines n d w memory before records h ≡ lines_from d w memory before records (all h)
unfolding step_lines progress
steps_are zero d w memory before records h shape held few = absurd (omega arith)
steps_are (suc n) d w memory before records h shape held few =
    let p = done d w memory before records h in
    let after = (recorded d w memory before (lent h)).memory in
    let on = read_on_lem bytes_needed (drop (4 * p.taken) h.bytes) h.pieces in
    let end = read_on_lem end_needs (drop (4 * p.taken) h.bytes) h.pieces in
    followed_same p.line _ _ _ _
    (λ t.
    let k = taken_on p.line (lent h) t in
    let less = fewer d w memory before records h.bytes (joined h.pieces) shape held p.taken (omega (arith, k, some_taken (lent h))) (record_lies d w memory before (lent h) shape records) in
    steps_are n d w after p.words p.records (next bytes_needed p.taken h) (ap (bad_shape d w) (record_keeps d w memory before (lent h) shape) ∙ shape) on.1
    (omega (arith, less, ap (λ (b : List ℕ). length (whole_words b)) on.0))
    ∙ ap (lines_from d w after p.words p.records) on.0)
    (λ t. after_same p.words (next end_needs p.taken h).bytes (joined (next end_needs p.taken h).pieces) end.1 ∙ ap (after_end p.words) end.0)
    ∙ sym (step_lines_lem d w memory before records h.bytes (joined h.pieces) shape held)

followed_on : (l : Line) (a b : List Line) → continues l ≡ true → followed l a b ≡ l ∷ a
unfolding followed
followed_on l a b t = rw t

followed_off : (l : Line) (a : List Line) → continues l ≡ false → followed l a [] ≡ l ∷ []
unfolding followed
followed_off l a t = rw t (cases (is_end l) (λ e. rw e) (λ e. rw e))

-- The program's steps give the lines of the whole feed, whatever the pieces.
pub pieces_are : (pieces : List (List ℕ)) → piece_lines pieces ≡ feed_lines (joined pieces)
unfolding piece_lines
pieces_are ps =
    let h = read_on head_needs [] ps in
    let on = read_on_lem head_needs [] ps in
    let first = take 1 (whole_words h.bytes) in
    let a = headed first in
    let rest = joined h.pieces in
    cases (continues (head_line a))
    (λ t.
    let d = head_depth a.value in
    let w = head_width a.value in
    let g = goes_on a t in
    let fits : Fitting d w = rw g at (head_fits first) in
    let zeros : List ℕ = replicate (size d w) 0 in
    let some : 4 ≤ length h.bytes = omega (arith, accepted_some first (head_geometry a d w g).0, length-take 1 (whole_words h.bytes), words_length h.bytes) in
    let then = read_on_lem bytes_needed (drop (4 * 1) h.bytes) h.pieces in
    let shape = fitting_shape d w (length zeros) fits (length-replicate (size d w) 0) in
    let few : length (whole_words (all (next bytes_needed 1 h))) < length (whole_words (joined ps)) =
    rw (then.0, words_length (drop (4 * 1) h.bytes ++ rest), length-append (drop (4 * 1) h.bytes) rest, length-drop (4 * 1) h.bytes)
    (omega (arith, words_length (joined ps), ap length on.0, length-append h.bytes rest)) in
    followed_on (head_line a) _ [] t
    ∙ ap (λ (ls : List Line). head_line a ∷ ls) (steps_are (length (whole_words (joined ps))) d w zeros 1 0 (next bytes_needed 1 h) shape then.1 few ∙ ap (lines_from d w zeros 1 0) then.0)
    ∙ ap (λ (l : Line). l ∷ lines_from d w zeros 1 0 (drop (4 * 1) h.bytes ++ rest)) g
    ∙ sym (head_lines h.bytes rest on.1 d w g)
    ∙ ap feed_lines on.0)
    (λ t. followed_off (head_line a) _ t ∙ sym (head_stops h.bytes rest on.1 t) ∙ ap feed_lines on.0)
