-- What the whole run prints.
use mathlib.Core.Logic.{⊎_elim}
use mathlib.Core.Path.{◌≡◌, refl, sym, ap, ap₂, ◌∙◌}
use mathlib.Core.Bool.{Bool, true, false, cond, true≢false}
use mathlib.Core.List.{List, [], ◌∷◌, ◌++◌, append-nil, append_assoc}
use Prim.Native.Nat.{ℕ, ◌+◌, ◌^◌, ◌≤◌, ◌<◌}
use native.Mathlib.Omega.{arith}
use borrow.Table.Steps.{cases}
use lib.ListN.{length, take, drop, replicate, length-append, length-take, length-drop}
use Rattle.geometry.specs.Geometry.{size}
use Rattle.feed.specs.Head.{headed}
use Rattle.feed_line.specs.declared.Line.{Line}
use Rattle.feed_line.specs.declared.Line.TheVariants as line
use Rattle.word_bytes.specs.Words.{whole_words}
use Rattle.feed_line.specs.Line.{continues}
use Rattle.feed_text.specs.Line.{text, texts}
use Rattle.feed_lines.specs.Line.{head_line}
use Rattle.feed_lines.specs.Feed.{after_end, feed_lines, feed_text}
use Rattle.feed_lines.specs.Step.{lines_from}
use Rattle.word_bytes.proofs.Laws.{words_length}
use Rattle.feed_lines.proofs.Heads.{accepted_some, head_geometry}
use Rattle.feed_lines.proofs.Feed.{head_lines, head_stops}
use Rattle.feed_state.specs.declared.State.{State}
use Rattle.feed_io.specs.declared.input.Input.{Input}
use Rattle.feed_io.specs.declared.output.Output.{Output}
use Rattle.feed_io.specs.Buffers.{Within, unused, Held, advanced, Refilled}
use Rattle.feed_state.specs.State.{Received}
use Rattle.feed_steps.specs.Run.{due, seen, Ran}
use Rattle.feed_state.proofs.Receiving.{received_due}
use Rattle.feed_steps.proofs.Runs.{enough_held}
use Rattle.run_feed.specs.Printed.{Printed, due_after_end, due_after_head}
use Rattle.feed_io.proofs.Buffers.{unused_length, advanced_is}

empty : (xs : List ℕ) → length xs ≡ 0 → xs ≡ []
empty [] h = refl
empty (x ∷ xs) h = absurd (omega arith)

byte_after : (before : ℕ) (xs ys : List ℕ) → 0 < length xs → texts (after_end before (xs ++ ys)) ≡ text (line.Stopped 8 before)
unfolding after_end texts
byte_after before [] ys h = absurd (omega arith)
byte_after before (x ∷ xs) ys h = append-nil (text (line.Stopped 8 before))

module _ (s : State) (input output : List ℕ) (r : State) (input' : List ℕ) (c : Received 1 s input output r input') where
  abbrev bytes₁ : List ℕ
  bytes₁ = unused r.input input'

  after_due : (rest : List ℕ) → due_after_end s input output (c.filled.read ++ rest) ≡ c.cleared.sent ++ (take r.output.at output ++ texts (after_end s.words (bytes₁ ++ rest)))
  after_due rest =
      received_due 1 s.input input r.input input' c.filled c.reads output s.output.at r.output c.cleared (λ b. texts (after_end s.words b)) rest

  -- the lines before the end's could not be written
  pub ended_failed : r.output.failed ≡ true → Printed (seen s input) s.input.more (due_after_end s input output) r.output output
  ended_failed t =
      record {
        read = c.filled.read;
        sent = c.cleared.sent;
        lost = λ rest. take r.output.at output ++ texts (after_end s.words (bytes₁ ++ rest));
        more = r.input.more;
        same = λ short rest m. after_due rest ∙ rw t;
        failed = c.cleared.failed;
        closed = c.filled.closed;
      }

  -- no byte after the end record
  pub ended_none : r.output.failed ≡ false → r.input.start ≡ r.input.end → Printed (seen s input) s.input.more (due_after_end s input output) r.output output
  unfolding after_end texts
  ended_none t e =
      let none : bytes₁ ≡ [] = empty bytes₁ (omega (arith, unused_length r.input input' c.filled.within)) in
      let over : r.input.more ≡ false = ⊎_elim (λ l. absurd (omega (arith, ap length none))) (λ m. m) (c.enough t) in
      record {
        read = c.filled.read;
        sent = c.cleared.sent;
        lost = λ rest. [];
        more = r.input.more;
        same = λ short rest m. after_due rest ∙ rw (none, m over, t) (ap (λ (x : List ℕ). c.cleared.sent ++ x) (append-nil (take r.output.at output)));
        failed = c.cleared.failed;
        closed = c.filled.closed;
      }

  -- a byte after it
  pub ended_more : (out : ℕ) (output' : List ℕ) → (r.input.start ≡ r.input.end → ⊥) → take out output' ≡ take r.output.at output ++ text (line.Stopped 8 s.words)
      → Printed (seen s input) s.input.more (due_after_end s input output) (record { at = out; failed = false }) output'
  ended_more out output' n put =
      record {
        read = c.filled.read;
        sent = c.cleared.sent;
        lost = λ rest. [];
        more = r.input.more;
        same = λ short rest m.
            after_due rest
            ∙ ap (λ (x : List ℕ). c.cleared.sent ++ (take r.output.at output ++ x))
            (byte_after s.words bytes₁ rest (omega (arith, unused_length r.input input' c.filled.within, c.filled.within.0, n)))
            ∙ ap (λ (x : List ℕ). c.cleared.sent ++ x) (sym put);
        failed = λ t. absurd (true≢false (sym t));
        closed = c.filled.closed;
      }

module _ (d w : ℕ) (i : Input) (input : List ℕ) (out : ℕ) (output : List ℕ) (inside : Within i input) (word : i.start + 4 ≤ i.end) where
  abbrev zeros : List ℕ
  zeros = replicate (size d w) 0

  -- where the records start
  abbrev firstState : State
  firstState = record { input = advanced i 4; output = record { at = out; failed = false }; words = 1; records = 0; runs = true; ended = false }

  -- the same from what the code finds one after another
  pub ran_from : (last : State) (memory' input' output' memory : List ℕ) (after : Input) → memory ≡ zeros → after ≡ advanced i 4
      → Ran d w memory (record { input = after; output = record { at = out; failed = false }; words = 1; records = 0; runs = true; ended = false }) input output memory' last input' output'
      → Ran d w zeros firstState input output memory' last input' output'
  ran_from last memory' input' output' memory after e k g = rw (e, k) at g

  first_due : (bytes : List ℕ) → due_after_head d w i input out output bytes ≡ due d w zeros firstState input output bytes
  first_due bytes = ap (λ (x : List ℕ). take out output ++ texts (lines_from d w zeros 1 0 (x ++ bytes))) (sym (advanced_is i 4 input word))

  first_seen : seen firstState input ≡ length (unused i input)
  first_seen = omega (arith, ap length (advanced_is i 4 input word), length-drop 4 (unused i input), unused_length i input inside)

  module _ (last : State) (memory' input' output' : List ℕ) (g : Ran d w zeros firstState input output memory' last input' output')
      (turns : last.runs ≡ true → 2 ^ 58 < last.words) where
    -- a short feed's records are all carried out
    over : (n : ℕ) → length (unused i input) + n < 2 ^ 60 → length g.read ≤ n → last.runs ≡ false
    over n short h = cases last.runs (λ t. absurd (omega (arith, turns t, g.counted, first_seen))) (λ t. t)

    pub meter_stopped : last.ended ≡ false → Printed (length (unused i input)) i.more (due_after_head d w i input out output) last.output output'
    unfolding texts
    meter_stopped e =
        record {
          read = g.read;
          sent = g.sent;
          lost = g.lost;
          more = last.input.more;
          same = λ short rest c.
              let stopped = over (length g.read) short (omega arith) in
              let none : due d w memory' last input' output' rest ≡ take last.output.at output' = rw (stopped, e) (append-nil (take last.output.at output')) in
              first_due (g.read ++ rest) ∙ g.same rest c ∙ ap (λ (x : List ℕ). g.sent ++ cond last.output.failed (g.lost rest) x) none;
          failed = λ t. ((g.failed t).0, (g.failed t).1);
          closed = g.closed;
        }

    pub meter_ended : last.ended ≡ true → (r : Output) (after : List ℕ) → Printed (seen last input') last.input.more (due_after_end last input' output') r after
        → Printed (length (unused i input)) i.more (due_after_head d w i input out output) r after
    meter_ended e r after p =
        let wrote : last.output.failed ≡ false = cases last.output.failed (λ t. absurd (true≢false (sym e ∙ (g.failed t).3))) (λ t. t) in
        record {
          read = g.read ++ p.read;
          sent = g.sent ++ p.sent;
          lost = p.lost;
          more = p.more;
          same = λ short rest c.
              let long = length-append g.read p.read in
              let stopped = over (length (g.read ++ p.read)) short (omega arith) in
              let end : due d w memory' last input' output' (p.read ++ rest) ≡ due_after_end last input' output' (p.read ++ rest) = rw (stopped, e) in
              first_due ((g.read ++ p.read) ++ rest)
              ∙ ap (due d w zeros firstState input output) (append_assoc g.read p.read rest)
              ∙ g.same (p.read ++ rest) (λ m. let k = p.closed m in ap₂ (λ (x y : List ℕ). x ++ y) k.0 (c k.1))
              ∙ ap (λ (b : Bool). g.sent ++ cond b (g.lost (p.read ++ rest)) (due d w memory' last input' output' (p.read ++ rest))) wrote
              ∙ ap (λ (x : List ℕ). g.sent ++ x) (end ∙ p.same (omega (arith, g.counted, first_seen)) rest c)
              ∙ sym (append_assoc g.sent p.sent (cond r.failed (p.lost rest) (take r.at after)));
          failed = λ t. let k = p.failed t in (omega (arith, k.0, length-append g.sent p.sent), k.1);
          closed = λ m. let k = g.closed m in let l = p.closed k.1 in (ap₂ (λ (x y : List ℕ). x ++ y) k.0 l.0, l.1);
        }

-- before anything is read
abbrev pub unread : Input
unread = record { start = 0; end = 0; more = true }

module _ (input : List ℕ) (i : Input) (input' : List ℕ) (f : Refilled 4 unread input i input') (held : Held 4 i input') (out : ℕ) (output' : List ℕ) where
  abbrev hand : List ℕ
  hand = unused i input'

  abbrev headed' : Line
  headed' = head_line (headed (take 1 (whole_words hand)))

  -- an accepted head's word is at hand
  pub head_word : (d w : ℕ) → headed' ≡ line.Geometry d w → i.start + 4 ≤ i.end
  head_word d w e =
      omega (
        arith,
        accepted_some (take 1 (whole_words hand)) (head_geometry (headed (take 1 (whole_words hand))) d w e).0,
        length-take 1 (whole_words hand),
        words_length hand,
        unused_length i input' f.within,
        f.within.0,
      )

  pub whole_stopped : continues headed' ≡ false → take out output' ≡ text headed' → Printed 0 true feed_text (record { at = out; failed = false }) output'
  unfolding feed_text texts
  whole_stopped e put =
      record {
        read = f.read;
        sent = [];
        lost = λ rest. [];
        more = i.more;
        same = λ short rest c.
            ap (λ (x : List ℕ). texts (feed_lines (x ++ rest))) (sym f.joined)
            ∙ ap texts (head_stops hand rest (enough_held 4 i hand rest held c) e)
            ∙ append-nil (text headed')
            ∙ sym put;
        failed = λ t. absurd (true≢false (sym t));
        closed = λ m. absurd (true≢false m);
      }

  pub whole_run : (d w : ℕ) → headed' ≡ line.Geometry d w → take out output' ≡ text headed' → (r : Output) (after : List ℕ)
      → Printed (length hand) i.more (due_after_head d w i input' out output') r after → Printed 0 true feed_text r after
  unfolding feed_text texts
  whole_run d w e put r after p =
      record {
        read = f.read ++ p.read;
        sent = p.sent;
        lost = p.lost;
        more = p.more;
        same = λ short rest c.
            let bytes = p.read ++ rest in
            let enough = enough_held 4 i hand bytes held (λ m. let k = p.closed m in ap₂ (λ (x y : List ℕ). x ++ y) k.0 (c k.1)) in
            let records = texts (lines_from d w (replicate (size d w) 0) 1 0 (drop 4 hand ++ bytes)) in
            ap (λ (x : List ℕ). texts (feed_lines x)) (append_assoc f.read p.read rest)
            ∙ ap (λ (x : List ℕ). texts (feed_lines (x ++ bytes))) (sym f.joined)
            ∙ ap texts (head_lines hand bytes enough d w e)
            ∙ ap (λ (x : List ℕ). x ++ records) (sym (put ∙ ap text e))
            ∙ p.same (omega (arith, length-append f.read p.read, ap length f.joined)) rest c;
        failed = p.failed;
        closed = λ m. absurd (true≢false m);
      }
