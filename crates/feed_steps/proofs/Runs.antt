-- Parts of a run one after another.
use mathlib.Core.Logic.{◌⊎◌, ⊎_elim, inl, inr}
use mathlib.Core.Path.{◌≡◌, refl, sym, ap, ap₂, ◌∙◌}
use mathlib.Core.Bool.{Bool, true, false, cond, true≢false}
use mathlib.Core.List.{List, [], ◌++◌, append-nil, append_assoc}
use Prim.Native.Nat.{ℕ, ◌+◌, ◌*◌, ◌≤◌}
use native.Mathlib.Omega.{arith}
use borrow.Table.Steps.{cases}
use lib.ListN.{length, take, drop, length-append, length-drop}
use Rattle.geometry.specs.Checks.{bad_shape}
use Rattle.feed_lengths.proofs.Laws.{some_taken, some_needed}
use Rattle.feed.specs.Record.{recorded}
use Rattle.feed_line.specs.declared.Line.{Line}
use Rattle.word_bytes.specs.Words.{whole_words}
use Rattle.feed_line.specs.Line.{continues, is_end}
use Rattle.feed_text.specs.Line.{text, texts}
use Rattle.feed_lines.specs.declared.Progress.{Progress}
use Rattle.feed_lines.specs.Feed.{followed, after_end}
use Rattle.feed_lines.specs.Step.{taken_by, progress, lines_from, bytes_needed, Enough}
use Rattle.feed_lines.proofs.Feed.{first_needs, step_lines_lem}
use Rattle.feed_state.specs.declared.State.{State}
use Rattle.feed_io.specs.declared.input.Input.{Input}
use Rattle.feed_io.specs.declared.output.Output.{Output}
use Rattle.feed_io.specs.Buffers.{Within, unused, Held, advanced}
use Rattle.feed_steps.specs.Run.{left, due, Ran, Stepped}
use Rattle.feed_state.specs.State.{state_with, Received}
use Rattle.feed_state.proofs.Receiving.{received_due}
use Rattle.feed_io.proofs.Buffers.{unused_length, advanced_is}

-- nothing done
pub ran_none : (d w : ℕ) (memory : List ℕ) (s : State) (input output : List ℕ) → s.output.failed ≡ false → Ran d w memory s input output memory s input output
ran_none d w memory s input output e =
    record {
      read = [];
      sent = [];
      lost = λ rest. [];
      same = λ rest h. rw e;
      failed = λ t. absurd (true≢false (sym t ∙ e));
      closed = λ m. (refl, m);
      counted = omega arith;
    }

-- one part after another
pub ran_then : (d w : ℕ) (m₀ : List ℕ) (s₀ : State) (i₀ o₀ m₁ : List ℕ) (s₁ : State) (i₁ o₁ m₂ : List ℕ) (s₂ : State) (i₂ o₂ : List ℕ)
    → s₁.output.failed ≡ false → Ran d w m₀ s₀ i₀ o₀ m₁ s₁ i₁ o₁ → Ran d w m₁ s₁ i₁ o₁ m₂ s₂ i₂ o₂ → Ran d w m₀ s₀ i₀ o₀ m₂ s₂ i₂ o₂
ran_then d w m₀ s₀ i₀ o₀ m₁ s₁ i₁ o₁ m₂ s₂ i₂ o₂ e f g =
    record {
      read = f.read ++ g.read;
      sent = f.sent ++ g.sent;
      lost = g.lost;
      same = λ rest h.
          ap (due d w m₀ s₀ i₀ o₀) (append_assoc f.read g.read rest)
          ∙ f.same (g.read ++ rest) (λ c. let k = g.closed c in ap₂ (λ (x y : List ℕ). x ++ y) k.0 (h k.1))
          ∙ ap (λ (b : Bool). f.sent ++ cond b (f.lost (g.read ++ rest)) (due d w m₁ s₁ i₁ o₁ (g.read ++ rest))) e
          ∙ ap (λ (x : List ℕ). f.sent ++ x) (g.same rest h)
          ∙ sym (append_assoc f.sent g.sent (cond s₂.output.failed (g.lost rest) (due d w m₂ s₂ i₂ o₂ rest)));
      failed = λ t. let k = g.failed t in (omega (arith, k.0, length-append f.sent g.sent), k.1, k.2, k.3);
      closed = λ c. let k = f.closed c in let l = g.closed k.1 in (ap₂ (λ (x y : List ℕ). x ++ y) k.0 l.0, l.1);
      counted = omega (arith, length-append f.read g.read, f.counted, g.counted);
    }

-- the bytes at hand before those to come are enough for a step
pub enough_held : (n : ℕ) (i : Input) (held rest : List ℕ) → (n ≤ length held) ⊎ (i.more ≡ false) → (i.more ≡ false → rest ≡ []) → Enough n held rest
enough_held n i held rest h k = ⊎_elim (λ l. inl l) (λ m. inr (k m)) h

module _ (d w : ℕ) (memory : List ℕ) (n : ℕ) (s : State) (input output : List ℕ) where
  chosen : (i : Input) (o : Output) (input' rest : List ℕ) → take o.at output ++ texts (left d w memory s (unused i input' ++ rest))
      ≡ cond o.failed (take o.at output ++ texts (left d w memory s (unused i input' ++ rest))) (due d w memory (state_with s i o) input' output rest)
  chosen i o input' rest = cases o.failed (λ t. rw t) (λ t. rw t)

  -- bytes received, and lines written, are a part of a run
  pub received_ran : (r : State) (input' : List ℕ) → Received n s input output r input' → Ran d w memory s input output memory r input' output
  received_ran r input' c =
      let i = r.input in
      let o = r.output in
      let f = c.filled in
      let k = c.cleared in
      record {
        read = f.read;
        sent = k.sent;
        lost = λ rest. take o.at output ++ texts (left d w memory s (unused i input' ++ rest));
        same = λ rest h.
            let x = take o.at output ++ texts (left d w memory s (unused i input' ++ rest)) in
            received_due n s.input input i input' f c.reads output s.output.at o k (λ bytes. texts (left d w memory s bytes)) rest
            ∙ ap (λ (y : List ℕ). k.sent ++ y) (chosen i o input' rest ∙ ap (λ (q : State). cond o.failed x (due d w memory q input' output rest)) (sym c.state));
        failed = λ t. (
          (k.failed t).0,
          (k.failed t).1,
          ap (λ (q : State). q.runs) c.state ∙ ap (λ (b : Bool). cond b false s.runs) t,
          ap (λ (q : State). q.ended) c.state ∙ ap (λ (b : Bool). cond b false s.ended) t,
        );
        closed = λ e. f.closed e;
        counted = omega (arith, ap (λ (q : State). q.words) c.state, ap length f.joined, length-append (unused s.input input) f.read);
      }

-- a run that goes on has lost nothing
pub ran_runs : (d w : ℕ) (m₀ : List ℕ) (s₀ : State) (i₀ o₀ m₁ : List ℕ) (s₁ : State) (i₁ o₁ : List ℕ) → Ran d w m₀ s₀ i₀ o₀ m₁ s₁ i₁ o₁ → s₁.runs ≡ true
    → s₁.output.failed ≡ false
ran_runs d w m₀ s₀ i₀ o₀ m₁ s₁ i₁ o₁ g e = cases s₁.output.failed (λ t. absurd (true≢false (sym e ∙ (g.failed t).2))) (λ t. t)

-- the first word is at hand, so what it calls for is what all bytes call for
pub called_for : (n : ℕ) (a : State) (input output : List ℕ) (b : State) (input' : List ℕ) → n ≡ bytes_needed (unused a.input input) → Held 4 a.input input
    → Received n a input output b input' → b.output.failed ≡ false
    → Held (bytes_needed (unused b.input input')) b.input input'
called_for n a input output b input' q h c t =
    let f = c.filled in
    let xs = unused a.input input in
    let e : bytes_needed (unused b.input input') ≡ bytes_needed xs =
    ap bytes_needed f.joined ∙ ap (λ (k : ℕ). 4 * k) (first_needs xs f.read (⊎_elim (λ l. inl l) (λ m. inr (f.closed m).0) h)) in
    ⊎_elim (λ l. inl (omega (arith, q, e, l))) (λ m. inr m) (c.enough t)

-- A step's reads: for the first word, and for as many bytes as it calls for. Neither reads if they are at hand.
module _ (d w : ℕ) (memory : List ℕ) (s : State) (input output : List ℕ) (a : State) (input₁ : List ℕ) (c : Received 4 s input output a input₁) where
  abbrev hand₁ : List ℕ
  hand₁ = unused s.input input

  first_spared : bytes_needed hand₁ ≤ length hand₁ → c.filled.read ≡ []
  first_spared l = c.filled.spared (omega (arith, some_needed (whole_words hand₁), l))

  pub stepped_first : Stepped d w memory s input output memory a input₁ output
  unfolding received_ran
  stepped_first = record { ran = received_ran d w memory 4 s input output a input₁ c; spared = first_spared }

  module _ (n : ℕ) (b : State) (input₂ : List ℕ) (e : Received n a input₁ output b input₂) (q : n ≡ bytes_needed (unused a.input input₁)) (on : a.output.failed ≡ false) where
    same_hand : bytes_needed hand₁ ≤ length hand₁ → unused a.input input₁ ≡ hand₁
    same_hand l = c.filled.joined ∙ ap (λ (x : List ℕ). hand₁ ++ x) (first_spared l) ∙ append-nil hand₁

    next_spared : bytes_needed hand₁ ≤ length hand₁ → e.filled.read ≡ []
    next_spared l = let same = same_hand l in e.filled.spared (omega (arith, q, ap bytes_needed same, ap length same, l))

    pub stepped_next : Stepped d w memory s input output memory b input₂ output
    unfolding received_ran ran_then
    stepped_next =
        record {
          ran = ran_then d w memory s input output memory a input₁ output memory b input₂ output on (received_ran d w memory 4 s input output a input₁ c)
              (received_ran d w memory n a input₁ output b input₂ e);
          spared = λ l. ap₂ (λ (x y : List ℕ). x ++ y) (first_spared l) (next_spared l);
        }

    pub stepped_all : b.output.failed ≡ false → (memory' : List ℕ) (r : State) (output' : List ℕ) → Stepped d w memory b input₂ output memory' r input₂ output'
        → Stepped d w memory s input output memory' r input₂ output'
    unfolding ran_then
    stepped_all on₂ memory' r output' g =
        record {
          ran = ran_then d w memory s input output memory b input₂ output memory' r input₂ output' on₂ stepped_next.ran g.ran;
          spared = λ l.
              let same : unused b.input input₂ ≡ hand₁ = e.filled.joined ∙ ap₂ (λ (x y : List ℕ). x ++ y) (same_hand l) (next_spared l) ∙ append-nil hand₁ in
              ap₂ (λ (x y : List ℕ). x ++ y) (stepped_next.spared l) (g.spared (rw same l));
        }

-- where a step leads
abbrev pub state_after : Input → Progress → ℕ → State
state_after i p out =
    record {
      input = advanced i (4 * p.taken);
      output = record { at = out; failed = false };
      words = p.words;
      records = p.records;
      runs = continues p.line;
      ended = is_end p.line;
    }

pub state_is : (i : Input) (p : Progress) (out : ℕ) (after : Input) (runs ended : Bool) → after ≡ advanced i (4 * p.taken) → runs ≡ continues p.line → ended ≡ is_end p.line
    → record { input = after; output = record { at = out; failed = false }; words = p.words; records = p.records; runs = runs; ended = ended } ≡ state_after i p out
state_is i p out after runs ended e f g = rw (e, f, g)

texts_followed : (l : Line) (a b : List Line) → texts (followed l a b) ≡ text l ++ texts (cond (continues l) a (cond (is_end l) b []))
unfolding texts followed
texts_followed l a b = refl

module _ (d w : ℕ) (memory : List ℕ) (s : State) (input output memory' output' : List ℕ) (out : ℕ) where
  abbrev hand₀ : List ℕ
  hand₀ = unused s.input input

  abbrev words : List ℕ
  words = take 25 (whole_words hand₀)

  abbrev did : Progress
  did = progress d w memory s.words s.records words

  -- one record or the end: its line comes behind the text at hand
  step_ran : bad_shape d w (length memory) ≡ 0 → s.runs ≡ true → Within s.input input → Held (bytes_needed hand₀) s.input input
      → memory' ≡ (recorded d w memory s.words words).memory → s.input.start + 4 * did.taken ≤ s.input.end → did.words ≡ s.words + did.taken
      → take out output' ≡ take s.output.at output ++ text did.line
      → Ran d w memory s input output memory' (state_after s.input did out) input output'
  step_ran shape runs inside held m lies count put =
      record {
        read = [];
        sent = [];
        lost = λ rest. [];
        same = λ rest h.
            let lines = step_lines_lem d w memory s.words s.records hand₀ rest shape (enough_held (bytes_needed hand₀) s.input hand₀ rest held h) in
            rw runs
            (ap (λ (ls : List Line). take s.output.at output ++ texts ls) lines
            ∙ ap (λ (x : List ℕ). take s.output.at output ++ x) (texts_followed did.line _ _)
            ∙ sym (append_assoc (take s.output.at output) (text did.line) _)
            ∙ ap (λ (x : List ℕ). x ++ texts (cond (continues did.line) (lines_from d w (recorded d w memory s.words words).memory did.words did.records (drop (4 * did.taken) hand₀ ++ rest))
            (cond (is_end did.line) (after_end did.words (drop (4 * did.taken) hand₀ ++ rest)) []))) (sym put)
            ∙ rw (m, advanced_is s.input (4 * did.taken) input lies));
        failed = λ t. absurd (true≢false (sym t));
        closed = λ e. (refl, e);
        counted =
            let long = unused_length s.input input inside in
            omega (
              arith,
              count,
              ap length (advanced_is s.input (4 * did.taken) input lies),
              length-drop (4 * did.taken) hand₀,
            );
      }

  pub stepped : bad_shape d w (length memory) ≡ 0 → s.runs ≡ true → Within s.input input → Held (bytes_needed hand₀) s.input input
      → memory' ≡ (recorded d w memory s.words words).memory → (p : Progress) (r : State) → p ≡ did → s.input.start + 4 * p.taken ≤ s.input.end
      → take out output' ≡ take s.output.at output ++ text p.line → r ≡ state_after s.input p out → Stepped d w memory s input output memory' r input output'
  unfolding progress step_ran
  stepped shape runs inside held m p r e lies put q =
      rw (q, e) (record { ran = step_ran shape runs inside held m (rw e at lies) refl (rw e at put); spared = λ l. refl })

-- the counts after a step
pub progressed : (d w : ℕ) (memory : List ℕ) (before records : ℕ) (words : List ℕ) (p : Progress) → p ≡ progress d w memory before records words
    → (p.words ≡ before + p.taken) × (p.records ≡ records + 1) × (continues p.line ≡ true → before + 1 ≤ p.words)
unfolding progress taken_by
progressed d w memory before records words p e = rw e (refl, refl, (λ t. rw t (omega (arith, some_taken words))))
