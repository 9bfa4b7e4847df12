-- What a run has received, and what is due after it.
use mathlib.Core.Logic.{◌⊎◌, ⊎_elim, inl, inr}
use mathlib.Core.Path.{◌≡◌, refl, sym, ap, ap₂, ◌∙◌}
use mathlib.Core.Bool.{Bool, true, false, cond, true≢false}
use mathlib.Core.List.{List, [], ◌++◌, append-nil, append_assoc}
use Prim.Native.Nat.{ℕ, ◌-◌, ◌≤◌}
use native.Mathlib.Omega.{arith}
use borrow.Table.Steps.{cases}
use lib.ListN.{take}
use Rattle.feed_io.specs.declared.input.Input.{Input}
use Rattle.feed_io.specs.declared.output.Output.{Output}
use Rattle.feed_io.specs.Buffers.{Within, unused, Held, Refilled, Cleared}
use Rattle.feed_io.proofs.Buffers.{unused_length}
use Rattle.feed_state.specs.declared.State.{State}
use Rattle.feed_state.specs.State.{Received}

-- whatever is due for the bytes at hand and those to come, it is what is written and what is due for those at hand after a read
pub received_due : (n : ℕ) (i : Input) (input : List ℕ) (j : Input) (input' : List ℕ) (f : Refilled n i input j input') (reads : Bool) (output : List ℕ) (at : ℕ) (o : Output)
    (c : Cleared reads output at o) (due : List ℕ → List ℕ) (rest : List ℕ)
    → take at output ++ due (unused i input ++ (f.read ++ rest)) ≡ c.sent ++ (take o.at output ++ due (unused j input' ++ rest))
received_due n i input j input' f reads output at o c due rest =
    ap₂ (λ (x y : List ℕ). x ++ due y) c.kept (sym (append_assoc (unused i input) f.read rest) ∙ ap (λ (x : List ℕ). x ++ rest) (sym f.joined))
    ∙ append_assoc c.sent (take o.at output) (due (unused j input' ++ rest))

-- what the code finds: a write failed, and nothing is read; or what was due is read
pub received_failed : (n : ℕ) (s : State) (input output : List ℕ) (reads : Bool) (o : Output) → Within s.input input → Cleared reads output s.output.at o → o.failed ≡ true
    → Received n s input output (record { input = s.input; output = o; words = s.words; records = s.records; runs = false; ended = false }) input
received_failed n s input output reads o h c t =
    record {
      filled = record { within = h; read = []; joined = sym (append-nil (unused s.input input)); spared = λ l. refl; closed = λ e. (refl, e) };
      reads = reads;
      cleared = c;
      flushed = inl refl;
      stopped = λ e. refl;
      enough = λ e. absurd (true≢false (sym t ∙ e));
      state = rw t;
    }

pub received_more : (n : ℕ) (s : State) (input output : List ℕ) (reads : Bool) (o : Output) (i : Input) (input' : List ℕ) → Within s.input input
    → (reads ≡ false → (n ≤ s.input.end - s.input.start) ⊎ (s.input.more ≡ false)) → Refilled n s.input input i input' → Held n i input'
    → Cleared reads output s.output.at o → o.failed ≡ false
    → Received n s input output (record { input = i; output = o; words = s.words; records = s.records; runs = s.runs; ended = s.ended }) input'
received_more n s input output reads o i input' h spare f k c t =
    record {
      filled = f;
      reads = reads;
      cleared = c;
      flushed =
          cases reads (λ e. inr (c.empty e))
          (λ e. inl (⊎_elim (λ l. f.spared (omega (arith, l, unused_length s.input input h))) (λ m. (f.closed m).0) (spare e)));
      stopped = λ e. absurd (true≢false (sym e ∙ t));
      enough = λ e. k;
      state = rw t;
    }

-- it changes no count, and the run goes on unless a write failed
pub received_kept : (n : ℕ) (s : State) (input output : List ℕ) (r : State) (input' : List ℕ) → Received n s input output r input'
    → (r.words ≡ s.words) × (r.records ≡ s.records) × (r.output.failed ≡ false → r.runs ≡ s.runs)
received_kept n s input output r input' c = (
  ap (λ (x : State). x.words) c.state,
  ap (λ (x : State). x.records) c.state,
  λ t. ap (λ (x : State). x.runs) c.state ∙ ap (λ (b : Bool). cond b false s.runs) t,
)
