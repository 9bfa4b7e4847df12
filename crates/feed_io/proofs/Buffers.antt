-- Laws of the program's buffers.
use mathlib.Core.Logic.{◌⊎◌, ⊎_elim, inl, inr}
use mathlib.Core.Path.{◌≡◌, refl, sym, ap, ◌∙◌}
use mathlib.Core.Bool.{Bool, true, false, true≢false}
use mathlib.Core.List.{List, [], ◌++◌, append-nil}
use Prim.Native.Nat.{ℕ, ◌+◌, ◌-◌, ◌≤◌, ◌<◌}
use native.Mathlib.Nat.{sub-zero}
use native.Mathlib.Omega.{arith}
use lib.ListN.{length, take, drop, take-append-drop, length-drop}
use lib.Seq.{take-take, take_at, drop-drop, length-take-le}
use Rattle.std.specs.List.{copy_within}
use Rattle.laws.proofs.Lists.{drop_take}
use Rattle.feed_io.specs.declared.input.Input.{Input}
use Rattle.feed_io.specs.declared.output.Output.{Output}
use Rattle.feed_io.specs.Buffers.{Within, unused, Held, advanced, Filled, Refilled, Cleared}

pub unused_length : (i : Input) (buffer : List ℕ) → Within i buffer → length (unused i buffer) ≡ i.end - i.start
unused_length i buffer h = length-take-le (i.end - i.start) (drop i.start buffer) (omega (arith, length-drop i.start buffer))

pub advanced_is : (i : Input) (n : ℕ) (buffer : List ℕ) → i.start + n ≤ i.end → unused (advanced i n) buffer ≡ drop n (unused i buffer)
advanced_is i n buffer h =
    ap (take (i.end - (i.start + n))) (sym (drop-drop n i.start buffer))
    ∙ sym (drop_take n (i.end - (i.start + n)) (i.end - i.start) (drop i.start buffer) (omega arith))

-- nothing is read
pub held : (n : ℕ) (i : Input) (buffer : List ℕ) → Within i buffer → (n ≤ i.end - i.start) ⊎ (i.more ≡ false) → Refilled n i buffer i buffer × Held n i buffer
held n i buffer h k = (
  record {
    within = h;
    read = [];
    joined = sym (append-nil (unused i buffer));
    spared = λ l. refl;
    closed = λ e. (refl, e);
  },
  ⊎_elim (λ l. inl (omega (arith, unused_length i buffer h))) (λ e. inr e) k,
)

-- bytes are moved to the front, and more are read behind them
pub refilled : (n : ℕ) (i : Input) (before middle : List ℕ) (r : Input) (after : List ℕ) → Within i before → i.end - i.start < n → i.more ≡ true
    → middle ≡ copy_within before i.start i.end 0
    → Filled n (i.end - i.start) middle r after → Refilled n i before r after × Held n r after
refilled least i before middle r after h short o e f =
    let n = i.end - i.start in
    let inside : Within r after = (rw f.start (omega arith), f.inside) in
    let whole : unused r after ≡ take r.end after = rw (f.start, sub-zero) in
    let moved : take n middle ≡ unused i before = ap (take n) e ∙ take_at (unused i before) (drop (0 + n) before) n (unused_length i before h) in
    let front : take n (unused r after) ≡ unused i before = ap (take n) whole ∙ take-take n r.end after f.grown ∙ f.kept ∙ moved in (
      record {
        within = inside;
        read = drop n (unused r after);
        joined = sym (take-append-drop n (unused r after)) ∙ ap (λ (xs : List ℕ). xs ++ drop n (unused r after)) front;
        spared = λ l. absurd (omega (arith, short, unused_length i before h));
        closed = λ c. absurd (true≢false (sym o ∙ c));
      },
      ⊎_elim (λ l. inl (omega (arith, unused_length r after inside, f.start))) (λ m. inr m) f.enough,
    )

-- nothing is written, or all that is at hand
pub cleared_none : (reads : Bool) (out : List ℕ) (at : ℕ) → at + 64 ≤ length out → (reads ≡ true → at ≡ 0) → Cleared reads out at (record { at = at; failed = false })
cleared_none reads out at h k = record { sent = []; kept = refl; space = h; empty = k; failed = λ t. absurd (true≢false (sym t)) }

pub cleared_all : (reads : Bool) (out : List ℕ) (at : ℕ) (r : Output) → at ≤ length out → 64 ≤ length out → (at ≡ 0 → ⊥) → r.at ≡ 0 → Cleared reads out at r
cleared_all reads out at r h l n e =
    record {
      sent = take at out;
      kept = rw e (sym (append-nil (take at out)));
      space = omega (arith, e);
      empty = λ t. e;
      failed = λ t. (omega (arith, length-take-le at out h, n), e);
    }
