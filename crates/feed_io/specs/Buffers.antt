-- What the program's buffers hold. The code's own terms.
use Rattle.std.specs.Prelude.{ℕ, ◌+◌, ◌-◌, ◌≤◌, ◌<◌, ◌⊎◌, ◌≡◌, Bool, true, false, List, [], ◌++◌, length, take, drop}
use Rattle.feed_io.specs.declared.input.Input.{Input}
use Rattle.feed_io.specs.declared.output.Output.{Output}

-- the bytes read and not yet used lie in the buffer
abbrev pub Within : Input → List ℕ → Type 0
Within i buffer = (i.start ≤ i.end) × (i.end ≤ length buffer)

-- those bytes
abbrev pub unused : Input → List ℕ → List ℕ
unused i buffer = take (i.end - i.start) (drop i.start buffer)

-- there are at least n of them, or no more come
abbrev pub Held : ℕ → Input → List ℕ → Type 0
Held n i buffer = (n ≤ length (unused i buffer)) ⊎ (i.more ≡ false)

-- the bytes after the first n
abbrev pub advanced : Input → ℕ → Input
advanced i n = record { start = i.start + n; end = i.end; more = i.more }

-- A buffer filled behind the bytes at its front, until there are n or the input has ended.
pub record Filled (n front : ℕ) (before : List ℕ) (r : Input) (after : List ℕ) : Type 0 where
  pub start : r.start ≡ 0
  pub grown : front ≤ r.end
  pub inside : r.end ≤ length after
  pub kept : take front after ≡ take front before
  pub enough : (n ≤ r.end) ⊎ (r.more ≡ false)

-- Bytes read behind those at hand: none is lost, none is read if n are there, and none once the input has ended.
pub record Refilled (n : ℕ) (i : Input) (before : List ℕ) (r : Input) (after : List ℕ) : Type 0 where
  pub within : Within r after
  pub read : List ℕ
  pub joined : unused r after ≡ unused i before ++ read
  pub spared : n ≤ length (unused i before) → read ≡ []
  pub closed : i.more ≡ false → (read ≡ []) × (r.more ≡ false)

-- Space for a line in a buffer with so many bytes to write: what is not at hand any more, `sent`, is handed to a write.
-- All is, if a read follows.
pub record Cleared (reads : Bool) (out : List ℕ) (at : ℕ) (r : Output) : Type 0 where
  pub sent : List ℕ
  pub kept : take at out ≡ sent ++ take r.at out
  pub space : r.at + 64 ≤ length out
  pub empty : reads ≡ true → r.at ≡ 0
  pub failed : r.failed ≡ true → (0 < length sent) × (r.at ≡ 0)
