-- A refused call leaves the memory as it was.
use mathlib.Core.Path.{◌≡◌, refl}
use mathlib.Core.Bool.{false}
use mathlib.Core.List.{List}
use Prim.Native.Nat.{ℕ}
use lib.Dec.{eqb}
use Rattle.answer.specs.Answers.{leaves}
use Rattle.meter.specs.Meter.{cleared, updated, united}
use Rattle.answer.proofs.Answers.{finish_kept}
use Rattle.image_format.specs.Read.{finish_read, taken}
use Rattle.feed.specs.Answers.{record_answer}
use Rattle.feed.specs.Record.{finish_record, recorded}
use Rattle.watch.proofs.Laws.{watched_kept}
use Rattle.traffic.specs.Calls.{Call, clear, update, estimate, widest, unite, write, read, feed, watch, done, words_of}

-- an image read
read_kept : (d w : ℕ) (memory words : List ℕ) → eqb (taken d w memory words).answer.status 0 ≡ false → (taken d w memory words).memory ≡ memory
unfolding taken finish_read leaves
read_kept d w memory words e = rw e

-- a record or the end
record_kept : (d w : ℕ) (memory : List ℕ) (before : ℕ) (words : List ℕ)
    → eqb (record_answer (recorded d w memory before words).outcome).status 0 ≡ false → (recorded d w memory before words).memory ≡ memory
unfolding recorded finish_record leaves
record_kept d w memory before words e = rw e

-- a call of any kind
pub kept : (d w d' w' : ℕ) (call : Call) (memory : List ℕ) → eqb (done d w d' w' call memory).answer.status 0 ≡ false → (done d w d' w' call memory).memory ≡ memory
unfolding done cleared updated united
kept d w d' w' clear memory e = finish_kept _ _ _ _ e
kept d w d' w' (update key amount) memory e = finish_kept _ _ _ _ e
kept d w d' w' (estimate key) memory e = refl
kept d w d' w' widest memory e = refl
kept d w d' w' (unite source) memory e = finish_kept _ _ _ _ e
kept d w d' w' (write words) memory e = refl
kept d w d' w' (read source) memory e = read_kept d' w' memory (words_of d w source) e
kept d w d' w' (feed before words) memory e = record_kept d' w' memory before words e
kept d w d' w' (watch list key amount threshold) memory e = (watched_kept d' w' memory list key amount threshold e).0
