-- What an update and an estimate of the same key refuse: 5 of the meter's groups is what an estimate tests.
use mathlib.Core.Path.{◌≡◌, refl, sym, ap, ◌∙◌}
use mathlib.Core.Logic.{◌⊎◌, inl, inr}
use mathlib.Core.List.{List}
use Prim.Native.Nat.{ℕ, zero, suc, ◌+◌, ◌/◌}
use lib.ListN.{take, drop}
use Rattle.hash.specs.Hash.{basis}
use Rattle.geometry.specs.Geometry.{stride}
use Rattle.group.proofs.Outcomes.{Statuses, neither, full, invalid, added_read}
use Rattle.answer.specs.declared.Answer.{Answer}
use Rattle.answer.specs.Order.{place_in, earlier, earliest}
use Rattle.answer.proofs.Answers.{status_is}
use Rattle.meter_memory.specs.Rows.{of_rows, group_at}
use Rattle.meter_keys.specs.Keys.{key_slot}
use Rattle.meter_row.specs.Row.{added_in, update_status, read_row}
use Rattle.meter.specs.Meter.{bad_call, updated, read_status, estimated}
use Rattle.meter.proofs.Calls.{updated_rows, estimated_good}

-- of two groups
with_next : {a b s t : ℕ} → Statuses a b → Statuses s t → Statuses (earlier a s) (earlier b t)
unfolding earlier place_in
with_next neither r = r
with_next full neither = full
with_next full full = full
with_next full invalid = invalid
with_next invalid neither = invalid
with_next invalid full = invalid
with_next invalid invalid = invalid

-- of all rows, whatever is asked for in each
of_rows_lem : (f g : ℕ → List ℕ → ℕ) → ((r : ℕ) (row : List ℕ) → Statuses (f r row) (g r row))
    → (s n r : ℕ) (memory : List ℕ) → Statuses (earliest (of_rows f s n r memory)) (earliest (of_rows g s n r memory))
unfolding of_rows earliest
of_rows_lem f g h s zero r memory = neither
of_rows_lem f g h s (suc n) r memory = with_next (h r (take s memory)) (of_rows_lem f g h s n (r + 1) (drop s memory))

-- 6 comes after 5 and 11
same_line : {s t : ℕ} → Statuses s t → (line : ℕ) → (line ≡ 5) ⊎ (line ≡ 11) → earlier s line ≡ earlier t line
unfolding earlier place_in
same_line neither line l = refl
same_line full line (inl e) = rw e
same_line full line (inr e) = rw e
same_line invalid line l = refl

-- in a row
in_row : (w : ℕ) (key : List ℕ) (amount r : ℕ) (row : List ℕ) → Statuses (update_status basis w key amount r row) (read_status w key r row)
unfolding update_status added_in read_status read_row
in_row w key amount r row = added_read (group_at w row (key_slot basis w key r / 8)) (key_slot basis w key r) amount

-- Beside a line 5 or 11 an update's refusal is the estimate's.
pub refused_as_estimated : (d w : ℕ) (memory key : List ℕ) (amount line : ℕ) → bad_call d w memory key ≡ 0 → (line ≡ 5) ⊎ (line ≡ 11)
    → earlier (updated d w memory key amount).answer.status line ≡ earlier (estimated d w memory key).status line
refused_as_estimated d w memory key amount line b l =
    let u = (updated_rows d w memory key amount b (earliest (of_rows (update_status basis w key amount) (stride w) d 0 memory)) _ refl refl).0 in
    let v = estimated_good d w memory key b in
    ap (λ (a : Answer). earlier a.status line) (sym u)
    ∙ ap (λ (s : ℕ). earlier s line) (status_is _ 0)
    ∙ same_line (of_rows_lem (update_status basis w key amount) (read_status w key) (in_row w key amount) (stride w) d 0 memory) line l
    ∙ sym (ap (λ (s : ℕ). earlier s line) (status_is _ _))
    ∙ ap (λ (a : Answer). earlier a.status line) v
