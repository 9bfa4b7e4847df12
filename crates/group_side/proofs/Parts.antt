-- The count bytes of each of several groups side by side.
use Rattle.std.proofs.Common.{◌≡◌, ℕ, suc, ◌+◌, ◌*◌, ◌<◌, List, length, get_or, take, drop, sym, ap, ◌∙◌, arith, length-drop, length-take-le, get_or-drop, get_or-take, drop-drop}
use Rattle.laws.proofs.Lists.{Bytes, bytes_take, bytes_drop}
use Rattle.group.proofs.Laws.{Eight}
use Rattle.group_side.specs.Side.{part}

module _ (n : ℕ) (xs : List ℕ) (l : length xs ≡ 8 * n) (i : ℕ) (h : i < n) where
  pub part_long : length (part i xs) ≡ 8
  part_long = length-take-le 8 (drop (8 * i) xs) (rw (length-drop (8 * i) xs) (omega arith))

  pub part_eight : Bytes xs → Eight (part i xs)
  part_eight b = record { long = part_long; small = bytes_take 8 (drop (8 * i) xs) (bytes_drop (8 * i) xs b) }

pub part_at : (xs : List ℕ) (i k : ℕ) → k < 8 → get_or (part i xs) k 0 ≡ get_or xs (8 * i + k) 0
part_at xs i k h = get_or-take 8 (drop (8 * i) xs) k 0 h ∙ get_or-drop (8 * i) xs k 0

pub part_next : (i : ℕ) (xs : List ℕ) → part (suc i) xs ≡ part i (drop 8 xs)
part_next i xs =
    let at : 8 * suc i ≡ 8 + 8 * i = omega arith in
    ap (take 8) (ap (λ (k : ℕ). drop k xs) at ∙ sym (drop-drop (8 * i) 8 xs))
