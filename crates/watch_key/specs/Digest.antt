-- What is looked at first of a key. The code's own terms.
use Rattle.std.specs.Prelude.{ℕ, ◌+◌, ◌-◌, ◌*◌, cond, List, leb, get_or, take, drop}
use Rattle.std.specs.Int.Bits.{bit_xor}
use Rattle.little_endian.specs.Bytes.{number}

-- of a key of `size` bytes from `start` on: its first and its last eight bytes, each as a number, in one; else its last two, else its only one
unfoldable pub digest_of : List ℕ → ℕ → ℕ → ℕ
digest_of bytes start size =
    cond (leb 8 size) (bit_xor (number (take 8 (drop start bytes))) (number (take 8 (drop (start + size - 8) bytes))))
    (cond (leb 2 size) (get_or bytes (start + size - 2) 0 + 256 * get_or bytes (start + size - 1) 0) (get_or bytes (start + size - 1) 0))
