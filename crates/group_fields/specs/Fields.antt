-- A group's count bytes as bit fields. The code's own terms: contracts of this crate and of those that write and read images cite them.
use Rattle.std.specs.Prelude.{ℕ, ◌+◌, ◌*◌, ◌/◌, ◌%◌, ◌^◌, List}
use Rattle.little_endian.specs.Bytes.{number, bytes}
use Rattle.group.specs.declared.Group.{Group}
use Rattle.group_fields.specs.declared.Fields.{Fields}

-- no bit set
abbrev pub no_fields : Fields
no_fields = record { word = 0 }

-- the bits of count bytes, the lowest slot least significant, and the count bytes again
unfoldable pub fields_of : List ℕ → Fields
fields_of counts = record { word = number counts }

unfoldable pub counts_of : Fields → List ℕ
counts_of f = bytes 8 f.word

-- the group with these bits and a merge byte
abbrev pub group_of : ℕ → Fields → Group
group_of merge f = record { counts = counts_of f; merge = merge }

-- so many bits from a place on
abbrev pub bits_at : Fields → ℕ → ℕ → ℕ
bits_at f place bits = f.word / 2 ^ place % 2 ^ bits

-- so many low bits of a value added at a place
abbrev pub put : Fields → ℕ → ℕ → ℕ → Fields
put f place bits value = record { word = f.word + value % 2 ^ bits * 2 ^ place }
