-- Short feeds and their lines by the definition. Cited by theorems.
use Rattle.std.specs.Prelude.{ℕ, ◌≡◌, List, [], ◌∷◌}
use Rattle.feed_line.specs.declared.Line.{Line}
use Rattle.feed_line.specs.declared.Line.TheVariants as line
use Rattle.feed_lines.specs.Feed.{feed_lines}

pub record Example : Type 0 where
  pub bytes : List ℕ
  pub lines : List Line

abbrev pub AllHold : List Example → Type 0
AllHold [] = Unit
AllHold (e ∷ es) = (feed_lines e.bytes ≡ e.lines) × AllHold es

-- nothing; bytes short of a word; a head alone; a head and its end, and a byte after it; leftover bytes; a wrong end; too wide a meter; a bad depth
abbrev pub examples : List Example
examples =
    record { bytes = []; lines = line.Stopped 8 0 ∷ [] }
    ∷ record { bytes = 0x10 ∷ 0 ∷ 0 ∷ []; lines = line.Stopped 8 0 ∷ [] }
    ∷ record { bytes = 0x10 ∷ 0 ∷ 0 ∷ 0x51 ∷ []; lines = line.Geometry 1 32 ∷ line.Stopped 8 1 ∷ [] }
    ∷ record { bytes = 0x10 ∷ 0 ∷ 0 ∷ 0x51 ∷ 0x40 ∷ 0 ∷ 0 ∷ 1 ∷ []; lines = line.Geometry 1 32 ∷ line.End 0 ∷ [] }
    ∷ record { bytes = 0x10 ∷ 0 ∷ 0 ∷ 0x51 ∷ 0x40 ∷ 0 ∷ 0 ∷ 1 ∷ 0 ∷ []; lines = line.Geometry 1 32 ∷ line.End 0 ∷ line.Stopped 8 2 ∷ [] }
    ∷ record { bytes = 0x10 ∷ 0 ∷ 0 ∷ 0x51 ∷ 0x40 ∷ 0 ∷ []; lines = line.Geometry 1 32 ∷ line.Stopped 8 1 ∷ [] }
    ∷ record { bytes = 0x10 ∷ 0 ∷ 0 ∷ 0x51 ∷ 0x40 ∷ 0 ∷ 0 ∷ 2 ∷ []; lines = line.Geometry 1 32 ∷ line.Stopped 9 1 ∷ [] }
    ∷ record { bytes = 0x10 ∷ 0 ∷ 0 ∷ 0xD1 ∷ []; lines = line.Stopped 3 0 ∷ [] }
    ∷ record { bytes = 0x10 ∷ 0 ∷ 0 ∷ 0x59 ∷ []; lines = line.Stopped 1 0 ∷ [] }
    ∷ []
