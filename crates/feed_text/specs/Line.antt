-- The text of the program's lines. Document 01, 'The program's lines'. Cited by contracts and theorems.
use Rattle.std.specs.Prelude.{ℕ, List, [], ◌∷◌, ◌++◌}
use Rattle.feed_line.specs.declared.Line.{Line}
use Rattle.feed_line.specs.declared.Line.TheVariants as line
use Rattle.feed_text.specs.Text.{decimal, newline}

-- The word at the start of each line, in ASCII, with the space or newline after it.
-- "geometry "
abbrev pub geometry_label : List ℕ
geometry_label = 103 ∷ 101 ∷ 111 ∷ 109 ∷ 101 ∷ 116 ∷ 114 ∷ 121 ∷ 32 ∷ []

-- "updated\n"
abbrev pub updated_label : List ℕ
updated_label = 117 ∷ 112 ∷ 100 ∷ 97 ∷ 116 ∷ 101 ∷ 100 ∷ 10 ∷ []

-- "estimate "
abbrev pub estimate_label : List ℕ
estimate_label = 101 ∷ 115 ∷ 116 ∷ 105 ∷ 109 ∷ 97 ∷ 116 ∷ 101 ∷ 32 ∷ []

-- "end "
abbrev pub end_label : List ℕ
end_label = 101 ∷ 110 ∷ 100 ∷ 32 ∷ []

-- "refused "
abbrev pub refused_label : List ℕ
refused_label = 114 ∷ 101 ∷ 102 ∷ 117 ∷ 115 ∷ 101 ∷ 100 ∷ 32 ∷ []

-- "stopped "
abbrev pub stopped_label : List ℕ
stopped_label = 115 ∷ 116 ∷ 111 ∷ 112 ∷ 112 ∷ 101 ∷ 100 ∷ 32 ∷ []

-- " at "
abbrev pub at_label : List ℕ
at_label = 32 ∷ 97 ∷ 116 ∷ 32 ∷ []

abbrev pub space : List ℕ
space = 32 ∷ []

-- the text of a line, and of lines one after another
unfoldable pub text : Line → List ℕ
text (line.Geometry d w) = geometry_label ++ decimal d ++ space ++ decimal w ++ newline
text line.Updated = updated_label
text (line.Estimate v) = estimate_label ++ decimal v ++ newline
text (line.End n) = end_label ++ decimal n ++ newline
text (line.Refused s) = refused_label ++ decimal s ++ newline
text (line.Stopped s i) = stopped_label ++ decimal s ++ at_label ++ decimal i ++ newline

unfoldable pub texts : List Line → List ℕ
texts [] = []
texts (l ∷ ls) = text l ++ texts ls
