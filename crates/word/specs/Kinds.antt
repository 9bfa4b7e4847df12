-- The number of each kind of word, in its top four bits. Cited by contracts.
use Rattle.std.specs.Prelude.{ℕ}
use Rattle.word.specs.declared.Kind.{Kind}
use Rattle.word.specs.declared.Kind.TheVariants.{Head, Layout, Count, End, Update, Query, Key, Amount}

abbrev pub code : Kind → ℕ
code Head = 1
code Layout = 2
code Count = 3
code End = 4
code Update = 5
code Query = 6
code Key = 7
code Amount = 8
