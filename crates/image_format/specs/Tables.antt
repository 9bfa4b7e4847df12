-- Tables, so that what a group's merge byte or layout code says is found out once for all groups of an image. The code's own terms.
use Rattle.std.specs.Prelude.{ℕ, ◌+◌, ◌*◌, ◌≤◌, ◌<◌, ◌≡◌, List, length, get_or}
use Rattle.group_codes.specs.Pack.{code_merge}
use Rattle.group_codes.specs.Codes.{code_of}
use Rattle.image_format.specs.Write.{group_size}
use Rattle.image_format.specs.Fields.{Described}

-- the first n entries
abbrev pub Filled : (ℕ → ℕ) → ℕ → List ℕ → Type 0
Filled f n t = (k : ℕ) → k < n → get_or t k 0 ≡ f k

-- Tables that are lent, as far as they reach: the number of words of a group's counters and its layout code, by merge byte; and the merge
-- byte by layout code.
abbrev pub Sizes : List ℕ → Type 0
Sizes t = Filled group_size (length t) t

abbrev pub Codes : List ℕ → Type 0
Codes t = Filled code_of (length t) t

abbrev pub Layouts : List ℕ → Type 0
Layouts t = Filled (λ (c : ℕ). code_merge c) (length t) t

-- the description of a layout with code c, which is there
abbrev pub DescribedAt : ℕ → ℕ → List ℕ → Type 0
DescribedAt c merge t = (17 * c + 17 ≤ length t) × Described merge t (17 * c)

-- the description of each layout by its code: of the first n codes, and as far as a table that is lent reaches
abbrev pub FirstFields : ℕ → List ℕ → Type 0
FirstFields n t = (c : ℕ) → c < n → Described (code_merge c) t (17 * c)

abbrev pub Fields : List ℕ → Type 0
Fields t = (c : ℕ) → 17 * c + 17 ≤ length t → Described (code_merge c) t (17 * c)

-- the tables that are lent to writing and to reading
abbrev pub Writes : List ℕ → List ℕ → Type 0
Writes codes fields = Codes codes × Fields fields

abbrev pub Reads : List ℕ → List ℕ → Type 0
Reads layouts fields = Layouts layouts × Fields fields
