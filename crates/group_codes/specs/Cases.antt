-- Document 01's group cases P1 to P12, as one table. Cited by theorems.
use Rattle.std.specs.Prelude.{ℕ, ◌≡◌, List, [], ◌∷◌}
use Rattle.answer.specs.declared.Answer.{Answer}
use Rattle.group.specs.declared.Group.{Group}
use Rattle.group.specs.Results.{Outcome}
use Rattle.answer.specs.Answers.{accepted, refused}
use Rattle.answer.specs.Numbers.{invalid_content, counter_full}
use Rattle.group.specs.Group.{unchanged, added, united_groups}
use Rattle.group_codes.specs.Pack.{group_code, packed}

-- a call and its answer
pub data Case : Type 0 where
  adds : Group → ℕ → ℕ → Outcome → Case
  unites : Group → Group → Outcome → Case
  codes : ℕ → Answer → Case
  packs : ℕ → ℕ → ℕ → ℕ → Answer → Case

abbrev pub Holds : Case → Type 0
Holds (adds g slot amount o) = added g slot amount ≡ o
Holds (unites g source o) = united_groups g source ≡ o
Holds (codes m a) = group_code m ≡ a
Holds (packs a b c d r) = packed a b c d ≡ r

abbrev pub AllHold : List Case → Type 0
AllHold [] = Unit
AllHold (c ∷ cs) = Holds c × AllHold cs

-- a group of these count bytes and this merge byte
abbrev eight : ℕ → ℕ → ℕ → ℕ → ℕ → ℕ → ℕ → ℕ → ℕ → Group
eight a b c d e f g h m = record { counts = a ∷ b ∷ c ∷ d ∷ e ∷ f ∷ g ∷ h ∷ []; merge = m }

abbrev clear : Group
clear = eight 0 0 0 0 0 0 0 0 0x00

abbrev full : Group
full = eight 255 255 255 255 255 255 255 255 0x7f

-- an accepted call's group
abbrev becomes : Group → Outcome
becomes g = record { status = 0; group = g }

abbrev pub cases : List Case
cases =
    -- P1 and P2
    adds (eight 0 255 3 0 253 255 95 11 0x10) 1 3 (becomes (eight 2 1 3 0 253 255 95 11 0x11))
    ∷ adds (eight 2 1 3 0 253 255 95 11 0x11) 5 5 (becomes (eight 2 1 3 0 108 0 1 0 0x71))
    -- P3 and P4
    ∷ adds (eight 0 0 255 0 0 0 0 0 0x00) 2 0 (becomes (eight 0 0 255 0 0 0 0 0 0x00))
    ∷ adds (eight 0 0 255 0 0 0 0 0 0x00) 2 1 (becomes (eight 0 0 0 1 0 0 0 0 0x04))
    -- P5 and P6
    ∷ adds clear 3 65535 (becomes (eight 0 0 255 255 0 0 0 0 0x04))
    ∷ adds clear 3 65536 (becomes (eight 0 0 1 0 0 0 0 0 0x07))
    -- P7
    ∷ adds clear 0 4294967295 (becomes (eight 255 255 255 255 0 0 0 0 0x07))
    ∷ adds (eight 255 255 255 255 0 0 0 0 0x07) 0 1 (becomes (eight 0 0 0 0 1 0 0 0 0x7f))
    -- P8
    ∷ adds full 4 0 (becomes full)
    ∷ adds full 4 1 (unchanged counter_full full)
    -- P9
    ∷ codes 0x00 (accepted 0)
    ∷ codes 0x70 (accepted 4)
    ∷ codes 0x44 (accepted 6)
    ∷ codes 0x07 (accepted 20)
    ∷ codes 0x77 (accepted 24)
    ∷ codes 0x7f (accepted 25)
    ∷ codes 0x02 (refused invalid_content)
    ∷ codes 0x08 (refused invalid_content)
    ∷ codes 0x80 (refused invalid_content)
    -- P10
    ∷ packs 0x70 0x44 0x00 0x00 (accepted 74360)
    ∷ packs 0x7f 0x7f 0x7f 0x7f (accepted 456975)
    -- P11 and P12
    ∷ unites (eight 200 0 0 0 0 0 0 0 0x00) (eight 100 0 0 0 0 0 0 0 0x00) (becomes (eight 44 1 0 0 0 0 0 0 0x01))
    ∷ unites (eight 44 1 0 0 0 0 0 0 0x01) (eight 0 7 0 0 0 0 0 0 0x00) (becomes (eight 51 1 0 0 0 0 0 0 0x01))
    ∷ []
