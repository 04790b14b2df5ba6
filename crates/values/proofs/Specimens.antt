-- Specimens: sources and the values of the numbers that start at their places, as document 01 has them.
-- Assumes nothing.
use mathlib.Core.Path.{◌≡◌, refl}
use mathlib.Core.List.{List, [], ◌∷◌, map}
use Prim.Native.Nat.{ℕ}
use Prim.Native.String.{String}
use Rattle.std.specs.Prelude.{Option, Some, None}
use Rattle.lexemes.specs.Lexemes.{bytes}
use Rattle.lexemes.specs.Words.{run}
use Rattle.values.specs.Numbers.{value_from, numeral, value_at}

-- a source, and the place and the value of each of its numbers
abbrev pub Specimen : Type 0
Specimen = String × List (ℕ × Option ℕ)

pub listed : List Specimen
listed =
    -- document 01: `010`, and the largest number that 64 bits hold with the next
    ("010", (0, Some 10) ∷ []) ∷
    ("0x1A0 416", (0, Some 416) ∷ (6, Some 416) ∷ []) ∷
    ("18446744073709551615", (0, Some 18446744073709551615) ∷ []) ∷
    ("18446744073709551616", (0, None) ∷ []) ∷
    ("0xffffffffffffffff", (0, Some 18446744073709551615) ∷ []) ∷
    ("0x10000000000000000", (0, None) ∷ []) ∷
    -- a number ends where no letter, digit or `_` stands
    ("0x1 if", (0, Some 1) ∷ []) ∷
    ("label 0x1;", (6, Some 1) ∷ []) ∷
    ("1+2 endrule", (0, Some 1) ∷ (2, Some 2) ∷ []) ∷
    ("0x1+0x2", (0, Some 1) ∷ (4, Some 2) ∷ []) ∷
    ("8/ /2", (0, Some 8) ∷ (4, Some 2) ∷ []) ∷
    ("8//2 endrule;", (0, Some 8) ∷ []) ∷
    ("1///2", (0, Some 1) ∷ []) ∷
    []

-- what the definitions make of the places of a source
unfoldable pub outcome : Specimen → Specimen
unfolding run value_from numeral value_at
outcome p = let s = bytes p.0 in (p.0, map (λ (v : ℕ × Option ℕ). (v.0, value_at s v.0)) p.1)

pub specimens : map outcome listed ≡ listed
unfolding listed outcome
specimens = refl
