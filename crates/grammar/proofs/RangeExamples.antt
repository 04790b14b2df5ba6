-- Numbers, and whether they keep to their place (document 01, refusal 5; docs/DECISIONS.md, D25 to D31), by computation.
-- Assumes nothing.
use mathlib.Core.Path.{◌≡◌, refl}
use mathlib.Core.Bool.{Bool, true, false}
use mathlib.Core.List.{List, [], ◌∷◌, map}
use Prim.Native.Nat.{ℕ}
use Prim.Native.String.{String}
use Rattle.lexemes.specs.Lexemes.{bytes}
use Rattle.lexemes.specs.Words.{run}
use Rattle.values.specs.Numbers.{value_from, numeral, value_at, digits_at}
use Rattle.grammar.specs.Rules.{<id>, <small>, <large>, <zero>, <H8>, <H4>, <H2>}
use Rattle.sizes.specs.Sizes.{fits, modulus}
use Rattle.grammar.specs.Ranges.{range_of, keeps}
use Rattle.grammar.specs.Ranges as Ranges

-- a rule of the grammar, a number written in its place, and whether the number keeps to it
pub record Written : Type 0 where
  pub rule : ℕ
  pub number : String
  pub kept : Bool

infix 68 ◌kept_in◌
abbrev ◌kept_in◌ : String → ℕ → Written
w kept_in A = record { rule = A; number = w; kept = true }

infix 68 ◌outside◌
abbrev ◌outside◌ : String → ℕ → Written
w outside A = record { rule = A; number = w; kept = false }

unfoldable pub writings : List Written
writings =
    -- form, goto, question and questionref numbers
    "0" outside <id>
    ∷ "1" kept_in <id>
    ∷ "65535" kept_in <id>
    ∷ "65536" outside <id>
    ∷ "0xFFFF" kept_in <id>
    -- string and label numbers
    ∷ "0" kept_in <small>
    ∷ "65535" kept_in <small>
    ∷ "65536" outside <small>
    -- zeros at the front have no effect
    ∷ "00000000000000000000000000000007" kept_in <small>
    -- others
    ∷ "18446744073709551615" kept_in <large>
    ∷ "18446744073709551616" outside <large>
    ∷ "0x10000000000000000" outside <large>
    -- option flags
    ∷ "0x00" kept_in <zero>
    ∷ "16" outside <zero>
    -- GUID parts: digits are counted, zeros at the front too
    ∷ "0xffffffff" kept_in <H8>
    ∷ "0x000000001" outside <H8>
    ∷ "0x1" kept_in <H4>
    ∷ "0x12345" outside <H4>
    ∷ "0xAB" kept_in <H2>
    ∷ "0x001" outside <H2>
    ∷ []

-- a size, a number of a numeric of that size, and whether the number fits it (document 02, W-204; docs/DECISIONS.md, W204.27)
unfoldable pub sized : List (ℕ × String × Bool)
sized =
    (1, "255", true)
    ∷ (1, "256", false)
    ∷ (1, "18446744073709551616", false)
    ∷ (2, "0x0000000ffff", true)
    ∷ (2, "65536", false)
    ∷ (4, "4294967295", true)
    ∷ (4, "4294967296", false)
    ∷ (8, "18446744073709551615", true)
    ∷ (8, "18446744073709551616", false)
    ∷ []

pub sizes_as_decided : map (λ w. keeps (bytes w.1) (Ranges.bytes w.0) 0) sized ≡ map (λ w. w.2) sized
unfolding sized keeps fits modulus value_at numeral value_from run
sizes_as_decided = refl

pub ranges_as_decided : map (λ w. keeps (bytes w.number) (range_of w.rule) 0) writings ≡ map (λ w. w.kept) writings
unfolding writings keeps range_of value_at digits_at numeral value_from run
ranges_as_decided = refl
