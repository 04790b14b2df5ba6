-- Numbers outside their place (document 01, refusal 5), of a numeric those over its size too (document 02, W-204); and second size or display
-- words (W-204, refusal 16).
-- Assumes nothing.
use Rattle.std.specs.Prelude.{ℕ, Bool, true, false, cond, ◌&&◌, List, [], ◌∷◌, ◌++◌, eqb, leb, Option, Some, None}
use Rattle.values.specs.Numbers.{value_at, digits_at}
use Rattle.ll1.specs.Trees.{Trees, nil, leaf, node}
use Rattle.sizes.specs.Sizes.{fits}
use Rattle.grammar.specs.Rules.{<id>, <small>, <large>, <zero>, <H8>, <H4>, <H2>, <item>, <numeric_fl>}
use Rattle.grammar.specs.Parts.{child, written, place_at}
use Rattle.grammar.specs.Positions.{item_numeric, numeric_flags, numeric_minimum, numeric_maximum, numeric_step, numeric_default}
use Rattle.grammar.specs.Positions.{step_value, default_value}
use Rattle.grammar.specs.Flags.{size_in, seconds_in}

pub data Range : Type 0 where
  -- no number
  free : Range
  -- a value from the first to the second
  between : ℕ → ℕ → Range
  -- a value that fits so many bytes
  bytes : ℕ → Range
  -- at most so many digits after `0x`
  digits : ℕ → Range

-- a rule of the grammar and the range of its numbers
pub data Ranged : Type 0 where
  ◌keeps_to◌ : ℕ → Range → Ranged

infix 68 ◌keeps_to◌
-- "number outside its place:
unfoldable pub ranges : List Ranged
ranges =
    -- form, goto, written question and `questionref` numbers 1 to 65,535;
    <id> keeps_to between 1 65535
    -- string and label numbers 0 to 65,535;
    ∷ <small> keeps_to between 0 65535
    -- others to 2^64 - 1;
    ∷ <large> keeps_to between 0 18446744073709551615
    -- option flags 0;
    ∷ <zero> keeps_to between 0 0
    -- GUID parts at most 8, 4 and 2 digits"
    ∷ <H8> keeps_to digits 8
    ∷ <H4> keeps_to digits 4
    ∷ <H2> keeps_to digits 2
    ∷ []

-- the range of the rule A among these
abbrev pub range_among : List Ranged → ℕ → Range
range_among [] A = free
range_among (B keeps_to r ∷ l) A = elim (eqb A B) [ true ↦ r | false ↦ range_among l A ]

unfoldable pub range_of : ℕ → Range
unfolding ranges
range_of A = range_among ranges A

-- a value from the first to the second number, both of 64 bits
abbrev pub within : ℕ → ℕ → Option ℕ → Bool
within low high (Some v) = leb low v && leb v high
within low high None = false

-- a value of 64 bits that fits so many bytes
abbrev pub fits_bytes : ℕ → Option ℕ → Bool
fits_bytes w (Some v) = fits w v
fits_bytes w None = false

-- what stands in the nodes of trees, from left to right: each node's own after what stands under it
module _ {X : Type 0} (own : ℕ → ℕ → Trees → List X) where
  unfoldable pub gathered : Trees → List X
  gathered nil = []
  gathered (leaf t f) = gathered f
  gathered (node A i c f) = gathered c ++ (own A i c ++ gathered f)

-- the alternative i of the rule A is a numeric
abbrev pub is_numeric : ℕ → ℕ → Bool
is_numeric A i = eqb A <item> && eqb i item_numeric

-- "Minimum, maximum, step and default must fit the size" (W-204): from the trees under a numeric the places of these numbers, in order; that of a
-- part in square brackets where it is written
abbrev pub written_place : ℕ → ℕ → Trees → List ℕ
written_place part number c = cond (written part c) (place_at 0 (child number (child part c)) ∷ []) []

abbrev pub sized_places : Trees → List ℕ
sized_places c =
    place_at 0 (child numeric_minimum c)
    ∷ place_at 0 (child numeric_maximum c)
    ∷ (written_place numeric_step step_value c ++ written_place numeric_default default_value c)

module _ (s : List ℕ) where
  -- the number at a place keeps the range
  unfoldable pub keeps : Range → ℕ → Bool
  keeps free p = true
  keeps (between low high) p = within low high (value_at s p)
  keeps (bytes w) p = fits_bytes w (value_at s p)
  keeps (digits n) p = leb (digits_at s p) n

  -- those of some places whose numbers do not
  abbrev pub out_of : Range → List ℕ → List ℕ
  out_of range [] = []
  out_of range (p ∷ ps) = cond (keeps range p) [] (p ∷ []) ++ out_of range ps

  -- of a tree of rule A and alternative i: its first token, a number out of the rule's range; and of a numeric the numbers that do not fit its
  -- size, which stand after all its others
  unfoldable pub out_of_range_here : ℕ → ℕ → Trees → List ℕ
  out_of_range_here A i c =
      let size = size_in (child numeric_flags c) in
      out_of (range_of A) (place_at 0 c ∷ []) ++ cond (is_numeric A i) (out_of (bytes size) (sized_places c)) []

  -- 5: the places of the numbers outside their place, in source order
  unfoldable pub out_of_range : Trees → List ℕ
  out_of_range f = gathered out_of_range_here f

-- the places of second size or display words, in source order: of a tree of rule A those in a numeric's FL
unfoldable pub seconds_here : ℕ → ℕ → Trees → List ℕ
seconds_here A i c = cond (eqb A <numeric_fl>) (seconds_in c) []

-- 16: in all trees
unfoldable pub second_words : Trees → List ℕ
second_words f = gathered seconds_here f
