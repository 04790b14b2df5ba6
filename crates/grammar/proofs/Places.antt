-- The places that refusals 2 to 5 and 16 name lie within the source.
-- Assumes nothing.
use mathlib.Core.Path.{◌≡◌}
use mathlib.Core.List.{List, [], ◌∷◌, ◌++◌}
use mathlib.Core.Bool.{Bool, true, false, cond, ◌&&◌, ◌||◌}
use Prim.Native.Nat.{ℕ, zero, suc, ◌≤◌, ◌<◌}
use native.Mathlib.Omega.{arith}
use lib.Dec.{eqb}
use lib.ListN.{length}
use Rattle.ll1.specs.ParseTable.{member}
use Rattle.ll1.specs.Trees.{Token, token, Trees, nil, leaf, node, leaves}
use Rattle.grammar.specs.Derivation.{Derives}
use Rattle.grammar.specs.Source.{source_tokens}
use Rattle.grammar.specs.Rules.{<numeric_fl>}
use Rattle.grammar.specs.Parts.{child, written, place_at}
use Rattle.grammar.specs.Positions.{numeric_flags, numeric_minimum, numeric_maximum, numeric_step, numeric_default, step_value, default_value}
use Rattle.grammar.specs.Flags.{size_words, display_words, classes_of, size_in, seconds_after}
use Rattle.grammar.specs.Ranges.{Range, range_of, keeps, gathered, is_numeric, written_place, sized_places, out_of, out_of_range_here, out_of_range}
use Rattle.grammar.specs.Ranges.{seconds_here, second_words}
use Rattle.grammar.specs.Ranges as Ranges
use Rattle.grammar.proofs.SourceTokens.{Within, within_none, within_more, tokens_within_lem}

-- ---- tokens

within_parts : {bytes : ℕ} (us ts : List Token) → Within bytes (us ++ ts) → Within bytes us × Within bytes ts
within_parts [] ts w = (within_none, w)
within_parts (t ∷ us) ts (within_more l w) = let rest = within_parts us ts w in (within_more l rest.0, rest.1)

first_within : {bytes k p : ℕ} {ts : List Token} → Within bytes (token k p ∷ ts) → p < bytes
first_within (within_more l w) = l

-- a token among those of a source
pub token_within : (s : List ℕ) (u v : List Token) (k p : ℕ) → source_tokens s ≡ u ++ token k p ∷ v → p < length s
token_within s u v k p e = first_within (within_parts u (token k p ∷ v) (rw e at (tokens_within_lem s))).1

-- ---- numbers outside their place

data Low (bound : ℕ) : List ℕ → Type 0 where
  low_none : Low bound []
  low_more : {p : ℕ} {ps : List ℕ} → p ≤ bound → Low bound ps → Low bound (p ∷ ps)

low_append : {bound : ℕ} {ps qs : List ℕ} → Low bound ps → Low bound qs → Low bound (ps ++ qs)
low_append low_none v = v
low_append (low_more l w) v = low_more l (low_append w v)

low_first : {bound p : ℕ} {ps : List ℕ} → Low bound (p ∷ ps) → p ≤ bound
low_first (low_more l w) = l

place_low : {bytes : ℕ} (c : Trees) → Within bytes (leaves c) → place_at 0 c ≤ bytes
place_low nil w = omega arith
place_low (leaf (token k p) f) w = omega (arith, first_within w)
place_low (node A i c f) w = omega arith

-- under a tree
child_within : {bytes : ℕ} (n : ℕ) (f : Trees) → Within bytes (leaves f) → Within bytes (leaves (child n f))
child_within n nil w = within_none
child_within zero (leaf t f) w = within_none
child_within (suc n) (leaf t f) (within_more l w) = child_within n f w
child_within zero (node A i c f) w = (within_parts (leaves c) (leaves f) w).0
child_within (suc n) (node A i c f) w = child_within n f (within_parts (leaves c) (leaves f) w).1

low_if : {bound : ℕ} (b : Bool) {ps qs : List ℕ} → Low bound ps → Low bound qs → Low bound (cond b ps qs)
low_if true l m = l
low_if false l m = m

module _ {bytes : ℕ} (own : ℕ → ℕ → Trees → List ℕ) (low : (A i : ℕ) (c : Trees) → Within bytes (leaves c) → Low bytes (own A i c)) where
  gathered_low : (f : Trees) → Within bytes (leaves f) → Low bytes (gathered own f)
  unfolding gathered
  gathered_low nil w = low_none
  gathered_low (leaf (token k p) f) (within_more l w) = gathered_low f w
  gathered_low (node A i c f) w =
      let parts = within_parts (leaves c) (leaves f) w in
      low_append (gathered_low c parts.0) (low_append (low A i c parts.0) (gathered_low f parts.1))

module _ (s : List ℕ) {bytes : ℕ} where
  out_low : (range : Range) (ps : List ℕ) → Low bytes ps → Low bytes (out_of s range ps)
  out_low range [] l = low_none
  out_low range (p ∷ ps) (low_more l m) = low_append (low_if (keeps s range p) low_none (low_more l low_none)) (out_low range ps m)

  written_low : (part number : ℕ) (c : Trees) → Within bytes (leaves c) → Low bytes (written_place part number c)
  written_low part number c w =
      let under = child_within number (child part c) (child_within part c w) in
      low_if (written part c) (low_more (place_low (child number (child part c)) under) low_none) low_none

  sized_low : (c : Trees) → Within bytes (leaves c) → Low bytes (sized_places c)
  sized_low c w =
      low_more (place_low (child numeric_minimum c) (child_within numeric_minimum c w))
      (low_more (place_low (child numeric_maximum c) (child_within numeric_maximum c w))
      (low_append (written_low numeric_step step_value c w) (written_low numeric_default default_value c w)))

  outside_low : (f : Trees) → Within bytes (leaves f) → Low bytes (out_of_range s f)
  unfolding out_of_range out_of_range_here
  outside_low f w =
      gathered_low (out_of_range_here s)
      (λ A i c h.
      low_append (out_low (range_of A) (place_at 0 c ∷ []) (low_more (place_low c h) low_none))
      (low_if (is_numeric A i) (out_low (bytes_of c) (sized_places c) (sized_low c h)) low_none))
      f w
    where
      bytes_of : Trees → Range
      bytes_of c = Ranges.bytes (size_in (child numeric_flags c))

pub outside_within : (s : List ℕ) (tree : Trees) (p : ℕ) (later : List ℕ) → Derives (source_tokens s) tree → out_of_range s tree ≡ p ∷ later → p ≤ length s
outside_within s tree p later d e =
    let w : Within (length s) (leaves tree) = rw d.reads (tokens_within_lem s) in
    low_first (rw e at (outside_low s tree w))

-- ---- second size or display words

seconds_low : {bytes : ℕ} (sized shown : Bool) (ts : List Token) → Within bytes ts → Low bytes (seconds_after sized shown ts)
seconds_low sized shown [] w = low_none
seconds_low sized shown (token k p ∷ ts) (within_more l w) =
    let is_size = member k (classes_of size_words) in
    let is_display = member k (classes_of display_words) in
    low_append (low_if (sized && is_size || shown && is_display) (low_more (omega arith) low_none) low_none)
    (seconds_low (sized || is_size) (shown || is_display) ts w)

second_low : {bytes : ℕ} (f : Trees) → Within bytes (leaves f) → Low bytes (second_words f)
unfolding second_words seconds_here
second_low f w = gathered_low seconds_here (λ A i c h. low_if (eqb A <numeric_fl>) (seconds_low false false (leaves c) h) low_none) f w

pub second_within : (s : List ℕ) (tree : Trees) (p : ℕ) (later : List ℕ) → Derives (source_tokens s) tree → second_words tree ≡ p ∷ later → p ≤ length s
second_within s tree p later d e =
    let w : Within (length s) (leaves tree) = rw d.reads (tokens_within_lem s) in
    low_first (rw e at (second_low tree w))
