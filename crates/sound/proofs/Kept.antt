-- Trees of a source whose numbers keep their ranges: their parts, their places, and the numbers in them.
-- Assumes nothing.
use mathlib.Core.Path.{◌≡◌, refl}
use mathlib.Core.List.{List, [], ◌∷◌, ◌++◌}
use mathlib.Core.Option.{some}
use mathlib.Core.Bool.{Bool, true, false, not, cond, ◌||◌, or-false}
use Prim.Native.Nat.{ℕ, zero, suc, ◌≤◌, ◌<◌}
use native.Mathlib.Omega.{arith}
use lib.Dec.{eqb, leb}
use lib.ListN.{get_or}
use borrow.Author.Tests.{eqb-true, leb-true, ltb-true}
use Rattle.std.specs.Prelude.{Option, Some, None}
use Rattle.values.specs.Numbers.{value_at}
use Rattle.numbers.specs.Numbers.{number_limit}
use Rattle.ll1.specs.Trees.{token, Trees, nil, leaf, node, Symbol, terminal, nonterminal, Alternative, alternative_of, Fits, fits_nil, fits_leaf, fits_node}
use Rattle.ll1.specs.Test.{all_at}
use Rattle.ll1.proofs.Basics.{clash, both, same, append_empty, all_at_at}
use Rattle.grammar.specs.Rules.{<item>, <str>, <id>, <small>}
use Rattle.grammar.specs.Grammar.{rules}
use Rattle.grammar.specs.Source.{held_value, number_at}
use Rattle.grammar.specs.Parts.{child, chosen, written, place_at}
use Rattle.answers.specs.Answer.{LONGEST}
use Rattle.grammar.specs.Parts.{mark}
use Rattle.answers.specs.Rows.{value, string}
use Rattle.sizes.specs.Sizes.{modulus, fits}
use Rattle.grammar.specs.Ranges.{Range, between, bytes, ranges, range_of, within, fits_bytes, keeps, gathered, written_place, sized_places, out_of, out_of_range_here, out_of_range}
use Rattle.grammar.specs.Positions.{item_numeric, numeric_flags, numeric_minimum, numeric_maximum, numeric_step, numeric_default, step_value, default_value}
use Rattle.grammar.specs.Flags.{size_in}
use Rattle.sound.proofs.Places.{Bounded, place_le, child_bounded}

-- ---- parts of an alternative

-- the n-th symbol is the rule B
abbrev has : ℕ → ℕ → List Symbol → Bool
has B n [] = false
has B zero (terminal k ∷ σ) = false
has B (suc n) (terminal k ∷ σ) = has B n σ
has B zero (nonterminal A ∷ σ) = eqb A B
has B (suc n) (nonterminal A ∷ σ) = has B n σ

-- the n-th symbol of the alternative i of the rule A is the rule B
abbrev pub part? : ℕ → ℕ → ℕ → ℕ → Bool
part? A i n B = all_at (λ j a. has B n a.symbols || not (eqb j i)) (get_or rules A [])

part_has : (A i n B : ℕ) (a : Alternative) → part? A i n B ≡ true → alternative_of rules A i ≡ some a → has B n a.symbols ≡ true
part_has A i n B a h e =
    rw (same i, or-false) at (all_at_at (λ j a. has B n a.symbols || not (eqb j i)) (get_or rules A []) i a h e)

kept_in : (t : Bool) (p : ℕ) → cond t [] (p ∷ []) ≡ [] → t ≡ true
kept_in true p h = refl
kept_in false p h = clash cc

in_range : (low high : ℕ) (v : Option ℕ) → within low high v ≡ true → (low ≤ held_value v) × (held_value v ≤ high)
in_range low high (Some v) h = let t = both (leb low v) _ h in (leb-true low v t.0, leb-true v high t.1)
in_range low high None h = clash cc

in_bytes : (w : ℕ) (v : Option ℕ) → fits_bytes w v ≡ true → held_value v < modulus w
unfolding fits
in_bytes w (Some v) h = ltb-true v (modulus w) h
in_bytes w None h = clash cc

module _ (s : List ℕ) where
  -- ---- trees

  -- the trees fit the symbols, their leaves are within the longest source, and no number of a node is out of its range
  pub data Kept : List Symbol → Trees → Type 0 where
    kept_nil : Kept [] nil
    kept_leaf : {k p : ℕ} {σ : List Symbol} {f : Trees} → p ≤ LONGEST → Kept σ f → Kept (terminal k ∷ σ) (leaf (token k p) f)
    kept_node :
        {A i : ℕ} {a : Alternative} {σ : List Symbol} {c f : Trees}
        → alternative_of rules A i ≡ some a → out_of_range_here s A i c ≡ [] → Kept a.symbols c → Kept σ f
        → Kept (nonterminal A ∷ σ) (node A i c f)

  pub kept : {σ : List Symbol} {f : Trees} → Fits rules σ f → Bounded f → out_of_range s f ≡ [] → Kept σ f
  unfolding out_of_range gathered
  kept fits_nil b o = kept_nil
  kept (fits_leaf r) b o = kept_leaf b.0 (kept r b.1 o)
  kept (fits_node {A = A} {i = i} {c = c} {f = f} e r₁ r₂) b o =
      let inner = append_empty (out_of_range s c) (out_of_range_here s A i c ++ out_of_range s f) o in
      let own = append_empty (out_of_range_here s A i c) (out_of_range s f) inner.1 in
      kept_node e own.0 (kept r₁ b.0 inner.0) (kept r₂ b.1 own.1)

  bounded : {σ : List Symbol} {f : Trees} → Kept σ f → Bounded f
  bounded kept_nil = tt
  bounded (kept_leaf p k) = (p, bounded k)
  bounded (kept_node e r k₁ k₂) = (bounded k₁, bounded k₂)

  -- a node of the rule A and its alternative i over the trees c
  pub record Node (A i : ℕ) (c : Trees) : Type 0 where
    pub alternative : Alternative
    pub is : alternative_of rules A i ≡ some alternative
    pub none_out : out_of_range_here s A i c ≡ []
    pub under : Kept alternative.symbols c

  node_at : {σ : List Symbol} {f : Trees} (n B : ℕ) → Kept σ f → has B n σ ≡ true → Node B (chosen n f) (child n f)
  node_at n B kept_nil h = clash cc
  node_at zero B (kept_leaf p k) h = clash cc
  node_at (suc n) B (kept_leaf p k) h = node_at n B k h
  node_at zero B (kept_node {A = A} {a = a} e r k₁ k₂) h = rw (← eqb-true A B h) (record { alternative = a; is = e; none_out = r; under = k₁ })
  node_at (suc n) B (kept_node e r k₁ k₂) h = node_at n B k₂ h

  -- the first of some places, none of whose numbers is out of a range
  first_keeps : (range : Range) (p : ℕ) (ps : List ℕ) → out_of s range (p ∷ ps) ≡ [] → (keeps s range p ≡ true) × (out_of s range ps ≡ [])
  first_keeps range p ps e = let f = append_empty _ (out_of s range ps) e in (kept_in (keeps s range p) p f.0, f.1)

  -- the number of a node keeps the range of its rule
  own_range : {A i : ℕ} {c : Trees} → Node A i c → keeps s (range_of A) (place_at 0 c) ≡ true
  unfolding out_of_range_here
  own_range {A} {c = c} t = (first_keeps (range_of A) (place_at 0 c) [] (append_empty (out_of s (range_of A) (place_at 0 c ∷ [])) _ t.none_out).0).0

  -- ---- of a node the n-th tree under it

  module _ {A i : ℕ} {c : Trees} (t : Node A i c) (n : ℕ) where
    -- a leaf
    pub place_at_lem : place_at n c ≤ LONGEST
    place_at_lem = place_le n c (bounded t.under)

    pub bounded_at : Bounded (child n c)
    bounded_at = child_bounded n c (bounded t.under)

    -- a number
    pub mark_at : mark (place_at 0 (child n c)) ≤ suc LONGEST
    mark_at = omega (arith, place_le 0 (child n c) bounded_at)

    -- a node of the rule B
    pub part : (B : ℕ) → part? A i n B ≡ true → Node B (chosen n c) (child n c)
    part B h = node_at n B t.under (part_has A i n B t.alternative h t.is)

    between_keeps :
        (B low high : ℕ)
        → range_of B ≡ between low high → part? A i n B ≡ true → (low ≤ value (number_at s) n c) × (value (number_at s) n c ≤ high)
    unfolding keeps number_at
    between_keeps B low high e h = in_range low high (value_at s (place_at 0 (child n c))) (rw e at (own_range (part B h)))

    -- a number from 1 to 65,535
    pub id_range : part? A i n <id> ≡ true → (0 < value (number_at s) n c) × (value (number_at s) n c < number_limit)
    unfolding range_of ranges
    id_range h = omega (arith, between_keeps <id> 1 65535 refl h)

    -- a number up to 65,535
    pub small_range : part? A i n <small> ≡ true → value (number_at s) n c < number_limit
    unfolding range_of ranges
    small_range h = omega (arith, between_keeps <small> 0 65535 refl h)

  -- STRING_TOKEN ( N )
  pub string_range : {A i : ℕ} {c : Trees} → Node A i c → (n : ℕ) → part? A i n <str> ≡ true → string (number_at s) n c < number_limit
  unfolding rules
  string_range t n h = small_range (part t n <str> h) 2 refl

  -- a list of places none of whose numbers is out of a range, in two parts
  out_append : (range : Range) (ps qs : List ℕ) → out_of s range (ps ++ qs) ≡ [] → (out_of s range ps ≡ []) × (out_of s range qs ≡ [])
  out_append range [] qs e = (refl, e)
  out_append range (p ∷ ps) qs e =
      let f = append_empty (cond (keeps s range p) [] (p ∷ [])) (out_of s range (ps ++ qs)) e in
      let g = out_append range ps qs f.1 in
      (rw (f.0, g.0), g.1)

  -- a part in square brackets that is written
  written_keeps :
      (range : Range) (part number : ℕ) (c : Trees)
      → written part c ≡ true → out_of s range (written_place part number c) ≡ [] → keeps s range (place_at 0 (child number (child part c))) ≡ true
  written_keeps range part number c e h = (first_keeps range (place_at 0 (child number (child part c))) [] (rw e at h)).0

  -- "Minimum, maximum, step and default must fit the size" (document 02, W-204)
  pub record Sized (c : Trees) : Type 0 where
    pub minimum : value (number_at s) numeric_minimum c < modulus (size_in (child numeric_flags c))
    pub maximum : value (number_at s) numeric_maximum c < modulus (size_in (child numeric_flags c))
    pub step : written numeric_step c ≡ true → value (number_at s) step_value (child numeric_step c) < modulus (size_in (child numeric_flags c))
    pub default : written numeric_default c ≡ true → value (number_at s) default_value (child numeric_default c) < modulus (size_in (child numeric_flags c))

  pub sized : {c : Trees} → Node <item> item_numeric c → Sized c
  unfolding out_of_range_here keeps number_at
  sized {c} t =
      let w = size_in (child numeric_flags c) in
      let fit : (p : ℕ) → keeps s (bytes w) p ≡ true → number_at s p < modulus w = λ p. in_bytes w (value_at s p) in
      let step_at_lem = written_place numeric_step step_value c in
      let default_at_lem = written_place numeric_default default_value c in
      let all : out_of s (bytes w) (sized_places c) ≡ [] = (append_empty (out_of s (range_of <item>) (place_at 0 c ∷ [])) _ t.none_out).1 in
      let first = first_keeps (bytes w) (place_at 0 (child numeric_minimum c)) (place_at 0 (child numeric_maximum c) ∷ (step_at_lem ++ default_at_lem)) all in
      let second = first_keeps (bytes w) (place_at 0 (child numeric_maximum c)) (step_at_lem ++ default_at_lem) first.1 in
      let others = out_append (bytes w) step_at_lem default_at_lem second.1 in
      record {
        minimum = fit (place_at 0 (child numeric_minimum c)) first.0;
        maximum = fit (place_at 0 (child numeric_maximum c)) second.0;
        step = λ e. fit (place_at 0 (child step_value (child numeric_step c))) (written_keeps (bytes w) numeric_step step_value c e others.0);
        default = λ e. fit (place_at 0 (child default_value (child numeric_default c))) (written_keeps (bytes w) numeric_default default_value c e others.1);
      }
