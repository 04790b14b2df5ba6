-- Each kind of element of one token stands for its rule of the grammar.
-- Assumes nothing.
use Prim.Native.Nat.{ℕ}
use mathlib.Core.Path.{◌≡◌, refl, ap, ◌∙◌}
use mathlib.Core.Bool.{false}
use mathlib.Core.List.{List, [], ◌∷◌, ◌++◌, map, append-nil}
use mathlib.Core.Option.{some}
use native.Mathlib.Omega.{arith}
use lib.Dec.{eqb}
use Rattle.lexemes.specs.Classes.{«DEFAULT», «FALSE», «TRUE», NAME, HEX, DECIMAL}
use Rattle.ll1.specs.Trees.{token, Trees, nil, leaf, node, alternative_of}
use Rattle.ll1.specs.ParseTable.{predict}
use Rattle.grammar.specs.Rules.{<H8>, <H4>, <H2>, <id>, <small>, <large>, <numeric_value>, <zero>, <truth>, <option_flags>, <name_or_number>}
use Rattle.grammar.specs.Rules.{<item>, <numeric_fl>}
use Rattle.grammar.specs.Parts.{place_at}
use Rattle.grammar.specs.Grammar.{rules}
use Rattle.grammar.specs.Notation.{t, r, plain}
use Rattle.grammar.specs.Lookahead.{lookahead}
use Rattle.grammar.specs.Ranges.{free, range_of, keeps, out_of, gathered, out_of_range_here, seconds_here}
use Rattle.elements.specs.Marks.{outside, faults_here, faults}
use Rattle.elements.specs.Entries.{node_entries, entries}
use Rattle.elements.specs.Kinds.{ID, SMALL, LARGE, NUMERIC_VALUE, OPTION_FLAGS, REFERENCE, TRUTH, H8, H4, H2}
use Rattle.elements.specs.Kinds.{starts_of, element_range, element_entry, reference_entries, element_entries}
use Rattle.elements.proofs.TreeLaws.{faults_node}
use Rattle.elements.proofs.Ways.{Way, by_token, by_rule, taken, Kind, rule_kind}

-- ---- numbers

-- rule A is neither a numeric's FL nor an item
module _ (A : ℕ) (no_list : eqb A <numeric_fl> ≡ false) (no_item : eqb A <item> ≡ false) where
  -- its own faults are those of its number
  own_number : (s : List ℕ) (i : ℕ) (c : Trees) → faults_here s A i c ≡ map outside (out_of s (range_of A) (place_at 0 c ∷ []))
  unfolding faults_here seconds_here out_of_range_here
  own_number s i c = rw (no_list, no_item) (ap (map outside) (append-nil (out_of s (range_of A) (place_at 0 c ∷ []))))

  -- a number as its tree
  alone :
      (i k : ℕ) (s : List ℕ) (p : ℕ) (f : Trees)
      → faults s (node A i (leaf (token k p) nil) f) ≡ map outside (out_of s (range_of A) (p ∷ [])) ++ faults s f
  unfolding faults gathered
  alone i k s p f = ap (λ l. l ++ faults s f) (own_number s i (leaf (token k p) nil))

  -- and under one of another rule, which has no faults of its own
  under :
      (j k B i : ℕ) → ((s : List ℕ) (c : Trees) → faults_here s B i c ≡ []) → (s : List ℕ) (p : ℕ) (f : Trees)
      → faults s (node B i (node A j (leaf (token k p) nil) nil) f) ≡ map outside (out_of s (range_of A) (p ∷ [])) ++ faults s f
  unfolding faults gathered
  under j k B i none s p f =
      let c = node A j (leaf (token k p) nil) nil in
      faults_node s B i c f (none s c) ∙ ap (λ l. l ++ faults s f) (alone j k s p nil ∙ append-nil (map outside (out_of s (range_of A) (p ∷ []))))

  -- as where it has no range
  silent : range_of A ≡ free → (i : ℕ) (s : List ℕ) (c : Trees) → faults_here s A i c ≡ []
  unfolding keeps
  silent no_range i s c = own_number s i c ∙ rw no_range

-- rule A by a token of class k that is its alternative i
abbrev direct : (A i k : ℕ) → predict lookahead A k ≡ some i → alternative_of rules A i ≡ some (plain (t k ∷ [])) → Way (r A) k
direct A i k e a = by_rule A i k (t k) e a (by_token k)

pub id : Kind (r <id>) ID
unfolding rules lookahead starts_of element_entries element_entry element_range entries node_entries
id =
    rule_kind <id> ID refl refl refl refl refl (
      taken (omega arith) (direct <id> 0 DECIMAL refl refl) (λ p f. refl) (alone <id> refl refl 0 DECIMAL),
      (taken (omega arith) (direct <id> 1 HEX refl refl) (λ p f. refl) (alone <id> refl refl 1 HEX), tt),
    )

pub small : Kind (r <small>) SMALL
unfolding rules lookahead starts_of element_entries element_entry element_range entries node_entries
small =
    rule_kind <small> SMALL refl refl refl refl refl (
      taken (omega arith) (direct <small> 0 DECIMAL refl refl) (λ p f. refl) (alone <small> refl refl 0 DECIMAL),
      (taken (omega arith) (direct <small> 1 HEX refl refl) (λ p f. refl) (alone <small> refl refl 1 HEX), tt),
    )

pub large : Kind (r <large>) LARGE
unfolding rules lookahead starts_of element_entries element_entry element_range entries node_entries
large =
    rule_kind <large> LARGE refl refl refl refl refl (
      taken (omega arith) (direct <large> 0 DECIMAL refl refl) (λ p f. refl) (alone <large> refl refl 0 DECIMAL),
      (taken (omega arith) (direct <large> 1 HEX refl refl) (λ p f. refl) (alone <large> refl refl 1 HEX), tt),
    )

pub numeric_value : Kind (r <numeric_value>) NUMERIC_VALUE
unfolding rules lookahead starts_of element_entries element_entry element_range entries node_entries range_of
numeric_value =
    rule_kind <numeric_value> NUMERIC_VALUE refl refl refl refl refl (
      taken (omega arith) (direct <numeric_value> 0 DECIMAL refl refl) (λ p f. refl) (alone <numeric_value> refl refl 0 DECIMAL),
      (taken (omega arith) (direct <numeric_value> 1 HEX refl refl) (λ p f. refl) (alone <numeric_value> refl refl 1 HEX), tt),
    )

pub h8 : Kind (r <H8>) H8
unfolding rules lookahead starts_of element_entries element_entry element_range entries node_entries
h8 = rule_kind <H8> H8 refl refl refl refl refl (taken (omega arith) (direct <H8> 0 HEX refl refl) (λ p f. refl) (alone <H8> refl refl 0 HEX), tt)

pub h4 : Kind (r <H4>) H4
unfolding rules lookahead starts_of element_entries element_entry element_range entries node_entries
h4 = rule_kind <H4> H4 refl refl refl refl refl (taken (omega arith) (direct <H4> 0 HEX refl refl) (λ p f. refl) (alone <H4> refl refl 0 HEX), tt)

pub h2 : Kind (r <H2>) H2
unfolding rules lookahead starts_of element_entries element_entry element_range entries node_entries
h2 = rule_kind <H2> H2 refl refl refl refl refl (taken (omega arith) (direct <H2> 0 HEX refl refl) (λ p f. refl) (alone <H2> refl refl 0 HEX), tt)

-- ---- TRUE or FALSE; an option's flags; what a questionref names

pub truth : Kind (r <truth>) TRUTH
unfolding rules lookahead starts_of element_entries element_entry element_range entries node_entries range_of
truth =
    rule_kind <truth> TRUTH refl refl refl refl refl (
      taken (omega arith) (direct <truth> 0 «TRUE» refl refl) (λ p f. refl) (alone <truth> refl refl 0 «TRUE»),
      (taken (omega arith) (direct <truth> 1 «FALSE» refl refl) (λ p f. refl) (alone <truth> refl refl 1 «FALSE»), tt),
    )

pub option_flags_lem : Kind (r <option_flags>) OPTION_FLAGS
unfolding rules lookahead starts_of element_entries element_entry element_range entries node_entries range_of
option_flags_lem =
    rule_kind <option_flags> OPTION_FLAGS refl refl refl refl refl (
      taken (omega arith) (by_rule <option_flags> 0 DECIMAL (r <zero>) refl refl (direct <zero> 0 DECIMAL refl refl)) (λ p f. refl)
          (under <zero> refl refl 0 DECIMAL <option_flags> 0 (silent <option_flags> refl refl refl 0)),
      (
        taken (omega arith) (by_rule <option_flags> 0 HEX (r <zero>) refl refl (direct <zero> 1 HEX refl refl)) (λ p f. refl)
            (under <zero> refl refl 1 HEX <option_flags> 0 (silent <option_flags> refl refl refl 0)),
        (taken (omega arith) (direct <option_flags> 1 «DEFAULT» refl refl) (λ p f. refl) (alone <option_flags> refl refl 1 «DEFAULT»), tt),
      ),
    )

pub reference : Kind (r <name_or_number>) REFERENCE
unfolding rules lookahead starts_of element_entries reference_entries element_range entries node_entries range_of
reference =
    rule_kind <name_or_number> REFERENCE refl refl refl refl refl (
      taken (omega arith) (direct <name_or_number> 0 NAME refl refl) (λ p f. refl) (alone <name_or_number> refl refl 0 NAME),
      (
        taken (omega arith) (by_rule <name_or_number> 1 DECIMAL (r <id>) refl refl (direct <id> 0 DECIMAL refl refl)) (λ p f. refl)
            (under <id> refl refl 0 DECIMAL <name_or_number> 1 (silent <name_or_number> refl refl refl 1)),
        (
          taken (omega arith) (by_rule <name_or_number> 1 HEX (r <id>) refl refl (direct <id> 1 HEX refl refl)) (λ p f. refl)
              (under <id> refl refl 1 HEX <name_or_number> 1 (silent <name_or_number> refl refl refl 1)),
          tt,
        ),
      ),
    )
