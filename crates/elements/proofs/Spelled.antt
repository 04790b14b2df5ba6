-- Whether a pattern spells symbols of the grammar, as a test.
-- Assumes nothing.
use Prim.Native.Nat.{ℕ, zero, suc, ◌≤◌}
use mathlib.Core.Path.{◌≡◌, refl, subst}
use mathlib.Core.Bool.{Bool, true, false, ◌&&◌}
use mathlib.Core.List.{List, [], ◌∷◌}
use mathlib.Core.Option.{Option, none, some}
use lib.Dec.{eqb, ltb, leb}
use borrow.Author.Tests.{eqb-true, ltb-true, leb-true}
use Rattle.lexemes.specs.Classes.{NAME}
use Rattle.ll1.specs.Trees.{Symbol, terminal, nonterminal}
use Rattle.ll1.proofs.Basics.{clash, both}
use Rattle.grammar.specs.Rules.{<eight>, <H8>, <H4>, <H2>, <str>, <id>, <small>, <large>, <goto_flags>?, <flags>?}
use Rattle.grammar.specs.Rules.{<truth_default>?, <truth>, <step>?, <number_default>?, <option_flags>, <head>, <name>?, <questionid>?, <fl>, <name_or_number>}
use Rattle.grammar.specs.Rules.{<numeric_flags>?, <numeric_fl>, <numeric_value>}
use Rattle.grammar.specs.Notation.{t, r}
use Rattle.elements.specs.Entries.{KEPT}
use Rattle.elements.specs.Kinds.{ID, SMALL, LARGE, NUMERIC_VALUE, OPTION_FLAGS, REFERENCE, TRUTH, FLAG_LIST, NUMERIC_FLAGS, H8, H4, H2, MAYBE}
use Rattle.elements.proofs.Ways.{a_name}
use Rattle.elements.proofs.ElementKinds.{id, small, large, numeric_value, h8, h4, h2, truth, option_flags_lem, reference}
use Rattle.elements.proofs.Alternatives.{Single, Optional, in_str, in_head, in_eight, maybe_name}
use Rattle.elements.proofs.Alternatives.{maybe_questionid, maybe_goto_flags, maybe_flags, maybe_numeric_flags, maybe_truth, maybe_step, maybe_default}
use Rattle.elements.proofs.Spelling.{Stands, by_word, by_kind, by_flags, by_numeric_flags, widths, Spells, spells_nil, spells_one, spells_rule, spells_maybe}

-- ---- how a pattern spells a rule

pub data Spelling (A : ℕ) : Type 0 where
  by_element : (e : ℕ) → Stands (r A) e → Spelling A
  by_symbols : {x : Symbol} {β : List Symbol} → Single A (x ∷ β) → Spelling A
  by_group : {k : ℕ} {a b c : Symbol} → Optional A k (a ∷ b ∷ c ∷ []) → Spelling A
  not_spelled : Spelling A

-- rule A as rule B, if it is that
abbrev pub for : (B : ℕ) → Spelling B → (A : ℕ) → Spelling A → Spelling A
for B w A other = by (eqb B A) refl
  where
    by : (b : Bool) → eqb B A ≡ b → Spelling A
    by true e = subst Spelling (eqb-true B A e) w
    by false e = other

abbrev pub spelling : (A : ℕ) → Spelling A
spelling A =
    for <H8> (by_element H8 (by_kind h8)) A
    (for <H4> (by_element H4 (by_kind h4)) A
    (for <H2> (by_element H2 (by_kind h2)) A
    (for <id> (by_element ID (by_kind id)) A
    (for <small> (by_element SMALL (by_kind small)) A
    (for <large> (by_element LARGE (by_kind large)) A
    (for <numeric_value> (by_element NUMERIC_VALUE (by_kind numeric_value)) A
    (for <truth> (by_element TRUTH (by_kind truth)) A
    (for <option_flags> (by_element OPTION_FLAGS (by_kind option_flags_lem)) A
    (for <fl> (by_element FLAG_LIST by_flags) A
    (for <numeric_fl> (by_element NUMERIC_FLAGS by_numeric_flags) A
    (for <name_or_number> (by_element REFERENCE (by_kind reference)) A
    (for <str> (by_symbols in_str) A
    (for <head> (by_symbols in_head) A
    (for <eight> (by_symbols in_eight) A
    (for <name>? (by_group maybe_name) A
    (for <questionid>? (by_group maybe_questionid) A
    (for <goto_flags>? (by_group maybe_goto_flags) A
    (for <flags>? (by_group maybe_flags) A
    (for <numeric_flags>? (by_group maybe_numeric_flags) A
    (for <truth_default>? (by_group maybe_truth) A
    (for <step>? (by_group maybe_step) A
    (for <number_default>? (by_group maybe_default) A not_spelled))))))))))))))))))))))

-- ---- tests

abbrev same? : (a b : ℕ) → Option (a ≡ b)
same? a b = by (eqb a b) refl
  where
    by : (c : Bool) → eqb a b ≡ c → Option (a ≡ b)
    by true e = some (eqb-true a b e)
    by false e = none

abbrev some? : (n : ℕ) → Option (1 ≤ n)
some? n = by (leb 1 n) refl
  where
    by : (c : Bool) → leb 1 n ≡ c → Option (1 ≤ n)
    by true e = some (leb-true 1 n e)
    by false e = none

-- ---- one element

abbrev a_token : (k : ℕ) → Option (Stands (t k) k)
a_token k = by (ltb k NAME) refl
  where
    by : (c : Bool) → ltb k NAME ≡ c → Option (Stands (t k) k)
    by true h = some (by_word (ltb-true k NAME h))
    by false h = elim (same? NAME k) [ some q ↦ some (subst (λ (j : ℕ). Stands (t j) j) q (by_kind a_name)) | none ↦ none ]

abbrev by_known : {A : ℕ} → Spelling A → (e : ℕ) → Option (Stands (r A) e)
by_known (by_element b el) e = elim (same? b e) [ some q ↦ some (subst (Stands (r _)) q el) | none ↦ none ]
by_known (by_symbols w) e = none
by_known (by_group w) e = none
by_known not_spelled e = none

-- the element e stands for the symbol x, if it does
abbrev element? : (x : Symbol) (e : ℕ) → Option (Stands x e)
element? (terminal k) e = elim (same? k e) [ some q ↦ elim (a_token k) [ some el ↦ some (subst (Stands (t k)) q el) | none ↦ none ] | none ↦ none ]
element? (nonterminal A) e = by_known (spelling A) e

-- ---- a pattern

-- what is left of the pattern p after the symbols α
pub record Found (α : List Symbol) (p : List ℕ) : Type 0 where
  pub left : List ℕ
  pub spells : Spells α p left

abbrev and_then : {A B : Type 0} → Option A → (A → Option B) → Option B
and_then none f = none
and_then (some a) f = f a

-- the symbols α by the pattern p; `go` does the same for other symbols and patterns
module _ (go : (α : List Symbol) (p : List ℕ) → Option (Found α p)) where
  -- by an element
  abbrev one? : (x : Symbol) (e : ℕ) (α : List Symbol) (p : List ℕ) → Option (Found (x ∷ α) (e ∷ p))
  one? x e α p = and_then (element? x e) λ el. and_then (go α p) λ f. some (record { left = f.left; spells = spells_one el f.spells })

  -- by the symbols of its one alternative
  abbrev rule? : {A : ℕ} {x : Symbol} {β : List Symbol} → Single A (x ∷ β) → (α : List Symbol) (p : List ℕ) → Option (Found (r A ∷ α) p)
  rule? {x = x} {β = β} w α p = and_then (go (x ∷ β) p) λ f. and_then (go α f.left) λ g. some (record { left = g.left; spells = spells_rule w f.spells g.spells })

  -- by MAYBE and four elements
  abbrev group? : {A k : ℕ} {a b c : Symbol} → Optional A k (a ∷ b ∷ c ∷ []) → (α : List Symbol) (p : List ℕ) → Option (Found (r A ∷ α) p)
  group? {A} {k} {a} {b} {c} w α (m ∷ h ∷ i ∷ j ∷ l ∷ p) =
      and_then (same? MAYBE m) λ is_maybe.
      and_then (same? k h) λ is_first.
      and_then (element? (t k) k) λ e₀.
      and_then (element? a i) λ e₁.
      and_then (element? b j) λ e₂.
      and_then (element? c l) λ e₃.
      and_then (some? (widths (k ∷ i ∷ j ∷ l ∷ []))) λ g.
      and_then (go α p) λ f.
      some
      (record {
        left = f.left;
        spells = subst (λ (n : ℕ). Spells (r A ∷ α) (n ∷ h ∷ i ∷ j ∷ l ∷ p) f.left) is_maybe
            (subst (λ (n : ℕ). Spells (r A ∷ α) (MAYBE ∷ n ∷ i ∷ j ∷ l ∷ p) f.left) is_first
            (spells_maybe w g (spells_one e₀ (spells_one e₁ (spells_one e₂ (spells_one e₃ spells_nil)))) f.spells));
      })
  group? w α [] = none
  group? w α (m ∷ []) = none
  group? w α (m ∷ h ∷ []) = none
  group? w α (m ∷ h ∷ i ∷ []) = none
  group? w α (m ∷ h ∷ i ∷ j ∷ []) = none

  abbrev written_out? : {A : ℕ} → Spelling A → (α : List Symbol) (e : ℕ) (p : List ℕ) → Option (Found (r A ∷ α) (e ∷ p))
  written_out? {A} (by_element b el) α e p = one? (r A) e α p
  written_out? (by_symbols w) α e p = rule? w α (e ∷ p)
  written_out? (by_group w) α e p = group? w α (e ∷ p)
  written_out? not_spelled α e p = none

-- with at most n symbols
abbrev spell : ℕ → (α : List Symbol) (p : List ℕ) → Option (Found α p)
spell zero α p = none
spell (suc n) [] p = some (record { left = p; spells = spells_nil })
spell (suc n) (x ∷ α) [] = none
spell (suc n) (terminal k ∷ α) (e ∷ p) = one? (spell n) (terminal k) e α p
spell (suc n) (nonterminal A ∷ α) (e ∷ p) = written_out? (spell n) (spelling A) α e p

abbrev is_whole : {α : List Symbol} {p : List ℕ} → Option (Found α p) → Bool
is_whole none = false
is_whole (some w) = elim w.left [ [] ↦ true | x ∷ q ↦ false ]

whole : {α : List Symbol} {p : List ℕ} (w : Option (Found α p)) → is_whole w ≡ true → Spells α p []
whole none h = clash cc
whole {α} {p} (some w) h = by w.left refl
  where
    by : (q : List ℕ) → w.left ≡ q → Spells α p []
    by [] e = subst (Spells α p) e w.spells
    by (x ∷ q) e = clash (let z : is_whole (some w) ≡ false = rw e in cc)

-- no phrase has more symbols than this
abbrev most : ℕ
most = 64

-- the test: the pattern spells the symbols, and there is room for what it keeps
abbrev pub spells? : List Symbol → List ℕ → Bool
spells? α p = is_whole (spell most α p) && leb (widths p) KEPT

pub spelled : (α : List Symbol) (p : List ℕ) → spells? α p ≡ true → Spells α p []
spelled α p h = whole (spell most α p) (both (is_whole (spell most α p)) (leb (widths p) KEPT) h).0

pub has_room : (α : List Symbol) (p : List ℕ) → spells? α p ≡ true → widths p ≤ KEPT
has_room α p h = leb-true (widths p) KEPT (both (is_whole (spell most α p)) (leb (widths p) KEPT) h).1
