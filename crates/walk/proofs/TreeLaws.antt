-- Trees beside one another: their leaves, fits, rows, rules and faults; and trees without rows.
-- Assumes nothing.
use Prim.Native.Nat.{ℕ, zero, suc, ◌+◌}
use mathlib.Core.Path.{◌≡◌, refl, sym, ap, ◌∙◌}
use mathlib.Core.Bool.{Bool, true, false, not, ◌&&◌, ◌||◌}
use mathlib.Core.List.{List, [], ◌∷◌, ◌++◌, append_assoc}
use mathlib.Core.Option.{some}
use mathlib.Core.Logic.{◌≢◌}
use native.Mathlib.Nat.{add-zero}
use native.Mathlib.Omega.{arith}
use lib.Dec.{eqb}
use lib.ListN.{length, get_or, get_elem?, length-append}
use borrow.Author.Tests.{ne_eqb}
use Rattle.ll1.specs.Trees.{Token, Trees, nil, leaf, node, leaves, Symbol, terminal, nonterminal, Alternative, Grammar, alternative_of, Fits, fits_nil, fits_leaf, fits_node}
use Rattle.ll1.specs.ParseTable.{member}
use Rattle.ll1.specs.Test.{all_at}
use Rattle.ll1.proofs.Basics.{clash, both, implied, all_at_at}
use Rattle.grammar.specs.Grammar.{rules}
use Rattle.grammar.specs.Notation.{t}
use Rattle.grammar.specs.Rules.{<source>, <form>*, <form>, <item_or_rule>*, <rule>, <item>, <option>*, <item>*, <option>, <numeric_fl>}
use Rattle.grammar.specs.Source.{number_at}
use Rattle.answers.specs.Rows.{Draft, rules_in, otherwise, parent_in}
use Rattle.grammar.specs.Ranges.{range_of, free, gathered, keeps, is_numeric, out_of_range_here, seconds_here}
use Rattle.elements.specs.Marks.{faults_here, faults}
use Rattle.walk.specs.Meanings.{◌⧺◌, rows_in, rows_own}

-- ---- beside one another

pub beside_assoc : (f g h : Trees) → (f ⧺ g) ⧺ h ≡ f ⧺ (g ⧺ h)
unfolding ◌⧺◌
beside_assoc nil g h = refl
beside_assoc (leaf t f) g h = ap (leaf t) (beside_assoc f g h)
beside_assoc (node A i c f) g h = ap (node A i c) (beside_assoc f g h)

pub beside_nil : (f : Trees) → f ⧺ nil ≡ f
unfolding ◌⧺◌
beside_nil nil = refl
beside_nil (leaf t f) = ap (leaf t) (beside_nil f)
beside_nil (node A i c f) = ap (node A i c) (beside_nil f)

pub leaves_beside : (f g : Trees) → leaves (f ⧺ g) ≡ leaves f ++ leaves g
unfolding ◌⧺◌
leaves_beside nil g = refl
leaves_beside (leaf t f) g = ap (λ (l : List Token). t ∷ l) (leaves_beside f g)
leaves_beside (node A i c f) g = rw (leaves_beside f g) (sym (append_assoc (leaves c) (leaves f) (leaves g)))

pub fits_beside : {α β : List Symbol} {f g : Trees} → Fits rules α f → Fits rules β g → Fits rules (α ++ β) (f ⧺ g)
unfolding ◌⧺◌
fits_beside fits_nil h = h
fits_beside (fits_leaf w) h = fits_leaf (fits_beside w h)
fits_beside (fits_node e w₁ w₂) h = fits_node e w₁ (fits_beside w₂ h)

pub rules_beside : (f g : Trees) → rules_in (f ⧺ g) ≡ rules_in f + rules_in g
unfolding ◌⧺◌
rules_beside nil g = omega arith
rules_beside (leaf t f) g = rules_beside f g
rules_beside (node A i c f) g = rw (rules_beside f g) (omega arith)

pub faults_beside : (s : List ℕ) (f g : Trees) → faults s (f ⧺ g) ≡ faults s f ++ faults s g
unfolding ◌⧺◌ faults gathered
faults_beside s nil g = refl
faults_beside s (leaf t f) g = faults_beside s f g
faults_beside s (node A i c f) g = rw (faults_beside s f g) (simp append_assoc)

-- ---- trees without faults of their own

pub record Faultless (A i : ℕ) : Type 0 where
  pub none : (s : List ℕ) (c : Trees) → faults_here s A i c ≡ []

-- those of a rule that has no range, but for a numeric and its FL
pub faultless : {A i : ℕ} → range_of A ≡ free → eqb A <numeric_fl> ≡ false → is_numeric A i ≡ false → Faultless A i
unfolding faults_here seconds_here out_of_range_here keeps
faultless e f g = record { none = λ s c. rw (e, f, g) }

-- ---- rows

module _ (s : List ℕ) where
  -- the rows of a tree, its own and those in it
  abbrev pub rows_within : ℕ → ℕ → ℕ → ℕ → ℕ → Trees → List Draft
  rows_within parent at n A i c =
      let own = rows_own s parent at n A i c in
      own ++ rows_in s c (parent_in (number_at s) parent at own) (at + length own) n

  pub rows_nil : (parent at n : ℕ) → rows_in s nil parent at n ≡ []
  unfolding rows_in
  rows_nil parent at n = refl

  pub rows_leaf : (t : Token) (f : Trees) (parent at n : ℕ) → rows_in s (leaf t f) parent at n ≡ rows_in s f parent at n
  unfolding rows_in
  rows_leaf t f parent at n = refl

  pub rows_node :
      (A i : ℕ) (c f : Trees) (parent at n : ℕ)
      → rows_in s (node A i c f) parent at n ≡ rows_within parent at n A i c ++ rows_in s f parent (at + length (rows_within parent at n A i c)) (n + rules_in (node A i c nil))
  unfolding rows_in rows_own
  rows_node A i c f parent at n = refl

  pub rows_beside :
      (f g : Trees) (parent at n : ℕ)
      → rows_in s (f ⧺ g) parent at n ≡ rows_in s f parent at n ++ rows_in s g parent (at + length (rows_in s f parent at n)) (n + rules_in f)
  unfolding ◌⧺◌
  rows_beside nil g parent at n = rw (rows_nil, add-zero, add-zero)
  rows_beside (leaf t f) g parent at n = rw (rows_leaf, rows_leaf) (rows_beside f g parent at n)
  rows_beside (node A i c f) g parent at n =
      let own = rows_within parent at n A i c in
      let n' : ℕ = n + rules_in (node A i c nil) in
      let mine = rows_in s f parent (at + length own) n' in
      let place : at + length (own ++ mine) ≡ at + length own + length mine = rw (length-append own mine) (omega arith) in
      let before : n + rules_in (node A i c f) ≡ n' + rules_in f = omega arith in
      rw (rows_node, rows_node, place, before, rows_beside f g parent (at + length own) n') (sym (append_assoc own mine _))

-- ---- rules whose trees have no rows

abbrev with_rows : List ℕ
with_rows = <source> ∷ <form>* ∷ <form> ∷ <item_or_rule>* ∷ <rule> ∷ <item> ∷ <option>* ∷ <item>* ∷ <option> ∷ []

abbrev quiet_rule : ℕ → Bool
quiet_rule A = not (member A with_rows)

abbrev pub quiet : List Symbol → Bool
quiet [] = true
quiet (terminal k ∷ α) = quiet α
quiet (nonterminal A ∷ α) = quiet_rule A && quiet α

-- what is under a tree without rows has none
abbrev closed : ℕ → List Alternative → Bool
closed A l = not (quiet_rule A) || all_at (λ i a. quiet a.symbols) l

all_closed : all_at closed rules ≡ true
unfolding rules
all_closed = refl

at_rule :
    (p : ℕ → List Alternative → Bool) (G : Grammar) (A i : ℕ) (a : Alternative)
    → all_at p G ≡ true → get_elem? (get_or G A []) i ≡ some a → p A (get_or G A []) ≡ true
at_rule p [] A i a h e = clash cc
at_rule p (l ∷ G) zero i a h e = (both (p 0 l) _ h).0
at_rule p (l ∷ G) (suc A) i a h e = at_rule (λ A. p (suc A)) G A i a (both (p 0 l) _ h).1 e

quiet_under : (A i : ℕ) (a : Alternative) → quiet_rule A ≡ true → alternative_of rules A i ≡ some a → quiet a.symbols ≡ true
quiet_under A i a q e = all_at_at (λ i a. quiet a.symbols) (get_or rules A []) i a (implied (quiet_rule A) _ (at_rule closed rules A i a all_closed e) q) e

other : (A x : ℕ) (l : List ℕ) → member x l ≡ true → not (member A l) ≡ true → A ≢ x
other A x l m q e = let w : not (member x l) ≡ true = rw e at q in clash (let v : not true ≡ true = rw m at w in cc)

module _ (s : List ℕ) where
  own_quiet : (parent at n A i : ℕ) (c : Trees) → quiet_rule A ≡ true → rows_own s parent at n A i c ≡ []
  unfolding rows_own
  own_quiet parent at n A i c q =
      rw (
        ne_eqb A <item> (other A <item> with_rows refl q),
        ne_eqb A <option> (other A <option> with_rows refl q),
        ne_eqb A <rule> (other A <rule> with_rows refl q),
        ne_eqb A <form> (other A <form> with_rows refl q),
        ne_eqb A <source> (other A <source> with_rows refl q),
        otherwise,
      )

  pub quiet_rows : {α : List Symbol} {f : Trees} (parent at n : ℕ) → Fits rules α f → quiet α ≡ true → rows_in s f parent at n ≡ []
  quiet_rows parent at n fits_nil q = rows_nil s parent at n
  quiet_rows parent at n (fits_leaf {k = k} {p = p} {f = f} h) q = rows_leaf s _ f parent at n ∙ quiet_rows parent at n h q
  quiet_rows parent at n (fits_node {A = A} {i = i} {a = a} {σ = σ} {c = c} {f = f} e h₁ h₂) q =
      let w = both (quiet_rule A) (quiet σ) q in
      rw (rows_node, own_quiet parent at n A i c w.0, quiet_rows parent (at + 0) n h₁ (quiet_under A i a w.0 e)) (quiet_rows parent (at + 0) (n + rules_in (node A i c nil)) h₂ w.1)

pub quiet_rules : {α : List Symbol} {f : Trees} → Fits rules α f → quiet α ≡ true → rules_in f ≡ 0
quiet_rules fits_nil q = refl
quiet_rules (fits_leaf h) q = quiet_rules h q
quiet_rules (fits_node {A = A} {i = i} {a = a} {σ = σ} e h₁ h₂) q =
    let w = both (quiet_rule A) (quiet σ) q in
    rw (ne_eqb A <rule> (other A <rule> with_rows refl w.0), quiet_rules h₁ (quiet_under A i a w.0 e), quiet_rules h₂ w.1)
