-- Elements of one token: the symbol of the grammar that each stands for, what its tree keeps, and the range of its number.
-- Assumes nothing.
use Prim.Native.Nat.{ℕ, ◌≤◌, ◌<◌}
use mathlib.Core.Path.{◌≡◌, refl, ap, ◌∙◌, subst}
use mathlib.Core.Bool.{Bool, true, false, cond}
use mathlib.Core.List.{List, [], ◌∷◌, ◌++◌, map}
use mathlib.Core.Option.{none, some}
use mathlib.Core.Logic.{◌⊎◌, inl, inr}
use native.Mathlib.Omega.{arith}
use lib.Dec.{eqb}
use lib.ListN.{length}
use borrow.Author.Tests.{ne_eqb, eqb-true}
use Rattle.lexemes.specs.Classes.{NAME, HEX, DECIMAL, BAD}
use Rattle.ll1.specs.Trees.{Token, token, Trees, nil, leaf, node, leaves, Symbol, alternative_of, Fits, fits_nil, fits_leaf, fits_node, Depth}
use Rattle.ll1.specs.Verdict.{ends_early, refused}
use Rattle.ll1.specs.ParseTable.{entry_of, predict, nullable, member}
use Rattle.ll1.specs.Test.{joined}
use Rattle.ll1.specs.Machine.{Due, due}
use Rattle.ll1.proofs.Basics.{clash, either, is_none, find_joined}
use Rattle.grammar.specs.Grammar.{rules}
use Rattle.grammar.specs.Notation.{t, r, plain}
use Rattle.grammar.specs.Lookahead.{lookahead}
use Rattle.grammar.specs.Derivation.{too_deep}
use Rattle.grammar.specs.Reading.{verdict_from}
use Rattle.grammar.specs.Ranges.{Range, free, keeps, out_of, gathered}
use Rattle.grammar.proofs.Equations.{verdict_take, verdict_miss, verdict_ends, verdict_none, verdict_ends_rule, verdict_in}
use Rattle.elements.specs.Marks.{outside, faults}
use Rattle.elements.specs.Entries.{entries}
use Rattle.elements.specs.Kinds.{REFERENCE, MAYBE, is_flag_list, starts_of, is_kept, element_range, element_entry, reference_entries, element_entries}

pub either_way : {P : Type 0} (b : Bool) → (b ≡ true → P) → (b ≡ false → P) → P
either_way true f g = f refl
either_way false f g = g refl

-- ---- a symbol by one token

-- the symbol x is, or starts and ends with, a token of class k
pub record Way (x : Symbol) (k : ℕ) : Type 0 where
  pub tree : ℕ → Trees → Trees
  pub fits : (p : ℕ) (α : List Symbol) (f : Trees) → Fits rules α f → Fits rules (x ∷ α) (tree p f)
  pub leaf_is : (p : ℕ) (f : Trees) → leaves (tree p f) ≡ token k p ∷ leaves f
  pub eats : (d : Depth) (σ : List Due) (p : ℕ) (ts : List Token) → too_deep d ≡ false → verdict_from (due d x ∷ σ) (token k p ∷ ts) ≡ verdict_from σ ts

abbrev pub by_token : (k : ℕ) → Way (t k) k
by_token k =
    record {
      tree = λ p. leaf (token k p);
      fits = λ p α f h. fits_leaf h;
      leaf_is = λ p f. refl;
      eats = λ d σ p ts o. verdict_take d σ k p ts o;
    }

abbrev pub by_rule : (A i k : ℕ) (x : Symbol) → predict lookahead A k ≡ some i → alternative_of rules A i ≡ some (plain (x ∷ [])) → Way x k → Way (r A) k
by_rule A i k x e a w =
    record {
      tree = λ p. node A i (w.tree p nil);
      fits = λ p α f h. fits_node a (w.fits p [] nil fits_nil) h;
      leaf_is = λ p f. ap (λ (l : List Token). l ++ leaves f) (w.leaf_is p nil);
      eats = λ d σ p ts o. verdict_in d A σ i (plain (x ∷ [])) k p ts e a ∙ w.eats d σ p ts o;
    }

-- what its tree keeps, and the range of its number
pub record Taken (x : Symbol) (k : ℕ) (es : ℕ → List ℕ) (range : Range) : Type 0 where
  pub below : k < BAD
  pub way : Way x k
  pub entries_are : (p : ℕ) (f : Trees) → entries (way.tree p f) ≡ es p ++ entries f
  pub faults_are : (s : List ℕ) (p : ℕ) (f : Trees) → faults s (way.tree p f) ≡ map outside (out_of s range (p ∷ [])) ++ faults s f

pub taken :
    {x : Symbol} {k : ℕ} {es : ℕ → List ℕ} {range : Range}
    → k < BAD → (w : Way x k) → ((p : ℕ) (f : Trees) → entries (w.tree p f) ≡ es p ++ entries f)
    → ((s : List ℕ) (p : ℕ) (f : Trees) → faults s (w.tree p f) ≡ map outside (out_of s range (p ∷ [])) ++ faults s f)
    → Taken x k es range
taken h w e o = record { below = h; way = w; entries_are = e; faults_are = o }

-- ---- a sign or a reserved word

pub word_taken : (k : ℕ) → k < NAME → Taken (t k) k (λ p. []) free
unfolding entries faults gathered keeps
word_taken k h =
    taken (omega arith) (by_token k) (λ p f. rw (ne_eqb k NAME (λ e. omega arith), ne_eqb k DECIMAL (λ e. omega arith), ne_eqb k HEX (λ e. omega arith))) (λ s p f. refl)

pub member_one : (j k : ℕ) → member j (k ∷ []) ≡ true → k ≡ j
member_one j k h = by (either (eqb k j) false h)
  where
    by : (eqb k j ≡ true) ⊎ (false ≡ true) → k ≡ j
    by (inl q) = eqb-true k j q
    by (inr q) = clash cc

pub member_other : (j k : ℕ) → member j (k ∷ []) ≡ false → eqb k j ≡ false
member_other j k h = either_way (eqb k j) (λ q. let z : member j (k ∷ []) ≡ true = rw q in clash cc) (λ q. q)

-- ---- elements that keep something

-- P holds of each class of a list
abbrev pub Each : (ℕ → Type 0) → List ℕ → Type 0
Each P [] = Unit {0}
Each P (k ∷ l) = P k × Each P l

pub each : (P : ℕ → Type 0) (l : List ℕ) → Each P l → (k : ℕ) → member k l ≡ true → P k
each P [] h k m = clash cc
each P (j ∷ l) h k m = by (each P l h.1 k) (either (eqb j k) (member k l) m)
  where
    by : (member k l ≡ true → P k) → (eqb j k ≡ true) ⊎ (member k l ≡ true) → P k
    by f (inl q) = subst P (eqb-true j k q) h.0
    by f (inr q) = f q

-- an element of one token that keeps something
pub record Kind (x : Symbol) (e : ℕ) : Type 0 where
  pub not_maybe : eqb e MAYBE ≡ false
  pub not_flags : is_flag_list e ≡ false
  pub is_kept_lem : is_kept e ≡ true
  pub ends : (d : Depth) (σ : List Due) → verdict_from (due d x ∷ σ) [] ≡ ends_early
  pub misses : (k : ℕ) → member k (starts_of e) ≡ false → (d : Depth) (σ : List Due) (p : ℕ) (ts : List Token) → verdict_from (due d x ∷ σ) (token k p ∷ ts) ≡ refused 3 p
  pub takes : Each (λ k. Taken x k (element_entries e k) (element_range e k)) (starts_of e)

-- how many entries an element keeps at most
abbrev pub width : ℕ → ℕ
width e = cond (eqb e MAYBE) 0 (cond (is_kept e) (cond (eqb e REFERENCE) 2 1) 0)

pub width_is : (e k p : ℕ) → length (element_entries e k p) ≤ cond (eqb e REFERENCE) 2 1
unfolding element_entries reference_entries
width_is e k p = either_way (eqb e REFERENCE) (λ q. rw q (either_way (eqb k NAME) (λ h. rw h (omega arith)) (λ h. rw h (omega arith)))) (λ q. rw q (omega arith))

-- a name
pub a_name : Kind (t NAME) NAME
unfolding starts_of element_entries element_entry reference_entries element_range entries faults gathered keeps
a_name =
    record {
      not_maybe = refl;
      not_flags = refl;
      is_kept_lem = refl;
      ends = λ d σ. verdict_ends d σ NAME;
      misses = λ k m d σ p ts. verdict_miss d σ NAME k p ts (member_other k NAME m);
      takes = (taken (omega arith) (by_token NAME) (λ p f. refl) (λ s p f. refl), tt);
    }

-- the element e stands for rule A, whose alternatives are single tokens or numbers
module _ (A e : ℕ) where
  pub rule_kind : eqb e MAYBE ≡ false → is_flag_list e ≡ false → is_kept e ≡ true → nullable rules A ≡ false → joined (entry_of lookahead A).firsts ≡ starts_of e → Each (λ k. Taken (r A) k (element_entries e k) (element_range e k)) (starts_of e) → Kind (r A) e
  rule_kind m f w n q takes =
      record {
        not_maybe = m;
        not_flags = f;
        is_kept_lem = w;
        ends = λ d σ. verdict_ends_rule d A σ n;
        misses = λ k h d σ p ts. verdict_none d A σ k p ts (none_told k h) n;
        takes = takes;
      }
    where
      none_told : (k : ℕ) → member k (starts_of e) ≡ false → predict lookahead A k ≡ none
      none_told k h = is_none (predict lookahead A k) (rw (find_joined (entry_of lookahead A).firsts k, q, h))
