-- What it means that a grammar is LL(1): the facts from which everything else here follows.
-- Assumes nothing.
use mathlib.Core.Path.{◌≡◌, refl, sym, ◌∙◌}
use mathlib.Core.List.{List, [], ◌∷◌, ◌++◌}
use mathlib.Core.Option.{Option, none, some}
use mathlib.Core.Bool.{Bool, true, false, ◌&&◌, ◌||◌, or-false}
use mathlib.Core.Logic.{◌⊎◌, inl, inr}
use Prim.Native.Nat.{ℕ, ◌≤◌, ◌<◌}
use native.Mathlib.Omega.{arith}
use lib.Dec.{eqb}
use lib.ListN.{length}
use Rattle.ll1.specs.Trees.{Trees, Symbol, terminal, nonterminal, nothing, Alternative, Grammar, alternative_of, Fits}
use Rattle.ll1.specs.ParseTable.{ParseTable, entry_of, predict, member, nullable}
use Rattle.ll1.specs.Machine.{all_nullable}
use Rattle.ll1.specs.Test.{is_some}
use Rattle.ll1.proofs.Basics.{clash, both, either, or_right}

regroup : (s n f m g : Bool) → s || (n && (f || (m && g))) ≡ s || (n && f) || ((n && m) && g)
regroup true n f m g = refl
regroup false true f m g = refl
regroup false false f m g = refl

-- the alternative that opens nothing and has no symbols
abbrev pub empty_alternative : Alternative
empty_alternative = record { opens = nothing; symbols = [] }

module _ (G : Grammar) (P : ParseTable) where
  -- a text of these symbols can start with a token of class k
  abbrev pub first : List Symbol → ℕ → Bool
  first [] k = false
  first (terminal j ∷ α) k = eqb j k
  first (nonterminal A ∷ α) k = is_some (predict P A k) || (nullable G A && first α k)

  pub first_append : (α σ : List Symbol) (k : ℕ) → first (α ++ σ) k ≡ first α k || (all_nullable G α && first σ k)
  first_append [] σ k = refl
  first_append (terminal j ∷ α) σ k = sym (or-false (eqb j k))
  first_append (nonterminal A ∷ α) σ k =
      rw (first_append α σ k) (regroup (is_some (predict P A k)) (nullable G A) (first α k) (all_nullable G α) (first σ k))

  pub first_split :
      (α σ : List Symbol) (k : ℕ)
      → first (α ++ σ) k ≡ true → (first α k ≡ true) ⊎ ((all_nullable G α ≡ true) × (first σ k ≡ true))
  first_split α σ k h = by (either (first α k) (all_nullable G α && first σ k) (sym (first_append α σ k) ∙ h))
    where
      by :
          (first α k ≡ true) ⊎ (all_nullable G α && first σ k ≡ true)
          → (first α k ≡ true) ⊎ ((all_nullable G α ≡ true) × (first σ k ≡ true))
      by (inl f) = inl f
      by (inr f) = inr (both (all_nullable G α) (first σ k) f)

  -- a token of class k can come after a text of rule A
  abbrev pub follows : ℕ → ℕ → Bool
  follows A k = member k (entry_of P A).follow

  -- each rule among the symbols is in the table, and what the symbols after it can start with is in its FOLLOW set
  abbrev pub Separated : List Symbol → Type 0
  Separated [] = Unit {0}
  Separated (terminal j ∷ σ) = Separated σ
  Separated (nonterminal A ∷ σ) = (A < length G) × ((k : ℕ) → first σ k ≡ true → follows A k ≡ true) × Separated σ

  -- the same of an alternative of rule B, where what can come after B comes after the alternative
  abbrev pub Inside : ℕ → List Symbol → Type 0
  Inside B [] = Unit {0}
  Inside B (terminal j ∷ α) = Inside B α
  Inside B (nonterminal A ∷ α) =
      (A < length G)
      × ((k : ℕ) → first α k ≡ true → follows A k ≡ true)
      × ((k : ℕ) → all_nullable G α ≡ true → follows B k ≡ true → follows A k ≡ true)
      × Inside B α

  -- the rules that a token of class k enters, if the symbols come first, rank below n
  pub data Leads (n k : ℕ) : List Symbol → Type 0 where
    leads_nil : Leads n k []
    leads_class : {j : ℕ} {σ : List Symbol} → Leads n k (terminal j ∷ σ)
    leads_in : {A i : ℕ} {σ : List Symbol} → predict P A k ≡ some i → (entry_of P A).rank < n → Leads n k (nonterminal A ∷ σ)
    leads_past : {A : ℕ} {σ : List Symbol} → predict P A k ≡ none → Leads n k σ → Leads n k (nonterminal A ∷ σ)
    leads_nowhere : {A : ℕ} {σ : List Symbol} → predict P A k ≡ none → nullable G A ≡ false → Leads n k (nonterminal A ∷ σ)

  pub leads_more : {n m k : ℕ} {σ : List Symbol} → n ≤ m → Leads n k σ → Leads m k σ
  leads_more h leads_nil = leads_nil
  leads_more h leads_class = leads_class
  leads_more h (leads_in p r) = leads_in p (omega arith)
  leads_more h (leads_past p r) = leads_past p (leads_more h r)
  leads_more h (leads_nowhere p r) = leads_nowhere p r

  pub leads_append : {n k : ℕ} {α : List Symbol} (σ : List Symbol) → first α k ≡ true → Leads n k α → Leads n k (α ++ σ)
  leads_append σ f leads_nil = clash cc
  leads_append σ f leads_class = leads_class
  leads_append σ f (leads_in p r) = leads_in p r
  leads_append {k} σ f (leads_past {A = A} {σ = α} p r) =
      leads_past p (leads_append σ (both (nullable G A) (first α k) (rw p at f)).1 r)
  leads_append σ f (leads_nowhere p r) = leads_nowhere p r

  pub leads_rank : {n k i A : ℕ} {σ : List Symbol} → predict P A k ≡ some i → Leads n k (nonterminal A ∷ σ) → (entry_of P A).rank < n
  leads_rank p (leads_in q r) = r
  leads_rank p (leads_past q r) = clash cc
  leads_rank p (leads_nowhere q r) = clash cc

  pub leads_rest :
      {n k A : ℕ} {σ : List Symbol}
      → predict P A k ≡ none → nullable G A ≡ true → Leads n k (nonterminal A ∷ σ) → Leads n k σ
  leads_rest p z (leads_in q r) = clash cc
  leads_rest p z (leads_past q r) = r
  leads_rest p z (leads_nowhere q r) = clash cc

  -- the grammar is LL(1), and P is its parse table
  pub record Ll1 : Type 0 where
    -- there is a rule for a whole text
    pub has_rule : 0 < length G
    -- a token that an alternative can start with tells it
    pub first_tells :
        (A i k : ℕ) (a : Alternative)
        → alternative_of G A i ≡ some a → first a.symbols k ≡ true → predict P A k ≡ some i
    -- an alternative can start with the tokens that tell it
    pub told_first :
        (A i k : ℕ) (a : Alternative)
        → alternative_of G A i ≡ some a → predict P A k ≡ some i → first a.symbols k ≡ true
    -- only the first alternative may be absent, and it is then empty
    pub empty_only :
        (A i : ℕ) (a : Alternative)
        → alternative_of G A i ≡ some a → all_nullable G a.symbols ≡ true → (i ≡ 0) × (a.symbols ≡ []) × (nullable G A ≡ true)
    pub empty_first : (A : ℕ) → nullable G A ≡ true → alternative_of G A 0 ≡ some empty_alternative
    -- a token that can come after a rule tells that it is absent
    pub follow_tells : (A k : ℕ) → nullable G A ≡ true → follows A k ≡ true → predict P A k ≡ none
    pub inside : (A i : ℕ) (a : Alternative) → alternative_of G A i ≡ some a → Inside A a.symbols
    pub leads : (A i k : ℕ) (a : Alternative) → alternative_of G A i ≡ some a → Leads (entry_of P A).rank k a.symbols
    pub ranked : (A : ℕ) → (entry_of P A).rank < length G
    -- each rule of the table has a text
    pub has_text : (A : ℕ) → A < length G → (f : Trees) × Fits G (nonterminal A ∷ []) f

  module _ (L : Ll1) where
    -- what an alternative and the symbols after it can start with, the rule and those symbols can start with
    pub first_rule :
        (A i k : ℕ) (a : Alternative) (σ : List Symbol)
        → alternative_of G A i ≡ some a → first (a.symbols ++ σ) k ≡ true → first (nonterminal A ∷ σ) k ≡ true
    first_rule A i k a σ e h = by (first_split a.symbols σ k h)
      where
        by :
            (first a.symbols k ≡ true) ⊎ ((all_nullable G a.symbols ≡ true) × (first σ k ≡ true))
            → first (nonterminal A ∷ σ) k ≡ true
        by (inl f) = rw (L.first_tells A i k a e f)
        by (inr w) = rw ((L.empty_only A i a e w.0).2, w.1) (or_right (is_some (predict P A k)) true refl)

    separated_inside :
        (B : ℕ) (α σ : List Symbol)
        → Inside B α → ((k : ℕ) → first σ k ≡ true → follows B k ≡ true) → Separated σ → Separated (α ++ σ)
    separated_inside B [] σ i f o = o
    separated_inside B (terminal j ∷ α) σ i f o = separated_inside B α σ i f o
    separated_inside B (nonterminal A ∷ α) σ i f o = (i.0, λ k h. by k (first_split α σ k h), separated_inside B α σ i.3 f o)
      where
        by : (k : ℕ) → (first α k ≡ true) ⊎ ((all_nullable G α ≡ true) × (first σ k ≡ true)) → follows A k ≡ true
        by k (inl h) = i.1 k h
        by k (inr w) = i.2 k w.0 (f k w.1)

    -- a rule replaced by an alternative leaves the symbols separated
    pub separated_in :
        (A i : ℕ) (a : Alternative) (σ : List Symbol)
        → alternative_of G A i ≡ some a → Separated (nonterminal A ∷ σ) → Separated (a.symbols ++ σ)
    separated_in A i a σ e o = separated_inside A a.symbols σ (L.inside A i a e) o.1 o.2

    -- the rule for a whole text, and nothing after it
    pub separated_whole : Separated (nonterminal 0 ∷ [])
    separated_whole = (L.has_rule, λ k f. clash cc, tt)

    -- every rank is below the number of rules
    pub leads_all : (k : ℕ) (σ : List Symbol) → Leads (length G) k σ
    leads_all k [] = leads_nil
    leads_all k (terminal j ∷ σ) = leads_class
    leads_all k (nonterminal A ∷ σ) = by (leads_all k σ) (predict P A k) refl
      where
        by : Leads (length G) k σ → (o : Option ℕ) → predict P A k ≡ o → Leads (length G) k (nonterminal A ∷ σ)
        by r none e = leads_past e r
        by r (some i) e = leads_in e (L.ranked A)
