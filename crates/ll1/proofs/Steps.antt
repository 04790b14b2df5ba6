-- What the machine does with one token is what leftmost derivations allow.
-- Assumes nothing.
use mathlib.Core.Path.{◌≡◌, refl, sym, ◌∙◌, subst, subst₂}
use mathlib.Core.List.{List, [], ◌∷◌, ◌++◌}
use mathlib.Core.Option.{Option, none, some}
use mathlib.Core.Bool.{Bool, true, false}
use mathlib.Core.Logic.{◌⊎◌, inl, inr}
use Prim.Native.Nat.{ℕ, zero, suc, ◌<◌}
use native.Mathlib.Omega.{arith}
use lib.Dec.{eqb}
use lib.ListN.{length}
use borrow.Author.Tests.{eqb-true}
use Rattle.ll1.specs.Trees.{Token, token, terminal, nonterminal, Alternative, Grammar, alternative_of, Depth, deeper}
use Rattle.ll1.specs.ParseTable.{ParseTable, entry_of, predict, nullable}
use Rattle.ll1.specs.Machine.{Due, due, due_all, symbols_of, opened, all_nullable, Next, stuck, next, advance_by, advance_in, advance}
use Rattle.ll1.specs.Test.{is_some}
use Rattle.ll1.proofs.Basics.{clash, same, or_right}
use Rattle.ll1.proofs.Ll1.{first, first_split, Separated, Leads, leads_more, leads_append, leads_rank, leads_rest, Ll1, leads_all, first_rule, separated_in}
use Rattle.ll1.proofs.Leftmost.{symbols_due, Becomes, shift, expand}

module _ (G : Grammar) (P : ParseTable) where
  -- ---- the machine's steps, each an equation

  module _ (go : List Due → ℕ → Next) (d : Depth) (σ : List Due) (k : ℕ) where
    pub advance_take : (j : ℕ) → eqb j k ≡ true → advance_by G P go (due d (terminal j) ∷ σ) k ≡ next d σ
    advance_take j q = rw (q, advance_by)

    pub advance_miss : (j : ℕ) → eqb j k ≡ false → advance_by G P go (due d (terminal j) ∷ σ) k ≡ stuck
    advance_miss j q = rw (q, advance_by)

    pub advance_in_lem :
        (A i : ℕ) (a : Alternative)
        → predict P A k ≡ some i → alternative_of G A i ≡ some a
        → advance_by G P go (due d (nonterminal A) ∷ σ) k ≡ go (opened d a ++ σ) k
    advance_in_lem A i a p e = rw (p, e, advance_by)

    pub advance_past :
        (A : ℕ)
        → predict P A k ≡ none → nullable G A ≡ true → advance_by G P go (due d (nonterminal A) ∷ σ) k ≡ advance_by G P go σ k
    advance_past A p n = rw (p, n, advance_by)

    pub advance_none :
        (A : ℕ)
        → predict P A k ≡ none → nullable G A ≡ false → advance_by G P go (due d (nonterminal A) ∷ σ) k ≡ stuck
    advance_none A p n = rw (p, n, advance_by)

  -- ---- the same as a relation

  -- a token of class k, which stands at depth d, takes the stack from σ to τ
  pub data Step (k : ℕ) : List Due → Depth → List Due → Type 0 where
    takes : {d : Depth} {σ : List Due} → Step k (due d (terminal k) ∷ σ) d σ
    enters :
        {d b : Depth} {A : ℕ} (i : ℕ) {a : Alternative} {σ τ : List Due}
        → predict P A k ≡ some i → alternative_of G A i ≡ some a → Step k (opened d a ++ σ) b τ
        → Step k (due d (nonterminal A) ∷ σ) b τ
    passes :
        {d b : Depth} {A : ℕ} {σ τ : List Due}
        → predict P A k ≡ none → nullable G A ≡ true → Step k σ b τ → Step k (due d (nonterminal A) ∷ σ) b τ

  module _ (go : List Due → ℕ → Next) (k : ℕ) (ih : (σ τ : List Due) (b : Depth) → go σ k ≡ next b τ → Step k σ b τ) where
    step_class :
        (j : ℕ) (d b : Depth) (σ τ : List Due) (t : Bool)
        → eqb j k ≡ t → advance_by G P go (due d (terminal j) ∷ σ) k ≡ next b τ → Step k (due d (terminal j) ∷ σ) b τ
    step_class j d b σ τ true q e =
        let w = advance_take go d σ k j q in
        let p₁ : d ≡ b = cc in
        let p₂ : σ ≡ τ = cc in
        let s = subst₂ (λ x y. Step k (due d (terminal k) ∷ σ) x y) p₁ p₂ takes in
        subst (λ x. Step k (due d (terminal x) ∷ σ) b τ) (sym (eqb-true j k q)) s
    step_class j d b σ τ false q e = let w = advance_miss go d σ k j q in clash cc

    step_in_lem :
        (d b : Depth) (A i : ℕ) (σ τ : List Due) (o : Option Alternative)
        → predict P A k ≡ some i → alternative_of G A i ≡ o → advance_by G P go (due d (nonterminal A) ∷ σ) k ≡ next b τ
        → Step k (due d (nonterminal A) ∷ σ) b τ
    step_in_lem d b A i σ τ none p q e =
        let w : advance_by G P go (due d (nonterminal A) ∷ σ) k ≡ stuck = rw (p, q, advance_by) in
        clash cc
    step_in_lem d b A i σ τ (some a) p q e = enters i p q (ih (opened d a ++ σ) τ b (sym (advance_in_lem go d σ k A i a p q) ∙ e))

    advance_by_step : (σ τ : List Due) (b : Depth) → advance_by G P go σ k ≡ next b τ → Step k σ b τ
    advance_by_step [] τ b e = clash cc
    advance_by_step (due d (terminal j) ∷ σ) τ b e = step_class j d b σ τ (eqb j k) refl e
    advance_by_step (due d (nonterminal A) ∷ σ) τ b e = by (advance_by_step σ τ b) (predict P A k) (nullable G A) refl refl
      where
        by :
            (advance_by G P go σ k ≡ next b τ → Step k σ b τ)
            → (o : Option ℕ) (t : Bool) → predict P A k ≡ o → nullable G A ≡ t → Step k (due d (nonterminal A) ∷ σ) b τ
        by r (some i) t p n = step_in_lem d b A i σ τ (alternative_of G A i) p refl e
        by r none true p n = passes p n (r (sym (advance_past go d σ k A p n) ∙ e))
        by r none false p n = let w = advance_none go d σ k A p n in clash cc

  advance_in_step : (n k : ℕ) (σ τ : List Due) (b : Depth) → advance_in G P n σ k ≡ next b τ → Step k σ b τ
  advance_in_step zero k σ τ b e = clash cc
  advance_in_step (suc n) k σ τ b e = advance_by_step (advance_in G P n) k (advance_in_step n k) σ τ b e

  pub advance_step : (k : ℕ) (σ τ : List Due) (b : Depth) → advance G P σ k ≡ next b τ → Step k σ b τ
  advance_step k σ τ b e = advance_in_step (suc (length G)) k σ τ b e

  module _ (L : Ll1 G P) where
    step_advance_by :
        {k n : ℕ} {σ τ : List Due} {b : Depth}
        → Leads G P n k (symbols_of σ) → Step k σ b τ → advance_by G P (advance_in G P n) σ k ≡ next b τ
    step_advance_by {k} {n} l (takes {d = d} {σ = σ}) = advance_take (advance_in G P n) d σ k k (same k)
    step_advance_by {k} {n} l (enters {d = d} {b = b} {A = A} i {a = a} {σ = σ} {τ = τ} p e s) =
        by n (λ m r. step_advance_by {n = m} r s) (leads_rank G P p l)
      where
        by :
            (m : ℕ)
            → ((j : ℕ) → Leads G P j k (symbols_of (opened d a ++ σ)) → advance_by G P (advance_in G P j) (opened d a ++ σ) k ≡ next b τ)
            → (entry_of P A).rank < m → advance_by G P (advance_in G P m) (due d (nonterminal A) ∷ σ) k ≡ next b τ
        by zero f h = absurd (omega arith)
        by (suc m) f h =
            let l : Leads G P m k a.symbols = leads_more G P (omega arith) (L.leads A i k a e) in
            let r = leads_append G P (symbols_of σ) (L.told_first A i k a e p) l in
            advance_in_lem (advance_in G P (suc m)) d σ k A i a p e ∙ f m (rw symbols_due r)
    step_advance_by {k} {n} l (passes {d = d} {A = A} {σ = σ} p z s) =
        advance_past (advance_in G P n) d σ k A p z ∙ step_advance_by (leads_rest G P p z l) s

    pub step_advance : {k : ℕ} {σ τ : List Due} {b : Depth} → Step k σ b τ → advance G P σ k ≡ next b τ
    step_advance {k} {σ} s = step_advance_by (leads_all G P L k (symbols_of σ)) s

    -- ---- steps and leftmost derivations

    -- a token that the stack can become is one that it can start with
    pub starts :
        {σ : List Due} {k p : ℕ} {ts : List Token} {ds : List Depth}
        → Becomes G σ (token k p ∷ ts) ds → first G P (symbols_of σ) k ≡ true
    starts (shift {k = k} r) = same k
    starts {k} (expand {d = d} {A = A} i {a = a} {σ = σ} e r) =
        first_rule G P L A i k a (symbols_of σ) e (rw symbols_due at (starts r))

    separated_opened :
        (d : Depth) (A i : ℕ) (a : Alternative) (σ : List Due)
        → alternative_of G A i ≡ some a → Separated G P (nonterminal A ∷ symbols_of σ)
        → Separated G P (symbols_of (opened d a ++ σ))
    separated_opened d A i a σ e o = rw symbols_due (separated_in G P L A i a (symbols_of σ) e o)

    pub step_separated :
        {k : ℕ} {σ τ : List Due} {b : Depth}
        → Step k σ b τ → Separated G P (symbols_of σ) → Separated G P (symbols_of τ)
    step_separated takes o = o
    step_separated (enters {d = d} {A = A} i {a = a} {σ = σ} p e s) o = step_separated s (separated_opened d A i a σ e o)
    step_separated (passes p n s) o = step_separated s o.2

    pub step_sound :
        {k p : ℕ} {σ τ : List Due} {b : Depth} {ts : List Token} {ds : List Depth}
        → Step k σ b τ → Becomes G τ ts ds → Becomes G σ (token k p ∷ ts) (b ∷ ds)
    step_sound takes r = shift r
    step_sound (enters i p e s) r = expand i e (step_sound s r)
    step_sound (passes {A = A} p n s) r = expand 0 (L.empty_first A n) (step_sound s r)

    -- a step, and what the stack after it becomes
    pub data Stepped (k : ℕ) (σ : List Due) (ts : List Token) : List Depth → Type 0 where
      stepped : {b : Depth} {τ : List Due} {ds : List Depth} → Step k σ b τ → Becomes G τ ts ds → Stepped k σ ts (b ∷ ds)

    around :
        {k : ℕ} {τ σ : List Due} {ts : List Token} {ds : List Depth}
        → ((b : Depth) (ρ : List Due) → Step k τ b ρ → Step k σ b ρ) → Stepped k τ ts ds → Stepped k σ ts ds
    around f (stepped {b = b} {τ = τ} s r) = stepped (f b τ s) r

    pub step_complete :
        {k p : ℕ} {σ : List Due} {ts : List Token} {ds : List Depth}
        → Becomes G σ (token k p ∷ ts) ds → Separated G P (symbols_of σ) → Stepped k σ ts ds
    step_complete (shift r) o = stepped takes r
    step_complete {k} {ts} {ds} (expand {d = d} {A = A} i {a = a} {σ = σ} e r) o =
        let f = first_split G P a.symbols (symbols_of σ) k (rw symbols_due at (starts r)) in
        by (step_complete r (separated_opened d A i a σ e o)) f
      where
        by :
            Stepped k (opened d a ++ σ) ts ds
            → (first G P a.symbols k ≡ true) ⊎ ((all_nullable G a.symbols ≡ true) × (first G P (symbols_of σ) k ≡ true))
            → Stepped k (due d (nonterminal A) ∷ σ) ts ds
        by w (inl f) = around (λ b τ s. enters i (L.first_tells A i k a e f) e s) w
        by w (inr h) =
            let z = L.empty_only A i a e h.0 in
            let absent = L.follow_tells A k z.2 (o.1 k h.1) in
            around (λ b τ s. passes absent z.2 (subst (λ x. Step k (due_all (deeper d a.opens) x ++ σ) b τ) z.1 s)) w

    -- a token that moves the stack is one that it can start with
    pub step_first : {k : ℕ} {σ τ : List Due} {b : Depth} → Step k σ b τ → first G P (symbols_of σ) k ≡ true
    step_first {k} takes = same k
    step_first (enters i p e s) = rw p
    step_first {k} (passes {A = A} p n s) = rw (n, step_first s) (or_right (is_some (predict P A k)) true refl)
