-- The function `derivation` finds the derivation of a list of tokens, if there is one, and nothing else.
-- Assumes nothing.
use mathlib.Core.Path.{◌≡◌, refl, ap, sym, ◌∙◌, subst}
use mathlib.Core.List.{List, [], ◌∷◌, ◌++◌, append_assoc, append-nil}
use mathlib.Core.Option.{Option, none, some}
use mathlib.Core.Bool.{Bool, true, false}
use Prim.Native.Nat.{ℕ, zero, suc, ◌+◌, ◌*◌, ◌≤◌, max}
use native.Mathlib.Omega.{arith}
use lib.Dec.{eqb}
use lib.ListN.{length, length-append}
use borrow.Author.Tests.{eqb-true}
use Rattle.ll1.specs.Trees.{Token, token, Trees, nil, leaf, node, leaves, Symbol, terminal, nonterminal, Alternative, Grammar, alternative_of, Fits, fits_nil, fits_leaf, fits_node}
use Rattle.ll1.specs.Verdict.{Derivation}
use Rattle.ll1.specs.ParseTable.{ParseTable, entry_of, choose}
use Rattle.ll1.specs.Parser.{Parsed, failed, parsed, with_leaf, with_node, parse_by, parse, max_height, derivation}
use Rattle.ll1.proofs.Basics.{clash, same}
use Rattle.ll1.proofs.Ll1.{Separated, Leads, leads_rank, leads_rest, Ll1, leads_all, separated_in, separated_whole}
use Rattle.ll1.proofs.Unique.{After, after_trees, first_leaf, no_leaf, chosen}

-- how many nodes stand under one another
abbrev height : Trees → ℕ
height nil = 0
height (leaf t f) = height f
height (node A i c f) = max (suc (height c)) (height f)

module _ (G : Grammar) (P : ParseTable) where
  -- ---- what the function answers is a derivation

  -- trees of σ, whose leaves and then the rest us are the tokens ts
  record Read (σ : List Symbol) (ts : List Token) (f : Trees) (us : List Token) : Type 0 where
    fits : Fits G σ f
    reads : leaves f ++ us ≡ ts

  -- reading by `go` gives such trees
  abbrev Reads : (List Symbol → List Token → Parsed) → Type 0
  Reads go = (σ : List Symbol) (ts us : List Token) (f : Trees) → go σ ts ≡ parsed f us → Read σ ts f us

  module _ (go : List Symbol → List Token → Parsed) (ih : Reads go) where
    read_leaf :
        (k j p : ℕ) (σ : List Symbol) (ts us : List Token) (f : Trees)
        → ((g : Trees) → parse_by G P go σ ts ≡ parsed g us → Read σ ts g us) → (b : Bool) (w : Parsed) → eqb k j ≡ b
        → parse_by G P go σ ts ≡ w → parse_by G P go (terminal k ∷ σ) (token j p ∷ ts) ≡ parsed f us
        → Read (terminal k ∷ σ) (token j p ∷ ts) f us
    read_leaf k j p σ ts us f r false w q s e =
        let v : parse_by G P go (terminal k ∷ σ) (token j p ∷ ts) ≡ failed = rw (q, parse_by) in
        clash cc
    read_leaf k j p σ ts us f r true failed q s e =
        let v : parse_by G P go (terminal k ∷ σ) (token j p ∷ ts) ≡ failed = rw (q, s, parse_by) in
        clash cc
    read_leaf k j p σ ts us f r true (parsed g xs) q s e =
        let v : parse_by G P go (terminal k ∷ σ) (token j p ∷ ts) ≡ parsed (leaf (token j p) g) xs = rw (q, s, parse_by) in
        let t : xs ≡ us = cc in
        let h = r g (s ∙ ap (parsed g) t) in
        let u : leaf (token j p) g ≡ f = cc in
        let w : Read (terminal k ∷ σ) (token j p ∷ ts) (leaf (token j p) g) us = record {
          fits = subst (λ x. Fits G (terminal k ∷ σ) (leaf (token x p) g)) (eqb-true k j q) (fits_leaf h.fits);
          reads = ap (λ (l : List Token). token j p ∷ l) h.reads;
        } in
        subst (λ x. Read (terminal k ∷ σ) (token j p ∷ ts) x us) u w

    read_node :
        (A : ℕ) (σ : List Symbol) (ts us : List Token) (f : Trees)
        → ((xs : List Token) (g : Trees) → parse_by G P go σ xs ≡ parsed g us → Read σ xs g us) → (o : Option Alternative)
        → alternative_of G A (choose P A ts) ≡ o → parse_by G P go (nonterminal A ∷ σ) ts ≡ parsed f us
        → Read (nonterminal A ∷ σ) ts f us
    read_node A σ ts us f r none a e = let v : parse_by G P go (nonterminal A ∷ σ) ts ≡ failed = rw (a, parse_by) in clash cc
    read_node A σ ts us f r (some s) a e = by (go s.symbols ts) refl
      where
        beside :
            (c : Trees) (xs : List Token) (w : Parsed)
            → go s.symbols ts ≡ parsed c xs → parse_by G P go σ xs ≡ w → Read (nonterminal A ∷ σ) ts f us
        beside c xs failed q t = let v : parse_by G P go (nonterminal A ∷ σ) ts ≡ failed = rw (a, q, t, parse_by) in clash cc
        beside c xs (parsed g ys) q t =
            let v : parse_by G P go (nonterminal A ∷ σ) ts ≡ parsed (node A (choose P A ts) c g) ys = rw (a, q, t, parse_by) in
            let z : ys ≡ us = cc in
            let h = r xs g (t ∙ ap (parsed g) z) in
            let m = ih s.symbols ts xs c q in
            let u : node A (choose P A ts) c g ≡ f = cc in
            let w : Read (nonterminal A ∷ σ) ts (node A (choose P A ts) c g) us = record {
              fits = fits_node a m.fits h.fits;
              reads = append_assoc (leaves c) (leaves g) us ∙ ap (λ (l : List Token). leaves c ++ l) h.reads ∙ m.reads;
            } in
            subst (λ x. Read (nonterminal A ∷ σ) ts x us) u w

        by : (w : Parsed) → go s.symbols ts ≡ w → Read (nonterminal A ∷ σ) ts f us
        by failed q = let v : parse_by G P go (nonterminal A ∷ σ) ts ≡ failed = rw (a, q, parse_by) in clash cc
        by (parsed c xs) q = beside c xs (parse_by G P go σ xs) q refl

    parse_by_read : Reads (parse_by G P go)
    parse_by_read [] ts us f e =
        let q : nil ≡ f = cc in
        let t : us ≡ ts = cc in
        subst (λ x. Read [] ts x us) q (record { fits = fits_nil; reads = t })
    parse_by_read (terminal k ∷ σ) [] us f e = clash cc
    parse_by_read (terminal k ∷ σ) (token j p ∷ ts) us f e =
        read_leaf k j p σ ts us f (λ g. parse_by_read σ ts us g) (eqb k j) (parse_by G P go σ ts) refl refl e
    parse_by_read (nonterminal A ∷ σ) ts us f e =
        read_node A σ ts us f (λ xs g. parse_by_read σ xs us g) (alternative_of G A (choose P A ts)) refl e

  parse_read : (n : ℕ) → Reads (parse G P n)
  parse_read zero σ ts us f e = clash cc
  parse_read (suc n) σ ts us f e = parse_by_read (parse G P n) (parse_read n) σ ts us f e

  -- what the function answers is a derivation
  pub derivation_derives : (ts : List Token) (f : Trees) → derivation G P ts ≡ some f → Derivation G ts f
  unfolding derivation
  derivation_derives ts f e = by (parse G P (suc (max_height G (length ts))) (nonterminal 0 ∷ []) ts) refl
    where
      by : (w : Parsed) → parse G P (suc (max_height G (length ts))) (nonterminal 0 ∷ []) ts ≡ w → Derivation G ts f
      by failed q = let v : derivation G P ts ≡ none = rw q in clash cc
      by (parsed g (t ∷ us)) q = let v : derivation G P ts ≡ none = rw q in clash cc
      by (parsed g []) q =
          let v : derivation G P ts ≡ some g = rw q in
          let u : g ≡ f = cc in
          let r = parse_read (suc (max_height G (length ts))) (nonterminal 0 ∷ []) ts [] g q in
          subst (λ x. Derivation G ts x) u (record { fits = r.fits; reads = sym (append-nil (leaves g)) ∙ r.reads })

  -- ---- each derivation is found

  parse_by_leaf :
      (go : List Symbol → List Token → Parsed) (k p : ℕ) (σ : List Symbol) (ts : List Token)
      → parse_by G P go (terminal k ∷ σ) (token k p ∷ ts) ≡ with_leaf (token k p) (parse_by G P go σ ts)
  parse_by_leaf go k p σ ts = rw (same k, parse_by)

  parse_by_node :
      (go : List Symbol → List Token → Parsed) (A i : ℕ) (a : Alternative) (σ : List Symbol) (ts us : List Token) (c : Trees)
      → choose P A ts ≡ i → alternative_of G A i ≡ some a → go a.symbols ts ≡ parsed c us
      → parse_by G P go (nonterminal A ∷ σ) ts ≡ with_node A i c (parse_by G P go σ us)
  parse_by_node go A i a σ ts us c q e g = rw (q, e, g, parse_by) (rw q)

  module _ (L : Ll1 G P) where
    finds :
        {α : List Symbol} {c : Trees} (n : ℕ) (σ : List Symbol) (x : List Token)
        → Fits G α c → height c ≤ n → Separated G P (α ++ σ) → After G P σ x
        → parse_by G P (parse G P n) α (leaves c ++ x) ≡ parsed c x
    finds n σ x fits_nil h o b = refl
    finds n σ x (fits_leaf {k = k} {p = p} {σ = τ} {f = f} r) h o b =
        parse_by_leaf (parse G P n) k p τ (leaves f ++ x) ∙ ap (with_leaf (token k p)) (finds n σ x r h o b)
    finds n σ x (fits_node {A = A} {i = i} {a = a} {σ = τ} {c = c} {f = f} e r₁ r₂) h o b =
        let y = after_trees G P L σ x r₂ b in
        let q = chosen G P L A i a (τ ++ σ) c (leaves f ++ x) _ e r₁ o.1 y refl in
        let s = separated_in G P L A i a (τ ++ σ) e o in
        rw append_assoc (by n (λ m g. finds m (τ ++ σ) rest r₁ g s y) h (sym q)) ∙ ap (with_node A i c) (finds n σ x r₂ (omega arith) o.2 b)
      where
        rest : List Token
        rest = leaves f ++ x

        by :
            (n : ℕ) → ((m : ℕ) → height c ≤ m → parse_by G P (parse G P m) a.symbols (leaves c ++ rest) ≡ parsed c rest)
            → height (node A i c f) ≤ n → choose P A (leaves c ++ rest) ≡ i
            → parse_by G P (parse G P n) (nonterminal A ∷ τ) (leaves c ++ rest) ≡ with_node A i c (parse_by G P (parse G P n) τ rest)
        by zero g h q = absurd (omega arith)
        by (suc m) g h q = parse_by_node (parse G P (suc m)) A i a τ (leaves c ++ rest) rest c q e (g m (omega arith))

    no_symbols : {α : List Symbol} {c : Trees} → α ≡ [] → Fits G α c → c ≡ nil
    no_symbols q fits_nil = refl
    no_symbols q (fits_leaf r) = clash cc
    no_symbols q (fits_node e r₁ r₂) = clash cc

    -- the rules that the first leaf enters, if the symbols α come first, rank below n
    abbrev Led : ℕ → Trees → List Symbol → Type 0
    Led n c α = (k p : ℕ) (l : List Token) → leaves c ≡ token k p ∷ l → Leads G P n k α

    -- trees are no higher than their leaves allow: between two leaves the rules that stand first in one another fall in rank
    low :
        {α : List Symbol} {c : Trees} (n : ℕ)
        → Fits G α c → Separated G P α → Led n c α → height c ≤ length (leaves c) * length G + suc n
    low n fits_nil o t = omega arith
    low n (fits_leaf {σ = σ} r) o t = let i = low (length G) r o (λ k p l e. leads_all G P L k σ) in omega arith
    low n (fits_node {A = A} {i = i} {a = a} {σ = τ} {c = c} {f = f} e r₁ r₂) o t =
        by (low (entry_of P A).rank r₁ sep (λ k p l q. L.leads A i k a e)) (λ s g. low s r₂ o.2 g) (leaves c) refl
      where
        sep : Separated G P a.symbols
        sep = rw append-nil at (separated_in G P L A i a [] e (o.0, λ k f. clash cc, tt))

        by :
            height c ≤ length (leaves c) * length G + suc (entry_of P A).rank
            → ((s : ℕ) → Led s f τ → height f ≤ length (leaves f) * length G + suc s)
            → (l : List Token) → leaves c ≡ l → height (node A i c f) ≤ length (leaves c ++ leaves f) * length G + suc n
        by u v [] q =
            let w = L.empty_only A i a e (no_leaf G P L r₁ q) in
            let z : height c ≡ 0 = ap height (no_symbols w.1 r₁) in
            let m = v n (λ k p l s.
            let absent = L.follow_tells A k w.2 (o.1 k (first_leaf G P L k p l r₂ s)) in
            leads_rest G P absent w.2 (t k p l (ap (λ x. x ++ leaves f) q ∙ s))) in
            rw q (omega arith)
        by u v (token k p ∷ l) q =
            let w = L.first_tells A i k a e (first_leaf G P L k p l r₁ q) in
            let x = leads_rank G P w (t k p (l ++ leaves f) (ap (λ y. y ++ leaves f) q)) in
            let m = v (length G) (λ k p l q₁. leads_all G P L k τ) in
            let u₁ = rw q at u in
            rw (q, length-append l (leaves f)) (omega arith)

    parse_finds :
        {σ : List Symbol} {f : Trees} (ts : List Token)
        → Fits G σ f → Separated G P σ → leaves f ≡ ts
        → parse G P (suc (max_height G (length ts))) σ ts ≡ parsed f []
    parse_finds {σ} {f} ts r o e =
        let l = low (length G) r o (λ k p l q. leads_all G P L k σ) in
        let m : height f ≤ max_height G (length ts) = rw e at l in
        let g = finds (max_height G (length ts)) [] [] r m (rw append-nil o) tt in
        ap (parse_by G P (parse G P (max_height G (length ts))) σ) (sym e ∙ sym (append-nil (leaves f))) ∙ g

    pub derivation_found : (ts : List Token) (f : Trees) → Derivation G ts f → derivation G P ts ≡ some f
    unfolding derivation
    derivation_found ts f d = rw (parse_finds ts d.fits (separated_whole G P L) d.reads)
