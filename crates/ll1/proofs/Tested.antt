-- A grammar that passes the test, with a parse table, is LL(1).
-- Assumes nothing.
use mathlib.Core.Path.{◌≡◌, refl, ap, sym, ◌∙◌, subst}
use mathlib.Core.List.{List, [], ◌∷◌}
use mathlib.Core.Option.{Option, none, some}
use mathlib.Core.Bool.{Bool, true, false, ◌&&◌, ◌||◌, not, or-false}
use Prim.Native.Nat.{ℕ, zero, suc, ◌<◌}
use lib.Dec.{eqb, ltb}
use lib.ListN.{length, get_or, get_elem?}
use borrow.Author.Tests.{eqb-true, ltb-true}
use Rattle.ll1.specs.Trees.{token, Trees, nil, leaf, node, Symbol, terminal, nonterminal, Opens, nothing, a_condition, a_group, Alternative, Grammar, alternative_of, Fits, fits_nil, fits_leaf, fits_node}
use Rattle.ll1.specs.ParseTable.{ParseTable, entry, entry_of, predict, member, is_empty, starts_empty, nullable}
use Rattle.ll1.specs.Machine.{all_nullable}
use Rattle.ll1.specs.Test.{all, all_at, all_pairs, subset, joined, keep_if, is_some, is_place, is_nil, first_of, follows?, ranks?, alternative?, rule?, trees_by, trees_of, short_trees, finishes?, ll1?}
use Rattle.ll1.proofs.Basics.{clash, both, implied, is_none, is_place_lem, all_at_at, all_pairs_get_or, all_pairs_at, all_member, member_append, member_keep, find_joined, find_member}
use Rattle.ll1.proofs.Ll1.{empty_alternative, first, Inside, Leads, leads_nil, leads_class, leads_in, leads_past, leads_nowhere, Ll1}

is_nil_lem : (α : List Symbol) → is_nil α ≡ true → α ≡ []
is_nil_lem [] h = refl
is_nil_lem (x ∷ α) h = clash cc

is_empty_lem : (e : Opens) (α : List Symbol) → is_empty e α ≡ true → (e ≡ nothing) × (α ≡ [])
is_empty_lem nothing [] h = (refl, refl)
is_empty_lem nothing (x ∷ α) h = clash cc
is_empty_lem a_condition α h = clash cc
is_empty_lem a_group α h = clash cc

starts_empty_lem : (l : List Alternative) → starts_empty l ≡ true → get_elem? l 0 ≡ some empty_alternative
starts_empty_lem [] h = clash cc
starts_empty_lem (a ∷ l) h =
    let w = is_empty_lem a.opens a.symbols h in
    let q : a ≡ empty_alternative = rw (w.0, w.1) in
    ap (λ (x : Alternative). some x) q

module _ (G : Grammar) (P : ParseTable) where
  first_of_lem : (α : List Symbol) (k : ℕ) → first G P α k ≡ member k (first_of G P α)
  first_of_lem [] k = refl
  first_of_lem (terminal j ∷ α) k = sym (or-false (eqb j k))
  first_of_lem (nonterminal A ∷ α) k =
      let q = first_of_lem α k in
      let j = find_joined (entry_of P A).firsts k in
      let a = member_append k (joined (entry_of P A).firsts) (keep_if (nullable G A) (first_of G P α)) in
      cc (j, a, member_keep k (nullable G A) (first_of G P α))

  inside_of : (B : ℕ) (α : List Symbol) → follows? G P (entry_of P B).follow α ≡ true → Inside G P B α
  inside_of B [] h = tt
  inside_of B (terminal k ∷ α) h = inside_of B α h
  inside_of B (nonterminal A ∷ α) h =
      let u = both (ltb A (length G)) _ h in
      let v = both (subset (first_of G P α) (entry_of P A).follow) _ u.1 in
      let w = both (not (all_nullable G α) || subset (entry_of P B).follow (entry_of P A).follow) _ v.1 in (
        ltb-true A (length G) u.0,
        λ k f. all_member (λ x. member x (entry_of P A).follow) (first_of G P α) k v.0 (sym (first_of_lem α k) ∙ f),
        λ k n f. all_member (λ x. member x (entry_of P A).follow) (entry_of P B).follow k (implied (all_nullable G α) _ w.0 n) f,
        inside_of B α w.1,
      )

  leads_of : (r k : ℕ) (α : List Symbol) → ranks? G P r α ≡ true → Leads G P r k α
  leads_of r k [] h = leads_nil
  leads_of r k (terminal j ∷ α) h = leads_class
  leads_of r k (nonterminal B ∷ α) h = by (leads_of r k α) (predict P B k) (nullable G B) refl refl
    where
      u : (ltb (entry_of P B).rank r ≡ true) × (not (nullable G B) || ranks? G P r α ≡ true)
      u = both (ltb (entry_of P B).rank r) _ h

      by :
          (ranks? G P r α ≡ true → Leads G P r k α)
          → (o : Option ℕ) (b : Bool) → predict P B k ≡ o → nullable G B ≡ b → Leads G P r k (nonterminal B ∷ α)
      by f (some i) b p n = leads_in p (ltb-true (entry_of P B).rank r u.0)
      by f none true p n = leads_past p (f (implied (nullable G B) _ u.1 n))
      by f none false p n = leads_nowhere p n

  -- ---- each rule has a text

  record Under (A : ℕ) (c : Trees) : Type 0 where
    taken : Alternative
    is : alternative_of G A (entry_of P A).shortest ≡ some taken
    fits : Fits G taken.symbols c

  module _ (go : ℕ → Option Trees) (ih : (A : ℕ) (c : Trees) → go A ≡ some c → Under A c) where
    trees_by_fits : (α : List Symbol) (f : Trees) → trees_by G P go α ≡ some f → Fits G α f
    trees_by_fits [] f e = let q : nil ≡ f = cc in subst (λ x. Fits G [] x) q fits_nil
    trees_by_fits (terminal k ∷ α) f e = by (trees_by_fits α) (trees_by G P go α) refl
      where
        by :
            ((g : Trees) → trees_by G P go α ≡ some g → Fits G α g) → (o : Option Trees) → trees_by G P go α ≡ o
            → Fits G (terminal k ∷ α) f
        by r none q = let w : trees_by G P go (terminal k ∷ α) ≡ none = rw (q, trees_by) in clash cc
        by r (some g) q =
            let w : trees_by G P go (terminal k ∷ α) ≡ some (leaf (token k 0) g) = rw (q, trees_by) in
            let v : leaf (token k 0) g ≡ f = cc in
            subst (λ x. Fits G (terminal k ∷ α) x) v (fits_leaf (r g q))
    trees_by_fits (nonterminal A ∷ α) f e = by (trees_by_fits α) (go A) (trees_by G P go α) refl refl
      where
        by :
            ((g : Trees) → trees_by G P go α ≡ some g → Fits G α g) → (a o : Option Trees) → go A ≡ a → trees_by G P go α ≡ o
            → Fits G (nonterminal A ∷ α) f
        by r none o p q = let w : trees_by G P go (nonterminal A ∷ α) ≡ none = rw (p, trees_by) in clash cc
        by r (some c) none p q = let w : trees_by G P go (nonterminal A ∷ α) ≡ none = rw (p, q, trees_by) in clash cc
        by r (some c) (some g) p q =
            let w : trees_by G P go (nonterminal A ∷ α) ≡ some (node A (entry_of P A).shortest c g) = rw (p, q, trees_by) in
            let v : node A (entry_of P A).shortest c g ≡ f = cc in
            let t = ih A c p in
            subst (λ x. Fits G (nonterminal A ∷ α) x) v (fits_node t.is t.fits (r g q))

    trees_of_fits :
        (A : ℕ) (c : Trees) (o : Option Alternative)
        → alternative_of G A (entry_of P A).shortest ≡ o → trees_of G P go o ≡ some c → Under A c
    trees_of_fits A c none q e = clash cc
    trees_of_fits A c (some a) q e = record { taken = a; is = q; fits = trees_by_fits a.symbols c e }

  short_trees_fit : (n A : ℕ) (c : Trees) → short_trees G P n A ≡ some c → Under A c
  short_trees_fit zero A c e = clash cc
  short_trees_fit (suc n) A c e =
      trees_of_fits (short_trees G P n) (short_trees_fit n) A c (alternative_of G A (entry_of P A).shortest) refl e

  -- ---- the test, taken apart

  record RuleTested (A : ℕ) : Type 0 where
    alternatives : all_at (alternative? G P (get_or G A []) (entry_of P A)) (get_or G A []) ≡ true
    absent : not (nullable G A) || all (λ k. not (is_some (predict P A k))) (entry_of P A).follow ≡ true
    rank : ltb (entry_of P A).rank (length G) ≡ true

  record Tested (A i : ℕ) (a : Alternative) : Type 0 where
    tells : all (λ k. is_place (predict P A k) i) (first_of G P a.symbols) ≡ true
    told : subset (get_or (entry_of P A).firsts i []) (first_of G P a.symbols) ≡ true
    empty : not (all_nullable G a.symbols) || (eqb i 0 && (is_nil a.symbols && nullable G A)) ≡ true
    follow : follows? G P (entry_of P A).follow a.symbols ≡ true
    ranks : ranks? G P (entry_of P A).rank a.symbols ≡ true

  module _ (passes : ll1? G P ≡ true) where
    parts : (ltb 0 (length G) ≡ true) × (all_pairs (rule? G P) G P ≡ true) × (all_pairs (finishes? G P) G P ≡ true)
    unfolding ll1?
    parts =
        let u = both (ltb 0 (length G)) _ passes in
        let v = both (all_pairs (rule? G P) G P) _ u.1 in
        (u.0, v.0, v.1)

    rule_tested : (A : ℕ) → RuleTested A
    rule_tested A =
        let t = all_pairs_get_or (rule? G P) G P A [] (entry [] [] 0 0) parts.1 parts.0 in
        let u = both (all_at (alternative? G P (get_or G A []) (entry_of P A)) (get_or G A [])) _ t in
        let v = both (not (nullable G A) || all (λ k. not (is_some (predict P A k))) (entry_of P A).follow) _ u.1 in
        record { alternatives = u.0; absent = v.0; rank = v.1 }

    tested : (A i : ℕ) (a : Alternative) → alternative_of G A i ≡ some a → Tested A i a
    tested A i a e =
        let t = all_at_at (alternative? G P (get_or G A []) (entry_of P A)) (get_or G A []) i a (rule_tested A).alternatives e in
        let u = both (all (λ k. is_place (predict P A k) i) (first_of G P a.symbols)) _ t in
        let v = both (subset (get_or (entry_of P A).firsts i []) (first_of G P a.symbols)) _ u.1 in
        let w = both (not (all_nullable G a.symbols) || (eqb i 0 && (is_nil a.symbols && nullable G A))) _ v.1 in
        let x = both (follows? G P (entry_of P A).follow a.symbols) _ w.1 in
        record { tells = u.0; told = v.0; empty = w.0; follow = x.0; ranks = x.1 }

    text_of : (A : ℕ) → A < length G → (f : Trees) × Fits G (nonterminal A ∷ []) f
    text_of A h = by (short_trees G P (suc (length G)) A) refl (all_pairs_at (finishes? G P) G P A [] (entry [] [] 0 0) parts.2 h)
      where
        by :
            (o : Option Trees)
            → short_trees G P (suc (length G)) A ≡ o → is_some (short_trees G P (suc (length G)) A) ≡ true
            → (f : Trees) × Fits G (nonterminal A ∷ []) f
        by none q t = clash (let z = rw q at t in cc)
        by (some c) q t =
            let w = short_trees_fit (suc (length G)) A c q in
            (node A (entry_of P A).shortest c nil, fits_node w.is w.fits fits_nil)

    -- a grammar that passes the test is LL(1)
    pub ll1 : Ll1 G P
    ll1 = record {
      has_rule = ltb-true 0 (length G) parts.0;
      first_tells = λ A i k a e f.
          let m : member k (first_of G P a.symbols) ≡ true = sym (first_of_lem a.symbols k) ∙ f in
          is_place_lem (predict P A k) i (all_member (λ k. is_place (predict P A k) i) (first_of G P a.symbols) k (tested A i a e).tells m);
      told_first = λ A i k a e p.
          let m = find_member (entry_of P A).firsts k i p in
          let h = all_member (λ x. member x (first_of G P a.symbols)) (get_or (entry_of P A).firsts i []) k (tested A i a e).told m in
          first_of_lem a.symbols k ∙ h;
      empty_only = λ A i a e n.
          let u = both (eqb i 0) _ (implied (all_nullable G a.symbols) _ (tested A i a e).empty n) in
          let v = both (is_nil a.symbols) _ u.1 in
          (eqb-true i 0 u.0, is_nil_lem a.symbols v.0, v.1);
      empty_first = λ A n. starts_empty_lem (get_or G A []) n;
      follow_tells = λ A k n f.
          let h = implied (nullable G A) _ (rule_tested A).absent n in
          is_none (predict P A k) (all_member (λ k. not (is_some (predict P A k))) (entry_of P A).follow k h f);
      inside = λ A i a e. inside_of A a.symbols (tested A i a e).follow;
      leads = λ A i k a e. leads_of (entry_of P A).rank k a.symbols (tested A i a e).ranks;
      ranked = λ A. ltb-true (entry_of P A).rank (length G) (rule_tested A).rank;
      has_text = text_of;
    }
