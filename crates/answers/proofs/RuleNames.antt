-- Rule names stay unique in the form set (document 02, W-203): where stage 9 finds no fault, at most one rule declares a name. So a rule that is found
-- by its name is the one that a ruleref finds, if it is of its form.
-- Assumes nothing.
use mathlib.Core.Path.{◌≡◌, refl, sym, ap₂, ◌∙◌}
use mathlib.Core.List.{List, [], ◌∷◌, map}
use mathlib.Core.Bool.{Bool, true, false, cond, ◌&&◌, ◌||◌, or-true, true≢false}
use Prim.Native.Nat.{ℕ, zero, suc, ◌<◌}
use native.Mathlib.Omega.{arith}
use lib.Dec.{ltb}
use lib.ListN.{length}
use Rattle.lexemes.proofs.Lists.{either, and_true}
use Rattle.lexemes.proofs.Equality.{same_word_true, eq_same_word}
use Rattle.rows.specs.Codes as code
use Rattle.rows.specs.Columns as column
use Rattle.ll1.proofs.Basics.{clash, append_empty}
use Rattle.answers.specs.Rows.{Draft}
use Rattle.answers.specs.Stages.{cell, is, asks, any, fault_if, faults_after, place_of, same_sort, declares, row_among, rule_named, repeated_names, own_of_first}
use Rattle.answers.proofs.Faults.{no_fault_lem}

-- ---- a test that at most one row passes

abbrev pub Once : (Draft → Bool) → List Draft → Type 0
Once p [] = Unit {0}
Once p (d ∷ ds) = (p d ≡ true → any p ds ≡ false) × Once p ds

-- a row that passes the test
pub any_row : (p : Draft → Bool) (ds : List Draft) (j : ℕ) → j < length ds → p (row_among ds j) ≡ true → any p ds ≡ true
unfolding any
any_row p [] j h x = absurd (omega arith)
any_row p (d ∷ ds) zero h x = rw x
any_row p (d ∷ ds) (suc j) h x = rw (any_row p ds j (omega arith) x) (or-true (p d))

module _ (p q : Draft → Bool) where
  -- a row that passes two tests passes the first
  pub any_first : (ds : List Draft) → any p ds ≡ false → any (λ e. p e && q e) ds ≡ false
  unfolding any
  any_first [] h = refl
  any_first (d ∷ ds) h = go (p d) (any_first ds) h
    where
      go : (b : Bool) → (any p ds ≡ false → any (λ e. p e && q e) ds ≡ false) → (b || any p ds) ≡ false → (b && q d || any (λ e. p e && q e) ds) ≡ false
      go true f h = absurd (true≢false h)
      go false f h = f h

  -- where only one passes the first, and some row passes both, it is that one
  pub own_once : (s : List ℕ) (ds : List Draft) → Once p ds → any (λ e. p e && q e) ds ≡ true → own_of_first s (λ e. p e && q e) ds ≡ own_of_first s p ds
  unfolding any own_of_first
  own_once s [] o h = refl
  own_once s (d ∷ ds) o h = go (p d) refl (q d) (own_once s ds o.1) h
    where
      go :
          (b : Bool) → p d ≡ b → (c : Bool) → (any (λ e. p e && q e) ds ≡ true → own_of_first s (λ e. p e && q e) ds ≡ own_of_first s p ds)
          → (b && c || any (λ e. p e && q e) ds) ≡ true
          → cond (b && c) (cell column.OWN d) (own_of_first s (λ e. p e && q e) ds) ≡ cond b (cell column.OWN d) (own_of_first s p ds)
      go true e true f h = refl
      go true e false f h = absurd (true≢false (sym h ∙ any_first ds (o.0 e)))
      go false e c f h = f h

  -- and where that one fails the second, none passes both
  pub any_only :
      (ds : List Draft) → Once p ds → (j : ℕ) → j < length ds → p (row_among ds j) ≡ true → q (row_among ds j) ≡ false → any (λ e. p e && q e) ds ≡ false
  unfolding any
  any_only [] o j h x y = absurd (omega arith)
  any_only (d ∷ ds) o zero h x y = rw (x, y) (any_first ds (o.0 x))
  any_only (d ∷ ds) o (suc j) h x y = go (p d) refl (any_only ds o.1 j (omega arith) x y)
    where
      go : (b : Bool) → p d ≡ b → any (λ e. p e && q e) ds ≡ false → (b && q d || any (λ e. p e && q e) ds) ≡ false
      go true e f = absurd (true≢false (sym (any_row p ds j (omega arith) x) ∙ o.0 e))
      go false e f = f

-- rows of which a test says the same
pub same_any : (p : Draft → Bool) (ds es : List Draft) → map p ds ≡ map p es → any p ds ≡ any p es
unfolding any
same_any p [] [] e = refl
same_any p [] (y ∷ es) e = clash cc
same_any p (x ∷ ds) [] e = clash cc
same_any p (x ∷ ds) (y ∷ es) e = let z : p x ≡ p y = cc in ap₂ ◌||◌ z (same_any p ds es (cc))

pub same_once : (p : Draft → Bool) (ds es : List Draft) → map p ds ≡ map p es → Once p ds → Once p es
same_once p [] [] e o = tt
same_once p [] (y ∷ es) e o = clash cc
same_once p (x ∷ ds) [] e o = clash cc
same_once p (x ∷ ds) (y ∷ es) e o =
    let z : p x ≡ p y = cc in
    let l : map p ds ≡ map p es = cc in
    ((λ h. sym (same_any p ds es l) ∙ o.0 (z ∙ h)), same_once p ds es l o.1)

-- ---- stage 9

module _ (s : List ℕ) (p : ℕ) where
  -- two rules that declare the name at p have the same
  same_names :
      (d e : Draft) → rule_named s p d ≡ true → rule_named s p e ≡ true
      → (ltb 0 (cell column.NAME d) && (same_sort s d e && declares s (place_of (cell column.NAME d)) e)) ≡ true
  same_names d e x y =
      let u = and_true (is code.RULE d) _ x in
      let v = and_true (is code.RULE e) _ y in
      let m = and_true (ltb 0 (cell column.NAME d)) _ u.1 in
      let n = and_true (ltb 0 (cell column.NAME e)) _ v.1 in
      let words = same_word_true s _ p n.1 ∙ sym (same_word_true s _ p m.1) in
      rw (
        m.0,
        u.0,
        v.0,
        or-true (asks d && asks e),
        n.0,
        eq_same_word s (place_of (cell column.NAME e)) (place_of (cell column.NAME d)) words,
      )

  abbrev name_faults : List Draft → Draft → List ℕ
  name_faults before d =
      fault_if (ltb 0 (cell column.NAME d) && any (λ e. same_sort s d e && declares s (place_of (cell column.NAME d)) e) before) (cell column.NAME d)

  -- some of the rows do
  any_named : (d : Draft) → rule_named s p d ≡ true → (ds : List Draft) → any (rule_named s p) ds ≡ true
      → (ltb 0 (cell column.NAME d) && any (λ e. same_sort s d e && declares s (place_of (cell column.NAME d)) e) ds) ≡ true
  unfolding any
  any_named d x [] h = absurd (true≢false (sym h))
  any_named d x (e ∷ ds) h = go (rule_named s p e) refl (any_named d x ds) h
    where
      m : Bool
      m = ltb 0 (cell column.NAME d)

      this : Bool
      this = same_sort s d e && declares s (place_of (cell column.NAME d)) e

      go :
          (b : Bool) → rule_named s p e ≡ b
          → (any (rule_named s p) ds ≡ true → (m && any (λ e. same_sort s d e && declares s (place_of (cell column.NAME d)) e) ds) ≡ true)
          → (b || any (rule_named s p) ds) ≡ true
          → (m && (this || any (λ e. same_sort s d e && declares s (place_of (cell column.NAME d)) e) ds)) ≡ true
      go true y f h = let u = and_true m this (same_names d e x y) in rw (u.0, u.1)
      go false y f h = let u = and_true m _ (f h) in rw (u.0, u.1) (or-true this)

  -- a row that has the name, where stage 9 finds no fault in it: no row before it has
  none_before :
      (before : List Draft) (d : Draft) → name_faults before d ≡ [] → rule_named s p d ≡ true → any (rule_named s p) before ≡ false
  none_before before d e x =
      either (any (rule_named s p) before)
      (λ y. absurd (true≢false (sym (any_named d x before y) ∙ no_fault_lem _ (cell column.NAME d) e)))
      (λ y. y)

  -- after some rows: if one of them has the name, none of these does; and at most one of these
  once_after :
      (before ds : List Draft) → faults_after name_faults before ds ≡ []
      → (any (rule_named s p) before ≡ true → any (rule_named s p) ds ≡ false) × Once (rule_named s p) ds
  unfolding any faults_after
  once_after before [] e = ((λ h. refl), tt)
  once_after before (d ∷ ds) e =
      let t = append_empty (name_faults before d) _ e in
      let rest = once_after (d ∷ before) ds t.1 in
      ((λ h. none (λ x. true≢false (sym h ∙ none_before before d t.0 x)) (rest.0 (rw h (or-true (rule_named s p d))))), ((λ x. rest.0 (rw x)), rest.1))
    where
      none : (rule_named s p d ≡ true → ⊥) → any (rule_named s p) ds ≡ false → (rule_named s p d || any (rule_named s p) ds) ≡ false
      none h e = either (rule_named s p d) (λ x. absurd (h x)) (λ x. rw (x, e))

  pub named_once : (ds : List Draft) → repeated_names s ds ≡ [] → Once (rule_named s p) ds
  unfolding repeated_names
  named_once ds e = (once_after [] ds e).1
