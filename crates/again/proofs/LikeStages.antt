-- Stages 7, 10 and 12 find no fault in rows that are like rows without one.
-- Assumes nothing.
use mathlib.Core.Path.{◌≡◌, refl}
use mathlib.Core.List.{List, [], ◌++◌}
use mathlib.Core.Bool.{Bool, true, cond, ◌&&◌}
use Prim.Native.Nat.{ℕ}
use lib.Dec.{eqb, ltb}
use Rattle.lexemes.proofs.Lists.{either}
use Rattle.rows.specs.Codes as code
use Rattle.rows.specs.Columns as column
use Rattle.answers.specs.Rows.{Draft}
use Rattle.grammar.specs.Parts.{mark}
use Rattle.answers.specs.Stages.{cell, is, any, fault_if, repeated_forms, rules_over_limit, bad_choices, below, outside, beside, numeric_faults, option_faults}
use Rattle.again.specs.Matches.{Pairs, no_pairs}
use Rattle.again.proofs.Lists.{any_pairs}
use Rattle.answers.proofs.Faults.{no_fault_lem}
use Rattle.again.proofs.Faults.{no_faults, clean_like}
use Rattle.again.proofs.NumberedDrafts.{form_not, rule_not}
use Rattle.again.proofs.Likeness.{Like, is_same, own_of, a_of}

-- the same tests
like_fault : {b' b : Bool} (m' m : ℕ) → b' ≡ b → fault_if b m ≡ [] → fault_if b' m' ≡ []
like_fault {b = b} m' m e h = rw (e, no_fault_lem b m h)

like_faults : {a' a b' b : Bool} (m' m n' n : ℕ) → a' ≡ a → b' ≡ b → fault_if a m ++ fault_if b n ≡ [] → fault_if a' m' ++ fault_if b' n' ≡ []
like_faults {a = a} {b = b} m' m n' n e f h = let t = no_faults a b m n h in rw (e, f, t.0, t.1)

-- ---- 7: form numbers

-- a form with a number
pub form_like : (k n : ℕ) → k ≡ n → (d' d : Draft) → Like d' d → (is code.FORM d' && eqb (cell column.OWN d') k) ≡ (is code.FORM d && eqb (cell column.OWN d) n)
form_like k n e d' d l = either (is code.FORM d) (λ f. rw (is_same l code.FORM, f, own_of l code.FORM form_not f, e)) (λ f. rw (is_same l code.FORM, f))

pub forms_like : {ds' ds : List Draft} → Pairs Like ds' ds → repeated_forms ds ≡ [] → repeated_forms ds' ≡ []
unfolding repeated_forms
forms_like p e = clean_like _ (λ before' before d' d b l h. like_fault d'.own_at d.own_at (test b l) h) no_pairs p e
  where
    test :
        {before' before : List Draft} {d' d : Draft} → Pairs Like before' before → Like d' d
        → (is code.FORM d' && any (λ e. is code.FORM e && eqb (cell column.OWN e) (cell column.OWN d')) before')
        ≡ (is code.FORM d && any (λ e. is code.FORM e && eqb (cell column.OWN e) (cell column.OWN d)) before)
    test {d' = d'} {d = d} b l =
        either (is code.FORM d)
        (λ f. rw (is_same l code.FORM, f) (any_pairs _ _ (form_like (cell column.OWN d') (cell column.OWN d) (own_of l code.FORM form_not f)) b))
        (λ f. rw (is_same l code.FORM, f))

-- ---- 10: rules

pub limit_like : {ds' ds : List Draft} → Pairs Like ds' ds → rules_over_limit ds ≡ [] → rules_over_limit ds' ≡ []
unfolding rules_over_limit
limit_like p e = clean_like _ (λ before' before d' d b l h. like_fault (mark (cell column.PLACE d')) (mark (cell column.PLACE d)) (test l) h) no_pairs p e
  where
    test : {d' d : Draft} → Like d' d → (is code.RULE d' && ltb 255 (cell column.OWN d')) ≡ (is code.RULE d && ltb 255 (cell column.OWN d))
    test {d = d} l = either (is code.RULE d) (λ f. rw (is_same l code.RULE, f, own_of l code.RULE rule_not f)) (λ f. rw (is_same l code.RULE, f))

-- ---- 12: choices

-- the rows compare numbers alike
below_like : {d' d : Draft} → Like d' d → (x y : ℕ) → below d' x y ≡ below d x y
unfolding below
below_like l x y = rw l.size_same

numeric_like : {d' d : Draft} → Like d' d → is code.NUMERIC d ≡ true → numeric_faults d ≡ [] → numeric_faults d' ≡ []
numeric_like {d'} {d} l e h =
    let a = a_of l code.NUMERIC refl refl e in
    let limits : below d' (cell column.B d') (cell column.A d') ≡ below d (cell column.B d) (cell column.A d) = rw (l.b_same, a, below_like l) in
    let defaults : (ltb 0 d'.default_at && outside d') ≡ (ltb 0 d.default_at && outside d) =
    rw (l.default_same, l.d_same, l.b_same, a) (simp (below_like l)) in
    like_faults d'.limit_at d.limit_at d'.default_at d.default_at limits defaults h

-- an option beside another, with the same value
beside_like : {d' d : Draft} → Like d' d → (e' e : Draft) → Like e' e → beside d' e' ≡ beside d e
beside_like l e' e k = rw (is_same k code.OPTION, k.parent_same, l.parent_same)

value_like : {d' d : Draft} → Like d' d → is code.OPTION d ≡ true → (e' e : Draft) → Like e' e → (beside d' e' && eqb (cell column.A e') (cell column.A d')) ≡ (beside d e && eqb (cell column.A e) (cell column.A d))
value_like {d'} {d} l o e' e k =
    either (is code.OPTION e)
    (λ f. rw (beside_like l e' e k, a_of k code.OPTION refl refl f, a_of l code.OPTION refl refl o))
    (λ f. rw (beside_like l e' e k, f))

default_like : {d' d : Draft} → Like d' d → (e' e : Draft) → Like e' e → (beside d' e' && ltb 0 e'.default_at) ≡ (beside d e && ltb 0 e.default_at)
default_like l e' e k = rw (beside_like l e' e k, k.default_same)

option_like : {before' before : List Draft} {d' d : Draft} → Pairs Like before' before → Like d' d → is code.OPTION d ≡ true → option_faults before d ≡ [] → option_faults before' d' ≡ []
option_like {before'} {before} {d'} {d} b l o h =
    let defaults : (ltb 0 d'.default_at && any (λ e. beside d' e && ltb 0 e.default_at) before') ≡ (ltb 0 d.default_at && any (λ e. beside d e && ltb 0 e.default_at) before) =
    rw (l.default_same, any_pairs _ _ (default_like l) b) in
    like_faults d'.limit_at d.limit_at d'.default_at d.default_at (any_pairs _ _ (value_like l o) b) defaults h

pub choices_like : {ds' ds : List Draft} → Pairs Like ds' ds → bad_choices ds ≡ [] → bad_choices ds' ≡ []
unfolding bad_choices
choices_like p e = clean_like _ (λ before' before d' d b l h. test b l h) no_pairs p e
  where
    test :
        {before' before : List Draft} {d' d : Draft} → Pairs Like before' before → Like d' d
        → cond (is code.NUMERIC d) (numeric_faults d) (cond (is code.OPTION d) (option_faults before d) []) ≡ []
        → cond (is code.NUMERIC d') (numeric_faults d') (cond (is code.OPTION d') (option_faults before' d') []) ≡ []
    test {d = d} b l h =
        rw (is_same l code.NUMERIC, is_same l code.OPTION)
        (either (is code.NUMERIC d)
        (λ f. rw f (numeric_like l f (rw f at h)))
        (λ f. rw f (either (is code.OPTION d) (λ o. rw o (option_like b l o (rw (f, o) at h))) (λ o. rw o))))
