-- Stage 11 as the code does it finds the first of the faults that grammar lists.
use Prim.Native.Nat.{ℕ, suc, ◌+◌, ◌-◌, ◌<◌}
use mathlib.Core.Path.{◌≡◌, refl, sym, ◌∙◌}
use mathlib.Core.Bool.{Bool, true, false, not, cond, ◌&&◌, ◌||◌, or-false}
use mathlib.Core.List.{List, [], ◌∷◌, ◌++◌}
use native.Mathlib.Decide.{ℕ_discrete}
use native.Mathlib.Omega.{arith}
use borrow.Author.Tests.{eq-eqb, ne_eqb, lt-ltb, eqb-true, eqb-false}
use lib.Dec.{eqb}
use Rattle.numbers.specs.Numbers.{used}
use Rattle.rows.specs.Codes as code
use Rattle.rows.specs.Columns as column
use Rattle.answers.specs.Rows.{Draft}
use Rattle.answers.specs.Stages.{cell, is, writes, any, place_of, repeated_names, row_among, form_round, rule_named, finds, in_vain, fault_if, unfound}
use Rattle.answers.proofs.RuleNames.{Once, any_first, named_once}
use Rattle.drafts.specs.Faults.{alone, first_fault}
use Rattle.drafts.specs.Sound.{SoundRow, SoundRows, First, none, some}
use Rattle.names.specs.Names.{find_in, declares_mark, first_row, Indexes}
use Rattle.stages.specs.References.{finds_question, finds_rule, reference_fault}
use Rattle.names.proofs.NameFaults.{first_after}
use Rattle.drafts.proofs.Firsts.{first_each}
use Rattle.drafts.proofs.RowTests.{other_code, any_same}
use Rattle.stages.proofs.RepeatFaults.{bears, Tells}

-- some row passes the test exactly where there is a first one
pub any_row : (p : Draft → Bool) (ds : List Draft) (i : ℕ) → not (eqb (first_row p i ds) 0) ≡ any p ds
unfolding any first_row
any_row p [] i = refl
any_row p (d ∷ ds) i = go (p d) (any_row p ds (i + 1))
  where
    go : (b : Bool) → not (eqb (first_row p (i + 1) ds) 0) ≡ any p ds → not (eqb (cond b (i + 1) (first_row p (i + 1) ds)) 0) ≡ (b || any p ds)
    go true h = rw (ne_eqb (i + 1) 0 (λ e. omega arith))
    go false h = h

-- a fault, unless something is found
unless : (b : Bool) {m : ℕ} → 0 < m → First (cond b 0 m) (fault_if (not b) m)
unless true h = none
unless false h = some h

unless_alone : (b : Bool) {m : ℕ} → 0 < m → First (cond b 0 m) (fault_if (not b) m ++ [])
unless_alone true h = none
unless_alone false h = some h

-- of the first row that passes a test which no other row passes, what another test says
any_once :
    (p q : Draft → Bool) (ds : List Draft) (i : ℕ) → Once p ds
    → cond (eqb (first_row p i ds) 0) false (q (row_among ds (first_row p i ds - (i + 1)))) ≡ any (λ e. p e && q e) ds
unfolding any first_row
any_once p q [] i o = refl
any_once p q (d ∷ ds) i o = go (p d) refl (any_once p q ds (i + 1) o.1)
  where
    later : ℕ
    later = first_row p (i + 1) ds

    go :
        (b : Bool) → p d ≡ b → cond (eqb later 0) false (q (row_among ds (later - (i + 1 + 1)))) ≡ any (λ e. p e && q e) ds
        → cond (eqb (cond b (i + 1) later) 0) false (q (row_among (d ∷ ds) (cond b (i + 1) later - (i + 1)))) ≡ (b && q d || any (λ e. p e && q e) ds)
    go true e h =
        let here : i + 1 - (i + 1) ≡ 0 = omega arith in
        rw (ne_eqb (i + 1) 0 (λ z. omega arith), here, any_first p q ds (o.0 e)) (sym (or-false (q d)))
    go false e h = by (ℕ_discrete later 0)
      where
        by : Dec (later ≡ 0) → cond (eqb later 0) false (q (row_among (d ∷ ds) (later - (i + 1)))) ≡ any (λ e. p e && q e) ds
        by (yes z) = rw (eq-eqb later 0 z) (rw (eq-eqb later 0 z) at h)
        by (no z) =
            let next : later - (i + 1) ≡ suc (later - (i + 1 + 1)) = omega (arith, first_after p (i + 1) ds (omega (arith, z))) in
            rw next h

module _ {ds : List Draft} {s xs : List ℕ} (index : Indexes s ds xs) where
  -- the index finds a row exactly where one declares the name
  index_tells : (m : ℕ) (rule : Bool) → 0 < m → not (eqb (find_in s xs m rule) 0) ≡ any (declares_mark s m rule) ds
  index_tells m rule h = rw (index.finds m rule h) (any_row (declares_mark s m rule) ds 0)

  -- what a reference finds, by its code and number
  module _ (d : Draft) where
    -- a rule of the name, and of the form that it stands in
    in_form : Draft → Bool
    in_form e = eqb (cell column.PARENT e) (form_round ds d)

    finds_rule_lem : is code.RULE_REF d ≡ true → any (finds s ds d) ds ≡ any (λ e. rule_named s (place_of d.own_at) e && in_form e) ds
    unfolding in_form
    finds_rule_lem e = any_same (finds s ds d) _ (λ x. rw e) ds

    module _ (e : is code.RULE_REF d ≡ false) where
      finds_named : cell column.A d ≡ 0 → any (finds s ds d) ds ≡ any (declares_mark s d.own_at false) ds
      finds_named z = any_same (finds s ds d) (declares_mark s d.own_at false) (λ x. rw (e, z)) ds

      finds_numbered : (cell column.A d ≡ 0 → ⊥) → any (finds s ds d) ds ≡ any (bears writes (cell column.A d)) ds
      finds_numbered z = any_same (finds s ds d) (bears writes (cell column.A d)) (λ x. rw (e, lt-ltb 0 (cell column.A d) (omega (arith, z)))) ds

  module _ {forms written : List ℕ} (f : Tells (is code.FORM) forms ds) (w : Tells writes written ds) where
    question_tells : (d : Draft) → is code.QUESTION_REF d ≡ true → 0 < d.own_at → finds_question s xs written d ≡ any (finds s ds d) ds
    unfolding finds_question
    question_tells d e h = go (eqb (cell column.A d) 0) refl (other_code d code.QUESTION_REF code.RULE_REF e refl)
      where
        go : (b : Bool) → eqb (cell column.A d) 0 ≡ b → is code.RULE_REF d ≡ false
            → cond b (not (eqb (find_in s xs d.own_at false) 0)) (used written (cell column.A d)) ≡ any (finds s ds d) ds
        go true z r = index_tells d.own_at false h ∙ sym (finds_named d r (eqb-true _ _ z))
        go false z r = w.same (cell column.A d) ∙ sym (finds_numbered d r (eqb-false _ _ z))

    -- the rule of the name is the one that the index finds, where no other rule has it
    rule_tells :
        (d : Draft) → is code.RULE_REF d ≡ true → 0 < d.own_at
        → Once (rule_named s (place_of d.own_at)) ds → finds_rule s xs ds d ≡ any (finds s ds d) ds
    unfolding finds_rule in_form
    rule_tells d e h o =
        rw (index.finds d.own_at true h)
        (any_once (rule_named s (place_of d.own_at)) (in_form d) ds 0 o ∙ sym (finds_rule_lem d e))

    reference_first : (d : Draft) → SoundRow d → ((p : ℕ) → Once (rule_named s p) ds) → First (reference_fault s xs forms written ds d) (in_vain s ds d)
    unfolding reference_fault
    reference_first d u names = go (is code.GOTO d) refl (is code.QUESTION_REF d) refl (is code.RULE_REF d) refl
      where
        go : (a : Bool) → is code.GOTO d ≡ a → (b : Bool) → is code.QUESTION_REF d ≡ b → (c : Bool) → is code.RULE_REF d ≡ c
            → First (reference_fault s xs forms written ds d) (in_vain s ds d)
        go true x b y c z =
            rw (x, other_code d code.GOTO code.QUESTION_REF x refl, other_code d code.GOTO code.RULE_REF x refl, f.same (cell column.A d))
            (unless_alone (any (bears (is code.FORM) (cell column.A d)) ds) (u.limit_written (rw x)))
        go false x true y c z =
            let o : 0 < d.own_at = u.reference (rw y) in
            rw (x, y, question_tells d y o) (unless (any (finds s ds d) ds) o)
        go false x false y true z =
            let o : 0 < d.own_at = u.reference (rw (y, z)) in
            rw (x, y, z, rule_tells d z o (names (place_of d.own_at))) (unless (any (finds s ds d) ds) o)
        go false x false y false z = rw (x, y, z) none

-- stage 11 answers grammar's first fault, where stage 9 has none
pub references_first :
    {ds : List Draft} → SoundRows ds → {s xs : List ℕ} → Indexes s ds xs → {forms written : List ℕ} → Tells (is code.FORM) forms ds → Tells writes written ds
    → repeated_names s ds ≡ []
    → First (first_fault (alone (reference_fault s xs forms written ds)) ds) (unfound s ds)
unfolding unfound
references_first {ds} v {s} {xs} index f w names =
    first_each (alone (reference_fault s xs _ _ ds)) (λ before d. in_vain s ds d)
    (λ before d rest u. reference_first index f w d u (λ p. named_once s p ds names)) v.each []
