-- Stage 14 in W-202's terms: the references at fault are the steps on a circle, by paths; without one no rule reaches itself.
-- Assumes nothing.
use Prim.Native.Nat.{ℕ}
use native.Mathlib.Omega.{arith}
use mathlib.Core.Path.{◌≡◌, refl, sym, ◌∙◌}
use mathlib.Core.Bool.{Bool, true, false, true≢false, cond, ◌&&◌, ◌||◌, or-true, or-false}
use mathlib.Core.Logic.{◌↔◌, ⊎_elim}
use mathlib.Core.List.{List, [], ◌∷◌, ◌++◌}
use borrow.Author.Tests.{eqb-true, eq-eqb}
use lib.Dec.{eqb}
use lib.ListN.{get_or}
use Rattle.numbers.proofs.Ranges.{and_yes}
use Rattle.rows.specs.Codes as code
use Rattle.rows.specs.Columns as column
use Rattle.circles.specs.Circles.{is_rule, leads, Circular, NoCircle}
use Rattle.circles.proofs.Reaching.{or_yes, circle_path, path_circle}
use Rattle.circles.proofs.Steps.{rule_range, leads_append}
use Rattle.rule_steps.specs.Steps.{rule_round, rule_found, is_step, step_in, steps_among, rule_steps, greatest}
use Rattle.rule_steps.proofs.Theorems.{steps_within}
use Rattle.answers.specs.Rows.{Draft}
use Rattle.answers.specs.Stages.{is, fault_if, faults_after, draft_rows, settled, finished, on_circle, circular_references}
use Rattle.answers.specs.Demand3.{StepOfCircle, FirstOnCircle, this, later}
use Rattle.answers.proofs.Faults.{no_fault_lem, clean_first}

module _ (rows : List (List ℕ)) where
  -- a row is at fault exactly where it is a step between rules, and there is a way back by the steps of all rows
  pub on_circle_lem : (r : List ℕ) → (on_circle rows r ≡ true) ↔ StepOfCircle rows r
  unfolding on_circle
  on_circle_lem r = (
    λ e.
        let z = and_yes (is_step rows r) _ e in
        (z.0, circle_path (rule_steps rows) (greatest (rule_steps rows)) (steps_within rows) (rule_round rows r) (rule_found rows r) z.1),
    λ p. rw (p.0, path_circle (rule_steps rows) (greatest (rule_steps rows)) (steps_within rows) p.1),
  )

  -- such a row is a ruleref
  round_reference : (r : List ℕ) → is_rule (rule_round rows r) ≡ true → eqb (get_or r column.CODE 0) code.RULE_REF ≡ true
  unfolding rule_round
  round_reference r = go (eqb (get_or r column.CODE 0) code.RULE_REF) (eqb (get_or parent column.CODE 0) code.RULE)
    where
      parent : List ℕ
      parent = get_or rows (get_or r column.PARENT 0) []

      go : (t u : Bool) → is_rule (cond (t && u) (get_or parent column.OWN 0) 0) ≡ true → t ≡ true
      go true u e = refl
      go false u e = absurd (omega (arith, rule_range 0 e))

  pub circle_reference : (d : Draft) → on_circle rows d.row ≡ true → is code.RULE_REF d ≡ true
  unfolding on_circle
  circle_reference d e =
      let step = (and_yes (is_step rows d.row) _ e).0 in
      round_reference d.row (and_yes (is_rule (rule_round rows d.row)) (is_rule (rule_found rows d.row)) step).0

  -- a row that is a step leads
  pub step_leads : (r : List ℕ) → is_step rows r ≡ true → leads (step_in rows r) (rule_round rows r) (rule_found rows r) ≡ true
  unfolding step_in leads
  step_leads r e = rw (e, eq-eqb (rule_round rows r) (rule_round rows r) refl, eq-eqb (rule_found rows r) (rule_found rows r) refl)

  -- the faults of the rows, as the stage lists them
  abbrev pub faults : List Draft → Draft → List ℕ
  faults before d = fault_if (on_circle rows d.row) d.own_at

  -- ---- no fault, no circle

  -- the step of a row
  pub step_of : (r : List ℕ) (a b : ℕ) → leads (step_in rows r) a b ≡ true → (is_step rows r ≡ true) × (rule_round rows r ≡ a) × (rule_found rows r ≡ b)
  unfolding step_in leads
  step_of r a b = go (is_step rows r)
    where
      x : ℕ
      x = rule_round rows r

      y : ℕ
      y = rule_found rows r

      go : (t : Bool) → leads (cond t (record { from = x; to = y } ∷ []) []) a b ≡ true → (t ≡ true) × (x ≡ a) × (y ≡ b)
      go true e = let z = and_yes (eqb x a) (eqb y b) (sym (or-false (eqb x a && eqb y b)) ∙ e) in (refl, eqb-true x a z.0, eqb-true y b z.1)
      go false e = absurd (true≢false (sym e))

  no_step : (a b : ℕ) → leads [] a b ≡ true → ⊥
  unfolding leads
  no_step a b e = true≢false (sym e)

  -- where no row is at fault, no step of theirs has a way back
  none_back :
      (ds before : List Draft) → faults_after faults before ds ≡ [] → (a b : ℕ) → leads (steps_among rows (draft_rows ds)) a b ≡ true
      → Circular (rule_steps rows) a b → ⊥
  unfolding faults_after steps_among
  none_back [] before e a b f p = no_step a b f
  none_back (d ∷ ds) before e a b f p =
      let none = clean_first (λ d. fault_if (on_circle rows d.row) d.own_at) d ds before e in
      ⊎_elim
      (λ g.
      let u = step_of d.row a b g in
      let back : Circular (rule_steps rows) (rule_round rows d.row) (rule_found rows d.row) = rw (u.1, u.2) p in
      true≢false (sym ((on_circle_lem d.row).1 (u.0, back)) ∙ no_fault_lem _ d.own_at none.0))
      (λ g. none_back ds (d ∷ before) none.1 a b g p)
      (or_yes (leads (step_in rows d.row) a b) _ (sym (leads_append (step_in rows d.row) (steps_among rows (draft_rows ds)) a b) ∙ f))

  -- and where no step of all rows has one, none of these, whose steps are among them, is at fault
  none_at_fault :
      (ds before : List Draft) → ((a b : ℕ) → leads (steps_among rows (draft_rows ds)) a b ≡ true → leads (rule_steps rows) a b ≡ true)
      → NoCircle (rule_steps rows) → faults_after faults before ds ≡ []
  unfolding faults_after steps_among
  none_at_fault [] before h free = refl
  none_at_fault (d ∷ ds) before h free = rw (off (on_circle rows d.row) refl) (none_at_fault ds (d ∷ before) (λ a b e. h a b (later a b e)) free)
    where
      x : ℕ
      x = rule_round rows d.row

      y : ℕ
      y = rule_found rows d.row

      both :
          (a b : ℕ)
          → leads (step_in rows d.row ++ steps_among rows (draft_rows ds)) a b
          ≡ (leads (step_in rows d.row) a b || leads (steps_among rows (draft_rows ds)) a b)
      both = leads_append (step_in rows d.row) (steps_among rows (draft_rows ds))

      later : (a b : ℕ) → leads (steps_among rows (draft_rows ds)) a b ≡ true → leads (step_in rows d.row ++ steps_among rows (draft_rows ds)) a b ≡ true
      later a b e = both a b ∙ rw (e, or-true (leads (step_in rows d.row) a b))

      off : (t : Bool) → on_circle rows d.row ≡ t → t ≡ false
      off true e = let u = (on_circle_lem d.row).0 e in absurd (free x y (h x y (both x y ∙ rw (step_leads d.row u.0))) u.1)
      off false e = refl

-- the stage lists no name exactly when no step between the rules of the rows stands on a circle
pub circle_free : (ds : List Draft) → (circular_references ds ≡ []) ↔ NoCircle (rule_steps (draft_rows ds))
unfolding circular_references
circle_free ds = (
  λ e a b. none_back (draft_rows ds) ds [] e a b,
  λ free. none_at_fault (draft_rows ds) ds [] (λ a b e. e) free,
)

-- of settled drafts: the steps are those of the finished rows
pub settled_free : (s : List ℕ) (ds : List Draft) → (circular_references (settled s ds) ≡ []) ↔ NoCircle (rule_steps (finished s ds))
unfolding finished
settled_free s ds = circle_free (settled s ds)

-- ---- the first name listed

module _ (rows : List (List ℕ)) (m : ℕ) where
  -- the first of the drafts that is a step on a circle is the first that the stage lists
  listed_first : (ds before : List Draft) {ms : List ℕ} → faults_after (faults rows) before ds ≡ m ∷ ms → FirstOnCircle rows m ds
  unfolding faults_after
  listed_first [] before e = absurd (let z : ◌≡◌ {A = ℕ} 0 1 = cc in omega arith)
  listed_first (d ∷ ds) before {ms} e = go (on_circle rows d.row) refl e (λ g. listed_first ds (d ∷ before) g)
    where
      go :
          (t : Bool) → on_circle rows d.row ≡ t → fault_if t d.own_at ++ faults_after (faults rows) (d ∷ before) ds ≡ m ∷ ms
          → (faults_after (faults rows) (d ∷ before) ds ≡ m ∷ ms → FirstOnCircle rows m ds) → FirstOnCircle rows m (d ∷ ds)
      go true f g more = let named : d.own_at ≡ m = cc in this ((on_circle_lem rows d.row).0 f) named
      go false f g more = later (λ p. true≢false (sym ((on_circle_lem rows d.row).1 p) ∙ f)) (more g)

  first_listed : {ds : List Draft} → FirstOnCircle rows m ds → (before : List Draft) → (ms : List ℕ) × (faults_after (faults rows) before ds ≡ m ∷ ms)
  unfolding faults_after
  first_listed (this {d = d} {ds = ds} p e) before = (faults_after (faults rows) (d ∷ before) ds, rw ((on_circle_lem rows d.row).1 p, e))
  first_listed (later {d = d} h k) before =
      let f = first_listed k (d ∷ before) in (f.0, rw (off (on_circle rows d.row) refl) f.1)
    where
      off : (t : Bool) → on_circle rows d.row ≡ t → t ≡ false
      off true e = absurd (h ((on_circle_lem rows d.row).0 e))
      off false e = refl

module _ (s : List ℕ) (ds : List Draft) (m : ℕ) where
  pub circle_first : {ms : List ℕ} → circular_references (settled s ds) ≡ m ∷ ms → FirstOnCircle (finished s ds) m (settled s ds)
  unfolding circular_references finished
  circle_first e = listed_first (draft_rows (settled s ds)) m (settled s ds) [] e

  pub circle_listed : FirstOnCircle (finished s ds) m (settled s ds) → (ms : List ℕ) × (circular_references (settled s ds) ≡ m ∷ ms)
  unfolding circular_references finished
  circle_listed f = first_listed (draft_rows (settled s ds)) m f []
