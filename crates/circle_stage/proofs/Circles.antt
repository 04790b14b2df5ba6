-- The first mark by the closed map of the rows' steps is the first of a row that is a step on a circle.
use Prim.Native.Nat.{ℕ}
use mathlib.Core.Path.{◌≡◌, refl, sym, ap, ◌∙◌}
use mathlib.Core.Bool.{Bool, true, false, cond, ◌&&◌, or-true}
use mathlib.Core.List.{List, [], ◌∷◌, ◌++◌}
use native.Mathlib.Omega.{arith}
use Rattle.numbers.specs.Numbers.{empty_map}
use Rattle.circles.specs.Circles.{is_rule, leads, Maps, Closed, circular, circular_in}
use Rattle.circles.proofs.Steps.{rule_range, leads_append, circular_none, closed_circular}
use Rattle.numbers.proofs.Ranges.{and_yes}
use Rattle.rule_steps.specs.Steps.{rule_round, rule_found, is_step, step_in, steps_among, rule_steps, table_steps, greatest, all_added}
use Rattle.rule_steps.proofs.Loop.{greatest_append}
use Rattle.rule_steps.proofs.Theorems.{steps_within, steps_mapped}
use Rattle.answers.specs.Rows.{Draft}
use Rattle.answers.specs.Drafts.{drafts_from}
use Rattle.answers.specs.Stages.{draft_rows, on_circle}
use Rattle.answers.proofs.Circles.{step_leads}
use Rattle.drafts.specs.Faults.{alone, first_fault}
use Rattle.circle_stage.specs.Circular.{circle_fault, mark_if, first_by}
use Rattle.circle_stage.proofs.Marks.{steps_decoded}

module _ (rows : List (List ℕ)) where
  -- ---- no steps, no fault

  -- a step's rules are above 0
  step_up : (r : List ℕ) → greatest (step_in rows r) ≡ 0 → is_step rows r ≡ false
  unfolding step_in greatest
  step_up r = go (is_step rows r) refl
    where
      go :
          (t : Bool) → is_step rows r ≡ t → greatest (cond t (record { from = rule_round rows r; to = rule_found rows r } ∷ []) []) ≡ 0
          → t ≡ false
      go true e h =
          let z = rule_range (rule_round rows r) (and_yes (is_rule (rule_round rows r)) (is_rule (rule_found rows r)) e).0 in
          absurd (omega (arith, z))
      go false e h = refl

  no_fault_lem : (d : Draft) → is_step rows d.row ≡ false → circle_fault rows d ≡ 0
  unfolding circle_fault on_circle
  no_fault_lem d e = rw e

  pub no_faults : (ds : List Draft) → greatest (steps_among rows (draft_rows ds)) ≡ 0 → first_fault (alone (circle_fault rows)) ds ≡ 0
  unfolding first_fault steps_among
  no_faults [] h = refl
  no_faults (d ∷ ds) h =
      let both = greatest_append (step_in rows d.row) (steps_among rows (draft_rows ds)) in
      rw (no_fault_lem d (step_up d.row (omega (arith, both))), no_faults ds (omega (arith, both)))

  -- ---- a closed map tells which steps stand on a circle

  module _ {words after : List ℕ} (v : Maps words (rule_steps rows)) (c : Closed words (greatest (rule_steps rows)) after) where
    same_mark :
        (d : Draft) → (is_step rows d.row ≡ true → leads (rule_steps rows) (rule_round rows d.row) (rule_found rows d.row) ≡ true)
        → mark_if (circular_in after) rows d ≡ circle_fault rows d
    unfolding mark_if circle_fault on_circle
    same_mark d h = ap (λ (b : Bool). cond b d.own_at 0) (go (is_step rows d.row) refl)
      where
        a : ℕ
        a = rule_round rows d.row

        b : ℕ
        b = rule_found rows d.row

        go : (t : Bool) → is_step rows d.row ≡ t → circular_in after a b ≡ (t && circular (rule_steps rows) (greatest (rule_steps rows)) a b)
        go true e = closed_circular v (steps_within rows) c a b (h e)
        go false e = sym (circular_none after a b e)

    -- where the steps of these rows are steps of all
    same_first :
        (ds : List Draft) → ((a b : ℕ) → leads (steps_among rows (draft_rows ds)) a b ≡ true → leads (rule_steps rows) a b ≡ true)
        → first_fault (alone (mark_if (circular_in after) rows)) ds ≡ first_fault (alone (circle_fault rows)) ds
    unfolding first_fault steps_among
    same_first [] h = refl
    same_first (d ∷ ds) h = rw (same_mark d (λ e. h a b (here e)), same_first ds (λ x y e. h x y (later x y e)))
      where
        a : ℕ
        a = rule_round rows d.row

        b : ℕ
        b = rule_found rows d.row

        here : is_step rows d.row ≡ true → leads (step_in rows d.row ++ steps_among rows (draft_rows ds)) a b ≡ true
        here e = leads_append (step_in rows d.row) (steps_among rows (draft_rows ds)) a b ∙ rw (step_leads rows d.row e)

        later : (x y : ℕ) → leads (steps_among rows (draft_rows ds)) x y ≡ true → leads (step_in rows d.row ++ steps_among rows (draft_rows ds)) x y ≡ true
        later x y e = leads_append (step_in rows d.row) (steps_among rows (draft_rows ds)) x y ∙ rw (e, or-true (leads (step_in rows d.row) x y))

-- ---- by what the code's calls give

module _ (t : List ℕ) (n : ℕ) where
  abbrev drafts : List Draft
  drafts = drafts_from t 0 n

  pub none_found : {last : ℕ} → last ≡ greatest (table_steps t n) → last ≡ 0 → 0 ≡ first_by circle_fault drafts
  none_found e z = sym (no_faults (draft_rows drafts) drafts (ap greatest (sym (steps_decoded t n)) ∙ sym e ∙ z))

  pub first_found :
      {empty words after : List ℕ} {last r : ℕ}
      → empty ≡ empty_map → words ≡ all_added empty (table_steps t n) → last ≡ greatest (table_steps t n) → Closed words last after
      → r ≡ first_by (mark_if (circular_in after)) drafts
      → r ≡ first_by circle_fault drafts
  first_found {words = words} {after = after} e f g c h =
      let l = rule_steps (draft_rows drafts) in
      let maps : Maps words l = rw (f, e, steps_decoded t n) (steps_mapped (draft_rows drafts)) in
      let closed : Closed words (greatest l) after = rw (g ∙ ap greatest (steps_decoded t n)) at c in
      h ∙ same_first (draft_rows drafts) maps closed drafts (λ a b x. x)
