-- A path of references from rule to rule stays in one form, and so does every circle that refusal 14 speaks of: 14 comes after 11 (document 02, W-203).
-- Assumes nothing.
use Prim.Native.Nat.{ℕ, suc, ◌≤◌, ◌<◌}
use native.Mathlib.Omega.{arith}
use mathlib.Core.Path.{◌≡◌, refl, sym, ap, ◌∙◌}
use mathlib.Core.Logic.{⊎_elim}
use mathlib.Core.Bool.{Bool, true, false, cond, ◌&&◌, true≢false}
use mathlib.Core.List.{List, [], ◌∷◌}
use borrow.Author.Tests.{eqb-true}
use lib.Dec.{eqb}
use lib.ListN.{length, get_or, get_or-eq_default}
use Rattle.lexemes.proofs.Lists.{either_less}
use Rattle.numbers.proofs.Ranges.{and_yes}
use Rattle.rows.specs.Codes as code
use Rattle.rows.specs.Columns as column
use Rattle.rows.specs.Table.{cell_at}
use Rattle.ll1.specs.Trees.{Trees}
use Rattle.grammar.specs.Derivation.{Derives, NowhereTooDeep}
use Rattle.grammar.specs.Source.{source_tokens}
use Rattle.circles.specs.Circles.{is_rule, leads, Reaches, here, onward}
use Rattle.circles.proofs.Reaching.{or_yes}
use Rattle.circles.proofs.Steps.{rule_range, leads_append}
use Rattle.rule_steps.specs.Steps.{rule_round, step_in, steps_among, rule_steps}
use Rattle.answers.specs.Stages.{unfound}
use Rattle.answers.specs.Answer.{drafts}
use Rattle.answers.specs.Forms.{column_of, RuleIn}
use Rattle.answers.proofs.Circles.{step_of}
use Rattle.answers.proofs.FoundRows.{finished_count}
use Rattle.answers.proofs.Forms.{stands_once}
use Rattle.answers.proofs.OwnForm.{of_its_form, rule_round_lem}
use Rattle.form_set_rules.proofs.Numbers.{own_range, rule_at_lem}
use Rattle.form_set_rules.proofs.Tables.{rows, count, table, row_at_lem, rules_laid}

-- ---- the row of a step

module _ (rows : List (List ℕ)) where
  -- the row of a step of some of the rows
  step_row :
      (rs : List (List ℕ)) (a b : ℕ)
      → leads (steps_among rows rs) a b ≡ true → (i : ℕ) × (i < length rs) × (leads (step_in rows (get_or rs i [])) a b ≡ true)
  unfolding steps_among leads
  step_row [] a b e = absurd (true≢false (sym e))
  step_row (r ∷ rs) a b e =
      ⊎_elim
      (λ f. (0, omega arith, f))
      (λ f. let u = step_row rs a b f in (suc u.0, omega (arith, u.1), u.2))
      (or_yes (leads (step_in rows r) a b) _ (sym (leads_append (step_in rows r) (steps_among rows rs) a b) ∙ e))

  -- it is a ruleref, and stands in a rule
  pub record InRule (i a : ℕ) : Type 0 where
    pub is_reference : column_of rows column.CODE i ≡ code.RULE_REF
    pub is_rule : column_of rows column.CODE (column_of rows column.PARENT i) ≡ code.RULE
    pub numbered : column_of rows column.OWN (column_of rows column.PARENT i) ≡ a

  in_rule : (i : ℕ) {a : ℕ} → is_rule a ≡ true → rule_round rows (get_or rows i []) ≡ a → InRule i a
  unfolding rule_round
  in_rule i {a} h e =
      go (eqb (column_of rows column.CODE i) code.RULE_REF) refl (eqb (column_of rows column.CODE (column_of rows column.PARENT i)) code.RULE) refl e
    where
      go :
          (t : Bool) → eqb (column_of rows column.CODE i) code.RULE_REF ≡ t
          → (u : Bool) → eqb (column_of rows column.CODE (column_of rows column.PARENT i)) code.RULE ≡ u
          → cond (t && u) (column_of rows column.OWN (column_of rows column.PARENT i)) 0 ≡ a → InRule i a
      go true t true u z = record { is_reference = eqb-true _ _ t; is_rule = eqb-true _ _ u; numbered = z }
      go true t false u z = absurd (let l = rule_range a h in omega arith)
      go false t u v z = absurd (let l = rule_range a h in omega arith)

-- ---- the rows of a source

module _ (s : List ℕ) (tree : Trees) (derives : Derives (source_tokens s) tree) where
  abbrev rs : List (List ℕ)
  rs = rows s tree

  -- a rule's number stands in one row
  one_rule :
      (j k : ℕ) → j < count s tree → k < count s tree
      → column_of rs column.CODE j ≡ code.RULE → column_of rs column.CODE k ≡ code.RULE → column_of rs column.OWN j ≡ column_of rs column.OWN k → j ≡ k
  one_rule j k h l c d e =
      let t = table s tree 0 in
      let is : (i m : ℕ) → i < count s tree → cell_at t i m ≡ column_of rs m i = λ i m g. ap (λ (r : List ℕ). get_or r m 0) (row_at_lem s tree derives 0 i g) in
      let laid = rules_laid s tree derives 0 in
      let u = own_range t (count s tree) laid j (omega arith) h (is j column.CODE h ∙ c) in
      let f = rule_at_lem t (count s tree) laid (cell_at t j column.OWN) u.0 (omega (arith, u.1)) in
      let first : j ≡ f.at = f.only j (omega arith) h (is j column.CODE h ∙ c) refl in
      let second : k ≡ f.at = f.only k (omega arith) l (is k column.CODE l ∙ d) (is k column.OWN l ∙ sym e ∙ sym (is j column.OWN h)) in
      first ∙ sym second

  -- a rule's row is there
  inside : (i : ℕ) → column_of rs column.CODE i ≡ code.RULE → i < count s tree
  inside i c =
      either_less i (count s tree)
      (λ l. l)
      (λ l.
      let past : length rs ≤ i = omega (arith, finished_count s (drafts s tree)) in
      let none : column_of rs column.CODE i ≡ 0 = ap (λ (r : List ℕ). get_or r column.CODE 0) (get_or-eq_default rs [] past) in
      absurd (omega (arith, c, none)))

  module _ (depths : NowhereTooDeep tree) (found : unfound s (drafts s tree) ≡ []) where
    -- a step leads to a rule of the same form
    step_in_form : {form a b : ℕ} → leads (rule_steps rs) a b ≡ true → RuleIn rs form a → RuleIn rs form b
    step_in_form {form} {a} {b} e v =
        let u = step_row rs rs a b e in
        let i = u.0 in
        let step = step_of rs (get_or rs i []) a b u.2 in
        let round = in_rule rs i (rw step.1 at (and_yes (is_rule (rule_round rs (get_or rs i []))) _ step.0).0) step.1 in
        let k = column_of rs column.PARENT i in
        let here : i < count s tree = omega (arith, u.1, finished_count s (drafts s tree)) in
        let own = of_its_form s tree derives depths found i here round.is_reference in
        let same : v.row ≡ k =
        one_rule v.row k (inside v.row v.is_rule) (inside k round.is_rule) v.is_rule round.is_rule (v.numbered ∙ sym round.numbered) in
        let rule = rule_round_lem s tree derives depths found i here round.is_reference round.is_rule in
        let one : own.form ≡ form = stands_once rule (rw same at v.stands) in
        record {
          row = own.rule;
          inside = own.inside;
          is_rule = own.is_rule;
          numbered = own.number ∙ step.2;
          stands = rw one at own.rule_stands;
        }

    -- and so does a path of them
    pub path_in_form : {form a b : ℕ} → Reaches (leads (rule_steps rs)) a b → RuleIn rs form a → RuleIn rs form b
    path_in_form here v = v
    path_in_form (onward e p) v = path_in_form p (step_in_form e v)
