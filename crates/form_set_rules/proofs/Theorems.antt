-- The rules of a source: how many they are, their rows, their steps, and the values that are found for them (document 02, W-202).
-- Assumes nothing.
use Prim.Native.Nat.{ℕ, zero, suc, ◌-◌, ◌≤◌, ◌<◌}
use native.Mathlib.Omega.{arith}
use mathlib.Core.Path.{◌≡◌, refl, sym, ◌∙◌}
use mathlib.Core.Logic.{◌↔◌}
use mathlib.Core.Bool.{true, false, true≢false}
use mathlib.Core.List.{List, []}
use borrow.Author.Tests.{lt-ltb}
use lib.Dec.{eqb}
use lib.ListN.{length, get_or, take, length-append, get_or-eq_default}
use Rattle.lexemes.proofs.Lists.{either, either_less}
use Rattle.numbers.specs.Numbers.{mem}
use Rattle.rows.specs.Codes as code
use Rattle.rows.specs.Columns as column
use Rattle.rows.specs.Table.{cell_at}
use Rattle.rows.specs.Rows.{rows_from}
use Rattle.ll1.specs.Trees.{Trees, nil, leaf, node}
use Rattle.grammar.specs.Rules.{<rule>}
use Rattle.grammar.specs.Derivation.{Derives, NowhereTooDeep}
use Rattle.grammar.specs.Source.{source_tokens}
use Rattle.answers.specs.Expression.{undefined'}
use Rattle.answers.specs.Rows.{rules_in}
use Rattle.answers.specs.Stages.{rules_over_limit, unfound}
use Rattle.answers.specs.Answer.{drafts}
use Rattle.answers.specs.Text.{row_first_at}
use Rattle.circles.specs.Circles.{is_rule, leads, NoCircle, Within}
use Rattle.ranks.specs.Ranks.{InOrder}
use Rattle.operators.specs.declared.Scalar.{Scalar}
use Rattle.rule_steps.specs.Steps.{rule_steps}
use Rattle.formulas.specs.Formula.{Formula, f_constant}
use Rattle.formulas.specs.Need.{need}
use Rattle.formulas.proofs.Fitted.{fitted}
use Rattle.laid.specs.Laid.{Stretch}
use Rattle.meaning.specs.Meaning.{meaning}
use Rattle.meaning.specs.References.{references}
use Rattle.meaning.specs.Rules.{rule_at, steps, RuleSet, Solves}
use Rattle.meaning.proofs.Steps.{steps_lead, steps_within}
use Rattle.meaning.proofs.Theorems.{meaning_named}
use Rattle.stored.specs.Stored.{room, value_at}
use Rattle.saved_answers.specs.Search.{question_value}
use Rattle.evaluate.specs.Machine.{ROOM}
use Rattle.evaluate.specs.Spells.{Spells}
use Rattle.expression_rows.specs.Ends.{value_after}
use Rattle.expression_rows.proofs.Theorems.{after_spelled}
use Rattle.rule_values.specs.Values.{placed_rows, with_rules}
use Rattle.rule_values.specs.Ready.{Placed}
use Rattle.rule_values.proofs.Theorems.{rule_values_found}
use Rattle.form_set_rules.specs.Rules.{rule_in, rules_of, source_rules}
use Rattle.form_set_rules.specs.RowOfRule.{RowOfRule}
use Rattle.form_set_rules.proofs.Numbers.{own_range, RuleFound, rule_at_lem}
use Rattle.form_set_rules.proofs.Places.{row_found}
use Rattle.form_set_rules.proofs.Steps.{rules_steps, references_hold}
use Rattle.form_set_rules.proofs.Shallow.{rule_shallow, rules_shallow}
use Rattle.form_set_rules.proofs.Tables.{rows, count, table, rows_start, rules_laid, numbers_low, rules_low, references_found}

-- there are as many rules as a derivation has, whatever rows tell of them
pub rules_counted : (look : ℕ → List ℕ) (f : Trees) → length (rules_of look f) ≡ rules_in f
unfolding rules_of
rules_counted look nil = refl
rules_counted look (leaf t f) = rules_counted look f
rules_counted look (node A i c f) =
    let rest = length-append (rules_of look c) (rules_of look f) in
    either (eqb A <rule>)
    (λ e. rw (e, rule_in) (omega (arith, rest, rules_counted look c, rules_counted look f)))
    (λ e. rw (e, rule_in) (omega (arith, rest, rules_counted look c, rules_counted look f)))

is_rule_lem : (n : ℕ) → 0 < n → n < 256 → is_rule n ≡ true
is_rule_lem n z h = rw (lt-ltb 0 n z, lt-ltb n 256 h)

-- what refers to a rule is one of the rules
refers_inside : (rules : List Formula) (n m : ℕ) → mem m (references (rule_at rules n)) ≡ true → (0 < n) × (n ≤ length rules)
unfolding rule_at references mem
refers_inside rules zero m e = absurd (true≢false (sym e))
refers_inside rules (suc k) m e =
    either_less k (length rules)
    (λ h. (omega arith, omega arith))
    (λ h. absurd (let z : false ≡ true = rw (get_or-eq_default rules (f_constant undefined') h) at e in true≢false (sym z)))

module _ (s : List ℕ) (tree : Trees) (n : ℕ) (lent : List ℕ) where
  -- the places of rules, noted in lent numbers
  abbrev pub places : List ℕ
  places = placed_rows (table s tree n) lent 0 (count s tree)

  -- the values of rules, found in an order of them
  abbrev pub rule_values : (values : List Scalar) (order answers gotos checkboxes : List ℕ) → List Scalar
  rule_values values order answers gotos checkboxes =
      with_rules answers gotos checkboxes (table s tree n) (count s tree) places values (take (length (source_rules s tree)) order)

-- A source with its derivation, of which stage 10 finds no fault. Its rows stand in a table of n numbers, and zeros past them.
module _ (s : List ℕ) (tree : Trees) (derives : Derives (source_tokens s) tree) (limit : rules_over_limit (drafts s tree) ≡ []) where
  -- ---- the rows of rules

  -- their numbers are 1, 2, ..
  pub rule_numbers_lem :
      (n i : ℕ) → i < count s tree → cell_at (table s tree n) i column.CODE ≡ code.RULE
      → (0 < cell_at (table s tree n) i column.OWN) × (cell_at (table s tree n) i column.OWN ≤ length (source_rules s tree))
  rule_numbers_lem n i h c =
      let u = own_range (table s tree n) (count s tree) (rules_laid s tree derives n) i (omega arith) h c in
      (u.0, omega (arith, u.1))

  module _ (n : ℕ) (lent : List ℕ) (long : 256 ≤ length lent) (k : ℕ) (z : 0 < k) (h : k ≤ length (source_rules s tree)) where
    row : RuleFound (table s tree n) (count s tree) 0 k (rule_at (source_rules s tree) k)
    row = rule_at_lem (table s tree n) (count s tree) (rules_laid s tree derives n) k z h

    place_is : get_or (places s tree n lent) k 0 ≡ row.at
    place_is =
        row_found (table s tree n) k (count s tree) lent 0 row.at
        (omega (arith, rules_low s tree derives n limit)) (omega arith) (omega (arith, row.inside)) (row.code_is, row.own_is)
        (λ q a b u. row.only q a (omega arith) u.0 u.1)

    -- at the place of rule k stands its row
    pub rule_row : RowOfRule (table s tree n) (count s tree) k (get_or (places s tree n lent) k 0)
    rule_row =
        rw place_is (record { inside = row.inside; code_is = row.code_is; own_is = row.own_is; only = λ j l c o. row.only j (omega arith) l c o })

    -- which its expression follows
    pub rule_placed : NowhereTooDeep tree → Placed (source_rules s tree) (table s tree n) (count s tree) (places s tree n lent) k
    rule_placed deep =
        let shallow = rule_shallow (rules_shallow (row_first_at (rows s tree)) (fitted derives.fits deep)) k in
        record {
          end = row.end;
          inside = rw place_is row.inside;
          stretch = rw place_is row.stretch;
          spells = rw place_is row.spells;
          small = omega (arith, shallow.levels);
        }

  -- ---- stage 11 finds no fault either

  module _ (found : unfound s (drafts s tree) ≡ []) where
    -- every ruleref of the rows, in conditions too, finds one of the rules
    pub reference_found :
        (n i : ℕ) → i < count s tree → cell_at (table s tree n) i column.CODE ≡ code.RULE_REF
        → (0 < cell_at (table s tree n) i column.A) × (cell_at (table s tree n) i column.A ≤ length (source_rules s tree))
    reference_found n = references_found s tree derives n found

    -- so does every reference of an expression among them
    pub expression_refers :
        (n : ℕ) {i j : ℕ} {e : Formula} → Spells (table s tree n) i e j → j ≤ count s tree
        → (m : ℕ) → mem m (references e) ≡ true → (0 < m) × (m ≤ length (source_rules s tree))
    expression_refers n = references_hold (table s tree n) (count s tree) (λ m. (0 < m) × (m ≤ length (source_rules s tree))) (reference_found n)

    -- the rules are few, and every reference of theirs finds one of them
    pub rule_set : RuleSet (source_rules s tree)
    rule_set =
        record {
          few = rules_low s tree derives 0 limit;
          found = λ n m e.
              let h = refers_inside (source_rules s tree) n m e in
              let row = rule_at_lem (table s tree 0) (count s tree) (rules_laid s tree derives 0) n h.0 h.1 in
              expression_refers 0 row.spells (row.stretch.below row.inside) m e;
        }

    -- their steps are those of the rows, one for one
    pub steps_same : rule_steps (rows s tree) ≡ steps (source_rules s tree)
    steps_same =
        let e : count s tree - 0 ≡ count s tree = omega arith in
        let all : rule_steps (rows_from (table s tree 0) 0 (count s tree)) ≡ steps (source_rules s tree) =
        rw e at (rules_steps (table s tree 0) (count s tree)
        (λ i h c. let u = reference_found 0 i h c in is_rule_lem _ u.0 (omega (arith, u.1, rule_set.few)))
        (λ i h c. is_rule_lem _ (rule_numbers_lem 0 i h c).0 (numbers_low s tree derives 0 limit i h c))
        (rules_laid s tree derives 0)) in
        rw (rows_start s tree derives 0) at all

    -- which lead between the rules
    pub steps_inside : Within (rule_steps (rows s tree)) (length (source_rules s tree))
    steps_inside = rw steps_same (steps_within rule_set)

    -- a step leads from one rule to another exactly when the expression of the one refers to the other
    pub references_lead : (a b : ℕ) → leads (rule_steps (rows s tree)) a b ≡ mem b (references (rule_at (source_rules s tree) a))
    references_lead a b = rw steps_same (steps_lead (source_rules s tree) a b)

    -- and the rows have a circle exactly where the rules have one
    pub circles_same : NoCircle (rule_steps (rows s tree)) ↔ NoCircle (steps (source_rules s tree))
    circles_same = rw steps_same (λ free. free, λ free. free)

    -- ---- and no step stands on a circle

    module _ (free : NoCircle (rule_steps (rows s tree))) where
      -- The rules' values are found in any order that follows the steps, with whatever answers and maps of kinds, in whatever is lent for places and
      -- values.
      module _ (deep : NowhereTooDeep tree)
          {order : List ℕ} (follows : InOrder (rule_steps (rows s tree)) (length (source_rules s tree)) order)
          (whole : length (source_rules s tree) ≤ length order)
          (n : ℕ) (lent : List ℕ) (long : 256 ≤ length lent) (values : List Scalar) (fits : length (source_rules s tree) < room values)
          (answers gotos checkboxes : List ℕ) (worth : ℕ → Scalar) (solves : Solves (source_rules s tree) (question_value answers gotos checkboxes) worth) where
        -- each is what the rule is worth
        pub values_found :
            (k : ℕ) → 0 < k → k ≤ length (source_rules s tree)
            → value_at (rule_values s tree n lent values order answers gotos checkboxes) k ≡ worth k
        values_found =
            rule_values_found (source_rules s tree) follows whole (λ a b e. references_lead a b ∙ e)
            answers gotos checkboxes (table s tree n) (count s tree) (places s tree n lent) values worth
            (λ k z h. rule_placed n lent long k z h deep) solves fits

        -- and with them the value of any expression of the rows, a condition's too, is its meaning
        pub meaning_found :
            {i j : ℕ} {e : Formula}
            → i < count s tree → Stretch (table s tree n) (count s tree) (suc i) j → Spells (table s tree n) (suc i) e j → need e ≤ ROOM
            → value_after answers gotos checkboxes (rule_values s tree n lent values order answers gotos checkboxes) (table s tree n) (count s tree) i
            ≡ meaning (question_value answers gotos checkboxes) worth e
        meaning_found {i} {j} {e} inside stretch spells small =
            after_spelled answers gotos checkboxes (rule_values s tree n lent values order answers gotos checkboxes) (table s tree n) (count s tree) i j
            inside stretch spells small
            ∙ meaning_named e (λ m q. refl) (λ m q. let r = expression_refers n spells (stretch.below inside) m q in values_found m r.0 r.1)
