-- The steps of a table's rows are those of the rules whose rows they are.
-- Assumes nothing.
use Prim.Native.Nat.{ℕ, zero, suc, ◌+◌, ◌-◌, ◌≤◌, ◌<◌}
use native.Mathlib.Numerals.{add-one}
use native.Mathlib.Omega.{arith}
use mathlib.Core.Path.{◌≡◌, refl, sym, ap, ◌∙◌}
use mathlib.Core.Logic.{◌≢◌, ⊎_elim}
use mathlib.Core.Bool.{true, false, true≢false, or-false}
use mathlib.Core.List.{List, [], ◌∷◌, ◌++◌, map, append_assoc}
use borrow.Author.Tests.{eqb-true, eqb-false}
use lib.Dec.{eqb}
use Rattle.lexemes.proofs.Lists.{either}
use Rattle.rows.specs.Codes as code
use Rattle.rows.specs.Codes.{is_expression, expressions}
use Rattle.rows.specs.Columns as column
use Rattle.rows.specs.Table.{row_at, cell_at}
use Rattle.rows.specs.Rows.{rows_from}
use Rattle.rows.proofs.RunLaws.{rows_next, rows_end}
use Rattle.numbers.specs.Numbers.{mem}
use Rattle.numbers.proofs.Lists.{mem_append}
use Rattle.circles.specs.Circles.{is_rule, Step}
use Rattle.circles.proofs.Reaching.{or_yes}
use Rattle.rule_steps.specs.Steps.{step_in, steps_among}
use Rattle.rule_steps.proofs.Rows.{round_other, round_outside, round_inside}
use Rattle.operators.specs.Values.{operations}
use Rattle.answers.specs.Expression.{Operator, operator_code, Constant, constant_code, true', false', zero', one', ones', undefined'}
use Rattle.answers.proofs.FoundRows.{map_append}
use Rattle.formulas.specs.Formula.{Formula}
use Rattle.meaning.specs.References.{references}
use Rattle.meaning.specs.Rules.{steps_from}
use Rattle.evaluate.specs.Machine.{is_binary}
use Rattle.evaluate.specs.Spells.{Spells, spells_number, spells_constant, spells_question, spells_rule, spells_not, spells_binary}
use Rattle.evaluate.proofs.CodeLaws.{operator_binary}
use Rattle.form_set_rules.proofs.RuleRows.{Statement, RuleRows, no_rows, other_row, rule_row}

-- ---- codes of expressions that are no ruleref's

binary_other : is_binary code.RULE_REF ≡ false
unfolding is_binary operations code.member
binary_other = refl

operator_other : (o : Operator) → operator_code o ≢ code.RULE_REF
operator_other o e = true≢false (sym (operator_binary o) ∙ ap is_binary e ∙ binary_other)

constant_other : (c : Constant) → constant_code c ≢ code.RULE_REF
constant_other true' e = omega arith
constant_other false' e = omega arith
constant_other zero' e = omega arith
constant_other one' e = omega arith
constant_other ones' e = omega arith
constant_other undefined' e = omega arith

-- an expression has a row
spells_up : {t : List ℕ} {i j : ℕ} {e : Formula} → Spells t i e j → i < j
spells_up (spells_number k a) = omega arith
spells_up (spells_constant c k) = omega arith
spells_up (spells_question k a) = omega arith
spells_up (spells_rule k a) = omega arith
spells_up (spells_not s k) = omega (arith, spells_up s)
spells_up (spells_binary o s u k) = omega (arith, spells_up s, spells_up u)

-- what stands outside expressions is none
reference_part : is_expression code.RULE_REF ≡ true
unfolding is_expression expressions code.member
reference_part = refl

abbrev step_from : ℕ → ℕ → Step
step_from a b = record { from = a; to = b }

module _ (t : List ℕ) (count : ℕ) where
  -- ---- the step of a row

  abbrev rows : List (List ℕ)
  rows = rows_from t 0 count

  -- the rows whose step is none
  abbrev Still : ℕ → Type 0
  Still i = step_in rows (row_at t i) ≡ []

  -- what is no ruleref
  still_other : (i : ℕ) → cell_at t i column.CODE ≢ code.RULE_REF → Still i
  unfolding step_in
  still_other i h = rw (← round_other t count (row_at t i) refl h)

  -- what stands in a row that is no rule's
  still_outside : (i p : ℕ) → cell_at t i column.PARENT ≡ p → p < count → cell_at t p column.CODE ≢ code.RULE → Still i
  unfolding step_in
  still_outside i p f h d =
      either (eqb (cell_at t i column.CODE) code.RULE_REF)
      (λ e. rw (← round_outside t count (row_at t i) refl (eqb-true (cell_at t i column.CODE) code.RULE_REF e) (sym f) h refl d))
      (λ e. still_other i (eqb-false (cell_at t i column.CODE) code.RULE_REF e))

  -- a ruleref in a rule leads from it to the one that it finds
  step_inside :
      (i p m : ℕ) → cell_at t i column.CODE ≡ code.RULE_REF → cell_at t i column.PARENT ≡ p → p < count
      → cell_at t p column.CODE ≡ code.RULE → cell_at t p column.OWN ≡ m → is_rule m ≡ true → is_rule (cell_at t i column.A) ≡ true
      → step_in rows (row_at t i) ≡ step_from m (cell_at t i column.A) ∷ []
  unfolding step_in
  step_inside i p m c f h k o from to = rw (← round_inside t count (row_at t i) refl c (sym f) h refl k (sym o), from, to)

  -- ---- the steps of the rows from i on

  abbrev pub left : ℕ → List Step
  left i = steps_among rows (rows_from t i (count - i))

  left_next : (i : ℕ) → i < count → left i ≡ step_in rows (row_at t i) ++ left (suc i)
  unfolding steps_among
  left_next i h = rw (rows_next t i count h, add-one i)

  left_still : (i : ℕ) → i < count → Still i → left i ≡ left (suc i)
  left_still i h e = left_next i h ∙ rw e

  all_still : (n i j : ℕ) → i + n ≡ j → j ≤ count → ((r : ℕ) → i ≤ r → r < j → Still r) → left i ≡ left j
  all_still zero i j e h none = let z : i ≡ j = omega arith in rw z
  all_still (suc n) i j e h none =
      left_still i (omega arith) (none i (omega arith) (omega arith))
      ∙ all_still n (suc i) j (omega arith) h (λ r a b. none r (omega arith) b)

  -- those of a rule's expression
  module _ (p m : ℕ) (inside : p < count) (k : cell_at t p column.CODE ≡ code.RULE) (o : cell_at t p column.OWN ≡ m) (from : is_rule m ≡ true)
      (to : (i : ℕ) → i < count → cell_at t i column.CODE ≡ code.RULE_REF → is_rule (cell_at t i column.A) ≡ true) where
    spelled_steps :
        {i j : ℕ} {e : Formula} → Spells t i e j → j ≤ count → ((r : ℕ) → i ≤ r → r < j → cell_at t r column.PARENT ≡ p)
        → left i ≡ map (step_from m) (references e) ++ left j
    unfolding references
    spelled_steps {i} (spells_number c a) h within = left_still i (omega arith) (still_other i (λ q. omega arith))
    spelled_steps {i} (spells_constant x c) h within = left_still i (omega arith) (still_other i (λ q. constant_other x (sym c ∙ q)))
    spelled_steps {i} (spells_question c a) h within = left_still i (omega arith) (still_other i (λ q. omega arith))
    spelled_steps {i} (spells_rule c a) h within =
        left_next i (omega arith)
        ∙ rw (step_inside i p m c (within i (omega arith) (omega arith)) inside k o from (to i (omega arith) c), a)
    spelled_steps (spells_not {j = j} s c) h within =
        spelled_steps s (omega arith) (λ r a b. within r a (omega arith)) ∙ rw (left_still j (omega arith) (still_other j (λ q. omega arith)))
    spelled_steps {i} (spells_binary {j = j} {k = l} {l = x} {r = y} w s u c) h within =
        spelled_steps s (omega (arith, spells_up u)) (λ r a b. within r a (omega (arith, spells_up u)))
        ∙ rw (
          spelled_steps u (omega arith) (λ r a b. within r (omega (arith, spells_up s)) (omega arith)),
          left_still l (omega arith) (still_other l (λ q. operator_other w (sym c ∙ q))),
          map_append (step_from m) (references x) (references y),
          append_assoc (map (step_from m) (references x)) (map (step_from m) (references y)) (left (suc l)),
        )

  -- ---- the steps of rules

  module _ (to : (i : ℕ) → i < count → cell_at t i column.CODE ≡ code.RULE_REF → is_rule (cell_at t i column.A) ≡ true)
      (from : (i : ℕ) → i < count → cell_at t i column.CODE ≡ code.RULE → is_rule (cell_at t i column.OWN) ≡ true) where
    -- a statement's own row
    first_still : {i j : ℕ} → Statement t count i j → left i ≡ left (suc i)
    first_still {i} s =
        left_still i s.inside (still_other i (λ q. let e : false ≡ true = sym s.plain ∙ rw q reference_part in true≢false (sym e)))

    pub rules_steps : {i n : ℕ} {rules : List Formula} → RuleRows t count i n rules → left i ≡ steps_from (suc n) rules
    unfolding steps_from steps_among
    rules_steps no_rows = rw (rows_end t count count (omega arith))
    rules_steps (other_row {i = i} {j = j} s d rest) =
        let l = s.stretch.up in
        first_still s
        ∙ all_still (j - suc i) (suc i) j (omega arith) (s.stretch.below s.inside)
        (λ r a b. still_outside r i (s.within r a b) s.inside d)
        ∙ rules_steps rest
    rules_steps (rule_row {i = i} {n = n} s c o e rest) =
        let rule : is_rule (suc n) ≡ true = rw o at (from i s.inside c) in
        first_still s
        ∙ spelled_steps i (suc n) s.inside c o rule to e (s.stretch.below s.inside) s.within
        ∙ rw (rules_steps rest)

-- ---- what the references of an expression are

-- whatever is true of what every ruleref holds is true of them
pub references_hold :
    (t : List ℕ) (count : ℕ) (P : ℕ → Type 0) → ((i : ℕ) → i < count → cell_at t i column.CODE ≡ code.RULE_REF → P (cell_at t i column.A))
    → {i j : ℕ} {e : Formula} → Spells t i e j → j ≤ count → (m : ℕ) → mem m (references e) ≡ true → P m
unfolding references mem
references_hold t count P all (spells_number c a) h m e = absurd (true≢false (sym e))
references_hold t count P all (spells_constant x c) h m e = absurd (true≢false (sym e))
references_hold t count P all (spells_question c a) h m e = absurd (true≢false (sym e))
references_hold t count P all {i} (spells_rule {n = n} c a) h m e =
    let is : m ≡ n = eqb-true m n (sym (or-false (eqb m n)) ∙ e) in
    rw (is, ← a) (all i (omega arith) c)
references_hold t count P all (spells_not s c) h m e = references_hold t count P all s (omega arith) m e
references_hold t count P all (spells_binary {l = x} {r = y} w s u c) h m e =
    ⊎_elim
    (references_hold t count P all s (omega (arith, spells_up u)) m)
    (references_hold t count P all u (omega arith) m)
    (or_yes (mem m (references x)) (mem m (references y)) (sym (mem_append m (references x) (references y)) ∙ e))
