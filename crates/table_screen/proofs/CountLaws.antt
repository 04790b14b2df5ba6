-- How many rows are rules': of one row, as the loop goes on, and of the rows of a source's statements.
-- Assumes nothing.
use Prim.Native.Nat.{ℕ, zero, suc, ◌+◌, ◌-◌, ◌≤◌, ◌<◌}
use native.Mathlib.Omega.{arith}
use mathlib.Core.Path.{◌≡◌, refl, sym, ◌∙◌}
use mathlib.Core.Bool.{Bool, true, false, true≢false, cond}
use mathlib.Core.Logic.{◌≢◌}
use mathlib.Core.List.{List, [], ◌∷◌}
use borrow.Author.Tests.{ne_eqb}
use lib.ListN.{length, length-append}
use Rattle.rows.specs.Codes.{RULE}
use Rattle.rows.specs.Columns as column
use Rattle.rows.specs.Table.{cell_at}
use Rattle.rows.specs.Rows.{rows_from}
use Rattle.rows.proofs.RunLaws.{rows_next, rows_end}
use Rattle.question_kinds.specs.Kinds.{own_in, owns_in, own_at}
use Rattle.formulas.specs.Formula.{Formula}
use Rattle.form_set_rules.proofs.RuleRows.{Statement, RuleRows, no_rows, other_row, rule_row}
use Rattle.form_set_rules.proofs.Numbers.{rule_plain}
use Rattle.table_screen.specs.TableScreen.{is_rule_row, rule_count}

module _ (t : List ℕ) where
  -- ---- one row

  abbrev one : ℕ → ℕ
  one i = length (own_at is_rule_row t i)

  pub one_rule : (i : ℕ) {k : ℕ} → k ≡ cell_at t i column.CODE → k ≡ RULE → 1 ≡ one i
  unfolding own_in
  one_rule i e h = rw (← e, h)

  pub one_other : (i : ℕ) {k : ℕ} → k ≡ cell_at t i column.CODE → k ≢ RULE → 0 ≡ one i
  unfolding own_in
  one_other i {k} e h = rw (← e, ne_eqb k RULE h)

  pub one_most : (i : ℕ) {m : ℕ} → m ≡ one i → m ≤ 1
  unfolding own_in
  one_most i e = rw e (go (is_rule_row (cell_at t i column.CODE)))
    where
      go : (b : Bool) → length (cond b (cell_at t i column.OWN ∷ []) []) ≤ 1
      go true = omega arith
      go false = omega arith

  module _ (count : ℕ) where
    -- ---- the rows from i on

    abbrev left : ℕ → ℕ
    left i = length (owns_in is_rule_row (rows_from t i (count - i)))

    left_next : (i : ℕ) → i < count → left i ≡ one i + left (i + 1)
    unfolding owns_in
    left_next i h = rw (rows_next t i count h) (length-append (own_at is_rule_row t i) (owns_in is_rule_row (rows_from t (i + 1) (count - (i + 1)))))

    left_end : (i : ℕ) → count ≤ i → left i ≡ 0
    unfolding owns_in
    left_end i h = rw (rows_end t i count h)

    left_all : left 0 ≡ rule_count t count
    left_all = let e : count - 0 ≡ count = omega arith in rw e

    -- ---- the loop

    pub record Counting (rules i : ℕ) : Type 0 where
      pub few : rules ≤ i
      pub same : rules + left i ≡ rule_count t count

    pub counting_start : Counting 0 0
    counting_start = record { few = omega arith; same = omega (arith, left_all) }

    module _ {rules i : ℕ} (v : Counting rules i) where
      pub counting_next : {m : ℕ} → i < count → m ≡ one i → Counting (rules + m) (i + 1)
      counting_next h e = record { few = omega (arith, one_most i e, v.few); same = omega (arith, left_next i h, v.same) }

      -- a row that is a rule's, and one that is not
      pub counting_rule : i < count → {k : ℕ} → k ≡ cell_at t i column.CODE → k ≡ RULE → Counting (rules + 1) (i + 1)
      counting_rule h e f = counting_next h (one_rule i e f)

      pub counting_other : i < count → {k : ℕ} → k ≡ cell_at t i column.CODE → k ≢ RULE → Counting rules (i + 1)
      counting_other h e f = let same : rules + 0 ≡ rules = omega arith in rw same at (counting_next {m = 0} h (one_other i e f))

      pub counting_end : count ≤ i → rules ≡ rule_count t count
      counting_end h = omega (arith, left_end i h, v.same)

    -- ---- the rows of statements

    none_left : (n i j : ℕ) → i + n ≡ j → j ≤ count → ((r : ℕ) → i ≤ r → r < j → cell_at t r column.CODE ≢ RULE) → left i ≡ left j
    none_left zero i j e h none = let z : i ≡ j = omega arith in rw z
    none_left (suc n) i j e h none =
        let o : 0 ≡ one i = one_other i refl (none i (omega arith) (omega arith)) in
        let next = none_left n (i + 1) j (omega arith) h (λ r a b. none r (omega arith) b) in
        omega (arith, left_next i (omega arith))

    -- the rows of an expression are no rules'
    parts_left : {i j : ℕ} → Statement t count i j → left (i + 1) ≡ left j
    parts_left {i} {j} s =
        let u = s.stretch.up in
        let b = s.stretch.below s.inside in
        none_left (j - suc i) (i + 1) j (omega arith) b
        (λ r l h k. let e : true ≡ false = sym (s.stretch.within r (omega arith) h) ∙ rw k rule_plain in true≢false e)

    rules_left : {i n : ℕ} {rules : List Formula} → RuleRows t count i n rules → left i ≡ length rules
    rules_left no_rows = left_end count (omega arith)
    rules_left (other_row {i = i} s d rest) =
        omega (arith, left_next i s.inside, one_other i refl d, parts_left s, rules_left rest)
    rules_left (rule_row {i = i} s c o e rest) =
        omega (arith, left_next i s.inside, one_rule i refl c, parts_left s, rules_left rest)

    -- where these are all the rules
    pub rows_counted : {rules : List Formula} → RuleRows t count 0 0 rules → rule_count t count ≡ length rules
    rows_counted r = sym left_all ∙ rules_left r
