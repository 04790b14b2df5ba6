-- Which items of a table's rows are hidden or grey, by the answers alone (document 02, W-202): the rules' values, each found once, and then the bytes.
-- Assumes nothing.
use Rattle.std.specs.Prelude.{ℕ, Bool, List, eqb, length, take, replicate}
use Rattle.rows.specs.Codes.{RULE}
use Rattle.operators.specs.declared.Scalar.{Scalar}
use Rattle.operators.specs.declared.Scalar.TheVariants.{Undefined}
use Rattle.circles.specs.Circles.{last}
use Rattle.ranks.specs.Ranks.{order_of}
use Rattle.question_kinds.specs.Kinds.{table_owns}
use Rattle.rule_steps.specs.Steps.{table_steps}
use Rattle.rule_values.specs.Values.{placed_rows, with_rules}
use Rattle.screen_rows.specs.Passes.{shown}

-- ---- the rules of a table's first `count` rows

abbrev pub is_rule_row : ℕ → Bool
is_rule_row k = eqb k RULE

module _ (t : List ℕ) (count : ℕ) where
  -- how many they are
  abbrev pub rule_count : ℕ
  rule_count = length (table_owns is_rule_row t count)

  -- all of them, 255 at the most; without circles each comes after those that it refers to
  unfoldable pub rule_order : List ℕ
  rule_order = let n = last rule_count in take n (order_of (table_steps t count) n)

  -- the row of each, by its number; 0 where there is none
  unfoldable pub rule_places : List ℕ
  rule_places = placed_rows t (replicate 256 0) 0 count

-- ---- their values, and the bytes of the rows

-- the values of 256 rules: all are undefined
unfoldable pub no_values : List Scalar
no_values = replicate 256 Undefined

module _ (answers gotos checkboxes t : List ℕ) (count : ℕ) where
  -- the values of the rules, by their numbers
  unfoldable pub rule_values : List Scalar
  rule_values = with_rules answers gotos checkboxes t count (rule_places t count) no_values (rule_order t count)

  -- the bytes of the rows
  unfoldable pub table_screen : List ℕ
  table_screen = shown answers gotos checkboxes rule_values t count
