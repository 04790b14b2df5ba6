-- Which items of an accepted source are hidden or grey, by the answers alone (document 02, W-202): what `table_screen::show_table` gives of the table
-- that reading leaves are the bytes of its statements, with the rules' values that solve their equations.
-- Assumes nothing.
use Prim.Native.Nat.{ℕ, ◌≤◌, ◌<◌}
use native.Mathlib.Omega.{arith}
use mathlib.Core.Path.{◌≡◌, refl}
use mathlib.Core.Bool.{true, false}
use mathlib.Core.List.{List}
use mathlib.Core.Option.{some}
use lib.ListN.{length, replicate}
use Rattle.ll1.specs.Trees.{Trees}
use Rattle.answers.specs.WholeAnswer.{read_answer, read_table}
use Rattle.answers.specs.Demand3.{Sound}
use Rattle.operators.specs.declared.Scalar.{Scalar}
use Rattle.numbers.specs.Numbers.{mem}
use Rattle.circles.specs.Circles.{last}
use Rattle.ranks.specs.Ranks.{order_of}
use Rattle.ranks.proofs.Theorems.{steps_size, steps_ordered}
use Rattle.rule_steps.specs.Steps.{rule_steps}
use Rattle.stored.specs.Stored.{room, value_at}
use Rattle.saved_answers.specs.Answers.{Ascending, answered}
use Rattle.saved_answers.proofs.Theorems.{value_answered}
use Rattle.formulas.specs.Formula.{Formula}
use Rattle.meaning.specs.References.{references}
use Rattle.meaning.specs.Rules.{Solves}
use Rattle.meaning.proofs.Named.{Agree}
use Rattle.screen.specs.Screen.{Screen}
use Rattle.screen.specs.Bytes.{bytes}
use Rattle.screen.specs.Round.{Stands, EachExpression}
use Rattle.screen_rows.specs.StatementRow.{StatementRow}
use Rattle.screen_rows.proofs.Theorems.{accepted_statement, screen_shown}
use Rattle.form_set_rules.specs.Rules.{source_rules}
use Rattle.form_set_rules.proofs.Tables.{rows_start, rules_laid}
use Rattle.form_set_rules.proofs.Tables as source
use Rattle.form_set_rules.proofs.Theorems as rules
use Rattle.table_screen.specs.TableScreen.{rule_order, rule_places, no_values, rule_values, table_screen}
use Rattle.table_screen.specs.SourceScreen.{source_rows, statements}
use Rattle.table_screen.proofs.CountLaws.{rows_counted}
use Rattle.table_screen.proofs.Questions.{table_is, count_is}

-- ---- the room that is lent

no_places : List ℕ
no_places = replicate 256 0

long : 256 ≤ length no_places
unfolding no_places
long = let e : length no_places ≡ 256 = refl in omega arith

room_values : room no_values ≡ 256
unfolding no_values
room_values = refl

-- ---- a source with its derivation, of which no stage finds a fault

module _ (s : List ℕ) (n : ℕ) (tree : Trees) (sound : Sound s tree) where
  -- how many rules it has
  abbrev many : ℕ
  many = length (source_rules s tree)

  few : many < 256
  few = (rules.rule_set s tree sound.derives sound.limit sound.references).few

  abbrev order : List ℕ
  order = order_of (rule_steps (source_rows s tree)) many

  module _ (answers gotos checkboxes : List ℕ) where
    -- the values that are found in its finished rows are found in the order of its steps
    values_are :
        rule_values answers gotos checkboxes (source.table s tree n) (source.count s tree)
        ≡ rules.rule_values s tree n no_places no_values order answers gotos checkboxes
    unfolding rule_values rule_order rule_places no_places
    values_are =
        let all : last many ≡ many = omega (arith, few) in
        rw (rows_counted (source.table s tree n) (source.count s tree) (rules_laid s tree sound.derives n), all, rows_start s tree sound.derives n)

    -- so that each is what the rule is worth
    pub rule_value :
        Ascending answers → (worth : ℕ → Scalar) → Solves (source_rules s tree) (answered answers gotos checkboxes) worth
        → (k : ℕ) → 0 < k → k ≤ many → value_at (rule_values answers gotos checkboxes (source.table s tree n) (source.count s tree)) k ≡ worth k
    rule_value ascending worth solves k z h =
        rw values_are
        (rules.values_found s tree sound.derives sound.limit sound.references sound.circles sound.depths
        (steps_ordered (rules.steps_inside s tree sound.derives sound.limit sound.references) sound.circles)
        (omega (arith, few, steps_size (rule_steps (source_rows s tree)) many))
        n no_places long no_values (omega (arith, few, room_values)) answers gotos checkboxes worth
        (rw (value_answered answers ascending gotos checkboxes) solves) k z h)

-- ---- an accepted source

-- it has a derivation, the only one; and its rows stand in the table of n numbers that reading leaves
module _ (s : List ℕ) (n : ℕ) (accepted : (read_answer s n).number ≡ 0) (tree : Trees) (sound : Sound s tree) where
  table : read_table s n ≡ source.table s tree n
  table = table_is s n accepted tree sound

  count : (read_answer s n).rows ≡ source.count s tree
  count = count_is s n accepted tree sound

  -- every ruleref of a condition or a rule finds one of its rules
  refers :
      {code row : ℕ} {e : Formula} {inner : Screen} → Stands code (some e) inner row (statements s tree)
      → (m : ℕ) → mem m (references e) ≡ true → (0 < m) × (m ≤ length (source_rules s tree))
  refers {code} {row} {e} st =
      let r : StatementRow (source.table s tree n) (source.count s tree) row code (some e) =
      rw (table, count) at (accepted_statement s n accepted tree sound st) in
      let x = r.expression e refl in
      rules.expression_refers s tree sound.derives sound.limit sound.references n x.spells (x.stretch.below r.inside)

  -- The answers ascend, and the rules are worth what solves their equations.
  module _ (answers gotos checkboxes : List ℕ) (ascending : Ascending answers)
      (worth : ℕ → Scalar) (solves : Solves (source_rules s tree) (answered answers gotos checkboxes) worth) where
    abbrev values : List Scalar
    values = rule_values answers gotos checkboxes (read_table s n) (read_answer s n).rows

    valued : EachExpression (λ e. Agree (references e) (value_at values) worth) (statements s tree)
    valued code row e inner st m h =
        let r = refers st m h in
        rw (table, count) (rule_value s n tree sound answers gotos checkboxes ascending worth solves m r.0 r.1)

    -- the bytes are those of its statements, whatever numbers the maps hold
    pub table_shown :
        table_screen answers gotos checkboxes (read_table s n) (read_answer s n).rows
        ≡ bytes (answered answers gotos checkboxes) worth false false (statements s tree)
    unfolding table_screen
    table_shown = screen_shown s n accepted tree sound answers gotos checkboxes values ascending worth valued
