-- A table that starts with the finished rows of a source has the rows of the source's rules; and what stages 10 and 11 tell of it.
-- Assumes nothing.
use Prim.Native.Nat.{ℕ, ◌+◌, ◌≤◌, ◌<◌}
use native.Mathlib.Omega.{arith}
use mathlib.Core.Path.{◌≡◌, sym, ◌∙◌}
use mathlib.Core.Bool.{true, false, ◌&&◌}
use mathlib.Core.List.{List, []}
use borrow.Author.Tests.{eq-eqb, ltb-false}
use lib.Dec.{ltb}
use lib.ListN.{length, get_or}
use Rattle.rows.specs.Codes as code
use Rattle.rows.specs.Columns as column
use Rattle.rows.specs.Table.{row_at, cell_at}
use Rattle.rows.specs.Rows.{rows_from, laid}
use Rattle.rows.proofs.RunLaws.{rows_flat}
use Rattle.rows.proofs.LaidLaws.{row_laid}
use Rattle.ll1.specs.Trees.{Trees}
use Rattle.grammar.specs.Derivation.{Derives}
use Rattle.grammar.specs.Source.{source_tokens, number_at}
use Rattle.grammar.specs.Parts.{mark}
use Rattle.answers.specs.Rows.{Draft, without_marks}
use Rattle.answers.specs.Stages.{cell, is, row_among, rules_over_limit, unfound, finished}
use Rattle.answers.specs.Answer.{drafts}
use Rattle.answers.specs.Text.{row_first_at}
use Rattle.answers.proofs.Demand3.{rows_whole}
use Rattle.answers.proofs.Faults.{no_fault_lem, clean_at}
use Rattle.answers.proofs.FoundRows.{finished_count}
use Rattle.answers.proofs.FoundRules.{found_rule}
use Rattle.laid.proofs.Held.{held_at}
use Rattle.laid.proofs.FinishedRows.{drafts_held}
use Rattle.form_set_rules.specs.Rules.{source_rules}
use Rattle.form_set_rules.proofs.RuleRows.{RuleRows}
use Rattle.form_set_rules.proofs.TreeRows.{source_rows_lem}
use Rattle.form_set_rules.proofs.Numbers.{own_range, few_rules}

-- 10: "a 256th rule" there is none
limit_kept :
    (ds : List Draft) → rules_over_limit ds ≡ []
    → (i : ℕ) → i < length ds → is code.RULE (row_among ds i) ≡ true → cell column.OWN (row_among ds i) < 256
unfolding rules_over_limit
limit_kept ds e i h r =
    let d = row_among ds i in
    let none = no_fault_lem (is code.RULE d && ltb 255 (cell column.OWN d)) (mark (cell column.PLACE d)) (clean_at _ ds [] e i h) in
    let over : ltb 255 (cell column.OWN d) ≡ false = rw r at none in
    omega (arith, ltb-false 255 (cell column.OWN d) over)

module _ (s : List ℕ) (tree : Trees) where
  -- the finished rows, their number, and the table of n numbers that starts with them
  abbrev pub rows : List (List ℕ)
  rows = finished s (drafts s tree)

  abbrev pub count : ℕ
  count = length (drafts s tree)

  abbrev pub table : ℕ → List ℕ
  table n = laid rows n

  module _ (derives : Derives (source_tokens s) tree) (n : ℕ) where
    abbrev t : List ℕ
    t = table n

    pub rows_start : rows_from t 0 count ≡ rows
    unfolding laid
    rows_start = rw (← finished_count s (drafts s tree)) (rows_flat (rows_whole s tree derives) _)

    pub row_at_lem : (i : ℕ) → i < count → row_at t i ≡ get_or rows i []
    row_at_lem i h = row_laid (rows_whole s tree derives) n i (rw (finished_count s (drafts s tree)) h)

    pub rules_laid : RuleRows t count 0 0 (source_rules s tree)
    unfolding drafts
    rules_laid = source_rows_lem t (row_first_at rows) (number_at s) derives.fits (drafts_held s n tree derives)

    -- 10
    pub numbers_low : rules_over_limit (drafts s tree) ≡ [] → (i : ℕ) → i < count → cell_at t i column.CODE ≡ code.RULE → cell_at t i column.OWN < 256
    numbers_low limit i h c =
        let e : 0 + i ≡ i = omega arith in
        let held = rw e at (held_at t (row_first_at rows) (drafts_held s n tree derives) i (without_marks []) h) in
        let rule : cell column.CODE (row_among (drafts s tree) i) ≡ code.RULE = sym held.code_is ∙ c in
        omega (arith, held.own_is rule, limit_kept (drafts s tree) limit i h (eq-eqb _ code.RULE rule))

    pub rules_low : rules_over_limit (drafts s tree) ≡ [] → length (source_rules s tree) < 256
    rules_low limit = omega (arith, few_rules t count (numbers_low limit) rules_laid (omega arith))

    -- 11
    pub references_found :
        unfound s (drafts s tree) ≡ [] → (i : ℕ) → i < count → cell_at t i column.CODE ≡ code.RULE_REF
        → (0 < cell_at t i column.A) × (cell_at t i column.A ≤ length (source_rules s tree))
    references_found found i h c =
        let f = found_rule s (drafts s tree) found (rows_whole s tree derives) i h (rw (row_at_lem i h) at c) in
        let u = own_range t count rules_laid f.at (omega arith) f.inside (rw (row_at_lem f.at f.inside) f.code_is) in
        let same : cell_at t f.at column.OWN ≡ cell_at t i column.A = rw (row_at_lem f.at f.inside, row_at_lem i h) f.own_is in
        (omega (arith, u, same), omega (arith, u, same))
