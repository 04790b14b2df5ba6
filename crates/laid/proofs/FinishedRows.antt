-- The table that holds a derivation's finished rows holds its drafts: finishing leaves every code, parent and place and the own numbers of rules, and
-- the finished row is found at its draft's place.
-- Assumes nothing.
use Prim.Native.Nat.{ℕ, suc, ◌+◌}
use native.Mathlib.Omega.{arith}
use mathlib.Core.Path.{◌≡◌, refl, sym, ap, ap₂, ◌∙◌}
use mathlib.Core.Bool.{true, false, cond}
use mathlib.Core.List.{List, [], ◌∷◌, map}
use lib.Dec.{eqb}
use lib.ListN.{length, get_or, set, drop}
use lib.Seq.{get_or-set_other}
use borrow.Author.Tests.{ne_eqb}
use Rattle.lexemes.proofs.Lists.{either}
use Rattle.numbers.specs.Numbers.{numbered}
use Rattle.rows.specs.Codes as code
use Rattle.rows.specs.Codes.{is_question, questions}
use Rattle.rows.specs.Columns as column
use Rattle.rows.specs.Table.{row_at}
use Rattle.rows.specs.Rows.{rows_from, laid}
use Rattle.rows.proofs.RunLaws.{rows_flat}
use Rattle.ll1.specs.Trees.{Trees}
use Rattle.ll1.proofs.Basics.{clash}
use Rattle.grammar.specs.Derivation.{Derives}
use Rattle.grammar.specs.Source.{source_tokens}
use Rattle.answers.specs.Rows.{Draft}
use Rattle.answers.specs.Stages.{cell, asks, own_numbers, with_numbers, numbered_rows, settled, finished}
use Rattle.answers.specs.Answer.{drafts}
use Rattle.answers.specs.Text.{row_first_at}
use Rattle.answers.proofs.Demand3.{rows_whole}
use Rattle.answers.proofs.RowPlaces.{rows_by_place}
use Rattle.answers.proofs.Settling.{references_leave}
use Rattle.answers.proofs.FoundRows.{map_map, finished_column, finished_count}
use Rattle.laid.proofs.Held.{RowHeld, Held, held_none, held_more}

-- a column of rows
abbrev across : ℕ → List (List ℕ) → List ℕ
across c = map (λ r. get_or r c 0)

-- ---- the own numbers of rules

-- of a rule's row its own number, 0 of any other
abbrev rule_number : List ℕ → ℕ
rule_number r = cond (eqb (get_or r column.CODE 0) code.RULE) (get_or r column.OWN 0) 0

rule_number_lem :
    (r q : List ℕ)
    → get_or r column.CODE 0 ≡ get_or q column.CODE 0 → get_or q column.CODE 0 ≡ code.RULE → rule_number r ≡ rule_number q
    → get_or r column.OWN 0 ≡ get_or q column.OWN 0
rule_number_lem r q c k e = rw (c, k) at e

-- no question is a rule
question_number : (d : Draft) (v : ℕ) → asks d ≡ true → rule_number (set d.row column.OWN v) ≡ rule_number d.row
unfolding is_question questions code.member
question_number d v q =
    let other : eqb (cell column.CODE d) code.RULE ≡ false =
    ne_eqb (cell column.CODE d) code.RULE (λ e. clash (let z : is_question code.RULE ≡ true = rw e at q in cc)) in
    rw (get_or-set_other d.row column.OWN column.CODE v 0 (λ e. omega arith), other)

rules_leave : (ns : List ℕ) (ds : List Draft) → map (λ d. rule_number d.row) (with_numbers ns ds) ≡ map (λ d. rule_number d.row) ds
unfolding with_numbers
rules_leave ns [] = refl
rules_leave ns (d ∷ ds) =
    either (asks d)
    (λ e. rw e (ap₂ ◌∷◌ (question_number d (get_or ns 0 0) e) (rules_leave (drop 1 ns) ds)))
    (λ e. rw e (ap (◌∷◌ (rule_number d.row)) (rules_leave ns ds)))

-- a reference's number is none of these
reference_number : (d : Draft) (v : ℕ) → rule_number (set d.row column.A v) ≡ rule_number d.row
reference_number d v =
    rw (get_or-set_other d.row column.A column.CODE v 0 (λ e. omega arith), get_or-set_other d.row column.A column.OWN v 0 (λ e. omega arith))

finished_rules : (s : List ℕ) (ds : List Draft) → map rule_number (finished s ds) ≡ map (λ d. rule_number d.row) ds
unfolding finished settled numbered_rows
finished_rules s ds =
    sym (map_map rule_number (λ d. d.row) (settled s ds))
    ∙ references_leave (λ d. rule_number d.row) reference_number s (numbered_rows ds)
    ∙ rules_leave (numbered (own_numbers ds)) ds

-- ---- rows held by a table

module _ (t : List ℕ) (found : ℕ → List ℕ) where
  all_held :
      (ds : List Draft) (i : ℕ)
      → across column.CODE (rows_from t i (length ds)) ≡ map (cell column.CODE) ds
      → across column.PARENT (rows_from t i (length ds)) ≡ map (cell column.PARENT) ds
      → map rule_number (rows_from t i (length ds)) ≡ map (λ d. rule_number d.row) ds
      → rows_from t i (length ds) ≡ map (λ d. found (cell column.PLACE d)) ds
      → Held t found ds i
  unfolding rows_from
  all_held [] i codes parents numbers rows = held_none
  all_held (d ∷ ds) i codes parents numbers rows =
      let next : i + 1 ≡ suc i = omega arith in
      let same : rule_number (row_at t i) ≡ rule_number d.row = cc in
      let first : RowHeld t found d i =
      record { code_is = cc; parent_is = cc; own_is = λ q. rule_number_lem (row_at t i) d.row (cc) q same; row_is = cc } in
      held_more first (rw next at (all_held ds (i + 1) (cc) (cc) (cc) (cc)))

-- ---- a source with its derivation

module _ (s : List ℕ) (n : ℕ) (tree : Trees) where
  -- the table with the finished rows, and the row of a place
  abbrev pub table : List ℕ
  table = laid (finished s (drafts s tree)) n

  abbrev pub found : ℕ → List ℕ
  found = row_first_at (finished s (drafts s tree))

  pub drafts_held : Derives (source_tokens s) tree → Held table found (drafts s tree) 0
  unfolding laid
  drafts_held derives =
      let ds = drafts s tree in
      let all : rows_from table 0 (length (finished s ds)) ≡ finished s ds = rows_flat (rows_whole s tree derives) _ in
      let rows : rows_from table 0 (length ds) ≡ finished s ds = rw (finished_count s ds) at all in
      all_held table found ds 0
      (ap (across column.CODE) rows ∙ finished_column s ds column.CODE (λ q. omega arith) (λ q. omega arith))
      (ap (across column.PARENT) rows ∙ finished_column s ds column.PARENT (λ q. omega arith) (λ q. omega arith))
      (ap (map rule_number) rows ∙ finished_rules s ds)
      (rows ∙ sym (rows_by_place s tree derives))
