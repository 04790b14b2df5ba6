-- The bytes that the passes give are those of the screen (document 02, W-202): for a table in which a source's statements are laid, and so for the
-- table that reading leaves of an accepted source.
-- Assumes nothing.
use Prim.Native.Nat.{ℕ, zero, suc, ◌+◌, ◌<◌}
use mathlib.Core.Path.{◌≡◌, refl, sym, ap, ap₂, ◌∙◌}
use mathlib.Core.Bool.{true, false, cond}
use mathlib.Core.List.{List, ◌∷◌, ◌++◌}
use mathlib.Core.Logic.{◌↔◌}
use mathlib.Core.Option.{Option}
use native.Mathlib.Omega.{arith}
use Rattle.rows.specs.Codes.{member}
use Rattle.rows.specs.Columns as column
use Rattle.rows.specs.Table.{cell_at}
use Rattle.ll1.specs.Trees.{Trees}
use Rattle.ll1.proofs.Basics.{clash}
use Rattle.answers.specs.WholeAnswer.{read_answer, read_table}
use Rattle.answers.specs.Demand3.{Sound}
use Rattle.operators.specs.declared.Scalar.{Scalar}
use Rattle.stored.specs.Stored.{value_at}
use Rattle.saved_answers.specs.Answers.{Ascending, answered}
use Rattle.saved_answers.specs.Search.{question_value}
use Rattle.saved_answers.proofs.Theorems.{value_answered}
use Rattle.formulas.specs.Formula.{Formula}
use Rattle.formulas.specs.Expressions.{Shallow}
use Rattle.laid.specs.Items.{done}
use Rattle.laid.specs.Laid.{FormSetLaid}
use Rattle.laid.specs.Statements.{items_of}
use Rattle.laid.proofs.Theorems.{row_of, statements_laid}
use Rattle.meaning.specs.References.{references}
use Rattle.meaning.proofs.Named.{Agree}
use Rattle.expression_rows.specs.Ends.{value_after}
use Rattle.screen.specs.Kinds.{items, hiding, greying, is_item, hides, greys, byte}
use Rattle.screen.specs.Screen.{Screen, screen_of, source_screen}
use Rattle.screen.specs.Bytes.{bytes}
use Rattle.screen.specs.Round.{size, Stands, ItemAt, EachExpression}
use Rattle.screen.proofs.RowLaws.{stands_cases, stands_inside, in_item}
use Rattle.screen.proofs.ExpressionLaws.{each_within}
use Rattle.screen.proofs.Theorems.{bytes_named, source_shallow}
use Rattle.screen_rows.specs.StatementRow.{StatementRow}
use Rattle.screen_rows.specs.Passes.{own_flags, flags_in, all_flags, shown}
use Rattle.screen_rows.proofs.LaidRows.{laid_size, stands_laid, item_laid}
use Rattle.screen_rows.proofs.RowBytes.{flags_at, rest_all, rest_next, rest_none}
use Rattle.screen_rows.proofs.LaidBytes.{laid_bytes}

-- ---- a table in which the statements of a tree are laid

module _ (t : List ℕ) (count : ℕ) (found : ℕ → List ℕ) {tree : Trees} (laid : FormSetLaid t count found tree) where
  -- the rows of the screen are those of the table: there are as many
  pub laid_rows : size (source_screen found tree) ≡ count
  unfolding source_screen size
  laid_rows = omega (arith, laid_size t count found laid.forms)

  -- a statement of the screen has its row in the table, followed by the rows of its expression
  pub laid_statement :
      {code row : ℕ} {e : Option Formula} {inner : Screen} → Stands code e inner row (source_screen found tree) → StatementRow t count row code e
  unfolding source_screen size
  laid_statement st =
      stands_cases st
      (λ z c e x. rw (z, c, e) (record { inside = omega (arith, laid_rows); code_is = laid.kind; expression = λ y q. clash cc }))
      (λ at u q. stands_laid t count found laid.forms u (omega arith))
      (λ at u q. absurd (omega (arith, stands_inside u)))

  -- and the items of the screen stand where the table has rows of items
  item_row : (row : ℕ) → (row < count) × (is_item (cell_at t row column.CODE) ≡ true) → ItemAt row (source_screen found tree)
  unfolding source_screen is_item items member
  item_row zero h = clash (let w : false ≡ true = rw laid.kind at h.1 in cc)
  item_row (suc n) h =
      let w : suc n ≡ 1 + n = omega arith in
      in_item (omega arith) (item_laid t count found laid.forms n (omega (arith, h.0)) (rw w at h.1))

  pub laid_items : (row : ℕ) → ItemAt row (source_screen found tree) ↔ ((row < count) × (is_item (cell_at t row column.CODE) ≡ true))
  laid_items row = (λ i. let r = laid_statement i.stands in (r.inside, rw r.code_is i.item), item_row row)

-- its bytes are those of the screen
module _ (answers gotos checkboxes : List ℕ) (rules : List Scalar) (t : List ℕ) (count : ℕ) (found : ℕ → List ℕ) {tree : Trees} (laid : FormSetLaid t count found tree) where
  abbrev value : ℕ → Scalar
  value = value_after answers gotos checkboxes rules t count

  -- nothing is round the form set
  form_set_flags : flags_at t value 0 ≡ byte false false
  unfolding flags_in all_flags hides greys hiding greying member
  form_set_flags = ap (λ (k : ℕ). own_flags k (value 0)) laid.kind

  -- and it is no item
  form_set_byte : cond (is_item (cell_at t 0 column.CODE)) (flags_at t value 0) 0 ≡ 0
  unfolding is_item items member
  form_set_byte = rw laid.kind

  abbrev screen_bytes : Screen → List ℕ
  screen_bytes = bytes (question_value answers gotos checkboxes) (value_at rules) false false

  pub laid_shown :
      EachExpression Shallow (source_screen found tree)
      → shown answers gotos checkboxes rules t count
      ≡ bytes (question_value answers gotos checkboxes) (value_at rules) false false (source_screen found tree)
  unfolding shown source_screen bytes is_item hides greys items hiding greying member
  laid_shown each =
      let in_it = laid_bytes answers gotos checkboxes rules t count found laid.forms (each_within Shallow each) (omega arith) false false form_set_flags in
      sym (rest_all t value count)
      ∙ rest_next t value count 0 in_it.up
      ∙ ap₂ (λ (b : ℕ) (l : List ℕ). b ∷ l) form_set_byte
      (in_it.is ∙ ap (λ (l : List ℕ). screen_bytes (screen_of found (items_of tree done)) ++ l) (rest_none t value count))

-- ---- an accepted source

-- it has a derivation, the only one; and its statements are laid in the table of n numbers that reading leaves
module _ (s : List ℕ) (n : ℕ) (accepted : (read_answer s n).number ≡ 0) (tree : Trees) (sound : Sound s tree) where
  abbrev pub screen_read : Screen
  screen_read = source_screen (row_of s n tree sound.derives) tree

  -- the bytes by the answers and the rules' values as the code has them
  pub accepted_shown :
      (answers gotos checkboxes : List ℕ) (rules : List Scalar)
      → shown answers gotos checkboxes rules (read_table s n) (read_answer s n).rows
      ≡ bytes (question_value answers gotos checkboxes) (value_at rules) false false screen_read
  accepted_shown answers gotos checkboxes rules =
      laid_shown answers gotos checkboxes rules (read_table s n) (read_answer s n).rows (row_of s n tree sound.derives)
      (statements_laid s n tree sound.derives accepted)
      (source_shallow (row_of s n tree sound.derives) sound.derives sound.depths)

  -- the screen has as many rows as reading answers
  pub accepted_rows : size screen_read ≡ (read_answer s n).rows
  accepted_rows = laid_rows (read_table s n) (read_answer s n).rows (row_of s n tree sound.derives) (statements_laid s n tree sound.derives accepted)

  -- the statements of the screen have their rows in the table, and the items stand where the table has rows of items
  pub accepted_statement :
      {code row : ℕ} {e : Option Formula} {inner : Screen}
      → Stands code e inner row screen_read → StatementRow (read_table s n) (read_answer s n).rows row code e
  accepted_statement st =
      laid_statement (read_table s n) (read_answer s n).rows (row_of s n tree sound.derives) (statements_laid s n tree sound.derives accepted) st

  pub accepted_items :
      (row : ℕ) → ItemAt row screen_read ↔ ((row < (read_answer s n).rows) × (is_item (cell_at (read_table s n) row column.CODE) ≡ true))
  accepted_items =
      laid_items (read_table s n) (read_answer s n).rows (row_of s n tree sound.derives) (statements_laid s n tree sound.derives accepted)

  -- ---- where the answers ascend, and `values` are those of the rules that the source refers to

  module _ (answers gotos checkboxes : List ℕ) (rules : List Scalar) (ascending : Ascending answers)
      (values : ℕ → Scalar) (valued : EachExpression (λ e. Agree (references e) (value_at rules) values) screen_read) where
    abbrev questions : ℕ → Scalar
    questions = answered answers gotos checkboxes

    pub screen_shown : shown answers gotos checkboxes rules (read_table s n) (read_answer s n).rows ≡ bytes questions values false false screen_read
    screen_shown =
        accepted_shown answers gotos checkboxes rules
        ∙ ap (λ (q : ℕ → Scalar). bytes q (value_at rules) false false screen_read) (value_answered answers ascending gotos checkboxes)
        ∙ bytes_named questions questions (value_at rules) values screen_read (λ k i e inner st. (λ m h. refl, valued k i e inner st)) false false
