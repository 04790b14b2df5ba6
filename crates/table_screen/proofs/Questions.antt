-- The questions of an accepted source, and the maps of their numbers that `question_kinds::mark_rows` makes of its rows (document 02, W-202).
-- Assumes nothing.
use Prim.Native.Nat.{ℕ, ◌≤◌, ◌<◌}
use mathlib.Core.Path.{◌≡◌, refl, ◌∙◌}
use mathlib.Core.Bool.{Bool, true, ◌&&◌, and-false}
use mathlib.Core.List.{List, [], ◌∷◌}
use borrow.Author.Tests.{eqb-true}
use lib.ListN.{length, get_or}
use Rattle.lexemes.proofs.Lists.{either}
use Rattle.numbers.specs.Numbers.{is_number, used, mem}
use Rattle.numbers.proofs.Numbering.{Own}
use Rattle.rows.specs.Codes.{GOTO, CHECKBOX, member, questions, is_question}
use Rattle.rows.specs.Columns as column
use Rattle.rows.specs.Table.{cell_at}
use Rattle.rows.proofs.LaidLaws.{cell_laid}
use Rattle.ll1.specs.Trees.{Trees}
use Rattle.answers.specs.Answer.{LONGEST, drafts}
use Rattle.answers.specs.WholeAnswer.{read_answer, read_table}
use Rattle.answers.specs.Demand3.{Sound, question_numbers}
use Rattle.answers.proofs.Demand3.{accepted_passes, counts_exactly, rows_exactly, rows_whole, numbers_exactly}
use Rattle.answers.proofs.Answers.{passes_grammatical}
use Rattle.answers.proofs.FoundRows.{finished_count}
use Rattle.again.proofs.SettledRows.{own}
use Rattle.question_kinds.specs.Kinds.{is_goto, is_checkbox, own_in, owns_in, table_owns, Bears}
use Rattle.question_kinds.proofs.Marks.{kinds_held}
use Rattle.question_kinds.proofs.Theorems.{mem_bears, kind_told}
use Rattle.form_set_rules.proofs.Tables.{table, count, rows_start}
use Rattle.table_screen.specs.Questions.{map_read}
use Rattle.table_screen.specs.SourceScreen.{source_rows}

-- gotos and checkboxes are questions
asks : (k : ℕ) → is_question k ≡ true → (c : ℕ) → c ≡ k → is_question c ≡ true
asks k e c f = rw f e

pub goto_asks : (c : ℕ) → is_goto c ≡ true → is_question c ≡ true
unfolding is_question questions member
goto_asks c e = asks GOTO refl c (eqb-true c GOTO e)

pub checkbox_asks : (c : ℕ) → is_checkbox c ≡ true → is_question c ≡ true
unfolding is_question questions member
checkbox_asks c e = asks CHECKBOX refl c (eqb-true c CHECKBOX e)

-- the numbers of questions, in their order
numbers_are : (rs : List (List ℕ)) → owns_in is_question rs ≡ question_numbers rs
unfolding owns_in own_in question_numbers
numbers_are [] = refl
numbers_are (r ∷ rs) = either (is_question (get_or r column.CODE 0)) (λ e. rw (e, numbers_are rs)) (λ e. rw (e, numbers_are rs))

-- an accepted source, with its derivation, and the table of n numbers that reading leaves
module _ (s : List ℕ) (n : ℕ) (accepted : (read_answer s n).number ≡ 0) (tree : Trees) (sound : Sound s tree) where
  pub table_is : read_table s n ≡ table s tree n
  table_is = rows_exactly s n accepted tree sound.derives

  pub count_is : (read_answer s n).rows ≡ count s tree
  count_is = rw (counts_exactly s n accepted tree sound.derives)

  -- the own numbers of its rows of a kind
  abbrev owns_read : (ℕ → Bool) → List ℕ
  owns_read kind = table_owns kind (read_table s n) (read_answer s n).rows

  owns_are : (kind : ℕ → Bool) → owns_read kind ≡ owns_in kind (source_rows s tree)
  owns_are kind = rw (table_is, count_is, rows_start s tree sound.derives n)

  -- every question has a number of its own, of 1 to 65,535
  numbers_own : Own (owns_read is_question)
  numbers_own =
      let short : length s ≤ LONGEST = (passes_grammatical (accepted_passes s n accepted tree sound.derives)).short in
      rw (owns_are is_question, numbers_are (source_rows s tree), numbers_exactly s tree sound.derives) (own s tree sound short)

  question_number : (k : ℕ) → Bears is_question (read_table s n) (read_answer s n).rows k → is_number k ≡ true
  question_number k b = numbers_own.within k ((mem_bears is_question (read_table s n) (read_answer s n).rows k).1 b)

  -- ---- a kind of questions

  module _ (kind : ℕ → Bool) (asks : (c : ℕ) → kind c ≡ true → is_question c ≡ true) where
    own_number : (k : ℕ) → mem k (owns_read kind) ≡ true → is_number k ≡ true
    own_number k h =
        let b = (mem_bears kind (read_table s n) (read_answer s n).rows k).0 h in
        question_number k (record { row = b.row; inside = b.inside; kind = asks _ b.kind; own = b.own })

    -- its map holds the own numbers of the rows of this kind
    pub kind_used : (k : ℕ) → used (map_read s n kind) k ≡ mem k (owns_in kind (source_rows s tree))
    kind_used k =
        let all : (is_number k && mem k (owns_read kind)) ≡ mem k (owns_read kind) =
        either (mem k (owns_read kind)) (λ e. rw (e, own_number k e)) (λ e. rw (e, and-false (is_number k))) in
        kinds_held kind (read_table s n) (read_answer s n).rows k ∙ all ∙ rw (owns_are kind)

    -- and so tells whether the question of row i is of this kind
    pub kind_of :
        (i : ℕ) → i < length (source_rows s tree) → is_question (get_or (get_or (source_rows s tree) i []) column.CODE 0) ≡ true
        → mem (get_or (get_or (source_rows s tree) i []) column.OWN 0) (owns_in kind (source_rows s tree))
        ≡ kind (get_or (get_or (source_rows s tree) i []) column.CODE 0)
    kind_of i inside q = rw (← kind_used _, ← cells column.CODE, ← cells column.OWN) told
      where
        cells : (c : ℕ) → cell_at (read_table s n) i c ≡ get_or (get_or (source_rows s tree) i []) c 0
        cells c = rw table_is (cell_laid (rows_whole s tree sound.derives) n i c)

        within : i < (read_answer s n).rows
        within = rw (count_is, ← finished_count s (drafts s tree)) inside

        question : is_question (cell_at (read_table s n) i column.CODE) ≡ true
        question = rw (cells column.CODE) q

        told : used (map_read s n kind) (cell_at (read_table s n) i column.OWN) ≡ kind (cell_at (read_table s n) i column.CODE)
        told =
            kind_told kind asks (read_table s n) (read_answer s n).rows numbers_own.once i within question
            (question_number _ (record { row = i; inside = within; kind = question; own = refl }))
