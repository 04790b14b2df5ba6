-- The answer for the rows of a table, by the tests of the code, and what the table and the output then hold.
-- Assumes nothing.
use Prim.Native.Nat.{ℕ, ◌-◌, ◌*◌, ◌^◌, ◌≤◌, ◌<◌}
use native.Mathlib.Omega.{arith}
use mathlib.Core.Path.{◌≡◌, refl, ◌∙◌}
use mathlib.Core.Logic.{◌≢◌}
use mathlib.Core.List.{List, ◌++◌}
use lib.ListN.{length, take, drop, replicate, length-append, length-drop}
use lib.Seq.{take_at, length-take-le}
use borrow.Author.Tests.{ne_eqb}
use Rattle.numbers.specs.Numbers.{empty_map, used, with_all_used}
use Rattle.rows.specs.Codes.{is_question}
use Rattle.rows.specs.Table.{cleared}
use Rattle.rows.proofs.ClearLaws.{cleared_whole}
use Rattle.answers.specs.Answer.{Answer, accepts, refuses}
use Rattle.replies.specs.Replies.{Reply, accepting}
use Rattle.saved_answers.specs.Good.{good_answers}
use Rattle.saved_answers.proofs.GoodTheorems.{good_few}
use Rattle.question_kinds.specs.Kinds.{is_goto, is_checkbox, table_owns}
use Rattle.table_screen.specs.TableScreen.{table_screen}
use Rattle.show.specs.ShownRows.{unplaced, good_in, bytes_in, rows_answer, rows_table, rows_output}
use Rattle.show.proofs.AnswerLaws.{Shown, answer_at_fault, fewer_bytes, rows_shown, shown_only}

-- ---- the answers

-- twice as many answers as are good are no more than there are words
pub good_fits : (questions answers : List ℕ) {good : ℕ} → good ≡ good_answers (used questions) 0 answers → length answers < 2 ^ 64 → 2 * good < 2 ^ 64
good_fits questions answers e h = omega (arith, e, good_few (used questions) 0 answers)

-- by the map of the rows' questions
pub good_counted :
    (answers t : List ℕ) (count : ℕ) {empty questions : List ℕ} {good : ℕ}
    → empty ≡ empty_map → questions ≡ with_all_used empty (table_owns is_question t count) → good ≡ good_answers (used questions) 0 answers
    → good ≡ good_in answers t count
unfolding good_in
good_counted answers t count e f h = h ∙ rw (f, e)

module _ (answers t : List ℕ) (count free : ℕ) (o : List ℕ) where
  -- the answer, the table and the output
  abbrev pub RowsShown : Reply → List ℕ → List ℕ → Type 0
  RowsShown r t' o' =
      (r ≡ unplaced (rows_answer answers t count free (length o)))
      × ((t' ≡ rows_table answers t count free (length o)) × (o' ≡ rows_output answers t count free (length o)))

  -- ---- refused

  refused :
      (number place : ℕ) {r : Reply} {t' o' : List ℕ}
      → number ≢ 0 → rows_answer answers t count free (length o) ≡ refuses number place
      → r ≡ unplaced (refuses number place) → t' ≡ cleared t 0 → o' ≡ cleared o 0 → RowsShown r t' o'
  unfolding rows_table rows_output
  refused number place z a e f g =
      let no = ne_eqb number 0 z in
      (e ∙ rw a, (f ∙ cleared_whole t ∙ rw (a, no), g ∙ cleared_whole o ∙ rw (a, no)))

  module _ {good : ℕ} (counted : good ≡ good_in answers t count) where
    -- as with any answers of which so many are good
    by_tests : {a : Answer} → Shown answers good (length o) (accepts count free) a → rows_answer answers t count free (length o) ≡ a
    unfolding rows_answer
    by_tests h = rw (← counted) (shown_only answers good (length o) (accepts count free) h)

    pub at_fault :
        {r : Reply} {t' o' : List ℕ} → 2 * good ≢ length answers
        → r ≡ unplaced (refuses 15 good) → t' ≡ cleared t 0 → o' ≡ cleared o 0 → RowsShown r t' o'
    at_fault h = refused 15 good (omega arith) (by_tests (answer_at_fault refl h))

    module _ (all : 2 * good ≡ length answers) where
      pub too_few :
          {r : Reply} {t' o' : List ℕ} → length o < count
          → r ≡ unplaced (refuses 30 0) → t' ≡ cleared t 0 → o' ≡ cleared o 0 → RowsShown r t' o'
      too_few h = refused 30 0 (omega arith) (by_tests (fewer_bytes refl all h))

      -- ---- accepted

      bytes_by :
          {empty₁ empty₂ gotos checkboxes : List ℕ}
          → empty₁ ≡ empty_map → gotos ≡ with_all_used empty₁ (table_owns is_goto t count)
          → empty₂ ≡ empty_map → checkboxes ≡ with_all_used empty₂ (table_owns is_checkbox t count)
          → count ≤ length o → table_screen answers gotos checkboxes t (length (take count o)) ≡ bytes_in answers t count
      unfolding bytes_in
      bytes_by e f g h l = rw (f, e, h, g, length-take-le count o l)

      -- the bytes take the place of the first `count`, and the rest is cleared
      bytes_cleared :
          (bytes : List ℕ) → length bytes ≡ count → count ≤ length o
          → cleared (bytes ++ drop count o) count ≡ bytes ++ replicate (length o - count) 0
      unfolding cleared
      bytes_cleared bytes e l =
          let same : length (bytes ++ drop count o) ≡ length o = length-append bytes (drop count o) ∙ rw (length-drop count o, e) (omega arith) in
          rw (take_at bytes (drop count o) count e, same)

      pub all_shown :
          {empty₁ empty₂ gotos checkboxes bytes t' o' : List ℕ}
          → count ≤ length o
          → empty₁ ≡ empty_map → gotos ≡ with_all_used empty₁ (table_owns is_goto t count)
          → empty₂ ≡ empty_map → checkboxes ≡ with_all_used empty₂ (table_owns is_checkbox t count)
          → bytes ≡ table_screen answers gotos checkboxes t (length (take count o)) → length bytes ≡ length (take count o)
          → t' ≡ t → o' ≡ cleared (bytes ++ drop count o) count → RowsShown (accepting count free 0) t' o'
      unfolding rows_table rows_output
      all_shown {bytes = bytes} l e f g h b n i j =
          let a = by_tests (rows_shown refl all l) in
          let many : length bytes ≡ count = n ∙ length-take-le count o l in
          let is : bytes ≡ bytes_in answers t count = b ∙ bytes_by e f g h l in
          (rw a, (i ∙ rw a, j ∙ bytes_cleared bytes many l ∙ rw (a, is)))
