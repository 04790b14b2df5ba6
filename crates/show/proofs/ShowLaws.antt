-- What showing answers, and what the table and the output hold, after each answer of reading.
-- Assumes nothing.
use Prim.Native.Nat.{ℕ, ◌-◌, ◌*◌}
use mathlib.Core.Path.{◌≡◌, refl, sym, ap, ◌∙◌}
use mathlib.Core.Logic.{◌≢◌}
use mathlib.Core.Bool.{Bool, false}
use mathlib.Core.List.{List, ◌++◌}
use lib.Dec.{eqb}
use lib.ListN.{length, replicate}
use borrow.Author.Tests.{ne_eqb, eqb-true}
use Rattle.lexemes.proofs.Lists.{either}
use Rattle.numbers.specs.Numbers.{used}
use Rattle.rows.specs.Codes.{is_question}
use Rattle.rows.specs.Table.{cleared}
use Rattle.rows.proofs.ClearLaws.{cleared_whole}
use Rattle.ll1.specs.Trees.{Trees}
use Rattle.answers.specs.Answer.{Answer, accepts}
use Rattle.answers.specs.WholeAnswer.{read_answer, rows_of, read_table}
use Rattle.answers.specs.Demand3.{PassesAll}
use Rattle.answers.proofs.Answers.{passes_sound, passes_derived, passes_rows}
use Rattle.answers.proofs.Demand3.{accepts_passing}
use Rattle.replies.specs.Replies.{Reply, position_of, accepting, read_replied, read_reply}
use Rattle.replies.proofs.Laws.{accepting_only}
use Rattle.read.proofs.AcceptedRows.{no_rows_refused, short_refused}
use Rattle.saved_answers.specs.Good.{good_answers}
use Rattle.saved_answers.proofs.GoodTheorems.{all_ascend}
use Rattle.question_kinds.proofs.Marks.{kinds_held}
use Rattle.table_screen.specs.Questions.{map_read}
use Rattle.table_screen.specs.SourceScreen.{borne, screen_bytes}
use Rattle.table_screen.proofs.SourceScreen.{borne_used, bytes_count, source_screen_lem}
use Rattle.show.specs.Show.{shown_bytes, good_for, shown_for, show_answer, show_reply, show_table, show_output}
use Rattle.show.specs.ShownRows.{unplaced, good_in, bytes_in, rows_answer, rows_table, rows_output}
use Rattle.show.proofs.AnswerLaws.{Shown, reading_refuses, answer_at_fault, fewer_bytes, rows_shown, shown_only, shown_right, accepted_for}
use Rattle.show.proofs.RowLaws.{RowsShown}

-- the answer, the table and the output
abbrev pub Shows : (s answers : List ℕ) (n m : ℕ) → Reply → List ℕ → List ℕ → Type 0
Shows s answers n m r t o = (r ≡ show_reply s answers n m) × ((t ≡ show_table s answers n m) × (o ≡ show_output s answers n m))

-- ---- accepted by reading

-- what is answered after that has no place in the source
unplaced_replied : (s answers : List ℕ) (good m rows free : ℕ) {a : Answer} → Shown answers good m (accepts rows free) a → read_replied s a ≡ unplaced a
unfolding position_of
unplaced_replied s answers good m rows free (reading_refuses z) = refl
unplaced_replied s answers good m rows free (answer_at_fault z e) = refl
unplaced_replied s answers good m rows free (fewer_bytes z e l) = refl
unplaced_replied s answers good m rows free (rows_shown z e l) = refl

-- the bytes are those of its derivation
pub passes_bytes : (s answers : List ℕ) {n : ℕ} {tree : Trees} → PassesAll s n tree → shown_bytes s answers ≡ screen_bytes s tree answers
unfolding shown_bytes
passes_bytes s answers p = rw (passes_derived p, shown_bytes)

module _ (s answers : List ℕ) (n : ℕ) (accepted : (read_answer s n).number ≡ 0) where
  abbrev t : List ℕ
  t = read_table s n

  abbrev count : ℕ
  count = (read_answer s n).rows

  tree : Trees
  tree = ((accepts_passing s n).0 accepted).0

  passes : PassesAll s n tree
  unfolding tree
  passes = ((accepts_passing s n).0 accepted).1

  bytes_are : shown_bytes s answers ≡ screen_bytes s tree answers
  bytes_are = passes_bytes s answers passes

  -- "one byte a row"
  pub bytes_many : length (shown_bytes s answers) ≡ count
  bytes_many = ap length bytes_are ∙ bytes_count s n accepted tree (passes_sound passes) answers

  -- the map of the rows' questions tells what a question of the source bears
  questions_same : used (map_read s n is_question) ≡ borne (rows_of s)
  questions_same = (λ i k. borne_used s n accepted tree (passes_sound passes) k i) ∙ ap borne (sym (passes_rows passes))

  -- "a number no question bears" is 0, among others
  pub none_bears_0 : borne (rows_of s) 0 ≡ false
  none_bears_0 = ap (λ (b : ℕ → Bool). b 0) (sym questions_same) ∙ kinds_held is_question (read_table s n) (read_answer s n).rows 0

  pub good_same : good_in answers t count ≡ good_for s answers
  unfolding good_in good_for
  good_same = ap (λ (b : ℕ → Bool). good_answers b 0 answers) questions_same

  bytes_same : 2 * good_in answers t count ≡ length answers → bytes_in answers t count ≡ shown_bytes s answers
  unfolding good_in bytes_in
  bytes_same all =
      source_screen_lem s n accepted tree (passes_sound passes) answers (all_ascend (used (map_read s n is_question)) answers all) ∙ sym bytes_are

module _ (s answers : List ℕ) (n : ℕ) {count free : ℕ} (e : accepts count free ≡ read_answer s n) (m : ℕ) where
  accepted : (read_answer s n).number ≡ 0
  accepted = ap (λ (a : Answer). a.number) (sym e)

  many : count ≡ (read_answer s n).rows
  many = ap (λ (a : Answer). a.rows) e

  answer_same : rows_answer answers (read_table s n) count free m ≡ show_answer s answers n m
  unfolding rows_answer show_answer
  answer_same =
      ap (λ (g : ℕ). shown_for answers g m (accepts count free)) (ap (good_in answers (read_table s n)) many ∙ good_same s answers n accepted)
      ∙ ap (shown_for answers (good_for s answers) m) e

  -- where it accepts, the bytes are the source's
  output_accepted :
      (show_answer s answers n m).number ≡ 0
      → bytes_in answers (read_table s n) count ++ replicate (m - count) 0 ≡ shown_bytes s answers ++ replicate (m - length (shown_bytes s answers)) 0
  unfolding rows_answer
  output_accepted z =
      let good = good_in answers (read_table s n) count in
      let number : (rows_answer answers (read_table s n) count free m).number ≡ 0 = ap (λ (a : Answer). a.number) answer_same ∙ z in
      let all : 2 * good ≡ length answers = (accepted_for answers good m (accepts count free) (shown_right answers good m (accepts count free)) number).1 in
      let same : bytes_in answers (read_table s n) count ≡ shown_bytes s answers = rw many (bytes_same s answers n accepted (rw many at all)) in
      rw (bytes_many s answers n accepted, ← many, same)

  output_same : rows_output answers (read_table s n) count free m ≡ show_output s answers n m
  unfolding rows_output show_output
  output_same =
      either (eqb (show_answer s answers n m).number 0)
      (λ h. rw (answer_same, h) (output_accepted (eqb-true (show_answer s answers n m).number 0 h)))
      (λ h. rw (answer_same, h))

  table_same : length (read_table s n) ≡ n → rows_table answers (read_table s n) count free m ≡ show_table s answers n m
  unfolding rows_table show_table
  table_same l = rw (answer_same, l)

  reply_same : unplaced (rows_answer answers (read_table s n) count free m) ≡ show_reply s answers n m
  unfolding rows_answer
  reply_same =
      let good = good_in answers (read_table s n) count in
      sym (unplaced_replied s answers good m count free (shown_right answers good m (accepts count free))) ∙ ap (read_replied s) answer_same

pub shown_accepted :
    (s answers : List ℕ) (n : ℕ) (o : List ℕ) {count free : ℕ} {t t' o' : List ℕ} {r : Reply}
    → accepting count free 0 ≡ read_reply s n → t ≡ read_table s n → length t ≡ n
    → RowsShown answers t count free o r t' o' → Shows s answers n (length o) r t' o'
shown_accepted s answers n o e f l p =
    let a = accepting_only s e in
    let q = rw f at p in
    (q.0 ∙ reply_same s answers n a (length o), (q.1.0 ∙ table_same s answers n a (length o) (rw f at l), q.1.1 ∙ output_same s answers n a (length o)))

-- ---- refused by reading

module _ (s answers : List ℕ) (n : ℕ) (o : List ℕ) {t o' : List ℕ} {r : Reply}
    (e : r ≡ read_reply s n) (f : t ≡ read_table s n) (g : o' ≡ cleared o 0) where
  pub unshown : (read_answer s n).number ≢ 0 → Shows s answers n (length o) r t o'
  unfolding read_table show_answer show_table show_output
  unshown h =
      let answer : show_answer s answers n (length o) ≡ read_answer s n =
      shown_only answers (good_for s answers) (length o) (read_answer s n) (reading_refuses h) in
      let no = ne_eqb (read_answer s n).number 0 h in
      (e ∙ sym (ap (read_replied s) answer), (f ∙ rw (answer, no), g ∙ cleared_whole o ∙ rw (answer, no)))

  -- a refusal has no rows, as no accepted source has
  pub unshown_refused : r.rows ≡ 0 → Shows s answers n (length o) r t o'
  unshown_refused none = unshown (no_rows_refused s n e none)

  pub unshown_short : r.number ≡ 6 → Shows s answers n (length o) r t o'
  unshown_short six = unshown (short_refused s n e six)
