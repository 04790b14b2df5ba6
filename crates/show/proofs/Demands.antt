-- Document 02's request W-202 of the function `show`: what its contract says of every source, answers, table and output lent; demand 1 of document 01
-- and W-201 too.
-- Assumes nothing.
use Prim.Native.Nat.{ℕ, ◌-◌, ◌*◌, ◌/◌, ◌%◌, ◌≤◌, ◌<◌}
use native.Mathlib.Omega.{arith}
use mathlib.Core.Path.{◌≡◌, refl, sym, ap, ◌∙◌}
use mathlib.Core.Logic.{◌↔◌, ◌≢◌}
use mathlib.Core.Bool.{Bool, true}
use mathlib.Core.List.{List, [], ◌++◌}
use lib.ListN.{length, get_or, replicate}
use borrow.Author.Tests.{eq-eqb, ne_eqb}
use borrow.Fn.Kinds.{Dens, ended_of}
use contract.Lifetimes.{Lfts}
use denote.Triple.Clauses.{AtExit}
use Rattle.ll1.proofs.Basics.{clash}
use Rattle.rows.specs.Codes.{is_question}
use Rattle.rows.specs.Columns as column
use Rattle.rows.specs.Columns.{ROW}
use Rattle.rows.specs.Table.{cell_at}
use Rattle.rows.specs.Rows.{laid}
use Rattle.rows.proofs.CellLaws.{get_or_padded}
use Rattle.ll1.specs.Trees.{Trees}
use Rattle.answers.specs.Answer as answer
use Rattle.answers.specs.Answer.{LONGEST, refuses, drafts}
use Rattle.answers.specs.WholeAnswer.{read_answer, rows_of, read_table}
use Rattle.answers.specs.Demand3.{Sound}
use Rattle.answers.proofs.Answers.{passes_rows}
use Rattle.answers.proofs.Demand3 as Demand3
use Rattle.replies.specs.Replies.{Reply, position_of, read_replied, read_reply}
use Rattle.replies.specs.Lines.{GivesLine}
use Rattle.replies.proofs.Laws.{gives_line}
use Rattle.std.specs.Prelude.{Result}
use Rattle.read.specs.declared.Accepted.{Accepted}
use Rattle.show.specs.declared.Refusal.{Refusal}
use Rattle.show.specs.Answers.{told}
use Rattle.operators.specs.declared.Scalar.{Scalar}
use Rattle.operators.specs.declared.Scalar.TheVariants.{Boolean, Undefined}
use Rattle.formulas.specs.Formula.{Formula}
use Rattle.meaning.specs.Meaning.{meaning}
use Rattle.meaning.specs.Rules.{Solves}
use Rattle.saved_answers.specs.Answers.{saved_for, by_kind}
use Rattle.question_kinds.specs.Kinds.{is_goto, is_checkbox}
use Rattle.screen.specs.Kinds.{is_item, hides, greys}
use Rattle.screen.specs.Round.{ItemAt, Round, SomeTrue}
use Rattle.screen_rows.proofs.Theorems.{accepted_items}
use Rattle.form_set_rules.specs.Rules.{source_rules}
use Rattle.table_screen.specs.SourceScreen.{borne, source_rows, statements, questions, rules, screen_bytes}
use Rattle.table_screen.proofs.SourceScreen as source
use Rattle.show.specs.Show.{shown_bytes, good_for, show_answer, show_reply, show_table, show_output}
use Rattle.show.specs.ShownRows.{unplaced}
use Rattle.show.specs.FirstFault.{AllGood, FirstFault}
use Rattle.show.proofs.AnswerLaws.{Shown, reading_refuses, answer_at_fault, fewer_bytes, rows_shown, shown_only, shown_right}
use Rattle.show.proofs.AnswerLaws.{accepted_for, fault_for, few_for, own_numbers_lem}
use Rattle.show.proofs.FaultLaws.{all_good, first_fault_lem}
use Rattle.show.proofs.ShowLaws.{none_bears_0, passes_bytes}
use Rattle.show.proofs.show.Kinds as kinds
use Rattle.show.proofs.show.Reads as promise

-- what a call of `show` does: the source s is shown by these answers through a table of n numbers into m bytes; r is the answer, t' the table and o'
-- the output afterwards
pub record Showing (s answers : List ℕ) (n m : ℕ) (r : Result Accepted Refusal) (t' o' : List ℕ) : Type 0 where
  pub answer : told r ≡ show_reply s answers n m
  pub table : t' ≡ show_table s answers n m
  pub output : o' ≡ show_output s answers n m

-- every call does so: what the contract of `show` promises a caller who lends a and finds e lent back
pub showing :
    (κs : Lfts 4) (a : Dens κs kinds.ps) (r : Result Accepted Refusal) (e : AtExit (ended_of 4 kinds.ps kinds.r) κs)
    → promise.Learnt κs a r e
    → Showing a.0.now a.1.0.now (length a.1.1.0.now) (length a.1.1.1.0.now) r e.1.1.0.now e.1.1.1.0.now
showing κs a r e p = record { answer = p.0; table = p.1.0; output = p.1.1 }

module _ {s answers : List ℕ} {n m : ℕ} {r : Result Accepted Refusal} {t' o' : List ℕ} (v : Showing s answers n m r t' o') where
  number : (told r).number ≡ (show_answer s answers n m).number
  number = ap (λ (a : Reply). a.number) v.answer

  -- ---- demand 1: "all lent memory for results is then zero"

  pub refused_zeros : (told r).number ≢ 0 → (t' ≡ replicate n 0) × (o' ≡ replicate m 0)
  unfolding show_table show_output
  refused_zeros h = let e = ne_eqb (show_answer s answers n m).number 0 (λ z. h (number ∙ z)) in (v.table ∙ rw e, v.output ∙ rw e)

  -- ---- W-201: line and column beside the place; 15 and 30 have none

  pub gives_both : GivesLine s (told r)
  gives_both = let a = show_answer s answers n m in rw v.answer (gives_line s a.number a.place a.rows a.free 0)

  -- ---- what is answered, and for what

  -- reading accepts the source
  abbrev Reads : Type 0
  Reads = (read_answer s n).number ≡ 0

  -- whether a question of the source's rows bears a number
  abbrev bears : ℕ → Bool
  bears = borne (rows_of s)

  -- each answer with what it is given for
  abbrev ShownAs : answer.Answer → Type 0
  ShownAs = Shown answers (good_for s answers) m (read_answer s n)

  given : {a : answer.Answer} → ShownAs a → told r ≡ read_replied s a
  unfolding show_answer
  given h = v.answer ∙ ap (read_replied s) (shown_only answers (good_for s answers) m (read_answer s n) h)

  right : ShownAs (show_answer s answers n m)
  unfolding show_answer
  right = shown_right answers (good_for s answers) m (read_answer s n)

  all_exactly : Reads → (2 * good_for s answers ≡ length answers) ↔ AllGood bears answers
  unfolding good_for
  all_exactly reads = all_good bears answers (none_bears_0 s answers n reads)

  first_exactly : Reads → (k : ℕ) → FirstFault bears answers k ↔ ((2 * good_for s answers ≢ length answers) × (k ≡ good_for s answers))
  unfolding good_for
  first_exactly reads = first_fault_lem bears answers (none_bears_0 s answers n reads)

  -- "Refusals: reading's own"
  pub reading_own : (read_answer s n).number ≢ 0 → told r ≡ read_reply s n
  reading_own h = given (reading_refuses h)

  -- "15, answers not strictly ascending or with a number no question bears, place the first such, from 0"
  pub fault_place : Reads → (k : ℕ) → FirstFault bears answers k → told r ≡ unplaced (refuses 15 k)
  unfolding position_of
  fault_place reads k f = let e = (first_exactly reads k).0 f in rw e.1 (given (answer_at_fault reads e.0))

  pub fault_exactly : ((told r).number ≡ 15) ↔ (Reads × ((k : ℕ) × FirstFault bears answers k))
  fault_exactly = (
    λ e.
        let f = fault_for answers (good_for s answers) m (read_answer s n) (own_numbers_lem s n) right (sym number ∙ e) in
        (f.0, (good_for s answers, (first_exactly f.0 (good_for s answers)).1 (f.1, refl))),
    λ f. ap (λ (a : Reply). a.number) (fault_place f.0 f.1.0 f.1.1),
  )

  -- "an odd last word is an answer out of order"
  pub odd_last_word : Reads → length answers % 2 ≡ 1 → (told r).number ≡ 15
  odd_last_word reads odd = ap (λ (a : Reply). a.number) (given (answer_at_fault reads (λ e. omega arith)))

  -- "then 30, fewer bytes lent than rows, place 0"
  pub few_place : Reads × AllGood bears answers × (m < (read_answer s n).rows) → told r ≡ unplaced (refuses 30 0)
  unfolding position_of
  few_place f = given (fewer_bytes f.0 ((all_exactly f.0).1 f.1) f.2)

  pub few_exactly : ((told r).number ≡ 30) ↔ (Reads × AllGood bears answers × (m < (read_answer s n).rows))
  few_exactly = (
    λ e.
        let f = few_for answers (good_for s answers) m (read_answer s n) (own_numbers_lem s n) right (sym number ∙ e) in
        (f.0, (all_exactly f.0).0 f.1, f.2),
    λ f. ap (λ (a : Reply). a.number) (few_place f),
  )

  -- in every other case it is accepted, as reading accepts it
  pub accepted_exactly : ((told r).number ≡ 0) ↔ (Reads × AllGood bears answers × ((read_answer s n).rows ≤ m))
  accepted_exactly = (
    λ e. let f = accepted_for answers (good_for s answers) m (read_answer s n) right (sym number ∙ e) in (f.0, (all_exactly f.0).0 f.1, f.2),
    λ f. ap (λ (a : Reply). a.number) (given (rows_shown f.0 ((all_exactly f.0).1 f.1) f.2)) ∙ f.0,
  )

  -- in document 01's terms: the source has a derivation whose rules hold, its rows find room in the table and in the output, and every answer is good
  pub accepted_with_room :
      ((told r).number ≡ 0)
      ↔ ((tree : Trees) × Sound s tree × (length s ≤ LONGEST) × (length (drafts s tree) ≤ n / ROW)
      × AllGood (borne (source_rows s tree)) answers × (length (drafts s tree) ≤ m))
  accepted_with_room = (
    λ e.
        let f = accepted_exactly.0 e in
        let w = (Demand3.accepts_with_room s n).0 f.0 in
        let same = derived f.0 w.0 w.1 in
        (w.0, w.1, w.2, w.3, rw same.0 at f.1, rw same.1 at f.2),
    λ w.
        let reads : Reads = (Demand3.accepts_with_room s n).1 (w.0, w.1, w.2, w.3) in
        let same = derived reads w.0 w.1 in
        accepted_exactly.1 (reads, rw same.0 w.4, rw same.1 w.5),
  )
    where
      derived : Reads → (tree : Trees) → Sound s tree → (rows_of s ≡ source_rows s tree) × ((read_answer s n).rows ≡ length (drafts s tree))
      derived reads tree sound = (
        passes_rows (Demand3.accepted_passes s n reads tree sound.derives),
        ap (λ (a : answer.Answer). a.rows) (Demand3.counts_exactly s n reads tree sound.derives),
      )

  -- ---- an accepting answer

  module _ (accepted : (told r).number ≡ 0) where
    reads : Reads
    reads = (accepted_exactly.0 accepted).0

    -- "The showing call reads the source into a lent table first": answer and table are reading's
    pub reads_first : (told r ≡ read_reply s n) × (t' ≡ read_table s n)
    unfolding show_table
    reads_first =
        let f = accepted_exactly.0 accepted in
        (given (rows_shown f.0 ((all_exactly f.0).1 f.1) f.2), v.table ∙ rw (eq-eqb (show_answer s answers n m).number 0 (sym number ∙ accepted)))

    rows_told : (told r).rows ≡ (read_answer s n).rows
    rows_told = ap (λ (a : Reply). a.rows) reads_first.0

    -- the source with its derivation, the only one
    module _ (tree : Trees) (sound : Sound s tree) where
      -- "one byte a row"
      pub one_byte_a_row : length (screen_bytes s tree answers) ≡ (told r).rows
      one_byte_a_row = source.bytes_count s n reads tree sound answers ∙ sym rows_told

      -- "Here and later, lent results past what is written are 0"
      pub bytes_then_zeros : o' ≡ screen_bytes s tree answers ++ replicate (m - (told r).rows) 0
      unfolding show_output
      bytes_then_zeros =
          let bytes : shown_bytes s answers ≡ screen_bytes s tree answers = passes_bytes s answers (Demand3.accepted_passes s n reads tree sound.derives) in
          v.output ∙ rw (eq-eqb (show_answer s answers n m).number 0 (sym number ∙ accepted), bytes, one_byte_a_row)

      pub rows_then_zeros : t' ≡ laid (source_rows s tree) n
      rows_then_zeros = reads_first.1 ∙ Demand3.rows_exactly s n reads tree sound.derives

      -- "each item that is no condition": the rows in the table that are such
      pub items_exactly : (row : ℕ) → ItemAt row (statements s tree) ↔ ((row < (told r).rows) × (is_item (cell_at t' row column.CODE) ≡ true))
      items_exactly = rw (rows_told, reads_first.1) (accepted_items s n reads tree sound)

      byte_is : (row : ℕ) → get_or o' row 0 ≡ get_or (screen_bytes s tree answers) row 0
      byte_is row = rw bytes_then_zeros (get_or_padded (screen_bytes s tree answers) (m - (told r).rows) row)

      -- what an expression of the source is worth by the answers
      abbrev value : Formula → Scalar
      value = meaning (questions s tree answers) (rules s tree answers)

      module _ {row : ℕ} (item : ItemAt row (statements s tree)) where
        -- "An item is hidden when some `suppressif` or `disableif` round it is TRUE": its byte has 1
        pub hidden_exactly : (get_or o' row 0 % 2 ≡ 1) ↔ SomeTrue (questions s tree answers) (rules s tree answers) hides row (statements s tree)
        hidden_exactly = rw (byte_is row) (source.hidden_exactly s tree answers item)

        -- "grey when some `grayoutif` is": its byte has 2
        pub grey_exactly : (get_or o' row 0 / 2 ≡ 1) ↔ SomeTrue (questions s tree answers) (rules s tree answers) greys row (statements s tree)
        grey_exactly = rw (byte_is row) (source.grey_exactly s tree answers item)

        -- "1 for hidden plus 2 for grey", and nothing else
        pub byte_small : get_or o' row 0 < 4
        byte_small = rw (byte_is row) (source.byte_small s tree answers item)

        -- an item has 0 where no condition round it is TRUE
        pub none_true :
            ((code : ℕ) (condition : Formula) → Round code condition row (statements s tree) → value condition ≢ Boolean true) → get_or o' row 0 ≡ 0
        none_true none =
            let not_hidden : get_or o' row 0 % 2 ≢ 1 = λ e. let x = hidden_exactly.0 e in none x.code x.condition x.round x.holds in
            let not_grey : get_or o' row 0 / 2 ≢ 1 = λ e. let x = grey_exactly.0 e in none x.code x.condition x.round x.holds in
            omega (arith, byte_small, not_hidden, not_grey)

        -- "undefined hides nothing", nor does it grey
        pub undefined_nothing :
            ((code : ℕ) (condition : Formula) → Round code condition row (statements s tree) → value condition ≡ Undefined) → get_or o' row 0 ≡ 0
        undefined_nothing undefined = none_true (λ code condition round e. clash (cc (sym e ∙ undefined code condition round)))

      -- "0 for other rows"
      pub other_rows_zero : (row : ℕ) → (ItemAt row (statements s tree) → ⊥) → get_or o' row 0 ≡ 0
      other_rows_zero row none = byte_is row ∙ source.other_rows_zero s tree answers row none

      -- ---- the values that this goes by

      -- a rule is worth its expression: the values solve the rules' equations, and no others do
      pub rules_only :
          Solves (source_rules s tree) (questions s tree answers) (rules s tree answers)
          × ((others : ℕ → Scalar) → Solves (source_rules s tree) (questions s tree answers) others → (k : ℕ) → others k ≡ rules s tree answers k)
      rules_only = source.rules_only s tree answers sound

      -- "a checkbox answers FALSE for 0 and TRUE otherwise, a goto or a missing answer is undefined": by the question's own row
      pub question_answered :
          (row : ℕ) → row < length (source_rows s tree)
          → let code = get_or (get_or (source_rows s tree) row []) column.CODE 0 in
          let own = get_or (get_or (source_rows s tree) row []) column.OWN 0 in
          is_question code ≡ true → questions s tree answers own ≡ by_kind (is_goto code) (is_checkbox code) (saved_for own answers)
      question_answered row inside = source.question_answered s n reads tree sound answers row inside
