-- Demands 1 and 3 of the functions `read` and `quick_check`: what their contracts say of every source and every table lent, in document 01's terms
-- with W-202's to W-204's, which are those of `answers`' `specs/Demand3`; and document 02's requests W-201, W-203, W-204 and W-208 of
-- `read`.
-- Assumes nothing.
use Prim.Native.Nat.{ℕ, ◌+◌, ◌-◌, ◌*◌, ◌/◌, ◌^◌, ◌≤◌, ◌<◌}
use mathlib.Core.Path.{◌≡◌, sym, ap, ◌∙◌}
use mathlib.Core.Bool.{true}
use mathlib.Core.Logic.{◌↔◌, ◌≢◌}
use mathlib.Core.List.{List, []}
use lib.ListN.{length, get_or, drop, replicate}
use borrow.Author.Tests.{ne_eqb}
use borrow.Fn.Kinds.{Dens, ended_of}
use contract.Lifetimes.{Lfts}
use denote.Triple.Clauses.{AtExit}
use Rattle.std.specs.Prelude.{Result}
use Rattle.numbers.specs.Numbers.{numbered, free_count}
use Rattle.rows.specs.Codes as code
use Rattle.rows.specs.Columns as column
use Rattle.rows.specs.Columns.{ROW}
use Rattle.rows.specs.Rows.{rows_from, laid}
use Rattle.ll1.specs.Trees.{Trees, node}
use Rattle.grammar.specs.Rules.{<item>}
use Rattle.grammar.specs.Positions.{item_numeric}
use Rattle.grammar.specs.Source.{number_at}
use Rattle.answers.specs.Stages.{place_of, row_among, in_vain, own_numbers, finished}
use Rattle.answers.specs.Answer as answers
use Rattle.answers.specs.Answer.{LONGEST, refuses, drafts}
use Rattle.answers.specs.WholeAnswer.{quick_check, read_answer, read_table}
use Rattle.answers.specs.Demand3.{Sound, Early, Passes, Refuses, question_numbers, GetsSmallest}
use Rattle.answers.specs.Reached.{Reached}
use Rattle.answers.specs.Forms.{column_of, OfItsForm, Stray}
use Rattle.answers.specs.MissingStep.{Stepped, drafts_before, answer_before, writes_steps}
use Rattle.answers.proofs.Answers.{passes_grammatical}
use Rattle.answers.proofs.Demand3 as Demand3
use Rattle.answers.proofs.OwnForm as OwnForm
use Rattle.answers.proofs.MissingStep as MissingStep
use Rattle.sound.specs.SizedRows.{ColumnTwelve}
use Rattle.sound.proofs.SizedRows as SizedRows
use Rattle.replies.specs.Replies.{position_of, accepting, read_replied, read_reply}
use Rattle.replies.specs.Lines.{GivesLine}
use Rattle.replies.proofs.Laws.{gives_line, read_replied_only}
use Rattle.read.specs.declared.Accepted.{Accepted}
use Rattle.read.specs.declared.Refusal.{Refusal}
use Rattle.read.specs.Answers.{told}
use Rattle.read.proofs.read.Kinds as kinds
use Rattle.read.proofs.read.Reads as promise
use Rattle.read.proofs.quick_check.Kinds as quick_kinds
use Rattle.read.proofs.quick_check.Reads as quick_promise

-- what a call of `read` does: the source s is read into a table of n numbers; r is the answer, and t' the table afterwards
pub record Reading (s : List ℕ) (n : ℕ) (r : Result Accepted Refusal) (t' : List ℕ) : Type 0 where
  pub answer : told r ≡ read_reply s n
  pub table : t' ≡ read_table s n

-- every call does so: what the contract of `read` promises a caller who lends a and finds e lent back
pub reading :
    (κs : Lfts 2) (a : Dens κs kinds.ps) (r : Result Accepted Refusal) (e : AtExit (ended_of 2 kinds.ps kinds.r) κs)
    → promise.Learnt κs a r e → Reading a.0.now (length a.1.0.now) r e.1.0.now
reading κs a r e p = record { answer = p.0; table = p.1 }

module _ {s : List ℕ} {n : ℕ} {r : Result Accepted Refusal} {t' : List ℕ} (v : Reading s n r t') where
  number : (told r).number ≡ (read_answer s n).number
  number = ap (λ a. a.number) v.answer

  -- ---- demand 1

  -- "all lent memory for results is then zero"
  pub refused_zeros : (told r).number ≢ 0 → t' ≡ replicate n 0
  unfolding read_table
  refused_zeros h = v.table ∙ rw (ne_eqb (read_answer s n).number 0 (λ e. h (number ∙ e)))

  -- a refusal is given with an answer exactly when a line of document 01's table, with W-202's 14 and W-204's 16, says so
  pub refused_exactly : (a : answers.Answer) → Refuses s n a ↔ ((told r ≡ read_replied s a) × (a.number ≢ 0))
  refused_exactly a =
      let e = Demand3.refuses_exactly s n a in (
        (λ h. (v.answer ∙ ap (read_replied s) (e.0 h).0, (e.0 h).1)),
        (λ h. e.1 (read_replied_only s (sym v.answer ∙ h.0), h.1)),
      )

  -- ---- W-201: line and column beside the place

  pub gives_both : GivesLine s (told r)
  gives_both = let a = read_answer s n in rw v.answer (gives_line s a.number a.place a.rows a.free 0)

  -- ---- W-203: a rule belongs to its form

  -- "11 is now also given where the rule stands in another form": at that name, unless an earlier stage refuses, or an earlier row names something in vain
  pub stray_refused :
      {tree : Trees}
      → Passes s n tree 10 → {i : ℕ} → i < length (drafts s tree) → Stray s (drafts s tree) i
      → ((j : ℕ) → j < i → in_vain s (drafts s tree) (row_among (drafts s tree) j) ≡ [])
      → told r ≡ read_replied s (refuses 11 (place_of (row_among (drafts s tree) i).own_at))
  stray_refused p h w before = v.answer ∙ ap (read_replied s) (OwnForm.stray_refused p h w before)

  -- ---- W-208: a missing step is 1

  -- no answer has changed: nothing is checked against an absent step
  pub answer_as_before : told r ≡ read_replied s (answer_before s n)
  answer_as_before = v.answer ∙ ap (read_replied s) (sym (MissingStep.answer_as_before s n))

  -- ---- demand 3

  -- "For every source of at most 65,536 bytes and every table of at least as many whole rows as the source has bytes": accepted exactly when the
  -- grammar derives it "and its depths, ranges, 255-rule limit, uniqueness, reference and choice rules hold", the reference rule by W-203, the ranges and choices by
  -- W-204, no rule reaches itself (W-202) and no numeric has a second size or display word (W-204)
  pub accepted_exactly : length s ≤ LONGEST → length s * ROW ≤ n → ((told r).number ≡ 0) ↔ ((tree : Trees) × Sound s tree)
  accepted_exactly short large = rw v.answer (Demand3.accepts_exactly s n short large)

  -- and for every other source and table: exactly so, where its rows are no more than the whole rows lent
  pub accepted_with_room : ((told r).number ≡ 0) ↔ ((tree : Trees) × Sound s tree × (length s ≤ LONGEST) × (length (drafts s tree) ≤ n / ROW))
  accepted_with_room = rw v.answer (Demand3.accepts_with_room s n)

  module _ (accepted : (told r).number ≡ 0) where
    accepted' : (read_answer s n).number ≡ 0
    accepted' = sym number ∙ accepted

    module _ (tree : Trees) (sound : Sound s tree) where
      short : length s ≤ LONGEST
      short = (passes_grammatical (Demand3.accepted_passes s n accepted' tree sound.derives)).short

      -- the row count and the free count
      pub counts_exactly : told r ≡ accepting (length (drafts s tree)) (free_count (numbered (own_numbers (drafts s tree)))) 0
      unfolding position_of
      counts_exactly = v.answer ∙ ap (read_replied s) (Demand3.counts_exactly s n accepted' tree sound.derives)

      -- "Exactly the derivation's rows then stand in the table", and zeros past them
      pub rows_exactly : t' ≡ laid (finished s (drafts s tree)) n
      rows_exactly = v.table ∙ Demand3.rows_exactly s n accepted' tree sound.derives

      pub rows_in_table : rows_from t' 0 (length (drafts s tree)) ≡ finished s (drafts s tree)
      rows_in_table = rw v.table (Demand3.rows_in_table s n accepted' tree sound.derives)

      pub zeros_past_rows : drop (length (drafts s tree) * ROW) t' ≡ replicate (n - length (drafts s tree) * ROW) 0
      zeros_past_rows = rw v.table (Demand3.zeros_past_rows s n accepted' tree sound.derives)

      -- "The i-th question without a written number gets the i-th smallest number, from 1 up, that no question writes, later lines included"
      pub numbers_in_table : GetsSmallest (own_numbers (drafts s tree)) (question_numbers (rows_from t' 0 (length (drafts s tree))))
      numbers_in_table = rw rows_in_table (Demand3.numbers_smallest s tree sound.derives short)

      -- ---- W-203

      -- "A `ruleref` should find only a rule of the form it stands in": each one in the table has the number of a rule of its own form
      pub of_its_form :
          (i : ℕ) → i < length (drafts s tree) → column_of (rows_from t' 0 (length (drafts s tree))) column.CODE i ≡ code.RULE_REF
          → OfItsForm (rows_from t' 0 (length (drafts s tree))) i
      of_its_form = rw rows_in_table (OwnForm.of_its_form s tree sound.derives sound.depths sound.references)

      -- ---- W-204

      -- "column 12 holds size times 4 plus 0, 1 or 2 for the display .., and is 0 for other rows", each row of the table; of a numeric "Minimum, maximum,
      -- step and default must fit the size", and they stand in its order
      pub column_twelve : (i : ℕ) → ColumnTwelve (get_or (rows_from t' 0 (length (drafts s tree))) i [])
      column_twelve = rw rows_in_table (SizedRows.sized_row s tree sound short)

      -- ---- W-208

      -- "An absent step is now 1; a written 0 stays 0": in the row of each numeric of the derivation
      pub step_in_table :
          {c f : Trees} {parent at rules : ℕ}
          → Reached (number_at s) tree (node <item> item_numeric c f) parent at rules
          → Stepped s (rows_from t' 0 (length (drafts s tree))) at c
      step_in_table q = rw rows_in_table (MissingStep.stepped s tree q)

      -- "Older resolved text writes every step and reads as before": where every numeric writes its step, the rows are those of before
      pub rows_as_before : writes_steps tree ≡ true → rows_from t' 0 (length (drafts s tree)) ≡ finished s (drafts_before s tree)
      rows_as_before h = rows_in_table ∙ sym (MissingStep.rows_as_before s tree h)

    -- whatever table is lent, an accepted source has such a derivation, and its rows stand in the table
    pub accepted_rows :
        (tree : Trees) × Sound s tree
        × (told r ≡ accepting (length (drafts s tree)) (free_count (numbered (own_numbers (drafts s tree)))) 0)
        × (t' ≡ laid (finished s (drafts s tree)) n)
    accepted_rows = let f = accepted_with_room.0 accepted in (f.0, f.1, counts_exactly f.0 f.1, rows_exactly f.0 f.1)

-- ---- the quick check: "over stages 1 to 5 alone", and 16 "in the quick check too" (W-204)

-- what a call of `quick_check` answers
pub quick_checking :
    (κs : Lfts 1) (a : Dens κs quick_kinds.ps) (q : ℕ) (e : AtExit (ended_of 1 quick_kinds.ps quick_kinds.r) κs)
    → quick_promise.Learnt κs a q e → q ≡ quick_check a.0.now
quick_checking κs a q e p = p

module _ (s : List ℕ) {q : ℕ} (v : q ≡ quick_check s) where
  -- "refusal number times 2^32 plus place" exactly where reading refuses with one of 1 to 5 or 16, whatever table is lent
  pub quick_check_refuses : (k p : ℕ) → Early k → p < 2 ^ 32 → (q ≡ k * 2 ^ 32 + p) ↔ ((n : ℕ) → read_answer s n ≡ refuses k p)
  quick_check_refuses = rw v (Demand3.quick_check_refuses s)

  -- and 0 where it does not
  pub quick_check_passes : (q ≡ 0) ↔ ((n : ℕ) → Early (read_answer s n).number → ⊥)
  quick_check_passes = rw v (Demand3.quick_check_passes s)
