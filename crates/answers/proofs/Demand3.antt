-- Demand 3: which sources reading accepts, with which rows and numbers, and when each refusal is given. The terms are those of `specs/Demand3`.
-- Assumes nothing.
use Prim.Native.Nat.{ℕ, ◌+◌, ◌-◌, ◌*◌, ◌/◌, ◌^◌, ◌≤◌, ◌<◌}
use native.Mathlib.Omega.{arith}
use mathlib.Core.Path.{◌≡◌, sym, ap, ◌∙◌}
use mathlib.Core.List.{List, flatten}
use mathlib.Core.Logic.{◌↔◌, ◌≢◌}
use lib.ListN.{length, drop, replicate}
use lib.Seq.{drop_at}
use Rattle.std.specs.Prelude.{Some}
use Rattle.lex.specs.Tokens.{first_bad}
use Rattle.numbers.specs.Numbers.{numbered, free_count}
use Rattle.numbers.proofs.Numbering.{numbering}
use Rattle.rows.specs.Columns.{ROW}
use Rattle.rows.specs.Rows.{AreRows, rows_from, laid}
use Rattle.rows.proofs.FlatLaws.{length_flatten}
use Rattle.rows.proofs.RunLaws.{rows_flat}
use Rattle.ll1.specs.Trees.{Trees}
use Rattle.grammar.specs.Derivation.{Derives}
use Rattle.grammar.specs.Source.{source_tokens, number_at}
use Rattle.answers.specs.Stages.{own_numbers, finished}
use Rattle.answers.specs.Answer.{LONGEST, Answer, refuses, accepts, drafts}
use Rattle.answers.specs.WholeAnswer.{quick_check, read_answer, rows_of, read_table}
use Rattle.answers.specs.Demand3.{Sound, Early, PassesAll, Refuses, question_numbers, GetsSmallest}
use Rattle.grammar.proofs.Theorems.{one_derivation}
use Rattle.grammar.proofs.SourceTokens.{tokens_few}
use Rattle.answers.proofs.RowCount as RowCount
use Rattle.answers.proofs.FoundRows.{finished_count}
use Rattle.answers.proofs.RowShape.{Wide, rows_wide, finished_wide}
use Rattle.answers.proofs.Checks as Checks
use Rattle.answers.proofs.Answers.{sound_passes, passes_grammatical, passes_room, passes_sound, passes_rows, accepted_answer, laid_rows}
use Rattle.answers.proofs.Answers.{refused_answer, refused_number, Right, accepting, refusing, answer_right}
use Rattle.answers.proofs.QuickCheck as QuickCheck
use Rattle.answers.proofs.QuestionNumbers.{question_numbers_lem, questions_few, gets_smallest}

module _ (s : List ℕ) where
  -- ---- derivations

  -- no source has two derivations
  pub one_derivation_of_source : (f g : Trees) → Derives (source_tokens s) f → Derives (source_tokens s) g → f ≡ g
  one_derivation_of_source = one_derivation (source_tokens s)

  -- "a bad token allows none"
  pub no_derivation_with_bad : (p : ℕ) → first_bad s ≡ Some p → (tree : Trees) → Derives (source_tokens s) tree → ⊥
  no_derivation_with_bad = Checks.no_derivation_with_bad s

  -- a source has no more rows than bytes
  pub rows_few : (tree : Trees) → Derives (source_tokens s) tree → length (drafts s tree) ≤ length s
  unfolding drafts
  rows_few tree d = omega (arith, RowCount.rows_few (number_at s) d.fits 0 0 0, ap length d.reads, tokens_few s)

  -- ---- acceptance

  -- reading accepts exactly when the source has a derivation that passes every stage
  pub accepts_passing : (n : ℕ) → ((read_answer s n).number ≡ 0) ↔ ((tree : Trees) × PassesAll s n tree)
  accepts_passing n = (found (answer_right s n), λ f. rw (accepted_answer s n f.0 f.1))
    where
      found : {a : Answer} → Right s n a → a.number ≡ 0 → (tree : Trees) × PassesAll s n tree
      found (accepting {tree = tree} p) e = (tree, p)
      found (refusing r) e = absurd (refused_number r e)

  -- whatever table is lent, reading accepts exactly when the source is no longer than 65,536 bytes, has a derivation whose depths, ranges, 255-rule
  -- limit, uniqueness, reference and choice rules hold, of whose rules none reaches itself (W-202) and of whose numerics none has a second size or
  -- display word (W-204), and its rows are no more than the whole rows lent
  pub accepts_with_room : (n : ℕ) → ((read_answer s n).number ≡ 0) ↔ ((tree : Trees) × Sound s tree × (length s ≤ LONGEST) × (length (drafts s tree) ≤ n / ROW))
  accepts_with_room n =
      let w = accepts_passing n in (
        λ e. let f = w.0 e in (f.0, passes_sound f.1, (passes_grammatical f.1).short, passes_room f.1),
        λ f. w.1 (f.0, sound_passes f.1 f.2 f.3),
      )

  -- a source of at most 65,536 bytes, and a table of at least as many whole rows as the source has bytes: then there is room
  pub accepts_exactly : (n : ℕ) → length s ≤ LONGEST → length s * ROW ≤ n → ((read_answer s n).number ≡ 0) ↔ ((tree : Trees) × Sound s tree)
  accepts_exactly n short large =
      let w = accepts_with_room n in
      (λ e. let f = w.0 e in (f.0, f.1), λ f. w.1 (f.0, f.1, short, omega (arith, rows_few f.0 f.1.derives)))

  -- ---- refusals

  -- reading refuses with an answer exactly when a line of document 01's table, with W-202's 14 and W-204's 16, says so, and with that answer only
  pub refuses_exactly : (n : ℕ) (a : Answer) → Refuses s n a ↔ ((read_answer s n ≡ a) × (a.number ≢ 0))
  refuses_exactly n a = (λ r. (refused_answer s n r, refused_number r), λ w. found (answer_right s n) w.0 w.1)
    where
      found : {b : Answer} → Right s n b → b ≡ a → a.number ≢ 0 → Refuses s n a
      found (accepting p) e h = absurd (h (ap (λ c. c.number) (sym e)))
      found (refusing r) e h = rw e at r

  -- the quick check is "refusal number times 2^32 plus place" exactly where reading refuses with one of 1 to 5 or 16, whatever table is lent
  pub quick_check_refuses : (k p : ℕ) → Early k → p < 2 ^ 32 → (quick_check s ≡ k * 2 ^ 32 + p) ↔ ((n : ℕ) → read_answer s n ≡ refuses k p)
  quick_check_refuses = QuickCheck.refusals_agree s

  -- and 0 where it does not
  pub quick_check_passes : (quick_check s ≡ 0) ↔ ((n : ℕ) → Early (read_answer s n).number → ⊥)
  quick_check_passes = QuickCheck.passes_agree s

  -- ---- the rows and numbers of a derivation

  module _ (tree : Trees) (derives : Derives (source_tokens s) tree) where
    wide : Wide (drafts s tree)
    unfolding drafts
    wide = rows_wide (number_at s) derives.fits 0 0 0

    -- "A row is twelve 64-bit numbers"; "Rows grow to thirteen numbers" (W-204)
    pub rows_whole : AreRows (finished s (drafts s tree))
    rows_whole = finished_wide s wide

    -- the numbers of the questions' rows, in order
    pub numbers_exactly : question_numbers (finished s (drafts s tree)) ≡ numbered (own_numbers (drafts s tree))
    numbers_exactly = question_numbers_lem s (drafts s tree) wide

    own_few : length s ≤ LONGEST → length (own_numbers (drafts s tree)) ≤ 65535
    unfolding drafts
    own_few short = omega (arith, questions_few (number_at s) derives.fits, rows_few tree derives)

    -- "The i-th question without a written number gets the i-th smallest number, from 1 up, that no question writes, later lines included"
    pub numbers_smallest : length s ≤ LONGEST → GetsSmallest (own_numbers (drafts s tree)) (question_numbers (finished s (drafts s tree)))
    numbers_smallest short = rw numbers_exactly (gets_smallest (own_numbers (drafts s tree)) _ (own_few short) (numbering (own_numbers (drafts s tree))))

  -- ---- an accepted source, whatever table is lent

  module _ (n : ℕ) (accepted : (read_answer s n).number ≡ 0) (tree : Trees) (derives : Derives (source_tokens s) tree) where
    -- an accepted source passes every stage with its derivation, for it has no other
    pub accepted_passes : PassesAll s n tree
    accepted_passes =
        let other = (accepts_passing n).0 accepted in
        let same = one_derivation_of_source other.0 tree (passes_grammatical other.1).derives derives in
        rw same at other.1

    -- the rows are exactly those of the derivation: the counts, and the table afterwards
    pub counts_exactly : read_answer s n ≡ accepts (length (drafts s tree)) (free_count (numbered (own_numbers (drafts s tree))))
    counts_exactly = accepted_answer s n tree accepted_passes

    pub rows_exactly : read_table s n ≡ laid (finished s (drafts s tree)) n
    rows_exactly = laid_rows s n tree accepted_passes

    -- in the table stand these rows
    pub rows_in_table : rows_from (read_table s n) 0 (length (drafts s tree)) ≡ finished s (drafts s tree)
    unfolding laid
    rows_in_table = rw (rows_exactly, ← finished_count s (drafts s tree)) (rows_flat (finished_wide s (wide tree derives)) _)

    -- and zeros past them
    pub zeros_past_rows : drop (length (drafts s tree) * ROW) (read_table s n) ≡ replicate (n - length (drafts s tree) * ROW) 0
    unfolding laid
    zeros_past_rows =
        let size = length_flatten (finished_wide s (wide tree derives)) in
        let same : length (flatten (finished s (drafts s tree))) ≡ length (drafts s tree) * ROW = size ∙ ap (λ k. k * ROW) (finished_count s (drafts s tree)) in
        rw (rows_exactly, same) (drop_at (flatten (finished s (drafts s tree))) _ (length (drafts s tree) * ROW) same)

  -- told by the answer
  module _ (n : ℕ) (accepted : (read_answer s n).number ≡ 0) where
    pub table_rows : rows_from (read_table s n) 0 (read_answer s n).rows ≡ rows_of s
    table_rows =
        let f = (accepts_passing n).0 accepted in
        let derives = (passes_grammatical f.1).derives in
        ap (λ a. rows_from (read_table s n) 0 a.rows) (counts_exactly n accepted f.0 derives)
        ∙ rows_in_table n accepted f.0 derives ∙ sym (passes_rows f.1)

    pub table_past_rows : drop ((read_answer s n).rows * ROW) (read_table s n) ≡ replicate (n - (read_answer s n).rows * ROW) 0
    table_past_rows =
        let f = (accepts_passing n).0 accepted in
        let derives = (passes_grammatical f.1).derives in
        let count : (read_answer s n).rows ≡ length (drafts s f.0) = ap (λ a. a.rows) (counts_exactly n accepted f.0 derives) in
        rw count (zeros_past_rows n accepted f.0 derives)
