-- Document 02's request W-206 of the function `read_family`: what its contract says of every buffer, list of ends, table and list of answers lent; and
-- with it demands 1 and 3 of document 01 and W-201, of the call and of each source.
-- Assumes nothing.
use Prim.Native.Nat.{ℕ, ◌-◌, ◌*◌, ◌/◌, ◌≤◌, ◌<◌}
use native.Mathlib.Omega.{arith}
use mathlib.Core.Path.{◌≡◌, refl, sym, ap, ◌∙◌}
use mathlib.Core.Bool.{Bool, true, false}
use mathlib.Core.Logic.{◌↔◌, ◌≢◌, inl, inr}
use mathlib.Core.List.{List, [], flatten}
use lib.ListN.{length, get_or, drop, replicate, length-take, length-drop}
use lib.Seq.{drop_at}
use borrow.Author.Tests.{eq-eqb}
use borrow.Fn.Kinds.{Dens, ended_of}
use contract.Lifetimes.{Lfts}
use denote.Triple.Clauses.{AtExit}
use Rattle.lexemes.proofs.Lists.{either}
use Rattle.numbers.specs.Numbers.{numbered, free_count}
use Rattle.rows.specs.Columns.{ROW}
use Rattle.rows.specs.Rows.{rows_from, laid}
use Rattle.rows.proofs.FlatLaws.{length_flatten}
use Rattle.ll1.specs.Trees.{Trees}
use Rattle.answers.specs.Stages.{own_numbers, finished}
use Rattle.answers.specs.Answer as answer
use Rattle.answers.specs.Answer.{LONGEST, accepts, drafts}
use Rattle.answers.specs.WholeAnswer.{read_answer}
use Rattle.answers.specs.Demand3.{Sound, Refuses, question_numbers, GetsSmallest}
use Rattle.answers.proofs.FoundRows.{finished_count}
use Rattle.answers.proofs.Answers.{passes_rows}
use Rattle.answers.proofs.Demand3 as Demand3
use Rattle.replies.specs.Replies.{Reply, position_of, accepting, read_replied, read_reply}
use Rattle.replies.specs.Lines.{Unplaced, GivesLine}
use Rattle.replies.proofs.Laws.{gives_line}
use Rattle.std.specs.Prelude.{Result}
use Rattle.read.specs.declared.Accepted.{Accepted}
use Rattle.read.specs.declared.Refusal.{Refusal}
use Rattle.read.specs.Answers as reading
use Rattle.family.specs.declared.BadFamily.{BadFamily}
use Rattle.family.specs.Answers.{told}
use Rattle.read.proofs.Demands.{Reading}
use Rattle.family.specs.Family.{WORDS, sources_of, rows_with, all_rows, all_words, six_words, rows_taken, members, is_bad, not_read}
use Rattle.family.specs.Family.{readings, family_reply, family_table, family_answers}
use Rattle.family.specs.Bad.{Bad}
use Rattle.family.specs.Each.{source_at, word_at, words_at, taken_before}
use Rattle.family.proofs.BadLaws.{bad_exactly, short_buffer}
use Rattle.family.proofs.MemberLaws.{length_members, members_rows, length_all_words, length_sources, source_at_lem}
use Rattle.family.proofs.NextLaws.{rows_taken_lem, answer_by_rows, table_by_rows}
use Rattle.family.proofs.EachLaws as Each
use Rattle.family.proofs.read_family.Kinds as kinds
use Rattle.family.proofs.read_family.Reads as promise

-- what a call of `read_family` does: the sources that the ends part in the buffer are read into a table of n numbers, with m words lent for answers; r is
-- the call's own answer, t' the table and a' the answers afterwards
pub record ReadingFamily (buffer ends : List ℕ) (n m : ℕ) (r : Result Accepted BadFamily) (t' a' : List ℕ) : Type 0 where
  pub answer : told r ≡ family_reply buffer ends n m
  pub table : t' ≡ family_table buffer ends n m
  pub answers : a' ≡ family_answers buffer ends n m

-- every call does so: what the contract of `read_family` promises a caller who lends a and finds e lent back
pub reading_family :
    (κs : Lfts 4) (a : Dens κs kinds.ps) (r : Result Accepted BadFamily) (e : AtExit (ended_of 4 kinds.ps kinds.r) κs)
    → promise.Learnt κs a r e
    → ReadingFamily a.0.now a.1.0.now (length a.1.1.0.now) (length a.1.1.1.0.now) r e.1.1.0.now e.1.1.1.0.now
reading_family κs a r e p = record { answer = p.0; table = p.1.0; answers = p.1.1 }

-- an answer without a place
unplaced_line : (s : List ℕ) (q : Reply) → Unplaced q.number → q.line ≡ 0 → q.column ≡ 0 → GivesLine s q
unplaced_line s q u l c = record { placed = λ h. absurd (h u); unplaced = λ h. (l, c) }

-- six words tell an answer
six_only : (s : List ℕ) {a b : answer.Answer} → six_words (read_replied s a) ≡ six_words (read_replied s b) → a ≡ b
six_only s e = λ j. record { number = get_or (e j) 0 0; place = get_or (e j) 1 0; rows = get_or (e j) 2 0; free = get_or (e j) 3 0 }

module _ {buffer ends : List ℕ} {n m : ℕ} {r : Result Accepted BadFamily} {t' a' : List ℕ} (v : ReadingFamily buffer ends n m r t' a') where
  -- ---- "Refusals: 17 for the whole call"

  abbrev bad : Bool
  bad = is_bad buffer ends m

  reply_bad : bad ≡ true → told r ≡ not_read
  unfolding family_reply
  reply_bad e = v.answer ∙ rw e

  reply_good : bad ≡ false → told r ≡ accepting (length (all_rows (readings buffer ends n))) 0 0
  unfolding family_reply
  reply_good e = v.answer ∙ rw e

  is_bad_lem : (told r).number ≢ 0 → bad ≡ true
  is_bad_lem h = either bad (λ e. e) (λ e. absurd (h (ap (λ (q : Reply). q.number) (reply_good e))))

  is_good_lem : (told r).number ≡ 0 → bad ≡ false
  is_good_lem z =
      either bad
      (λ e. absurd (let never : ◌≡◌ {A = ℕ} 17 0 = sym (ap (λ (q : Reply). q.number) (reply_bad e)) ∙ z in omega arith))
      (λ e. e)

  -- "when there are more than 64 ends, they fall, the last (0 if there is none) isn't the buffer's length, the buffer is too long, or fewer answers are
  -- lent than ends"
  pub refused_exactly : ((told r).number ≢ 0) ↔ Bad buffer ends m
  refused_exactly =
      let b = bad_exactly buffer ends m in (
        (λ h. b.0 (is_bad_lem h)),
        (λ c z. let never : ◌≡◌ {A = ℕ} 17 0 = sym (ap (λ (q : Reply). q.number) (reply_bad (b.1 c))) ∙ z in omega arith),
      )

  -- "17 .., place 0"
  pub refused_17 : (told r).number ≢ 0 → told r ≡ not_read
  refused_17 h = reply_bad (is_bad_lem h)

  -- "every lent answer and row zero": demand 1
  pub refused_zeros : (told r).number ≢ 0 → (t' ≡ replicate n 0) × (a' ≡ replicate m 0)
  unfolding family_table family_answers
  refused_zeros h = let e = is_bad_lem h in (v.table ∙ rw e, v.answers ∙ rw e)

  -- ---- W-201: "a place that is always 0 .. give line 0, column 0"

  pub gives_both : GivesLine buffer (told r)
  gives_both =
      either bad
      (λ e. rw (reply_bad e) (unplaced_line buffer _ (inr (inr (inr (inr (inr (inl refl)))))) refl refl))
      (λ e. rw (reply_good e) (unplaced_line buffer _ (inl refl) refl refl))

  -- ---- a call that is accepted

  module _ (accepted : (told r).number ≡ 0) where
    good : bad ≡ false
    good = is_good_lem accepted

    abbrev whole : ℕ
    whole = n / ROW

    abbrev sources : List (List ℕ)
    sources = sources_of buffer ends

    answers_are : a' ≡ Each.words whole sources m
    unfolding family_answers readings
    answers_are = v.answers ∙ rw good

    table_is : t' ≡ laid (all_rows (members whole sources)) n
    unfolding family_table readings
    table_is = v.table ∙ rw good

    as_many : length sources ≡ length ends
    as_many = length_sources buffer 0 ends

    -- "An accepted call's own row count is all rows written, its free count 0"
    pub counts_all : told r ≡ accepting (taken_before a' (length ends)) 0 0
    unfolding readings
    counts_all =
        let words = Each.words whole sources m in
        let all : length (all_rows (members whole sources)) ≡ taken_before words (length ends) =
        sym (Each.taken_all whole sources m) ∙ ap (taken_before words) as_many in
        reply_good good ∙ ap (λ (k : ℕ). accepting k 0 0) (all ∙ ap (λ (a : List ℕ). taken_before a (length ends)) (sym answers_are))

    -- "lent results past what is written are 0" (W-202)
    pub zeros_past_rows : drop ((told r).rows * ROW) t' ≡ replicate (n - (told r).rows * ROW) 0
    unfolding laid readings
    zeros_past_rows =
        let all = all_rows (members whole sources) in
        let size = length_flatten (members_rows whole sources) in
        let count : (told r).rows ≡ length all = ap (λ (q : Reply). q.rows) (reply_good good) in
        rw (count, table_is, ← size) (drop_at (flatten all) (replicate (n - length (flatten all)) 0) (length (flatten all)) refl)

    pub zeros_past_answers : drop (length ends * WORDS) a' ≡ replicate (m - length ends * WORDS) 0
    zeros_past_answers =
        let all = all_words (members whole sources) in
        let count : length (members whole sources) ≡ length ends = length_members whole sources ∙ as_many in
        let size : length all ≡ length ends * WORDS = length_all_words (members whole sources) ∙ ap (λ (k : ℕ). k * WORDS) count in
        rw (answers_are, ← size) (drop_at all (replicate (m - length all) 0) (length all) refl)

    -- ---- "Every answer and all its rows equal those of reading that source alone, places, lines and parents counted from its own start, with the rows
    -- that earlier accepted sources left over; a refused source uses none"

    module _ (i : ℕ) (inside : i < length ends) where
      -- the source alone, whose places, lines and parents are counted from its own start
      abbrev s : List ℕ
      s = source_at buffer ends i

      -- "the rows that earlier accepted sources left over"
      abbrev left : ℕ
      left = n / ROW - taken_before a' i

      source_is : get_or sources i [] ≡ s
      source_is = source_at_lem buffer 0 ends i inside

      inside' : i < length sources
      inside' = rw as_many inside

      words_left : words_at a' i ≡ six_words (read_reply s (left * ROW))
      words_left = rw (answers_are, ← source_is) (Each.words_alone whole sources m i inside')

      rows_left : rows_from t' (taken_before a' i) (length (rows_with s left)) ≡ rows_with s left
      rows_left = rw (answers_are, ← source_is, table_is) (Each.rows_alone whole sources m i inside' n)

      -- any call of `read` on it alone, with as many whole rows
      module _ {k : ℕ} {r₁ : Result Accepted Refusal} {t₁ : List ℕ} (w : Reading s k r₁ t₁) (rows_lent : k / ROW ≡ left) where
        same_reply : reading.told r₁ ≡ read_reply s (left * ROW)
        same_reply = w.answer ∙ ap (read_replied s) (answer_by_rows s k left rows_lent)

        pub answer_alone : words_at a' i ≡ six_words (reading.told r₁)
        answer_alone = words_left ∙ ap six_words (sym same_reply)

        pub rows_alone : rows_from t' (taken_before a' i) (rows_taken (reading.told r₁)) ≡ rows_from t₁ 0 (rows_taken (reading.told r₁))
        rows_alone =
            let taken : rows_taken (reading.told r₁) ≡ length (rows_with s left) = ap rows_taken same_reply ∙ rows_taken_lem s left in
            rw (taken, w.table) (rows_left ∙ sym (table_by_rows s left k rows_lent))

      -- ---- demand 1 of the source: "A refusal carries number and place", exactly when a line of document 01's table says so

      pub source_refused_exactly : (a : answer.Answer) → Refuses s (left * ROW) a ↔ ((words_at a' i ≡ six_words (read_replied s a)) × (a.number ≢ 0))
      source_refused_exactly a =
          let e = Demand3.refuses_exactly s (left * ROW) a in (
            (λ h. (words_left ∙ ap (λ (b : answer.Answer). six_words (read_replied s b)) (e.0 h).0, (e.0 h).1)),
            (λ h. e.1 (six_only s (sym words_left ∙ h.0), h.1)),
          )

      -- W-201: "lines .. counted from its own start"
      pub source_gives_both : (q : Reply) × (words_at a' i ≡ six_words q) × GivesLine s q
      source_gives_both =
          let a = read_answer s (left * ROW) in
          (read_reply s (left * ROW), words_left, gives_line s a.number a.place a.rows a.free 0)

      -- ---- demand 3 of the source

      short : length s ≤ LONGEST
      short = simp (length-drop, length-take) (omega (arith, short_buffer buffer ends m good))

      number_is : word_at a' i 0 ≡ (read_answer s (left * ROW)).number
      number_is = Each.number_told a' i (read_reply s (left * ROW)) words_left

      -- "every table of at least as many whole rows as the source has bytes": as many are left
      pub source_accepted_exactly : length s ≤ left → (word_at a' i 0 ≡ 0) ↔ ((tree : Trees) × Sound s tree)
      source_accepted_exactly large = rw number_is (Demand3.accepts_exactly s (left * ROW) short (omega arith))

      -- and whatever is left: exactly so, where its rows are no more
      pub source_accepted_with_room : (word_at a' i 0 ≡ 0) ↔ ((tree : Trees) × Sound s tree × (length (drafts s tree) ≤ left))
      source_accepted_with_room =
          let w = Demand3.accepts_with_room s (left * ROW) in
          let all : left * ROW / ROW ≡ left = omega arith in (
            (λ z. let f = w.0 (sym number_is ∙ z) in (f.0, f.1, rw all at f.3)),
            (λ f. number_is ∙ w.1 (f.0, f.1, short, rw all f.2)),
          )

      module _ (source_accepted : word_at a' i 0 ≡ 0) (tree : Trees) (sound : Sound s tree) where
        accepted' : (read_answer s (left * ROW)).number ≡ 0
        accepted' = sym number_is ∙ source_accepted

        counts : read_answer s (left * ROW) ≡ accepts (length (drafts s tree)) (free_count (numbered (own_numbers (drafts s tree))))
        counts = Demand3.counts_exactly s (left * ROW) accepted' tree sound.derives

        -- its row count and its free count
        pub source_counts_exactly : words_at a' i ≡ six_words (accepting (length (drafts s tree)) (free_count (numbered (own_numbers (drafts s tree)))) 0)
        unfolding position_of
        source_counts_exactly = words_left ∙ ap (λ (b : answer.Answer). six_words (read_replied s b)) counts

        -- "Exactly the derivation's rows then stand in the table", behind those of the sources before
        pub source_rows_in_table : rows_from t' (taken_before a' i) (length (drafts s tree)) ≡ finished s (drafts s tree)
        unfolding rows_with
        source_rows_in_table =
            let passes = Demand3.accepted_passes s (left * ROW) accepted' tree sound.derives in
            let rows : rows_with s left ≡ finished s (drafts s tree) = rw (eq-eqb (read_answer s (left * ROW)).number 0 accepted') (passes_rows passes) in
            let many : length (rows_with s left) ≡ length (drafts s tree) = ap length rows ∙ finished_count s (drafts s tree) in
            ap (rows_from t' (taken_before a' i)) (sym many) ∙ rows_left ∙ rows

        -- "The i-th question without a written number gets the i-th smallest number, from 1 up, that no question writes, later lines included"
        pub source_numbers_in_table : GetsSmallest (own_numbers (drafts s tree)) (question_numbers (rows_from t' (taken_before a' i) (length (drafts s tree))))
        source_numbers_in_table = rw source_rows_in_table (Demand3.numbers_smallest s tree sound.derives short)
