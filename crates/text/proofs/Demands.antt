-- Demands 1 and 2 of the function `resolve`: what its contract says of every source, table and output lent, in document 01's terms, which are those of
-- `answers`' `specs/Demand3` and `roundtrip`'s `specs/Demand2`; and document 02's requests W-201 and W-208 of `resolve`.
-- Assumes nothing.
use Prim.Native.Nat.{ℕ, ◌-◌, ◌/◌, ◌≤◌}
use mathlib.Core.Path.{◌≡◌, sym, ap, ◌∙◌}
use mathlib.Core.Bool.{true}
use mathlib.Core.Logic.{◌↔◌, ◌≢◌}
use mathlib.Core.List.{List, ◌++◌}
use lib.ListN.{length, replicate}
use borrow.Author.Tests.{eq-eqb, ne_eqb, le-ltb}
use borrow.Fn.Kinds.{Dens, ended_of}
use contract.Lifetimes.{Lfts}
use denote.Triple.Clauses.{AtExit}
use Rattle.rows.specs.Columns.{ROW}
use Rattle.rows.specs.Rows.{laid}
use Rattle.ll1.specs.Trees.{Trees}
use Rattle.answers.specs.Stages.{finished}
use Rattle.answers.specs.Answer.{LONGEST, accepts, drafts}
use Rattle.answers.specs.Text.{resolved_text}
use Rattle.answers.specs.WholeAnswer.{read_answer, read_table}
use Rattle.answers.specs.Resolution.{room, text_of_source, resolved_into, resolution, resolved_table, resolved_output}
use Rattle.answers.specs.Demand3.{Sound, PassesAll}
use Rattle.answers.specs.MissingStep.{drafts_before, writes_steps}
use Rattle.answers.proofs.Answers.{passes_text, accepted_answer, laid_rows}
use Rattle.answers.proofs.MissingStep as MissingStep
use Rattle.replies.specs.Replies.{Reply, position_of, accepting, read_replied, resolve_replied, resolve_reply}
use Rattle.replies.specs.Lines.{GivesLine}
use Rattle.replies.proofs.Laws.{gives_line}
use Rattle.read.specs.declared.Accepted.{Accepted}
use Rattle.read.specs.declared.Refusal as refusal_of_read
use Rattle.read.specs.Answers as read_answers
use Rattle.read.proofs.Demands as read
use Rattle.roundtrip.specs.Demand2.{ReadsAgain, SameTables}
use Rattle.roundtrip.proofs.Demand2 as Demand2
use Rattle.std.specs.Prelude.{Result}
use Rattle.text.specs.declared.Resolved.{Resolved}
use Rattle.text.specs.declared.Refusal.{Refusal}
use Rattle.text.specs.Answers.{told, resolved_counts}
use Rattle.text.proofs.resolve.Kinds as kinds
use Rattle.text.proofs.resolve.Reads as promise

-- what a call of `resolve` does: the source s is resolved through a table of n numbers into m bytes; r is the answer, t' the table and o' the output
-- afterwards
pub record Resolving (s : List ℕ) (n m : ℕ) (r : Result Resolved Refusal) (t' o' : List ℕ) : Type 0 where
  pub answer : told r ≡ resolve_reply s n m
  pub table : t' ≡ resolved_table s n m
  pub output : o' ≡ resolved_output s n m

-- every call does so: what the contract of `resolve` promises a caller who lends a and finds e lent back
pub resolving :
    (κs : Lfts 3) (a : Dens κs kinds.ps) (r : Result Resolved Refusal) (e : AtExit (ended_of 3 kinds.ps kinds.r) κs)
    → promise.Learnt κs a r e → Resolving a.0.now (length a.1.0.now) (length a.1.1.0.now) r e.1.0.now e.1.1.0.now
resolving κs a r e p = record { answer = p.0; table = p.1.0; output = p.1.1 }

module _ {s : List ℕ} {n m : ℕ} {r : Result Resolved Refusal} {t' o' : List ℕ} (v : Resolving s n m r t' o') where
  number : (told r).number ≡ (resolution s n m).number
  number = ap (λ a. a.number) v.answer

  -- ---- demand 1: "all lent memory for results is then zero"

  pub refused_zeros : (told r).number ≢ 0 → (t' ≡ replicate n 0) × (o' ≡ replicate m 0)
  unfolding resolved_table resolved_output
  refused_zeros h = let e = ne_eqb (resolution s n m).number 0 (λ z. h (number ∙ z)) in (v.table ∙ rw e, v.output ∙ rw e)

  -- ---- W-201: line and column beside the place

  pub gives_both : GivesLine s (told r)
  gives_both = let a = resolution s n m in rw v.answer (gives_line s a.number a.place a.rows a.free a.bytes)

  -- ---- demand 3 for resolving: accepted exactly when the source is sound, and rows and text find room

  pub accepted_with_room :
      ((told r).number ≡ 0)
      ↔ ((tree : Trees) × Sound s tree × (length s ≤ LONGEST) × (length (drafts s tree) ≤ n / ROW)
      × (length (resolved_text tree (finished s (drafts s tree))) ≤ room m))
  accepted_with_room = rw v.answer (Demand2.resolves_with_room s n m)

  -- ---- demand 2

  module _ (accepted : (told r).number ≡ 0) where
    resolved : (resolution s n m).number ≡ 0
    resolved = sym number ∙ accepted

    -- the text stands in the output, and zeros past it
    text_in_output : o' ≡ text_of_source s ++ replicate (m - length (text_of_source s)) 0
    unfolding resolved_output
    text_in_output = v.output ∙ rw (eq-eqb (resolution s n m).number 0 resolved)

    read_table_lem : t' ≡ read_table s n
    read_table_lem = v.table ∙ Demand2.resolved_table_lem s n m resolved

    found : Demand2.Resolved s n m
    found = Demand2.resolved s n m resolved

    counts : (tree : Trees) → PassesAll s n tree → told r ≡ resolved_counts s tree
    unfolding position_of
    counts tree p =
        let fits = le-ltb (room m) (length (text_of_source s)) found.text_fits in
        v.answer ∙ (ap (resolve_replied s) found.resolves ∙ rw (fits, accepted_answer s n tree p, passes_text p, resolved_into))

    -- "The rows are what document 01 says of the source": the source has a derivation whose rules hold, its rows stand in the table, their text in the
    -- output, zeros past both, and the counts are theirs
    pub rows_and_text :
        (tree : Trees) × Sound s tree
        × (told r ≡ resolved_counts s tree)
        × (t' ≡ laid (finished s (drafts s tree)) n)
        × (text_of_source s ≡ resolved_text tree (finished s (drafts s tree)))
        × (o' ≡ resolved_text tree (finished s (drafts s tree)) ++ replicate (m - length (resolved_text tree (finished s (drafts s tree)))) 0)
    rows_and_text =
        let tree = found.tree in
        let p = found.passes in
        (tree, found.sound, counts tree p, read_table_lem ∙ laid_rows s n tree p, passes_text p, rw (passes_text p) at text_in_output)

    -- "The resolved text reads again to the same rows (but the two columns of places), and resolving it again changes no byte"
    pub reads_again : ReadsAgain text_of_source s n
    reads_again = Demand2.reads_again s n m resolved

    -- ---- W-208

    -- the text "writes every step", so that it has the same rows before and after
    pub text_as_before :
        (tree : Trees) → Sound (text_of_source s) tree
        → (writes_steps tree ≡ true) × (finished (text_of_source s) (drafts_before (text_of_source s) tree) ≡ finished (text_of_source s) (drafts (text_of_source s) tree))
    text_as_before tree sound =
        let w = Demand2.writes_steps_lem s n m resolved tree sound.derives in (w, MissingStep.rows_as_before (text_of_source s) tree w)

    -- ---- a second call

    read_counts : read_answer s n ≡ accepts (told r).rows (told r).free
    read_counts = found.answer ∙ sym (ap (λ (a : Reply). accepts a.rows a.free) (counts found.tree found.passes))

    -- the table of reading the text has the same rows, but the places
    same_tables : {t₂ : List ℕ} → t₂ ≡ read_table (text_of_source s) n → SameTables n (told r).rows t₂ t'
    same_tables e =
        let rows_told : (read_answer s n).rows ≡ (told r).rows = ap (λ a. a.rows) read_counts in
        rw (rows_told, ← e, ← read_table_lem) at (Demand2.same_tables s n m resolved)

    -- so a second `read`, of the text, ends with the same counts and leaves the same rows in its table, but the places
    pub read_again :
        (r₂ : Result Accepted refusal_of_read.Refusal) (t₂ : List ℕ) → read.Reading (text_of_source s) n r₂ t₂
        → (read_answers.told r₂ ≡ accepting (told r).rows (told r).free 0) × SameTables n (told r).rows t₂ t'
    unfolding position_of
    read_again r₂ t₂ w = (w.answer ∙ ap (read_replied (text_of_source s)) (reads_again.same_answer ∙ read_counts), same_tables w.table)

    -- an accepting answer has no place, whatever the source
    anywhere : resolve_replied (text_of_source s) (resolution s n m) ≡ resolve_replied s (resolution s n m)
    unfolding position_of
    anywhere = rw resolved

    -- and a second `resolve`, of the text, ends with the same answer, the same output and the same rows, but the places
    pub resolve_again :
        (r₂ : Result Resolved Refusal) (t₂ o₂ : List ℕ) → Resolving (text_of_source s) n m r₂ t₂ o₂
        → (told r₂ ≡ told r) × (o₂ ≡ o') × SameTables n (told r).rows t₂ t'
    resolve_again r₂ t₂ o₂ w =
        let same = Demand2.resolves_again s n m resolved in
        let table₂ = w.table ∙ Demand2.resolved_table_lem (text_of_source s) n m (ap (λ a. a.number) same ∙ resolved) in (
          w.answer ∙ (ap (resolve_replied (text_of_source s)) same ∙ (anywhere ∙ sym v.answer)),
          w.output ∙ (Demand2.same_output s n m resolved ∙ sym v.output),
          same_tables table₂,
        )
