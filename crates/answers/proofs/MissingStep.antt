-- W-208: an absent step is 1, a written one stays, and a text that writes every step has the rows that it had before.
-- Assumes nothing.
use Prim.Native.Nat.{ℕ, ◌/◌}
use mathlib.Core.Path.{◌≡◌, refl, ap, sym, ◌∙◌}
use mathlib.Core.Bool.{true}
use mathlib.Core.List.{List, [], map, map-id}
use native.Mathlib.Omega.{arith}
use lib.ListN.{get_or}
use lib.Seq.{get_or_at}
use Rattle.rows.specs.Columns as column
use Rattle.rows.specs.Columns.{ROW}
use Rattle.ll1.specs.Trees.{Trees, node}
use Rattle.grammar.specs.Rules.{<item>}
use Rattle.grammar.specs.Positions.{item_numeric, numeric_step}
use Rattle.grammar.specs.Parts.{written}
use Rattle.grammar.specs.Source.{number_at}
use Rattle.answers.specs.Rows.{Draft, without_marks, ABSENT_STEP, item, drafts_by, drafts_of}
use Rattle.answers.specs.Stages.{cell, finished}
use Rattle.answers.specs.Answer.{Answer, refuses, answer_of, drafts}
use Rattle.answers.specs.WholeAnswer.{Checked, refusal, derived, checked, read_answer}
use Rattle.answers.specs.Reached.{Reached}
use Rattle.answers.specs.Forms.{column_of}
use Rattle.answers.specs.MissingStep.{Stepped, drafts_before, answer_before, without_step, writes_steps}
use Rattle.answers.proofs.Forms.{map_get_or}
use Rattle.answers.proofs.FoundRows.{finished_column}
use Rattle.answers.proofs.Walks.{own_among}
use Rattle.answers.proofs.UncheckedStep.{drafts_alike, answer_same, rows_besides}

-- ---- in the rows

module _ (s : List ℕ) (tree : Trees) where
  -- "An absent step is now 1; a written 0 stays 0"
  pub stepped :
      {c f : Trees} {parent at n : ℕ}
      → Reached (number_at s) tree (node <item> item_numeric c f) parent at n → Stepped s (finished s (drafts s tree)) at c
  unfolding drafts
  stepped {c} {f} {parent} {at} {n} r =
      let ds = drafts_of (number_at s) tree 0 0 0 in
      let d = item (number_at s) parent item_numeric c in
      let m = own_among (number_at s) r in
      let is : column_of (finished s ds) column.C at ≡ cell column.C d =
      sym (map_get_or (λ r. get_or r column.C 0) (finished s ds) at [])
      ∙ ap (λ (l : List ℕ). get_or l at 0) (finished_column s ds column.C (λ e. omega arith) (λ e. omega arith))
      ∙ map_get_or (cell column.C) ds at (without_marks [])
      ∙ ap (cell column.C) (ap (λ (l : List Draft). get_or l at (without_marks [])) m.are ∙ get_or_at m.before d _ (without_marks []) at m.number) in
      record { absent = λ e. rw e at is; stays = λ e. rw e at is }

-- ---- a text that writes every step

pub drafts_same :
    (number_at_lem : ℕ → ℕ) (a b : ℕ) (f : Trees) (parent at n : ℕ)
    → writes_steps f ≡ true → drafts_by number_at_lem a f parent at n ≡ drafts_by number_at_lem b f parent at n
drafts_same number_at_lem a b f parent at n h =
    sym (map-id (drafts_by number_at_lem a f parent at n))
    ∙ drafts_alike number_at_lem a b (λ d. d) (written numeric_step) (λ parent c e. rw e) f parent at n h
    ∙ map-id (drafts_by number_at_lem b f parent at n)

-- "Older resolved text writes every step and reads as before": a text in which every numeric writes its step has the same rows before and after
module _ (s : List ℕ) (tree : Trees) where
  pub rows_as_before : writes_steps tree ≡ true → finished s (drafts_before s tree) ≡ finished s (drafts s tree)
  unfolding drafts
  rows_as_before h = ap (finished s) (drafts_same (number_at s) 0 ABSENT_STEP tree 0 0 0 h)

  -- those of any text are the same but for their steps
  pub others_as_before : map without_step (finished s (drafts_before s tree)) ≡ map without_step (finished s (drafts s tree))
  unfolding drafts
  others_as_before = rows_besides s 0 ABSENT_STEP tree

-- and no answer has changed: nothing is checked against an absent step
pub answer_as_before : (s : List ℕ) (n : ℕ) → answer_before s n ≡ read_answer s n
unfolding answer_before read_answer drafts
answer_as_before s n = by (checked s)
  where
    answered : (Trees → List Draft) → Checked → Answer
    answered rows c = elim c [ refusal k p ↦ refuses k p | derived f ↦ answer_of s (rows f) (n / ROW) ]

    by : (c : Checked) → answered (drafts_before s) c ≡ answered (drafts s) c
    by (refusal k p) = refl
    by (derived f) = answer_same s 0 ABSENT_STEP f (n / ROW)
