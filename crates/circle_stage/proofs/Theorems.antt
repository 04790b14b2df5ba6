-- Stage 14 as `answers` says it: the code finds the first of the names that the stage lists.
-- Assumes nothing.
use Prim.Native.Nat.{ℕ, ◌<◌}
use mathlib.Core.Path.{◌≡◌}
use mathlib.Core.Bool.{true}
use mathlib.Core.List.{List, [], ◌∷◌}
use Rattle.rows.specs.Codes as code
use Rattle.answers.specs.Rows.{Draft}
use Rattle.answers.specs.Stages.{is, faults_after, draft_rows, on_circle, circular_references}
use Rattle.answers.proofs.Circles.{circle_reference, faults}
use Rattle.drafts.specs.Faults.{alone, first_fault}
use Rattle.drafts.specs.Sound.{First, none}
use Rattle.drafts.proofs.Firsts.{first_append, first_if}
use Rattle.circle_stage.specs.Circular.{circle_fault, first_by}

-- every ruleref of the drafts has the mark of its name
pub data Marked : List Draft → Type 0 where
  none_marked : Marked []
  add_marked : {d : Draft} {ds : List Draft} → (is code.RULE_REF d ≡ true → 0 < d.own_at) → Marked ds → Marked (d ∷ ds)

first_fault_lem :
    (rows : List (List ℕ)) {ds : List Draft} → Marked ds → (before : List Draft)
    → First (first_fault (alone (circle_fault rows)) ds) (faults_after (faults rows) before ds)
unfolding first_fault faults_after circle_fault
first_fault_lem rows none_marked before = none
first_fault_lem rows (add_marked {d = d} h k) before =
    first_append (first_if (on_circle rows d.row) (λ e. h (circle_reference rows d e))) (first_fault_lem rows k (d ∷ before))

-- stage 14 answers the first of the names that it lists, as the code finds it
pub circle_first : {ds : List Draft} → Marked ds → First (first_by circle_fault ds) (circular_references ds)
unfolding circular_references
circle_first {ds} h = first_fault_lem (draft_rows ds) h []
