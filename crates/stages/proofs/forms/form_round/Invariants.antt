-- `forms::form_round` meets its contract: the same form is reached from the loop's row.
use Prim.Native.Nat.{◌-◌}
use Rattle.answers.specs.Drafts.{drafts_from}
use Rattle.drafts.specs.Faults.{draft_at}
use Rattle.stages.proofs.FormLaws.{Climbing}
use Rattle.stages.proofs.forms.form_round.Given as goal

abbrev pub invariant-loop : goal.invariant-loop
invariant-loop l = Climbing (drafts_from l.table 0 l.count) (draft_at l.table l.row) (16 - l.counter) l.at
