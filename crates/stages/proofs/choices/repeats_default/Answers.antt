-- `choices::repeats_default` meets its contract.
use mathlib.Core.Path.{◌≡◌, sym, ◌∙◌}
use mathlib.Core.Bool.{true}
use Rattle.std.proofs.Common.{rules}
use Rattle.drafts.specs.Faults.{draft_at}
use Rattle.stages.specs.Choices.{is_default}
use Rattle.drafts.proofs.FaultLaws.{any_found}
use Rattle.stages.proofs.choices.repeats_default.Goals as goal

pub returns-then-has_default : goal.returns-then-has_default
returns-then-has_default c =
    let own : is_default (draft_at c.args.table.now c.args.row) ≡ true = sym c.has_default.ensures ∙ c.if-has_default.true in
    rw own (any_found is_default c.args.table.now c.args.first c.args.row (λ a r f e. search rules) (λ row b l e. search rules) _ c.any.ensures.runs)
