-- `choices::has_default` meets its contract.
use mathlib.Core.Path.{ap, ◌∙◌}
use lib.Dec.{ltb}
use Rattle.drafts.proofs.DraftLaws.{marked_some}
use Rattle.stages.proofs.choices.has_default.Goals as goal

pub returns : goal.returns
returns c = c.is_some.ensures ∙ marked_some c.default_mark.result ∙ ap (ltb 0) c.default_mark.ensures
