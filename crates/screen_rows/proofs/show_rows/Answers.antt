-- `screen_rows::show_rows` meets its contract.
use mathlib.Core.Path.{ap, ◌∙◌}
use Rattle.screen_rows.specs.Passes.{items_only, shown}
use Rattle.screen_rows.proofs.show_rows.Goals as goal

pub returns : goal.returns
unfolding shown
returns c = c.keep_items.ensures ∙ ap (items_only _ 0) c.flag_rows.ensures
