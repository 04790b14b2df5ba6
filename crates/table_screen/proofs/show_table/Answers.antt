-- `table_screen::show_table` meets its contract.
use Rattle.table_screen.proofs.CallLaws.{screen_by}
use Rattle.table_screen.proofs.show_table.Goals as goal

pub returns : goal.returns
returns c =
    let shown = c in
    screen_by _ _ _ _ _ shown.values_of-values.ensures shown.show_rows.ensures
