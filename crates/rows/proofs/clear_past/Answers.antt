-- `rows::clear_past` meets its contract: where it changes nothing, the table ends before those rows do.
use Prim.Native.Nat.{◌*◌}
use mathlib.Core.Path.{sym}
use native.Mathlib.Omega.{arith}
use Rattle.rows.specs.Columns.{ROW}
use Rattle.rows.proofs.ClearLaws.{cleared_none}
use Rattle.rows.proofs.clear_past.Goals as goal

pub returns-else-count-whole_rows : goal.returns-else-count-whole_rows
returns-else-count-whole_rows c =
    let a = c.args in
    sym (cleared_none a.table.now (a.count * ROW) (omega arith))
