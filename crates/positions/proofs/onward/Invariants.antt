-- `positions::onward` meets its contract. The loop's invariant: line and column of the end, wrapped, are the same from here as from the start.
use Rattle.std.proofs.Common.{◌≡◌, ◌%◌, ◌^◌, ◌<◌}
use Rattle.positions.specs.Positions.{line_from, column_from}
use Rattle.positions.proofs.onward.Given as goal

abbrev pub invariant-loop-i : goal.invariant-loop-i
invariant-loop-i l =
    (line_from l.line l.src l.i l.end % 2 ^ 64 ≡ line_from l.initial.line l.src l.initial.i l.end % 2 ^ 64)
    × (column_from l.column l.src l.i l.end % 2 ^ 64 ≡ column_from l.initial.column l.src l.initial.i l.end % 2 ^ 64)
    × (l.line < 2 ^ 64)
    × (l.column < 2 ^ 64)
