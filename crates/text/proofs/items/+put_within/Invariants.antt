-- `text::items::put_within` meets its contract. It ends since at each call of itself and at each turn fewer rows are left. The loop's invariant:
-- whoever prints the rest from here prints the whole.
-- Assumes nothing.
use Prim.Native.Nat.{◌-◌}
use Rattle.text.proofs.ItemLaws.{ItemLoop}
use Rattle.text.proofs.items.+put_within.Given as goal

abbrev pub decreases-put_within : goal.decreases-put_within
decreases-put_within l = l.count - l.first

abbrev pub invariant-loop-row : goal.invariant-loop-row
invariant-loop-row l = ItemLoop l.table l.count l.parent l.first l.initial.out l.row l.out

abbrev pub decreases-loop-row : goal.decreases-loop-row
decreases-loop-row l = l.count - l.row
