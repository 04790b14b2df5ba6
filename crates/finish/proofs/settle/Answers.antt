-- `finish::settle` meets its contract: one pass after the other.
use Rattle.finish.proofs.ReferenceLaws.{settles}
use Rattle.finish.proofs.settle.Goals as goal

pub returns : goal.returns
returns c =
    let numbered = c.number_rows.ensures in record { table_after = settles _ _ _ _ _ numbered.table_after c.resolve_references.ensures; used_after = numbered.used_after }
