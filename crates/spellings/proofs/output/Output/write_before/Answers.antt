-- `spellings::output::Output::write_before` meets its contract.
-- Assumes nothing.
use Rattle.spellings.proofs.Printing.{started_before}
use Rattle.spellings.proofs.output.Output.write_before.Goals as goal

pub returns : goal.returns
returns c = started_before c.args.text.now c.saturating_sub-start.ensures c.write.ensures
