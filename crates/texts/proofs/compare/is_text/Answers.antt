-- `compare::is_text` meets its contract: an output that starts with the text and then has zeros.
-- Assumes nothing.
use Rattle.std.proofs.Common.{arith, rules}
use Rattle.texts.proofs.TextLaws.{text_is}
use Rattle.texts.proofs.compare.is_text.Goals as goal

pub returns-then-eq : goal.returns-then-eq
returns-then-eq c e =
    text_is c.args.bytes (omega arith) c.split_at.ensures.front c.split_at.ensures.back (search rules) (search rules)
