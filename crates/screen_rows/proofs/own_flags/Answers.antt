-- `screen_rows::own_flags` meets its contract.
use Rattle.screen_rows.proofs.FlagLaws.{flags_hiding}
use Rattle.screen_rows.proofs.own_flags.Goals as goal

pub returns-then-is_hiding : goal.returns-then-is_hiding
returns-then-is_hiding c = flags_hiding c.args.code c.args.v c.if-not-is_true.ensures c.if-is_hiding.ensures
