-- `screen_rows::is_greying` meets its contract.
use Rattle.screen.proofs.KindLaws.{greying_test}
use Rattle.screen_rows.proofs.is_greying.Goals as goal

pub returns : goal.returns
returns c = greying_test c.args.code
