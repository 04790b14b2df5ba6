-- `screen_rows::is_hiding` meets its contract.
use native.Mathlib.Omega.{arith}
use Rattle.screen_rows.proofs.CodeLaws.{hiding_one, hiding_none}
use Rattle.screen_rows.proofs.is_hiding.Goals as goal

pub returns-in-10 : goal.returns-in-10
returns-in-10 c = hiding_one c.args.code c.in-10.is

pub returns-in_default : goal.returns-in_default
returns-in_default c = hiding_none c.args.code (λ e. grind arith) (λ e. grind arith)
