-- `screen_rows::is_item` meets its contract.
use native.Mathlib.Omega.{arith}
use Rattle.screen_rows.proofs.CodeLaws.{item_one, item_none, item_from_two, item_from_five}
use Rattle.screen_rows.proofs.is_item.Goals as goal

pub returns-in-2 : goal.returns-in-2
returns-in-2 c = item_one c.args.code c.in-2.is

pub returns-in-2-2 : goal.returns-in-2-2
returns-in-2-2 c = item_from_two c.args.code (omega arith) (omega arith)

pub returns-in-2-3 : goal.returns-in-2-3
returns-in-2-3 c = item_from_five c.args.code (omega arith) (omega arith)

pub returns-in_default : goal.returns-in_default
returns-in_default c =
    item_none c.args.code (λ e. grind arith) (λ e. grind arith) (λ e. grind arith) (λ e. grind arith) (λ e. grind arith) (λ e. grind arith) (λ e. grind arith)

pub returns-in_default-2 : goal.returns-in_default-2
returns-in_default-2 c =
    item_none c.args.code (λ e. grind arith) (λ e. grind arith) (λ e. grind arith) (λ e. grind arith) (λ e. grind arith) (λ e. grind arith) (λ e. grind arith)

pub returns-in_default-3 : goal.returns-in_default-3
returns-in_default-3 c =
    item_none c.args.code (λ e. grind arith) (λ e. grind arith) (λ e. grind arith) (λ e. grind arith) (λ e. grind arith) (λ e. grind arith) (λ e. grind arith)
