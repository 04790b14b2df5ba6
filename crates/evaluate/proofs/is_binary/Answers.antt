-- `evaluate::is_binary` meets its contract.
use native.Mathlib.Omega.{arith}
use Rattle.evaluate.proofs.CodeLaws.{binary_logic, binary_equal, binary_shift, binary_none}
use Rattle.evaluate.proofs.is_binary.Goals as goal

pub returns-in-21-to-22 : goal.returns-in-21-to-22
returns-in-21-to-22 c = binary_logic c.args.code (omega arith) (omega arith)

pub returns-in-21-to-22-2 : goal.returns-in-21-to-22-2
returns-in-21-to-22-2 c = binary_equal c.args.code (omega arith) (omega arith)

pub returns-in-21-to-22-3 : goal.returns-in-21-to-22-3
returns-in-21-to-22-3 c = binary_shift c.args.code (omega arith) (omega arith)

pub returns-in_default : goal.returns-in_default
returns-in_default c = binary_none c.args.code (λ h l. omega arith) (λ h l. omega arith) (λ h l. omega arith)

pub returns-in_default-2 : goal.returns-in_default-2
returns-in_default-2 c = binary_none c.args.code (λ h l. omega arith) (λ h l. omega arith) (λ h l. omega arith)

pub returns-in_default-3 : goal.returns-in_default-3
returns-in_default-3 c = binary_none c.args.code (λ h l. omega arith) (λ h l. omega arith) (λ h l. omega arith)

pub returns-in_default-4 : goal.returns-in_default-4
returns-in_default-4 c = binary_none c.args.code (λ h l. omega arith) (λ h l. omega arith) (λ h l. omega arith)
