-- `values::value_at` meets its contract.
use mathlib.Core.Path.{sym, ◌∙◌}
use native.Mathlib.Omega.{arith}
use Rattle.values.proofs.ValueLaws.{fitted_fits, no_hex, value_past}
use Rattle.values.proofs.value_at.Goals as goal

pub returns-then-src-at : goal.returns-then-src-at
returns-then-src-at c = value_past c.args.src.now c.args.at c.if-src-at.true

pub decimal_at-requires : goal.decimal_at-requires
decimal_at-requires c = no_hex c.args.src.now c.args.at (λ e. c.if-byte_at-ne120.true (c.byte_at.ensures ∙ e))
