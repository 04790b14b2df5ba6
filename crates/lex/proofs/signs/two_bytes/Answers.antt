-- `lex::signs::two_bytes` meets its contract.
use mathlib.Core.Path.{sym}
use mathlib.Core.List.{[], ◌∷◌}
use native.Mathlib.Omega.{arith}
use Rattle.lexemes.specs.Lexemes.{signs}
use Rattle.lexemes.specs.Words.{same, place_among}
use Rattle.lexemes.proofs.Missed.{byte_missed}
use Rattle.lex.proofs.Cases.{no_second}
use Rattle.lex.proofs.signs.two_bytes.Goals as goal

pub returns-then-next-lt60 : goal.returns-then-next-lt60
returns-then-next-lt60 c = sym (no_second c.args.b c.args.next (λ e. omega arith) (λ e. omega arith) (λ e. omega arith))

pub returns-then-next-eq61 : goal.returns-then-next-eq61
returns-then-next-eq61 c = rw c.if-next-eq61.true c.before_equals.ensures

pub returns-then-b-eq60 : goal.returns-then-b-eq60
unfolding signs same place_among
returns-then-b-eq60 c = rw (c.if-next-eq60.true, c.if-b-eq60.true)

pub returns-else-b-eq60 : goal.returns-else-b-eq60
unfolding signs same
returns-else-b-eq60 c = rw c.if-next-eq60.true (sym (byte_missed c.args.b (60 ∷ []) signs (tt, c.if-b-eq60.false)))

pub returns-then-b-eq62 : goal.returns-then-b-eq62
unfolding signs same place_among
returns-then-b-eq62 c = rw (c.if-next-eq62.true, c.if-b-eq62.true)

pub returns-else-b-eq62 : goal.returns-else-b-eq62
unfolding signs same
returns-else-b-eq62 c = rw c.if-next-eq62.true (sym (byte_missed c.args.b (62 ∷ []) signs (tt, c.if-b-eq62.false)))

pub returns : goal.returns
returns c = sym (no_second c.args.b c.args.next c.if-next-eq61.false c.if-next-eq60.false c.if-next-eq62.false)
