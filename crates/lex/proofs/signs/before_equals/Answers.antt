-- `lex::signs::before_equals` meets its contract: each arm by computation.
use mathlib.Core.Path.{sym}
use mathlib.Core.List.{[], ◌∷◌}
use Rattle.lexemes.specs.Lexemes.{signs}
use Rattle.lexemes.specs.Words.{same, place_among}
use Rattle.lexemes.proofs.Missed.{byte_missed}
use Rattle.lex.proofs.signs.before_equals.Goals as goal

pub returns-in-61 : goal.returns-in-61
unfolding signs same place_among
returns-in-61 c = rw c.in-61.is

pub returns-in-33 : goal.returns-in-33
unfolding signs same place_among
returns-in-33 c = rw c.in-33.is

pub returns-in-60 : goal.returns-in-60
unfolding signs same place_among
returns-in-60 c = rw c.in-60.is

pub returns-in-62 : goal.returns-in-62
unfolding signs same place_among
returns-in-62 c = rw c.in-62.is

pub returns-in_default : goal.returns-in_default
unfolding signs same place_among
returns-in_default c = sym (byte_missed c.args.b (61 ∷ []) signs c.in_default.in_default-own.rest)
