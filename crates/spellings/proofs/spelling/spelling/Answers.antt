-- `spellings::spelling::spelling` meets its contract: each arm has the text of its own class.
-- Assumes nothing.
use native.Mathlib.Omega.{arith}
use mathlib.Core.Path.{sym}
use Rattle.spellings.proofs.SpellingLaws.{past_all, no_word}
use Rattle.spellings.proofs.spelling.spelling.Goals as goal

pub returns-in_default : goal.returns-in_default
returns-in_default c = sym (no_word c.args.class (past_all (Unit {0}) 0 79 c.args.class c.in_default.in_default-own.rest (λ u. omega arith)))
