-- `lex::signs::one_byte` meets its contract: each arm by computation.
use mathlib.Core.Path.{sym}
use mathlib.Core.List.{[]}
use Rattle.lexemes.specs.Lexemes.{signs}
use Rattle.lexemes.specs.Words.{same, place_among}
use Rattle.lexemes.proofs.Missed.{byte_missed}
use Rattle.lex.proofs.signs.one_byte.Goals as goal

pub returns-in-123 : goal.returns-in-123
unfolding signs same place_among
returns-in-123 c = rw c.in-123.is

pub returns-in-125 : goal.returns-in-125
unfolding signs same place_among
returns-in-125 c = rw c.in-125.is

pub returns-in-40 : goal.returns-in-40
unfolding signs same place_among
returns-in-40 c = rw c.in-40.is

pub returns-in-41 : goal.returns-in-41
unfolding signs same place_among
returns-in-41 c = rw c.in-41.is

pub returns-in-44 : goal.returns-in-44
unfolding signs same place_among
returns-in-44 c = rw c.in-44.is

pub returns-in-59 : goal.returns-in-59
unfolding signs same place_among
returns-in-59 c = rw c.in-59.is

pub returns-in-61 : goal.returns-in-61
unfolding signs same place_among
returns-in-61 c = rw c.in-61.is

pub returns-in-124 : goal.returns-in-124
unfolding signs same place_among
returns-in-124 c = rw c.in-124.is

pub returns-in-38 : goal.returns-in-38
unfolding signs same place_among
returns-in-38 c = rw c.in-38.is

pub returns-in-60 : goal.returns-in-60
unfolding signs same place_among
returns-in-60 c = rw c.in-60.is

pub returns-in-62 : goal.returns-in-62
unfolding signs same place_among
returns-in-62 c = rw c.in-62.is

pub returns-in-43 : goal.returns-in-43
unfolding signs same place_among
returns-in-43 c = rw c.in-43.is

pub returns-in-45 : goal.returns-in-45
unfolding signs same place_among
returns-in-45 c = rw c.in-45.is

pub returns-in-42 : goal.returns-in-42
unfolding signs same place_among
returns-in-42 c = rw c.in-42.is

pub returns-in-47 : goal.returns-in-47
unfolding signs same place_among
returns-in-47 c = rw c.in-47.is

pub returns-in-37 : goal.returns-in-37
unfolding signs same place_among
returns-in-37 c = rw c.in-37.is

pub returns-in_default : goal.returns-in_default
unfolding signs same place_among
returns-in_default c = sym (byte_missed c.args.b [] signs c.in_default.in_default-own.rest)
