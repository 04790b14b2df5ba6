-- Where a walk stands, as the definitions take it: one record, with a refusal's number, for a walk that goes on and for one that is refused.
-- Assumes nothing.
use Rattle.std.specs.Prelude.{ℕ, Result, Ok, Err}
use Rattle.lex.specs.declared.Token.{Token}
use Rattle.elements.specs.declared.noted.Noted.{Noted}
use Rattle.elements.specs.Marks.{nothing_noted}
use Rattle.phrases.specs.declared.Cursor.{Cursor}
use Rattle.refusals.specs.declared.Reason.TheVariants.{TooDeep}
use Rattle.refusals.specs.Numbers.{number_of}
use Rattle.walk.specs.declared.State.{State}
use Rattle.walk.specs.declared.Halt.{Halt}

-- the refusal or 0, the token, how many rows and how many rules there are so far, and the faults that are noted
pub record Standing : Type 0 where
  pub no : ℕ
  pub token : Token
  pub rows : ℕ
  pub rules : ℕ
  pub noted : Noted

-- a walk that goes on
abbrev pub going : State → Standing
going s = record { no = 0; token = s.token; rows = s.rows; rules = s.rules; noted = s.noted }

-- one that is refused: no row, rule or fault is of use any more
abbrev pub halted : Halt → Standing
halted e = record { no = number_of e.reason; token = e.token; rows = 0; rules = 0; noted = nothing_noted }

-- what a reader gives
abbrev pub standing : Result State Halt → Standing
standing (Ok s) = going s
standing (Err e) = halted e

-- what a reader that changes its state in place gives, and that state
abbrev pub standing_in : Result (Unit {0}) Halt → State → Standing
standing_in (Ok _) s = going s
standing_in (Err e) s = halted e

-- refused at the token, which opens a depth too many
abbrev pub refused_deep : State → Halt
refused_deep s = record { reason = TooDeep; token = s.token }

-- where a phrase ends, as its reader says it
abbrev pub cursor : Standing → Cursor
cursor r = record { no = r.no; token = r.token; noted = r.noted; count = 0 }
