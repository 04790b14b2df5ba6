-- `lex::words::likely_end` meets its contract.
use mathlib.Core.Path.{sym, ◌∙◌}
use native.Mathlib.Omega.{arith}
use lib.ListN.{length, get_or-eq_default}
use native.Mathlib.Nat.{le_refl}
use Rattle.lex.proofs.words.likely_end.Goals as goal

pub returns-then-is_word_byte : goal.returns-then-is_word_byte
returns-then-is_word_byte c =
    let s = c.args.src.now in
    record { after = omega arith; inside = le_refl (length s); ends = rw (get_or-eq_default s 0 (le_refl (length s))) }

pub returns-else-is_word_byte : goal.returns-else-is_word_byte
returns-else-is_word_byte c = record { after = omega arith; inside = omega arith; ends = sym c.is_word_byte.ensures ∙ c.if-is_word_byte.false }

pub returns : goal.returns
returns c =
    let s = c.args.src.now in
    record { after = omega arith; inside = le_refl (length s); ends = rw (get_or-eq_default s 0 (le_refl (length s))) }
