-- `elements::flags::list_entry` meets its contract.
use native.Mathlib.Omega.{arith}
use borrow.Author.Tests.{eq-eqb, ne_eqb}
use Rattle.elements.specs.Words.{list_entry}
use Rattle.elements.proofs.KindLaws.{bits_low}
use Rattle.elements.proofs.flags.list_entry.Goals as goal

pub overflow_add-result-then-want-eq-NUMERIC_FLAGS : goal.overflow_add-result-then-want-eq-NUMERIC_FLAGS
overflow_add-result-then-want-eq-NUMERIC_FLAGS c =
    let w = c.args.w in
    let bits = c.bits_of.ensures in
    record { fits = omega (arith, bits, bits_low w) }

pub returns-then-want-eq-NUMERIC_FLAGS : goal.returns-then-want-eq-NUMERIC_FLAGS
unfolding list_entry
returns-then-want-eq-NUMERIC_FLAGS c =
    rw (eq-eqb _ _ c.if-want-eq-NUMERIC_FLAGS.true, c.bits_of.ensures, c.from.ensures, c.from-then-want-eq-NUMERIC_FLAGS.ensures)
    (rw (c.unwrap_or-size.ensures, c.unwrap_or-display.ensures))

pub returns : goal.returns
unfolding list_entry
returns c = rw (ne_eqb _ _ c.if-want-eq-NUMERIC_FLAGS.false) c.bits_of-2.ensures
