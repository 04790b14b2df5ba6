-- `phrases::kept::Findings::push_element` meets its contract.
use native.Mathlib.Numerals.{add-one}
use borrow.Author.Tests.{eq-eqb, ne_eqb}
use Rattle.elements.specs.Kinds.{element_entries}
use Rattle.phrases.proofs.kept.Findings.push_element.Goals as goal

pub returns-then-want-eq-REFERENCE : goal.returns-then-want-eq-REFERENCE
unfolding element_entries
returns-then-want-eq-REFERENCE c = rw (eq-eqb _ _ c.if-want-eq-REFERENCE.true, ← add-one c.args.token.start) c.push_reference.ensures

pub returns-else-want-eq-REFERENCE : goal.returns-else-want-eq-REFERENCE
unfolding element_entries
returns-else-want-eq-REFERENCE c = rw (ne_eqb _ _ c.if-want-eq-REFERENCE.false, ← add-one c.args.token.start, ← c.entry_of.ensures) c.push.ensures
