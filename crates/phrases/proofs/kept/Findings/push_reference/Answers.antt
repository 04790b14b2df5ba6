-- `phrases::kept::Findings::push_reference` meets its contract.
use mathlib.Core.Path.{◌∙◌}
use borrow.Author.Tests.{eq-eqb, ne_eqb}
use Rattle.elements.specs.Kinds.{reference_entries}
use Rattle.phrases.specs.Phrase.{with_entries}
use Rattle.phrases.proofs.kept.Findings.push_reference.Goals.{then-class-eq-NAME, else-class-eq-NAME}
use Rattle.phrases.proofs.kept.Findings.push_reference.Goals as goal

pub returns : goal.returns
unfolding reference_entries with_entries
returns c =
    let one = c.push.ensures in
    let two = c.push-2.ensures in
    elim c.if-class-eq-NAME.branch [
      | then-class-eq-NAME w ↦ record { kept = rw (eq-eqb _ _ w.if-class-eq-NAME.true) (rw (one.kept, w.name-is) at two.kept); noted = two.noted ∙ one.noted; lent = two.lent ∙ one.lent }
      | else-class-eq-NAME w ↦ record { kept = rw (ne_eqb _ _ w.if-class-eq-NAME.false) (rw (one.kept, w.name-is) at two.kept); noted = two.noted ∙ one.noted; lent = two.lent ∙ one.lent }
    ]
