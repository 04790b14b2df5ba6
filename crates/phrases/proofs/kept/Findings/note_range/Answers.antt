-- `phrases::kept::Findings::note_range` meets its contract: a number that is noted stays, whatever comes later.
use mathlib.Core.Path.{refl, sym, ap, ◌∙◌}
use mathlib.Core.Bool.{not}
use mathlib.Core.List.{[], ◌∷◌}
use native.Mathlib.Numerals.{add-one}
use Rattle.grammar.specs.Ranges.{out_of}
use Rattle.elements.specs.Kinds.{element_range}
use Rattle.elements.specs.Marks.{noting}
use Rattle.elements.proofs.MarkLaws.{outside_stays}
use Rattle.phrases.proofs.kept.Findings.note_range.Goals as goal
use Rattle.phrases.proofs.kept.Findings.note_range.Goals.{else-is_none-via-then-is_none+else-not-in_range, else-is_none-via-else-is_none}

pub returns-then-not-in_range : goal.returns-then-not-in_range
unfolding noting
returns-then-not-in_range c = record { kept = refl; noted = rw (sym c.in_range.ensures ∙ c.if-not-in_range.true, c.with_outside-self.ensures, add-one); lent = refl }

pub returns-else-is_none : goal.returns-else-is_none
unfolding noting
returns-else-is_none c = elim c.else-is_none.branch [
  | else-is_none-via-then-is_none+else-not-in_range w ↦ record { kept = refl; noted = rw (sym w.in_range.ensures ∙ w.if-not-in_range.false); lent = refl }
  | else-is_none-via-else-is_none w ↦ record { kept = refl; noted = sym (outside_stays c.args.self.now.noted (out_of c.args.src.now (element_range c.args.want c.args.token.class) (c.args.token.start ∷ [])) (c.is_none.ensures ∙ ap not w.if-is_none.false)); lent = refl }
]
