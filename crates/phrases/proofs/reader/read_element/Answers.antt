-- `phrases::reader::read_element` meets its contract.
use mathlib.Core.Path.{sym, ◌∙◌}
use native.Mathlib.Omega.{arith}
use Rattle.elements.proofs.KindLaws.{kept_below}
use Rattle.phrases.proofs.ReadingLaws.{refuses, takes_flags, takes_token}
use Rattle.phrases.proofs.reader.read_element.Goals as goal

pub returns-then-not-suits-clause-reads : goal.returns-then-not-suits-clause-reads
returns-then-not-suits-clause-reads c = sym (refuses _ _ _ (sym c.suits.ensures ∙ c.if-not-suits.true))

pub take_flags-requires : goal.take_flags-requires
take_flags-requires c = (c.if-want.true, sym c.suits.ensures ∙ c.if-not-suits.false, c.requires)

pub returns-then-want-clause-reads : goal.returns-then-want-clause-reads
returns-then-want-clause-reads c = c.take_flags.ensures.reads ∙ sym (takes_flags _ _ _ (sym c.suits.ensures ∙ c.if-not-suits.false) c.if-want.true)

pub take_token-requires : goal.take_token-requires
take_token-requires c =
    λ h.
    let inside = c.requires (kept_below _ _ h (sym c.suits.ensures ∙ c.if-not-suits.false)) in
    omega arith

pub returns-clause-reads : goal.returns-clause-reads
returns-clause-reads c = c.take_token.ensures.reads ∙ sym (takes_token _ _ _ (sym c.suits.ensures ∙ c.if-not-suits.false) c.if-want.false)
