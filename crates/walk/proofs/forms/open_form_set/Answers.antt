-- `walk::forms::open_form_set` meets its contract: the two phrases are the opening of a form set.
-- Assumes nothing.
use mathlib.Core.Path.{refl}
use mathlib.Core.List.{◌∷◌}
use Rattle.std.proofs.lemmas.Result.{err_from_is_err_and}
use Rattle.grammar.specs.Notation.{r}
use Rattle.grammar.specs.Rules.{<guid_end>}
use Rattle.elements.specs.Symbols.{title_and_help}
use Rattle.walk.proofs.Walks.{halts}
use Rattle.walk.proofs.SetSteps.{takes_off, opens_off, opens_on, first_within}
use Rattle.walk.proofs.forms.open_form_set.Goals as goal

pub read_phrase-requires : goal.read_phrase-requires
read_phrase-requires c = first_within _ c.token_at.ensures

pub returns-in_err-s : goal.returns-in_err-s
returns-in_err-s c =
    let p = err_from_is_err_and c.from_residual.result c.from_residual.ensures.1 in
    let e = c.in_err-s.field-0.0 in
    rw (p.1, p.2) (opens_off refl c.token_at.ensures c.nothing_noted.ensures c.in_err-s.ensures e (takes_off (r <guid_end> ∷ title_and_help) (halts e)))

pub guid_end-requires : goal.guid_end-requires
guid_end-requires c = c.in_ok-s.ensures.passed.within (first_within _ c.token_at.ensures)

pub returns-in_err-s-2 : goal.returns-in_err-s-2
returns-in_err-s-2 c =
    let p = err_from_is_err_and c.from_residual-in_err-s-2.result c.from_residual-in_err-s-2.ensures.1 in
    rw (p.1, p.2) (opens_off refl c.token_at.ensures c.nothing_noted.ensures c.in_ok-s.ensures c.in_err-s-2.field-0.0 c.in_err-s-2.ensures)

pub returns : goal.returns
returns c = opens_on refl c.token_at.ensures c.nothing_noted.ensures c.in_ok-s.ensures _ refl refl c.in_ok-s-2.ensures c.form_set_row.ensures c.put_row.ensures
