-- `walk::items::option_list` meets its contract. The loop's invariant: whoever ends the list from here ends it from its start.
-- Assumes nothing.
use mathlib.Core.Path.{refl}
use native.Mathlib.Omega.{arith}
use mathlib.Core.List.{[], ◌∷◌}
use Rattle.std.proofs.lemmas.Result.{err_from_is_err_and}
use Rattle.ll1.specs.Trees.{depth}
use Rattle.grammar.specs.Grammar.{rules}
use Rattle.grammar.specs.Notation.{r}
use Rattle.elements.specs.Symbols.{symbols_of, phrase_symbols}
use Rattle.grammar.specs.Rules.{<option>*}
use Rattle.walk.proofs.Walks.{walked_off, halts}
use Rattle.walk.proofs.StatementSteps.{option_is, option_told, flat_reads}
use Rattle.walk.proofs.Rooms.{room_after, ahead_less}
use Rattle.walk.proofs.ListSteps.{list_none, options_are, option_word, options_end, list_again, list_whole}
use Rattle.walk.proofs.items.option_list.Goals as goal

pub returns-in_err-s : goal.returns-in_err-s
returns-in_err-s c =
    let p = err_from_is_err_and c.from_residual.result c.from_residual.ensures.1 in
    rw (p.1, p.2) (record { walked = λ d o. list_whole ((flat_reads option_is (option_told _) c.in_err-s.ensures).walked d o) (walked_off (r <option>* ∷ []) _ (halts c.in_err-s.field-0.0)) })

pub loop-s-init : goal.loop-s-init
loop-s-init c = record { len = refl; room = room_after c.requires (c.in_ok-s.ensures.walked (depth 0 0) refl); rest = λ r t' h. h }

pub returns-in_err-s-2 : goal.returns-in_err-s-2
returns-in_err-s-2 c =
    let p = err_from_is_err_and c.from_residual-in_err-s-2.result c.from_residual-in_err-s-2.ensures.1 in
    let test = c.loop-s-test.true in
    let again = list_again (depth 0 0) refl c.loop-s.invariant options_are (option_word test) (λ q. omega (arith, test)) c.flat-in-loop-s.auto.table (λ d o. (flat_reads option_is (option_told _) c.in_err-s-2.ensures).walked d o) in
    rw (p.1, p.2) (record { walked = λ d o. list_whole ((flat_reads option_is (option_told _) c.in_ok-s.ensures).walked d o) (again.rest _ _ (λ d o. walked_off (r <option>* ∷ []) _ (halts c.in_err-s-2.field-0.0)) d o) })

pub loop-s-smaller : goal.loop-s-smaller
unfolding rules symbols_of phrase_symbols
loop-s-smaller c = ahead_less refl refl (c.in_ok-s-2.ensures.walked (depth 0 0) refl)

pub loop-s-preserved : goal.loop-s-preserved
loop-s-preserved c =
    let test = c.loop-s-test.true in
    list_again (depth 0 0) refl c.loop-s.invariant options_are (option_word test) (λ q. omega (arith, test)) c.flat-in-loop-s.auto.table (λ d o. (flat_reads option_is (option_told _) c.in_ok-s-2.ensures).walked d o)

pub returns : goal.returns
returns c = record { walked = λ d o. list_whole ((flat_reads option_is (option_told _) c.in_ok-s.ensures).walked d o) (c.loop-s.invariant.rest _ _ (λ d o. list_none options_are.list (options_end c.loop-s-test.false)) d o) }
