-- `walk::items::items` meets its contract. It ends since at each call of itself fewer conditions are left to open, and at each turn fewer tokens.
-- The loop's invariant: whoever ends the list from here ends it from its start.
-- Assumes nothing.
use mathlib.Core.Path.{refl, sym, ◌∙◌}
use native.Mathlib.Omega.{arith}
use mathlib.Core.List.{[], ◌∷◌}
use lib.Dec.{eqb}
use borrow.Author.Tests.{eq-eqb}
use Rattle.std.proofs.lemmas.Result.{err_from_is_err_and}
use Rattle.ll1.specs.Trees.{depth}
use Rattle.grammar.specs.Derivation.{max_conditions}
use Rattle.grammar.specs.Grammar.{rules}
use Rattle.grammar.specs.Notation.{r}
use Rattle.grammar.specs.Rules.{<item>*}
use Rattle.elements.specs.Symbols.{CONDITION_CLOSE}
use Rattle.walk.specs.Walked.{list_of}
use Rattle.walk.proofs.Walks.{walked_off, halts, deep_halts}
use Rattle.walk.proofs.Rooms.{room_after, ahead_less}
use Rattle.walk.proofs.StatementSteps.{closes_off}
use Rattle.walk.proofs.ListSteps.{list_none, items_are, item_word, items_end, list_again}
use Rattle.walk.proofs.ItemSteps.{condition_word, condition_list, condition_walked, condition_deep, conditions_fine, inner_items, no_rule_here, rule_again}
use Rattle.walk.proofs.items.+items.Goals as goal

pub loop-s-init : goal.loop-s-init
loop-s-init t c = record { len = refl; room = c.requires.0; rest = λ r t' h. h }

pub returns-then-left-eq0 : goal.returns-then-left-eq0
returns-then-left-eq0 t c =
    let is = sym c.is_condition.ensures ∙ c.if-is_condition.true in
    let in_form = eqb c.args.left max_conditions in
    rw c.too_deep.ensures (c.loop-s.invariant.rest _ _ (λ d o. rw o (deep_halts (condition_deep is in_form c.if-left-eq0.true refl))) _ refl)

pub returns-in_err-open : goal.returns-in_err-open
returns-in_err-open t c =
    let is = sym c.is_condition.ensures ∙ c.if-is_condition.true in
    let in_form = eqb c.args.left max_conditions in
    let word = condition_word c.loop-s.s.token.class is in
    let p = err_from_is_err_and c.from_residual.result c.from_residual.ensures.1 in
    let h = halts c.in_err-open.field-0.0 in
    let whole = condition_walked is c.requires.1 c.if-left-eq0.false c.in_err-open.ensures (walked_off (r <item>* ∷ []) _ h) (closes_off CONDITION_CLOSE h) in
    let again = list_again _ refl c.loop-s.invariant (items_are in_form) (condition_list in_form word) (λ q. omega (arith, word.known)) c.open_condition.auto.table (λ d o. rw o whole) in
    rw (p.1, p.2) (again.rest _ _ (λ d o. walked_off (r (list_of in_form) ∷ []) _ h) _ refl)

pub items-requires : goal.items-requires
items-requires t c =
    (omega (arith, c.if-left-eq0.false), (room_after c.loop-s.invariant.room (c.in_ok-open.ensures.walked 0 (omega arith)), omega (arith, c.requires.1)))

pub returns-in_err-inner : goal.returns-in_err-inner
returns-in_err-inner t c =
    let is = sym c.is_condition.ensures ∙ c.if-is_condition.true in
    let in_form = eqb c.args.left max_conditions in
    let word = condition_word c.loop-s.s.token.class is in
    let p = err_from_is_err_and c.from_residual-in_err-inner.result c.from_residual-in_err-inner.ensures.1 in
    let h = halts c.in_err-inner.field-0.0 in
    let whole = condition_walked is c.requires.1 c.if-left-eq0.false c.in_ok-open.ensures (inner_items c.requires.1 c.if-left-eq0.false c.in_err-inner.ensures) (closes_off CONDITION_CLOSE h) in
    let again = list_again _ refl c.loop-s.invariant (items_are in_form) (condition_list in_form word) (λ q. omega (arith, word.known)) (c.items.auto.table ∙ c.open_condition.auto.table) (λ d o. rw o whole) in
    rw (p.1, p.2) (again.rest _ _ (λ d o. walked_off (r (list_of in_form) ∷ []) _ h) _ refl)

pub close-requires : goal.close-requires
close-requires t c = (room_after (room_after c.loop-s.invariant.room (c.in_ok-open.ensures.walked 0 (omega arith))) c.in_ok-inner.ensures).within

pub returns-in_err-s : goal.returns-in_err-s
returns-in_err-s t c =
    let is = sym c.is_condition.ensures ∙ c.if-is_condition.true in
    let in_form = eqb c.args.left max_conditions in
    let word = condition_word c.loop-s.s.token.class is in
    let p = err_from_is_err_and c.from_residual-in_err-s.result c.from_residual-in_err-s.ensures.1 in
    let h = halts c.in_err-s.field-0.0 in
    let whole = condition_walked is c.requires.1 c.if-left-eq0.false c.in_ok-open.ensures (inner_items c.requires.1 c.if-left-eq0.false c.in_ok-inner.ensures) c.in_err-s.ensures in
    let again = list_again _ refl c.loop-s.invariant (items_are in_form) (condition_list in_form word) (λ q. omega (arith, word.known)) (c.items.auto.table ∙ c.open_condition.auto.table) (λ d o. rw o whole) in
    rw (p.1, p.2) (again.rest _ _ (λ d o. walked_off (r (list_of in_form) ∷ []) _ h) _ refl)

pub loop-s-smaller-then-is_condition : goal.loop-s-smaller-then-is_condition
unfolding rules
loop-s-smaller-then-is_condition t c =
    let is = sym c.is_condition.ensures ∙ c.if-is_condition.true in
    ahead_less refl refl (condition_walked is c.requires.1 c.if-left-eq0.false c.in_ok-open.ensures (inner_items c.requires.1 c.if-left-eq0.false c.in_ok-inner.ensures) c.in_ok-s.ensures)

pub loop-s-preserved-then-is_condition : goal.loop-s-preserved-then-is_condition
loop-s-preserved-then-is_condition t c =
    let is = sym c.is_condition.ensures ∙ c.if-is_condition.true in
    let in_form = eqb c.args.left max_conditions in
    let word = condition_word c.loop-s.s.token.class is in
    let whole = condition_walked is c.requires.1 c.if-left-eq0.false c.in_ok-open.ensures (inner_items c.requires.1 c.if-left-eq0.false c.in_ok-inner.ensures) c.in_ok-s.ensures in
    list_again _ refl c.loop-s.invariant (items_are in_form) (condition_list in_form word) (λ q. omega (arith, word.known)) (c.items.auto.table ∙ c.open_condition.auto.table) (λ d o. rw o whole)

pub returns-in_err-s-2 : goal.returns-in_err-s-2
returns-in_err-s-2 t c =
    let is = sym c.starts_item.ensures ∙ c.if-starts_item.true in
    let in_form = eqb c.args.left max_conditions in
    let word = item_word c.loop-s.s.token.class is in
    let p = err_from_is_err_and c.from_residual-in_err-s-2.result c.from_residual-in_err-s-2.ensures.1 in
    let h = halts c.in_err-s-2.field-0.0 in
    let again = list_again _ refl c.loop-s.invariant (items_are in_form) (word.tells in_form) word.known c.item.auto.table (λ d o. rw o (c.in_err-s-2.ensures.walked _ (conditions_fine c.args.left))) in
    rw (p.1, p.2) (again.rest _ _ (λ d o. walked_off (r (list_of in_form) ∷ []) _ h) _ refl)

pub loop-s-smaller-then-starts_item : goal.loop-s-smaller-then-starts_item
unfolding rules
loop-s-smaller-then-starts_item t c = ahead_less refl refl (c.in_ok-s-2.ensures.walked (depth 0 0) refl)

pub loop-s-preserved-then-starts_item : goal.loop-s-preserved-then-starts_item
loop-s-preserved-then-starts_item t c =
    let is = sym c.starts_item.ensures ∙ c.if-starts_item.true in
    let in_form = eqb c.args.left max_conditions in
    let word = item_word c.loop-s.s.token.class is in
    list_again _ refl c.loop-s.invariant (items_are in_form) (word.tells in_form) word.known c.item.auto.table (λ d o. rw o (c.in_ok-s-2.ensures.walked _ (conditions_fine c.args.left)))

pub returns-in_err-s-3 : goal.returns-in_err-s-3
returns-in_err-s-3 t c =
    let left = c.if-in_form.true in
    let in_form = eqb c.args.left max_conditions in
    let p = err_from_is_err_and c.from_residual-in_err-s-3.result c.from_residual-in_err-s-3.ensures.1 in
    let again = rule_again (eq-eqb _ _ left) left c.if-class-eq-KW_RULE.true c.loop-s.invariant c.rule.auto.table c.in_err-s-3.ensures in
    rw (p.1, p.2) (again.rest _ _ (λ d o. walked_off (r (list_of in_form) ∷ []) _ (halts c.in_err-s-3.field-0.0)) _ refl)

pub loop-s-smaller : goal.loop-s-smaller
unfolding rules
loop-s-smaller t c = ahead_less refl refl c.in_ok-s-3.ensures

pub loop-s-preserved : goal.loop-s-preserved
loop-s-preserved t c =
    let left = c.if-in_form.true in
    rule_again (eq-eqb _ _ left) left c.if-class-eq-KW_RULE.true c.loop-s.invariant c.rule.auto.table c.in_ok-s-3.ensures

pub returns-else-in_form : goal.returns-else-in_form
returns-else-in_form t c =
    let in_form = eqb c.args.left max_conditions in
    let class = c.loop-s.s.token.class in
    let no_rule = no_rule_here {left = c.args.left} {k = class} (λ q e. omega (arith, c.else-in_form.either, q, e)) in
    c.loop-s.invariant.rest _ _ (λ d o. list_none (items_are in_form).list (items_end in_form class (sym c.is_condition.ensures ∙ c.if-is_condition.false) (sym c.starts_item.ensures ∙ c.if-starts_item.false) no_rule)) _ refl
