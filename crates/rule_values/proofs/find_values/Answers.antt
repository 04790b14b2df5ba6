-- `rule_values::find_values` meets its contract: the values of the rules at the places left of the order are still to be found.
use mathlib.Core.Path.{◌≡◌, refl}
use borrow.Author.Rules.{rules}
use lib.ListN.{get_or}
use Rattle.rule_values.proofs.ValueLaws.{rule_found_lem, finding_start, finding_next, finding_end}
use Rattle.rule_values.proofs.find_values.Goals as goal

pub loop-k-init : goal.loop-k-init
loop-k-init c = finding_start _ _ _ _ _ _ _ _

pub loop-k-preserved : goal.loop-k-preserved
loop-k-preserved c =
    let a = c.args in
    let k = get_or a.order.now c.loop-k.k-index 0 in
    let row : c.unwrap_or-row.result ≡ get_or a.places.now k 0 = search rules in
    finding_next _ _ _ _ _ _ _ c.loop-k.invariant c.loop-k-test.true refl
    (rule_found_lem _ _ _ _ _ _ c.loop-k.values k row c.value_after-v.ensures c.put_value.ensures)

pub returns : goal.returns
returns c = finding_end _ _ _ _ _ _ _ c.loop-k.invariant c.loop-k-test.false
