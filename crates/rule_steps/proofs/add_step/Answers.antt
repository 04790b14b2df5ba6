-- `rule_steps::add_step` meets its contract.
use Rattle.std.proofs.Common.{◌∙◌, ap, sym}
use Rattle.rule_steps.specs.Steps.{rule_or_zero}
use Rattle.rule_steps.proofs.Rows.{no_step, not_step, one_step, added_nothing, greatest_nothing, added_one, greatest_one}
use Rattle.rule_steps.proofs.add_step.Goals as goal

pub returns-in_err-from-clause-adds : goal.returns-in_err-from-clause-adds
returns-in_err-from-clause-adds c = added_nothing (no_step _ _ c.rule_round.ensures (ap rule_or_zero c.in_err-from.was)) c.args.map.now

pub returns-in_err-from-clause-tells : goal.returns-in_err-from-clause-tells
returns-in_err-from-clause-tells c =
    ap rule_or_zero c.from_residual.ensures
    ∙ greatest_nothing (no_step _ _ c.rule_round.ensures (ap rule_or_zero c.in_err-from.was))

pub returns-then-not-are_rules-clause-adds : goal.returns-then-not-are_rules-clause-adds
returns-then-not-are_rules-clause-adds c =
    added_nothing
    (not_step _ _ (ap rule_or_zero (sym c.in_ok-from.was) ∙ c.rule_round.ensures) c.cell-to.ensures (sym c.are_rules.ensures ∙ c.if-not-are_rules.true))
    c.args.map.now

pub returns-then-not-are_rules-clause-tells : goal.returns-then-not-are_rules-clause-tells
returns-then-not-are_rules-clause-tells c =
    greatest_nothing
    (not_step _ _ (ap rule_or_zero (sym c.in_ok-from.was) ∙ c.rule_round.ensures) c.cell-to.ensures (sym c.are_rules.ensures ∙ c.if-not-are_rules.true))

pub returns-clause-adds : goal.returns-clause-adds
returns-clause-adds c =
    added_one
    (one_step _ _ (ap rule_or_zero (sym c.in_ok-from.was) ∙ c.rule_round.ensures) c.cell-to.ensures (sym c.are_rules.ensures ∙ c.if-not-are_rules.false))
    c.args.map.now c.add.ensures

pub returns-clause-tells : goal.returns-clause-tells
returns-clause-tells c =
    greatest_one
    (one_step _ _ (ap rule_or_zero (sym c.in_ok-from.was) ∙ c.rule_round.ensures) c.cell-to.ensures (sym c.are_rules.ensures ∙ c.if-not-are_rules.false))
    c.max.ensures
