-- `circle_stage::place_in` meets its contract.
use Rattle.std.proofs.Common.{◌∙◌, ap, sym, refl}
use Rattle.rows.specs.Marks.{marked}
use Rattle.rule_steps.specs.Steps.{rule_or_zero}
use Rattle.circle_stage.proofs.Marks.{mark_on, mark_off, mark_none}
use Rattle.circle_stage.proofs.place_in.Goals as goal

pub returns-in_err-from : goal.returns-in_err-from
returns-in_err-from c =
    ap marked c.from_residual.ensures
    ∙ mark_none c.args.table.now c.args.count c.args.map.now c.args.row c.rule_round.ensures refl (ap rule_or_zero c.in_err-from.was)

pub returns-then-circular : goal.returns-then-circular
returns-then-circular c =
    mark_on c.args.table.now c.args.count c.args.map.now c.args.row (ap rule_or_zero (sym c.in_ok-from.was) ∙ c.rule_round.ensures) c.cell.ensures
    c.circular.ensures c.if-circular.true c.own_mark.ensures

pub returns-else-circular : goal.returns-else-circular
returns-else-circular c =
    mark_off c.args.table.now c.args.count c.args.map.now c.args.row (ap rule_or_zero (sym c.in_ok-from.was) ∙ c.rule_round.ensures) c.cell.ensures
    c.circular.ensures c.if-circular.false
