-- `rule_steps::rule_round` meets its contract, test by test.
use Rattle.rows.specs.Table.{row_at}
use Rattle.rule_steps.proofs.Rows.{round_other, round_beyond, round_outside, round_inside}
use Rattle.rule_steps.proofs.rule_round.Goals as goal

pub returns-then-cell-ne-RULE_REF : goal.returns-then-cell-ne-RULE_REF
returns-then-cell-ne-RULE_REF c =
    let s = c in
    let t = s.args.table.now in
    round_other t s.args.count (row_at t s.args.row) c.cell.ensures c.if-cell-ne-RULE_REF.true

pub returns-then-count-parent : goal.returns-then-count-parent
returns-then-count-parent c =
    let s = c in
    let t = s.args.table.now in
    round_beyond t s.args.count (row_at t s.args.row) c.cell.ensures c.if-cell-ne-RULE_REF.false
    c.cell-parent.ensures c.if-count-parent.true

pub returns-then-cell-ne-RULE : goal.returns-then-cell-ne-RULE
returns-then-cell-ne-RULE c =
    let b = c in
    let s = b in
    let t = s.args.table.now in
    round_outside t s.args.count (row_at t s.args.row) b.cell.ensures b.if-cell-ne-RULE_REF.false
    b.cell-parent.ensures b.if-count-parent.false c.cell-2.ensures c.if-cell-ne-RULE.true

pub returns : goal.returns
returns c =
    let b = c in
    let s = b in
    let t = s.args.table.now in
    round_inside t s.args.count (row_at t s.args.row) b.cell.ensures b.if-cell-ne-RULE_REF.false
    b.cell-parent.ensures b.if-count-parent.false c.cell-2.ensures c.if-cell-ne-RULE.false c.cell-3.ensures
