-- `screen_rows::flag_rows` meets its contract: the bytes of the rows passed are the flags in them.
use Rattle.screen_rows.proofs.PassLaws.{flagging_start, flagging_next, flagging_end}
use Rattle.screen_rows.proofs.flag_rows.Goals as goal

pub loop-row-init : goal.loop-row-init
loop-row-init c = flagging_start _ _ _

pub loop-row-preserved : goal.loop-row-preserved
loop-row-preserved c = flagging_next _ _ c.loop-row.invariant c.loop-row-test.true c.flags_in.ensures

pub returns : goal.returns
returns c = flagging_end _ _ c.loop-row.invariant c.loop-row-test.false
