-- `names::index_names` meets its contract: the rows from the loop's on are entered.
use Prim.Native.Nat.{ℕ, ◌-◌}
use mathlib.Core.Path.{refl, ap, ◌∙◌}
use lib.Dec.{eqb}
use Rattle.rows.specs.Codes as code
use Rattle.rows.specs.Columns as column
use Rattle.names.specs.Names.{key_of, added}
use Rattle.drafts.proofs.DraftLaws.{cell_read}
use Rattle.names.proofs.NameLaws.{entering_start, entering_unnamed, entering_named}
use Rattle.names.proofs.index_names.Goals as goal

pub loop-row-init : goal.loop-row-init
loop-row-init c = entering_start _ _ _ _

pub loop-row-preserved-then-mark-ne0 : goal.loop-row-preserved-then-mark-ne0
loop-row-preserved-then-mark-ne0 c =
    let s = c.args.src.now in
    let t = c.args.table.now in
    let i = c.loop-row.row - 1 in
    let m = c.cell-mark.result in
    let rule = ap (λ (k : ℕ). added c.loop-row.index c.loop-row.named (key_of s m (eqb k code.RULE)) i m) (cell_read t i column.CODE refl c.cell-rule.ensures) in
    entering_named c.loop-row.invariant c.loop-row-test.true (cell_read t i column.NAME refl c.cell-mark.ensures) c.if-mark-ne0.true (c.add.ensures ∙ rule)

pub loop-row-preserved : goal.loop-row-preserved
loop-row-preserved c = entering_unnamed c.loop-row.invariant c.loop-row-test.true (cell_read _ _ column.NAME refl c.cell-mark.ensures) c.if-mark-ne0.false
