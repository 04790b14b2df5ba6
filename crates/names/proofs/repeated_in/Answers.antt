-- `names::repeated_in` meets its contract.
use Prim.Native.Nat.{ℕ, ◌+◌}
use mathlib.Core.Path.{◌≡◌, refl, ap, ◌∙◌}
use Rattle.std.proofs.Common.{arith, List}
use Rattle.std.proofs.lemmas.Grind.{common_steps}
use lib.Dec.{eqb}
use Rattle.rows.specs.Codes as code
use Rattle.rows.specs.Columns as column
use Rattle.rows.specs.Table.{cell_at}
use Rattle.answers.specs.Stages.{cell, is}
use Rattle.drafts.specs.Faults.{draft_at}
use Rattle.drafts.proofs.DraftLaws.{cell_read}
use Rattle.names.specs.Names.{find_in}
use Rattle.names.proofs.NameLaws.{repeated_at, repeated_unnamed, repeated_nowhere, repeated_before, repeated_after}
use Rattle.names.proofs.repeated_in.Goals as goal

pub returns-in_err-name : goal.returns-in_err-name
returns-in_err-name c =
    let name : c.cell.result ≡ cell column.NAME (draft_at c.args.table.now c.args.row) = cell_read c.args.table.now c.args.row column.NAME refl c.cell.ensures in
    grind (arith, common_steps, repeated_unnamed)

-- what the index finds, by the row's code
by_rule : (t s xs : List ℕ) (i p : ℕ) {r f : ℕ} → r ≡ cell_at t i column.CODE → f ≡ find_in s xs (p + 1) (eqb r code.RULE)
    → f ≡ find_in s xs (p + 1) (is code.RULE (draft_at t i))
by_rule t s xs i p e g = g ∙ ap (λ (k : ℕ). find_in s xs (p + 1) (eqb k code.RULE)) (cell_read t i column.CODE refl e)

pub returns-in_err-first : goal.returns-in_err-first
returns-in_err-first c =
    let t = c.args.table.now in
    let found = by_rule t c.args.src.now c.args.index.now c.args.row c.in_ok-name.name c.cell-rule.ensures c.in_err-first.ensures in
    let none : 0 ≡ repeated_at c.args.src.now c.args.index.now c.args.row (draft_at t c.args.row) = repeated_nowhere _ _ _ _ _ (cell_read t c.args.row column.NAME refl (c.in_ok-name.ensures ∙ c.cell.ensures)) found in
    grind (arith, common_steps)

pub returns-then-first-row : goal.returns-then-first-row
returns-then-first-row c =
    let t = c.args.table.now in
    let found = by_rule t c.args.src.now c.args.index.now c.args.row c.in_ok-name.name c.cell-rule.ensures c.in_ok-first.ensures in
    repeated_before _ _ _ _ _ (cell_read t c.args.row column.NAME refl (c.in_ok-name.ensures ∙ c.cell.ensures)) _ found c.if-first-row.true

pub returns-else-first-row : goal.returns-else-first-row
returns-else-first-row c =
    let t = c.args.table.now in
    let found = by_rule t c.args.src.now c.args.index.now c.args.row c.in_ok-name.name c.cell-rule.ensures c.in_ok-first.ensures in
    repeated_after _ _ _ _ _ (cell_read t c.args.row column.NAME refl (c.in_ok-name.ensures ∙ c.cell.ensures)) _ found c.if-first-row.false
