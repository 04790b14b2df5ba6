-- `choices::fault_in` meets its contract.
use Prim.Native.Nat.{◌+◌, ◌-◌}
use mathlib.Core.Path.{refl, sym, ap, ◌∙◌}
use mathlib.Core.List.{[]}
use native.Mathlib.Omega.{arith}
use Rattle.rows.specs.Columns as column
use Rattle.answers.specs.Drafts.{drafts_from}
use Rattle.drafts.specs.Faults.{draft_at}
use Rattle.stages.specs.Choices.{option_fault}
use Rattle.drafts.proofs.DraftLaws.{cell_read}
use Rattle.stages.proofs.ChoiceLaws.{options_run, choice_numeric, choice_one_of, choice_other}
use Rattle.stages.proofs.choices.fault_in.Goals as goal

pub returns-in-7 : goal.returns-in-7
returns-in-7 c =
    let code = cell_read c.args.table.now c.args.row column.CODE refl c.cell.ensures in
    c.bad_limits.ensures ∙ choice_numeric (draft_at c.args.table.now c.args.row) _ (sym code ∙ c.in-7.is)

pub returns-in-5 : goal.returns-in-5
returns-in-5 c =
    let t = c.args.table.now in
    let i = c.args.row in
    let n = c.args.count in
    let code = cell_read t i column.CODE refl c.cell.ensures in
    c.bad_option.ensures
    ∙ ap (option_fault []) (options_run t (i + 1) n c.options_end.result c.options_end.ensures)
    ∙ choice_one_of (draft_at t i) (drafts_from t (i + 1) (n - (i + 1))) (sym code ∙ c.in-5.is)

pub returns-in_default : goal.returns-in_default
returns-in_default c =
    let code = cell_read c.args.table.now c.args.row column.CODE refl c.cell.ensures in
    choice_other (draft_at c.args.table.now c.args.row) _ (λ e. omega (arith, code ∙ e)) (λ e. omega (arith, code ∙ e))
