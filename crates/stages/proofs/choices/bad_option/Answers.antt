-- `choices::bad_option` meets its contract: up to the row of the outer loop no option is at fault, and up to that of the
-- inner one none has the row's value.
use mathlib.Core.Path.{refl, ◌∙◌}
use native.Mathlib.Omega.{arith}
use Rattle.rows.specs.Columns as column
use Rattle.drafts.specs.Faults.{draft_at}
use Rattle.drafts.proofs.DraftLaws.{cell_read}
use Rattle.drafts.proofs.FaultLaws.{looking_found, looking_next, looking_end}
use Rattle.stages.proofs.ChoiceLaws.{same_value_lem, other_value, choosing_start, choosing_value, choosing_default, choosing_next, choosing_stop}
use Rattle.stages.proofs.choices.bad_option.Goals as goal

pub search-init : goal.search-init
search-init c = (choosing_start _ _ _, refl)

pub loop-earlier-preserved : goal.loop-earlier-preserved
loop-earlier-preserved c =
    let t = c.args.table.now in
    let row = c.search.row in
    let earlier = c.loop-earlier.earlier in
    let value = cell_read t row column.A refl c.option_value-value.ensures in
    let found = cell_read t earlier column.A refl c.option_value.ensures in
    (looking_next c.loop-earlier.invariant.0 c.loop-earlier-test.true (other_value (draft_at t row) (draft_at t earlier) value found c.if-option_value-value.false), c.loop-earlier.invariant.1)

pub search-preserved : goal.search-preserved
search-preserved c =
    let none = looking_end c.loop-earlier.invariant.0 c.loop-earlier-test.false in
    (choosing_next c.search.invariant.0 (omega (arith, c.min-stop.ensures, c.search-test.true)) none c.repeats_default.ensures c.if-repeats_default.false, c.loop-earlier.invariant.1 ∙ c.search.invariant.1)

pub returns-after-search : goal.returns-after-search
returns-after-search c = rw c.search.invariant.1 (choosing_stop c.search.invariant.0 (λ h. omega (arith, c.whole_rows.ensures, c.min-stop.ensures, c.search-test.false)))

pub returns-then-option_value-value : goal.returns-then-option_value-value
returns-then-option_value-value c =
    let t = c.args.table.now in
    let row = c.search.row in
    let earlier = c.loop-earlier.earlier in
    let value = cell_read t row column.A refl c.option_value-value.ensures in
    let found = cell_read t earlier column.A refl c.option_value.ensures in
    let repeated = looking_found c.loop-earlier.invariant.0 c.loop-earlier-test.true (same_value_lem (draft_at t row) (draft_at t earlier) value found c.if-option_value-value.true) in
    c.limit_mark-fault.ensures ∙ choosing_value c.search.invariant.0 (omega (arith, c.min-stop.ensures, c.search-test.true)) repeated

pub returns-then-repeats_default : goal.returns-then-repeats_default
returns-then-repeats_default c =
    let none = looking_end c.loop-earlier.invariant.0 c.loop-earlier-test.false in
    c.default_mark-fault.ensures ∙ choosing_default c.search.invariant.0 (omega (arith, c.min-stop.ensures, c.search-test.true)) none c.repeats_default.ensures c.if-repeats_default.true
