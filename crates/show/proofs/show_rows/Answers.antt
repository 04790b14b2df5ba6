-- `show::show_rows` meets its contract.
use mathlib.Core.Path.{refl, sym, ap}
use lib.Seq.{length-take-le}
use Rattle.show.specs.Answers.{told}
use Rattle.show.proofs.RowLaws.{good_fits, good_counted, at_fault, too_few, all_shown}
use borrow.Author.Rules.{rules}
use Rattle.show.proofs.show_rows.Goals as goal

pub overflow_mul-good : goal.overflow_mul-good
overflow_mul-good c = let fits = good_fits _ _ c.good_answers-good.ensures (search rules) in search (rules, fits)

pub returns-then-good-answers : goal.returns-then-good-answers
returns-then-good-answers c =
    let refuse = c.refuse.ensures in
    let good = good_counted _ _ _ c.empty-3.ensures c.mark_rows.ensures.questions_after c.good_answers-good.ensures in
    let it = at_fault _ _ _ _ _ good c.if-good-answers.true (ap told refuse.result_value) refuse.table_after refuse.out_after in
    record { result_value = it.0; table_after = it.1.0; out_after = it.1.1 }

pub returns-then-out-rows : goal.returns-then-out-rows
returns-then-out-rows c =
    let refuse = c.refuse-then-out-rows.ensures in
    let good = good_counted _ _ _ c.empty-3.ensures c.mark_rows.ensures.questions_after c.good_answers-good.ensures in
    let it = too_few _ _ _ _ _ good c.if-good-answers.false c.if-out-rows.true (ap told refuse.result_value) refuse.table_after refuse.out_after in
    record { result_value = it.0; table_after = it.1.0; out_after = it.1.1 }

pub slice_bounds-show_table-end-2 : goal.slice_bounds-show_table-end-2
slice_bounds-show_table-end-2 c = sym (length-take-le _ _ (search rules))

pub returns : goal.returns
returns c =
    let good = good_counted _ _ _ c.empty-3.ensures c.mark_rows.ensures.questions_after c.good_answers-good.ensures in
    let it =
    all_shown _ _ _ _ _ good c.if-good-answers.false c.if-out-rows.false
    c.empty.ensures c.mark_rows.ensures.gotos_after c.empty-2.ensures c.mark_rows.ensures.checkboxes_after
    c.show_table.ensures (search rules) refl c.clear.ensures in
    record { result_value = it.0; table_after = it.1.0; out_after = it.1.1 }
