-- `read::read_over` meets its contract: what the stages find is the answer, and the table holds the finished rows or zeros.
-- Assumes nothing.
use mathlib.Core.Path.{◌∙◌, ap}
use Rattle.std.proofs.lemmas.Result.{err_from_is_err_and}
use Rattle.replies.specs.Replies.{read_replied}
use Rattle.read.proofs.AnswerLaws.{needs_told, found_told, refused_told, passed_on}
use Rattle.read.proofs.ReadLaws.{survey_refused, survey_passed, refused_read, short_read, drafted, finished_read}
use Rattle.read.proofs.read_over.Goals as goal

pub returns-in_err-count : goal.returns-in_err-count
returns-in_err-count c =
    let p = err_from_is_err_and c.from_residual.result c.from_residual.ensures.1 in
    let f = refused_told _ _ _ c.in_full.ensures c.in_err-count.was in
    let it = refused_read _ _ _ (survey_refused _ _ _ _ c.survey.ensures f.1) in
    record { result_value = rw (p.1, p.2) (f.2 ∙ ap (read_replied _) it.0); table_after = it.1 }

pub returns-then-whole_rows-count : goal.returns-then-whole_rows-count
returns-then-whole_rows-count c =
    let v = survey_passed _ _ _ c.survey.ensures (passed_on _ _ _ c.in_full.ensures c.in_ok-count.was) in
    let it = short_read v c.whole_rows.ensures c.if-whole_rows-count.true c.clear.ensures in
    record { result_value = needs_told _ _ ∙ ap (read_replied _) it.0; table_after = it.1 }

pub finish-requires : goal.finish-requires
finish-requires c =
    let v = survey_passed _ _ _ c.survey.ensures (passed_on _ _ _ c.in_full.ensures c.in_ok-count.was) in
    drafted v c.whole_rows.ensures c.if-whole_rows-count.false

pub returns : goal.returns
returns c =
    let v = survey_passed _ _ _ c.survey.ensures (passed_on _ _ _ c.in_full.ensures c.in_ok-count.was) in
    let it = finished_read v c.whole_rows.ensures c.if-whole_rows-count.false (c.finish.ensures.result_value, c.finish.ensures.table_after) in
    record { result_value = found_told _ _ _ c.in_full-2.ensures ∙ ap (read_replied _) it.0; table_after = it.1 }
