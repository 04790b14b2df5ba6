-- `read::faults::first_fault` meets its contract: the first stage that has a fault refuses.
-- Assumes nothing.
use Rattle.std.proofs.lemmas.Result.{err_from_is_err_and}
use mathlib.Core.Path.{◌∙◌}
use Rattle.read.proofs.FaultLaws.{form_fault, question_fault, name_fault_lem, rule_fault_lem, reference_fault_lem, last_result}
use Rattle.read.proofs.faults.first_fault.Goals as goal

pub returns-in_err-stage : goal.returns-in_err-stage
returns-in_err-stage c =
    let p = err_from_is_err_and c.from_residual.result c.from_residual.ensures.1 in
    let it = form_fault _ _ _ _ c.empty-forms.ensures (c.stage.ensures ∙ rw c.repeated_form.ensures.value) c.in_err-stage.was in record { value = rw (p.1, p.2) it.0; used_after = it.1 }

pub returns-in_err-stage-2 : goal.returns-in_err-stage-2
returns-in_err-stage-2 c =
    let p = err_from_is_err_and c.from_residual-in_err-stage-2.result c.from_residual-in_err-stage-2.ensures.1 in
    let it = question_fault _ _ _ _ c.empty-forms.ensures (c.stage.ensures ∙ rw c.repeated_form.ensures.value) c.in_ok-stage.was (c.stage-2.ensures ∙ rw c.repeated_question.ensures.value) c.repeated_question.ensures.used_after c.in_err-stage-2.was in record { value = rw (p.1, p.2) it.0; used_after = it.1 }

pub returns-in_err-stage-3 : goal.returns-in_err-stage-3
returns-in_err-stage-3 c =
    let p = err_from_is_err_and c.from_residual-in_err-stage-3.result c.from_residual-in_err-stage-3.ensures.1 in
    let it = name_fault_lem _ _ _ _ c.empty-forms.ensures (c.stage.ensures ∙ rw c.repeated_form.ensures.value) c.in_ok-stage.was (c.stage-2.ensures ∙ rw c.repeated_question.ensures.value) c.repeated_question.ensures.used_after c.in_ok-stage-2.was (c.stage-3.ensures ∙ rw c.repeated_name.ensures) c.in_err-stage-3.was in record { value = rw (p.1, p.2) it.0; used_after = it.1 }

pub returns-in_err-stage-4 : goal.returns-in_err-stage-4
returns-in_err-stage-4 c =
    let p = err_from_is_err_and c.from_residual-in_err-stage-4.result c.from_residual-in_err-stage-4.ensures.1 in
    let it = rule_fault_lem _ _ _ _ c.empty-forms.ensures (c.stage.ensures ∙ rw c.repeated_form.ensures.value) c.in_ok-stage.was (c.stage-2.ensures ∙ rw c.repeated_question.ensures.value) c.repeated_question.ensures.used_after c.in_ok-stage-2.was (c.stage-3.ensures ∙ rw c.repeated_name.ensures) c.in_ok-stage-3.was (c.stage-4.ensures ∙ rw c.rule_over_limit.ensures) c.in_err-stage-4.was in record { value = rw (p.1, p.2) it.0; used_after = it.1 }

pub returns-in_err-stage-5 : goal.returns-in_err-stage-5
returns-in_err-stage-5 c =
    let p = err_from_is_err_and c.from_residual-in_err-stage-5.result c.from_residual-in_err-stage-5.ensures.1 in
    let it = reference_fault_lem _ _ _ _ c.empty-forms.ensures (c.stage.ensures ∙ rw c.repeated_form.ensures.value) c.in_ok-stage.was (c.stage-2.ensures ∙ rw c.repeated_question.ensures.value) c.repeated_question.ensures.used_after c.in_ok-stage-2.was (c.stage-3.ensures ∙ rw c.repeated_name.ensures) c.in_ok-stage-3.was (c.stage-4.ensures ∙ rw c.rule_over_limit.ensures) c.in_ok-stage-4.was c.repeated_form.ensures.forms_after (c.stage-5.ensures ∙ rw c.unfound.ensures) c.in_err-stage-5.was in record { value = rw (p.1, p.2) it.0; used_after = it.1 }

pub returns : goal.returns
returns c = let it = last_result _ _ _ _ c.empty-forms.ensures (c.stage.ensures ∙ rw c.repeated_form.ensures.value) c.in_ok-stage.was (c.stage-2.ensures ∙ rw c.repeated_question.ensures.value) c.repeated_question.ensures.used_after c.in_ok-stage-2.was (c.stage-3.ensures ∙ rw c.repeated_name.ensures) c.in_ok-stage-3.was (c.stage-4.ensures ∙ rw c.rule_over_limit.ensures) c.in_ok-stage-4.was c.repeated_form.ensures.forms_after (c.stage-5.ensures ∙ rw c.unfound.ensures) c.in_ok-stage-5.was (c.stage-6.ensures ∙ rw c.bad_choice.ensures) in record { value = it.0; used_after = it.1 }
