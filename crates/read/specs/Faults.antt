-- The first fault of stages 7 to 12, by the mark that each stage answers (document 01, Refusal numbers).
-- Assumes nothing.
use Rattle.std.specs.Prelude.{ℕ, cond, List, eqb, Result, Ok, Err}
use Rattle.std.specs.Bool.{⊤}
use Rattle.refusals.specs.declared.Reason.{Reason}
use Rattle.refusals.specs.declared.Reason.TheVariants.{FormRepeated, QuestionRepeated, NameRepeated, TooManyRules, FindsNothing, BadChoice}
use Rattle.numbers.specs.Numbers.{empty_map}
use Rattle.answers.specs.Rows.{Draft}
use Rattle.answers.specs.Stages.{place_of}
use Rattle.drafts.specs.Faults.{first_fault, alone}
use Rattle.stages.specs.Rules.{rule_fault}
use Rattle.stages.specs.Choices.{choice_fault}
use Rattle.names.specs.Names.{repeated_from}
use Rattle.stages.specs.References.{reference_fault}
use Rattle.stages.specs.Repeats.{repeated_mark, map_after, form_number, written_number}
use Rattle.walk.specs.declared.Fault.{Fault}

abbrev pub fault_at : Reason → ℕ → Fault
fault_at reason place = record { reason = reason; place = place }

-- a stage's fault at its mark, where that is not 0, or a later one's
abbrev pub stage_fault : Reason → ℕ → Result ⊤ Fault → Result ⊤ Fault
stage_fault reason mark later = cond (eqb mark 0) later (Err (fault_at reason (place_of mark)))

-- of the drafts ds, by the source s, the index es of declared names, and a map ws of written question numbers
unfoldable pub first_fault_of : List ℕ → List ℕ → List ℕ → List Draft → Result ⊤ Fault
first_fault_of s es ws ds =
    let forms = map_after form_number empty_map ds in
    let written = map_after written_number ws ds in
    stage_fault FormRepeated (repeated_mark form_number empty_map ds)
    (stage_fault QuestionRepeated (repeated_mark written_number ws ds)
    (stage_fault NameRepeated (repeated_from s es 0 ds)
    (stage_fault TooManyRules (first_fault (alone rule_fault) ds)
    (stage_fault FindsNothing (first_fault (alone (reference_fault s es forms written ds)) ds)
    (stage_fault BadChoice (first_fault choice_fault ds) (Ok tt))))))

-- the map after them: with the written question numbers up to the first repeated one, where no form number is repeated
unfoldable pub written_after : List ℕ → List Draft → List ℕ
written_after ws ds = cond (eqb (repeated_mark form_number empty_map ds) 0) (map_after written_number ws ds) ws
