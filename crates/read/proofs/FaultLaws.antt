-- Stages 7 to 12: the first fault by the marks that the stages answer, and that it is document 01's answer for sound drafts.
-- Assumes nothing.
use Prim.Native.Nat.{ℕ}
use mathlib.Core.Path.{◌≡◌, refl, sym, ◌∙◌}
use mathlib.Core.Bool.{Bool, true, false, cond}
use mathlib.Core.List.{List, []}
use lib.Dec.{eqb}
use borrow.Author.Tests.{eqb-true}
use Rattle.std.specs.Prelude.{Result, Ok, Err, ⊤}
use Rattle.refusals.specs.declared.Reason.{Reason}
use Rattle.refusals.specs.declared.Reason.TheVariants.{FormRepeated, QuestionRepeated, NameRepeated, TooManyRules, FindsNothing, BadChoice}
use Rattle.refusals.specs.Numbers.{number_of}
use Rattle.ll1.proofs.Basics.{clash}
use Rattle.numbers.specs.Numbers.{empty_map, Holds}
use Rattle.answers.specs.Rows.{Draft}
use Rattle.answers.specs.Stages.{place_of, own_numbers, repeated_forms, repeated_questions, repeated_names, rules_over_limit, unfound, bad_choices}
use Rattle.answers.specs.Answer.{Answer, refuses, stage}
use Rattle.drafts.specs.Faults.{first_fault, alone}
use Rattle.stages.specs.Rules.{rule_fault}
use Rattle.stages.specs.Choices.{choice_fault}
use Rattle.names.specs.Names.{repeated_from, Indexes}
use Rattle.stages.specs.References.{reference_fault}
use Rattle.stages.specs.Repeats.{repeated_mark, map_after, form_number, written_number}
use Rattle.drafts.specs.Sound.{SoundRows, First}
use Rattle.drafts.proofs.Firsts.{stage_first, first_none}
use Rattle.stages.proofs.RepeatFaults.{forms_first, forms_told, questions_first, questions_told, written_held}
use Rattle.names.proofs.NameFaults.{names_first}
use Rattle.stages.proofs.RuleLaws.{rules_first}
use Rattle.stages.proofs.ReferenceFaults.{references_first}
use Rattle.stages.proofs.ChoiceFaults.{choices_first}
use Rattle.walk.specs.declared.Fault.{Fault}
use Rattle.read.specs.Answers.{refused}
use Rattle.read.specs.Faults.{fault_at, stage_fault, first_fault_of, written_after}

-- ---- a stage's result

module _ (r : Reason) (m : ℕ) {o : Result ⊤ Fault} (by-stage : o ≡ stage_fault r m (Ok tt)) where
  -- without a fault it has no mark
  no_mark : {x : ⊤} → o ≡ Ok x → eqb m 0 ≡ true
  no_mark {x} h = by (eqb m 0) refl (sym by-stage ∙ h)
    where
      by : (b : Bool) → eqb m 0 ≡ b → ◌≡◌ {A = Result ⊤ Fault} (cond b (Ok tt) (Err (fault_at r (place_of m)))) (Ok x) → eqb m 0 ≡ true
      by true z e = z
      by false z e = clash cc

  -- with one it has a mark, and is the fault there
  marked_fault : {f : Fault} → o ≡ Err f → (eqb m 0 ≡ false) × ◌≡◌ {A = Result ⊤ Fault} (Err f) (Err (fault_at r (place_of m)))
  marked_fault {f} h = by (eqb m 0) refl (sym by-stage ∙ h)
    where
      by : (b : Bool) → eqb m 0 ≡ b → ◌≡◌ {A = Result ⊤ Fault} (cond b (Ok tt) (Err (fault_at r (place_of m)))) (Err f) → (eqb m 0 ≡ false) × ◌≡◌ {A = Result ⊤ Fault} (Err f) (Err (fault_at r (place_of m)))
      by true z e = clash cc
      by false z e = (z, sym e)

-- ---- the marks one after the other

module _ (s es ws : List ℕ) (ds : List Draft) where
  abbrev pub form_mark : ℕ
  form_mark = repeated_mark form_number empty_map ds

  abbrev pub question_mark : ℕ
  question_mark = repeated_mark written_number ws ds

  abbrev pub name_mark : ℕ
  name_mark = repeated_from s es 0 ds

  abbrev pub rule_mark : ℕ
  rule_mark = first_fault (alone rule_fault) ds

  abbrev pub reference_mark : ℕ
  reference_mark = first_fault (alone (reference_fault s es (map_after form_number empty_map ds) (map_after written_number ws ds) ds)) ds

  abbrev pub choice_mark : ℕ
  choice_mark = first_fault choice_fault ds

  -- the fault that is found, and the map then
  abbrev Found : Fault → List ℕ → Type 0
  Found f ws' = ◌≡◌ {A = Result ⊤ Fault} (Err f) (first_fault_of s es ws ds) × (ws' ≡ written_after ws ds)

  module _ {fs : List ℕ} (none : fs ≡ empty_map) {o₇ : Result ⊤ Fault} (by-7 : o₇ ≡ stage_fault FormRepeated (repeated_mark form_number fs ds) (Ok tt)) where
    s₇ : o₇ ≡ stage_fault FormRepeated form_mark (Ok tt)
    s₇ = by-7 ∙ rw none

    pub form_fault : {f : Fault} → o₇ ≡ Err f → Found f ws
    unfolding first_fault_of written_after
    form_fault h = let m = marked_fault FormRepeated form_mark s₇ h in (m.1 ∙ rw m.0, rw m.0)

    module _ {x₇ : ⊤} (h₇ : o₇ ≡ Ok x₇) {o₈ : Result ⊤ Fault} (s₈ : o₈ ≡ stage_fault QuestionRepeated question_mark (Ok tt)) {ws' : List ℕ} (written : ws' ≡ map_after written_number ws ds) where
      z₇ : eqb form_mark 0 ≡ true
      z₇ = no_mark FormRepeated form_mark s₇ h₇

      map_after_lem : ws' ≡ written_after ws ds
      unfolding written_after
      map_after_lem = written ∙ rw z₇

      pub question_fault : {f : Fault} → o₈ ≡ Err f → Found f ws'
      unfolding first_fault_of
      question_fault h = let m = marked_fault QuestionRepeated question_mark s₈ h in (m.1 ∙ rw (z₇, m.0), map_after_lem)

      module _ {x₈ : ⊤} (h₈ : o₈ ≡ Ok x₈) {o₉ : Result ⊤ Fault} (s₉ : o₉ ≡ stage_fault NameRepeated name_mark (Ok tt)) where
        z₈ : eqb question_mark 0 ≡ true
        z₈ = no_mark QuestionRepeated question_mark s₈ h₈

        pub name_fault_lem : {f : Fault} → o₉ ≡ Err f → Found f ws'
        unfolding first_fault_of
        name_fault_lem h = let m = marked_fault NameRepeated name_mark s₉ h in (m.1 ∙ rw (z₇, z₈, m.0), map_after_lem)

        module _ {x₉ : ⊤} (h₉ : o₉ ≡ Ok x₉) {o₁₀ : Result ⊤ Fault} (s₁₀ : o₁₀ ≡ stage_fault TooManyRules rule_mark (Ok tt)) where
          z₉ : eqb name_mark 0 ≡ true
          z₉ = no_mark NameRepeated name_mark s₉ h₉

          pub rule_fault_lem : {f : Fault} → o₁₀ ≡ Err f → Found f ws'
          unfolding first_fault_of
          rule_fault_lem h = let m = marked_fault TooManyRules rule_mark s₁₀ h in (m.1 ∙ rw (z₇, z₈, z₉, m.0), map_after_lem)

          module _
              {x₁₀ : ⊤} (h₁₀ : o₁₀ ≡ Ok x₁₀) {fs' : List ℕ} (forms : fs' ≡ map_after form_number fs ds) {o₁₁ : Result ⊤ Fault}
              (by-11 : o₁₁ ≡ stage_fault FindsNothing (first_fault (alone (reference_fault s es fs' ws' ds)) ds) (Ok tt)) where
            s₁₁ : o₁₁ ≡ stage_fault FindsNothing reference_mark (Ok tt)
            s₁₁ = by-11 ∙ rw (forms, none, written)

            z₁₀ : eqb rule_mark 0 ≡ true
            z₁₀ = no_mark TooManyRules rule_mark s₁₀ h₁₀

            pub reference_fault_lem : {f : Fault} → o₁₁ ≡ Err f → Found f ws'
            unfolding first_fault_of
            reference_fault_lem h = let m = marked_fault FindsNothing reference_mark s₁₁ h in (m.1 ∙ rw (z₇, z₈, z₉, z₁₀, m.0), map_after_lem)

            -- the last stage's result is that of all
            pub last_result : {x₁₁ : ⊤} → o₁₁ ≡ Ok x₁₁ → {o₁₂ : Result ⊤ Fault} → o₁₂ ≡ stage_fault BadChoice choice_mark (Ok tt) → (o₁₂ ≡ first_fault_of s es ws ds) × (ws' ≡ written_after ws ds)
            unfolding first_fault_of
            last_result h e = (e ∙ rw (z₇, z₈, z₉, z₁₀, no_mark FindsNothing reference_mark s₁₁ h), map_after_lem)

-- ---- what they mean

-- the answer where a fault is found, or a later one
abbrev pub answered : Result ⊤ Fault → Answer → Answer
answered (Ok none) later = later
answered (Err f) later = refused f

-- a stage by its first mark, where the later stages answer right if it has none
step :
    (r : Reason) (m : ℕ) {l : List ℕ} (f : Result ⊤ Fault) (later a : Answer)
    → First m l → (m ≡ 0 → answered f later ≡ a) → answered (stage_fault r m f) later ≡ stage (number_of r) l a
step r m {l} f later a v w = by (eqb m 0) refl ∙ sym (stage_first v (number_of r) a)
  where
    by : (b : Bool) → eqb m 0 ≡ b → answered (cond b f (Err (fault_at r (place_of m)))) later ≡ cond (eqb m 0) a (refuses (number_of r) (place_of m))
    by true e = rw e (w (eqb-true m 0 e))
    by false e = rw e

-- no fault: the stage has no mark, and no later one has a fault
passed : (r : Reason) (m : ℕ) (f : Result ⊤ Fault) → stage_fault r m f ≡ Ok tt → (m ≡ 0) × (f ≡ Ok tt)
passed r m f z = by (eqb m 0) refl z
  where
    by : (b : Bool) → eqb m 0 ≡ b → cond b f (Err (fault_at r (place_of m))) ≡ Ok tt → (m ≡ 0) × (f ≡ Ok tt)
    by true e z = (eqb-true m 0 e, z)
    by false e z = clash cc

-- by an index of their names and an empty map
module _ {ds : List Draft} (v : SoundRows ds) {s es : List ℕ} (index : Indexes s ds es) where
  abbrev from_12 : Result ⊤ Fault
  from_12 = stage_fault BadChoice (choice_mark s es empty_map ds) (Ok tt)

  abbrev from_11 : Result ⊤ Fault
  from_11 = stage_fault FindsNothing (reference_mark s es empty_map ds) from_12

  abbrev from_10 : Result ⊤ Fault
  from_10 = stage_fault TooManyRules (rule_mark s es empty_map ds) from_11

  abbrev from_9 : Result ⊤ Fault
  from_9 = stage_fault NameRepeated (name_mark s es empty_map ds) from_10

  abbrev from_8 : Result ⊤ Fault
  from_8 = stage_fault QuestionRepeated (question_mark s es empty_map ds) from_9

  -- no two rules of one name
  names : name_mark s es empty_map ds ≡ 0 → repeated_names s ds ≡ []
  names z₉ = first_none (names_first v index) z₉

  references :
      form_mark s es empty_map ds ≡ 0 → question_mark s es empty_map ds ≡ 0 → name_mark s es empty_map ds ≡ 0
      → First (reference_mark s es empty_map ds) (unfound s ds)
  references z₇ z₈ z₉ = references_first v index (forms_told v z₇) (questions_told v z₈) (names z₉)

  -- the first fault is the answer of document 01's stages
  pub stages_answer : (a : Answer) → answered (first_fault_of s es empty_map ds) a ≡ stage 7 (repeated_forms ds) (stage 8 (repeated_questions ds) (stage 9 (repeated_names s ds) (stage 10 (rules_over_limit ds) (stage 11 (unfound s ds) (stage 12 (bad_choices ds) a)))))
  unfolding first_fault_of
  stages_answer a =
      step FormRepeated (form_mark s es empty_map ds) from_8 a _ (forms_first v) (λ z₇.
      step QuestionRepeated (question_mark s es empty_map ds) from_9 a _ (questions_first v) (λ z₈.
      step NameRepeated (name_mark s es empty_map ds) from_10 a _ (names_first v index) (λ z₉.
      step TooManyRules (rule_mark s es empty_map ds) from_11 a _ (rules_first v) (λ z₁₀.
      step FindsNothing (reference_mark s es empty_map ds) from_12 a _ (references z₇ z₈ z₉) (λ z₁₁.
      step BadChoice (choice_mark s es empty_map ds) (Ok tt) a a (choices_first v) (λ z₁₂. refl))))))

  -- where there is none, no two rules have one name, every reference finds something and the map has the written numbers
  pub record Passed : Type 0 where
    pub forms : form_mark s es empty_map ds ≡ 0
    pub named : repeated_names s ds ≡ []
    pub found : unfound s ds ≡ []
    pub holds : Holds (map_after written_number empty_map ds) (own_numbers ds)

  pub stages_passed : first_fault_of s es empty_map ds ≡ Ok tt → Passed
  unfolding first_fault_of
  stages_passed z =
      let p₇ = passed FormRepeated (form_mark s es empty_map ds) from_8 z in
      let p₈ = passed QuestionRepeated (question_mark s es empty_map ds) from_9 p₇.1 in
      let p₉ = passed NameRepeated (name_mark s es empty_map ds) from_10 p₈.1 in
      let p₁₀ = passed TooManyRules (rule_mark s es empty_map ds) from_11 p₉.1 in
      let p₁₁ = passed FindsNothing (reference_mark s es empty_map ds) from_12 p₁₀.1 in
      record {
        forms = p₇.0;
        named = names p₉.0;
        found = first_none (references p₇.0 p₈.0 p₉.0) p₁₁.0;
        holds = written_held v (questions_told v p₈.0);
      }
