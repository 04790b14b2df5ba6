-- Stages 7 to 12 over the rows of a derivation: the marks of what is at fault, in source order; the finished rows (document 01, Rows and Refusal
-- numbers), with the form that a rule belongs to (document 02, W-203) and the signed order (W-204); and stage 14 over settled rows (W-202).
-- Assumes nothing.
use Rattle.std.specs.Prelude.{ℕ, zero, suc, ◌-◌, Bool, false, not, cond, ◌&&◌, ◌||◌, List, [], ◌∷◌, ◌++◌, map, eqb, ltb, get_or, set, drop}
use Rattle.lexemes.specs.Words.{same_word}
use Rattle.numbers.specs.Numbers.{numbered}
use Rattle.circles.specs.Circles.{circular}
use Rattle.rule_steps.specs.Steps.{rule_round, rule_found, is_step, rule_steps, greatest}
use Rattle.rows.specs.Codes as code
use Rattle.rows.specs.Codes.{is_question}
use Rattle.rows.specs.Columns as column
use Rattle.rows.specs.Sizes.{INT_DEC, size_of, display_of}
use Rattle.sizes.specs.Sizes as sizes
use Rattle.answers.specs.Rows.{Draft, without_marks}
use Rattle.grammar.specs.Parts.{mark}
use Rattle.grammar.specs.Derivation.{max_conditions}

-- ---- of a row

abbrev pub cell : ℕ → Draft → ℕ
cell c d = get_or d.row c 0

abbrev pub is : ℕ → Draft → Bool
is k d = eqb (cell column.CODE d) k

abbrev pub asks : Draft → Bool
asks d = is_question (cell column.CODE d)

-- a question whose number is written with `questionid`
abbrev pub writes : Draft → Bool
writes d = asks d && ltb 0 d.own_at

-- the place that a mark stands for
abbrev pub place_of : ℕ → ℕ
place_of m = m - 1

-- some row passes the test
unfoldable pub any : (Draft → Bool) → List Draft → Bool
any p [] = false
any p (d ∷ ds) = p d || any p ds

-- the marks at fault: of each row those that the rows before it and itself tell
unfoldable pub faults_after : (List Draft → Draft → List ℕ) → List Draft → List Draft → List ℕ
faults_after faults before [] = []
faults_after faults before (d ∷ ds) = faults before d ++ faults_after faults (d ∷ before) ds

abbrev pub faults_in : (List Draft → Draft → List ℕ) → List Draft → List ℕ
faults_in faults ds = faults_after faults [] ds

abbrev pub fault_if : Bool → ℕ → List ℕ
fault_if b m = cond b (m ∷ []) []

-- 7: form number repeated
unfoldable pub repeated_forms : List Draft → List ℕ
repeated_forms ds = faults_in (λ before d. fault_if (is code.FORM d && any (λ e. is code.FORM e && eqb (cell column.OWN e) (cell column.OWN d)) before) d.own_at) ds

-- 8: written question number repeated
unfoldable pub repeated_questions : List Draft → List ℕ
repeated_questions ds = faults_in (λ before d. fault_if (writes d && any (λ e. writes e && eqb (cell column.OWN e) (cell column.OWN d)) before) d.own_at) ds

module _ (s : List ℕ) where
  -- two rows of a sort, both questions or both rules
  abbrev pub same_sort : Draft → Draft → Bool
  same_sort d e = asks d && asks e || is code.RULE d && is code.RULE e

  -- the row declares the name at a place
  abbrev pub declares : ℕ → Draft → Bool
  declares p d = ltb 0 (cell column.NAME d) && same_word s (place_of (cell column.NAME d)) p

  -- 9: question name repeated among questions, or rule name among rules
  unfoldable pub repeated_names : List Draft → List ℕ
  repeated_names ds =
      faults_in (λ before d. fault_if (ltb 0 (cell column.NAME d) && any (λ e. same_sort d e && declares (place_of (cell column.NAME d)) e) before) (cell column.NAME d)) ds

-- 10: a 256th rule
unfoldable pub rules_over_limit : List Draft → List ℕ
rules_over_limit ds = faults_in (λ before d. fault_if (is code.RULE d && ltb 255 (cell column.OWN d)) (mark (cell column.PLACE d))) ds

-- ---- "the form it stands in" (document 02, W-203)

-- row p of the rows
abbrev pub row_among : List Draft → ℕ → Draft
row_among ds p = get_or ds p (without_marks [])

-- from row p up, by n parents at most, as far as no form is reached
unfoldable pub form_from : List Draft → ℕ → ℕ → ℕ
form_from ds zero p = p
form_from ds (suc n) p = let above = form_from ds n (cell column.PARENT (row_among ds p)) in cond (is code.FORM (row_among ds p)) p above

-- the form round what a rule or condition holds, from that one up: "at most 16 conditions open at once" are between (document 01, Depths)
unfoldable pub form_round : List Draft → Draft → ℕ
form_round ds d = form_from ds max_conditions (cell column.PARENT d)

module _ (s : List ℕ) where
  -- the row is a rule that declares the name at a place
  abbrev pub rule_named : ℕ → Draft → Bool
  rule_named p e = is code.RULE e && declares s p e

  -- of all rows, those that a reference finds: a rule that declares the name, of the form that the reference stands in, a rule's parent being its
  -- form; by a number, the question that writes it; by a name, the question that declares it
  abbrev pub finds : List Draft → Draft → Draft → Bool
  finds ds d e =
      cond (is code.RULE_REF d) (rule_named (place_of d.own_at) e && eqb (cell column.PARENT e) (form_round ds d))
      (cond (ltb 0 (cell column.A d)) (writes e && eqb (cell column.OWN e) (cell column.A d))
      (asks e && declares s (place_of d.own_at) e))

  abbrev pub refers : Draft → Bool
  refers d = is code.QUESTION_REF d || is code.RULE_REF d

  -- what a row names in vain: a goto finds its form anywhere in the form set
  abbrev pub in_vain : List Draft → Draft → List ℕ
  in_vain ds d =
      fault_if (is code.GOTO d && not (any (λ e. is code.FORM e && eqb (cell column.OWN e) (cell column.A d)) ds)) d.limit_at
      ++ fault_if (refers d && not (any (finds ds d) ds)) d.own_at

  -- 11: goto, questionref or ruleref finds nothing
  unfoldable pub unfound : List Draft → List ℕ
  unfound ds = faults_in (λ before d. in_vain ds d) ds

-- 12: of a numeric, maximum below minimum, or default outside them; of an option, its value or DEFAULT repeated in its oneof

-- "For `DISPLAY_INT_DEC` .. the order is the signed one" (W-204)
abbrev pub is_signed : Draft → Bool
is_signed d = eqb (display_of (cell column.SIZE d)) INT_DEC

-- x is below y, as two numbers of the numeric d: in the order of its size and display
unfoldable pub below : Draft → ℕ → ℕ → Bool
below d x y = sizes.below (sizes.width (size_of (cell column.SIZE d))) (is_signed d) x y

abbrev pub outside : Draft → Bool
outside d = below d (cell column.D d) (cell column.A d) || below d (cell column.B d) (cell column.D d)

abbrev pub beside : Draft → Draft → Bool
beside d e = is code.OPTION e && eqb (cell column.PARENT e) (cell column.PARENT d)

abbrev pub numeric_faults : Draft → List ℕ
numeric_faults d = fault_if (below d (cell column.B d) (cell column.A d)) d.limit_at ++ fault_if (ltb 0 d.default_at && outside d) d.default_at

abbrev pub option_faults : List Draft → Draft → List ℕ
option_faults before d =
    fault_if (any (λ e. beside d e && eqb (cell column.A e) (cell column.A d)) before) d.limit_at
    ++ fault_if (ltb 0 d.default_at && any (λ e. beside d e && ltb 0 e.default_at) before) d.default_at

unfoldable pub bad_choices : List Draft → List ℕ
bad_choices ds =
    faults_in (λ before d. cond (is code.NUMERIC d) (numeric_faults d) (cond (is code.OPTION d) (option_faults before d) [])) ds

-- ---- numbers

-- the questions' numbers as written, 0 where none is
unfoldable pub own_numbers : List Draft → List ℕ
own_numbers [] = []
own_numbers (d ∷ ds) = let more = own_numbers ds in cond (asks d) (cell column.OWN d ∷ more) more

abbrev pub with_cell : ℕ → ℕ → Draft → Draft
with_cell c v d = record { row = set d.row c v; own_at = d.own_at; limit_at = d.limit_at; default_at = d.default_at }

-- each question with its number of the list
unfoldable pub with_numbers : List ℕ → List Draft → List Draft
with_numbers ns [] = []
with_numbers ns (d ∷ ds) = cond (asks d) (with_cell column.OWN (get_or ns 0 0) d ∷ with_numbers (drop 1 ns) ds) (d ∷ with_numbers ns ds)

unfoldable pub numbered_rows : List Draft → List Draft
numbered_rows ds = with_numbers (numbered (own_numbers ds)) ds

-- ---- the finished rows

-- the rows of drafts, without their marks
abbrev pub draft_rows : List Draft → List (List ℕ)
draft_rows ds = map (λ d. d.row) ds

module _ (s : List ℕ) where
  -- the own number of the first row that passes the test, 0 where none does
  unfoldable pub own_of_first : (Draft → Bool) → List Draft → ℕ
  own_of_first p [] = 0
  own_of_first p (d ∷ ds) = let later = own_of_first p ds in cond (p d) (cell column.OWN d) later

  -- each reference of the rows with the number that it finds among them
  unfoldable pub with_references : List Draft → List Draft
  with_references ds = map (λ d. cond (refers s d) (with_cell column.A (own_of_first (finds s ds d) ds) d) d) ds

  -- the settled rows: questions numbered, then each reference with the number that it finds; their marks are still there
  unfoldable pub settled : List Draft → List Draft
  settled ds = with_references (numbered_rows ds)

  -- the finished rows: those of the settled drafts
  unfoldable pub finished : List Draft → List (List ℕ)
  finished ds = draft_rows (settled ds)

-- ---- 14, over settled drafts, whose references hold what they find (document 02, W-202)

-- of all these rows, this one is a step between rules that stands on a circle
unfoldable pub on_circle : List (List ℕ) → List ℕ → Bool
on_circle rows r = is_step rows r && circular (rule_steps rows) (greatest (rule_steps rows)) (rule_round rows r) (rule_found rows r)

-- 14: a rule reaches itself through references; the names in the `ruleref`s, inside rules, that are steps of such a circle
unfoldable pub circular_references : List Draft → List ℕ
circular_references ds = faults_in (λ before d. fault_if (on_circle (draft_rows ds) d.row) d.own_at) ds
