-- A resolver that prints one fixed text does not meet demand 2, although resolving its text again changes no byte: two sources that reading answers
-- alike differ in their rows, and one text has the rows of one source only. Nor does one that forgets a numeric's size or display (W-204).
-- Assumes nothing.
use Prim.Native.Nat.{ℕ, ◌*◌}
use native.Mathlib.Omega.{arith}
use mathlib.Core.Path.{◌≡◌, refl, sym, ap, ap₂, ◌∙◌}
use Prim.Native.String.{String}
use mathlib.Core.List.{List, [], ◌++◌}
use lib.ListN.{length, get_or}
use Rattle.lexemes.specs.Lexemes.{bytes}
use Rattle.numbers.specs.Numbers.{free_count}
use Rattle.rows.specs.Codes.{member, questions, is_question}
use Rattle.rows.specs.Columns as column
use Rattle.grammar.specs.Source.{number_at}
use Rattle.answers.specs.Stages.{finished}
use Rattle.answers.specs.Answer.{accepts, drafts}
use Rattle.answers.specs.WholeAnswer.{read_answer, rows_of}
use Rattle.answers.specs.Resolution.{resolution}
use Rattle.answers.specs.Demand3.{question_numbers}
use Rattle.answers.proofs.RowShape.{rows_wide}
use Rattle.answers.proofs.FoundRows.{finished_count}
use Rattle.answers.proofs.QuestionNumbers.{question_numbers_lem}
use Rattle.answers.proofs.Computed.{rows_read, resolved_in}
use Rattle.answers.proofs.Decided.{framed_bytes}
use Rattle.roundtrip.specs.Demand2.{besides_places, ReadsAgain}
use Rattle.roundtrip.proofs.Demand2.{resolved}

-- 512 rows, and the bytes of an output
abbrev n : ℕ
n = 512 * column.ROW

abbrev m : ℕ
m = 65536

-- a form set with one form and a label in it; and one with another label
abbrev one : List ℕ
one = framed_bytes (bytes "label 1;")

abbrev two : List ℕ
two = framed_bytes (bytes "label 2;")

-- ---- both resolve, and reading answers the same

resolves : (s : List ℕ) → (resolved_in n m s).answer.number ≡ 0 → (resolution s n m).number ≡ 0
unfolding resolved_in
resolves s e = e

one_resolves : (resolved_in n m one).answer.number ≡ 0
unfolding resolved_in
one_resolves = refl

two_resolves : (resolved_in n m two).answer.number ≡ 0
unfolding resolved_in
two_resolves = refl

-- what reading answers to a source that resolves is told by its rows: how many they are, and the numbers of its questions
answer_told : (s : List ℕ) → (resolution s n m).number ≡ 0 → read_answer s n ≡ accepts (length (rows_of s)) (free_count (question_numbers (rows_of s)))
unfolding drafts rows_of
answer_told s h =
    let r = resolved s n m h in
    let ds = drafts s r.tree in
    let rows : finished s ds ≡ rows_of s = rw (r.is_tree, rows_of) in
    let wide = rows_wide (number_at s) r.sound.derives.fits 0 0 0 in
    r.answer ∙ ap₂ accepts (sym (finished_count s ds) ∙ ap length rows) (ap free_count (sym (question_numbers_lem s ds wide) ∙ ap question_numbers rows))

rows_read_lem : (s : List ℕ) → rows_of s ≡ rows_read s
unfolding rows_read
rows_read_lem s = refl

as_many : length (rows_read one) ≡ length (rows_read two)
unfolding rows_read
as_many = refl

no_questions : question_numbers (rows_read one) ≡ question_numbers (rows_read two)
unfolding rows_read question_numbers is_question member questions
no_questions = refl

pub same_answers : read_answer one n ≡ read_answer two n
same_answers =
    let rows : length (rows_of one) ≡ length (rows_of two) = ap length (rows_read_lem one) ∙ as_many ∙ ap length (sym (rows_read_lem two)) in
    let numbers : question_numbers (rows_of one) ≡ question_numbers (rows_of two) =
    ap question_numbers (rows_read_lem one) ∙ no_questions ∙ ap question_numbers (sym (rows_read_lem two)) in
    answer_told one (resolves one one_resolves) ∙ ap₂ (λ k l. accepts k (free_count l)) rows numbers ∙ sym (answer_told two (resolves two two_resolves))

-- ---- their rows differ: the label's number, in the third row

abbrev label_of : List (List ℕ) → ℕ
label_of rows = get_or (get_or rows 2 []) column.OWN 0

one_labelled : label_of (besides_places (rows_read one)) ≡ 1
unfolding rows_read
one_labelled = refl

two_labelled : label_of (besides_places (rows_read two)) ≡ 2
unfolding rows_read
two_labelled = refl

-- ---- one text has the rows of one source only

-- a resolver meets demand 2
abbrev Meets : (List ℕ → List ℕ) → Type 0
Meets text = (s : List ℕ) (n m : ℕ) → (resolution s n m).number ≡ 0 → ReadsAgain text s n

-- a number that is told by a source's rows without their places
module _ (told : List (List ℕ) → ℕ) where
  told_read : (s : List ℕ) {v : ℕ} → told (besides_places (rows_read s)) ≡ v → told (besides_places (rows_of s)) ≡ v
  told_read s e = ap (λ rows. told (besides_places rows)) (rows_read_lem s) ∙ e

  -- is the same for two sources with one text
  one_text :
      (text : List ℕ → List ℕ) → Meets text → (s s' : List ℕ) {v v' : ℕ}
      → (resolved_in n m s).answer.number ≡ 0 → told (besides_places (rows_read s)) ≡ v
      → (resolved_in n m s').answer.number ≡ 0 → told (besides_places (rows_read s')) ≡ v' → text s ≡ text s' → v ≡ v'
  one_text text claim s s' r e r' e' same =
      let rows = (claim s n m (resolves s r)).same_rows in
      let rows' = (claim s' n m (resolves s' r')).same_rows in
      sym (told_read s e) ∙ ap told (sym rows ∙ ap (λ t. besides_places (rows_of t)) same ∙ rows') ∙ told_read s' e'

-- no fixed text reads again as every source that resolves
pub fixed_refused : (text : List ℕ) → Meets (λ s. text) → ⊥
fixed_refused text claim =
    let alike : ◌≡◌ {A = ℕ} 1 2 = one_text label_of (λ s. text) claim one two one_resolves one_labelled two_resolves two_labelled refl in
    omega (arith, alike)

-- ---- sizes and displays

-- a numeric with these flags
abbrev numeric : String → List ℕ
numeric flags = framed_bytes (bytes "numeric prompt=STRING_TOKEN(5),help=STRING_TOKEN(6),flags=" ++ (bytes flags ++ bytes ",minimum=0,maximum=9,endnumeric;"))

-- its column 12
abbrev size_of : List (List ℕ) → ℕ
size_of rows = get_or (get_or rows 2 []) column.SIZE 0

byte_resolves : (resolved_in n m (numeric "NUMERIC_SIZE_1")).answer.number ≡ 0
unfolding resolved_in
byte_resolves = refl

byte_sized : size_of (besides_places (rows_read (numeric "NUMERIC_SIZE_1"))) ≡ 5
unfolding rows_read
byte_sized = refl

eight_resolves : (resolved_in n m (numeric "NUMERIC_SIZE_8")).answer.number ≡ 0
unfolding resolved_in
eight_resolves = refl

eight_sized : size_of (besides_places (rows_read (numeric "NUMERIC_SIZE_8"))) ≡ 33
unfolding rows_read
eight_sized = refl

signed_resolves : (resolved_in n m (numeric "DISPLAY_INT_DEC")).answer.number ≡ 0
unfolding resolved_in
signed_resolves = refl

signed_sized : size_of (besides_places (rows_read (numeric "DISPLAY_INT_DEC"))) ≡ 32
unfolding rows_read
signed_sized = refl

-- the text of a resolver tells sizes apart,
pub sizes_told : (text : List ℕ → List ℕ) → Meets text → text (numeric "NUMERIC_SIZE_1") ≡ text (numeric "NUMERIC_SIZE_8") → ⊥
sizes_told text claim same =
    let alike : ◌≡◌ {A = ℕ} 5 33 =
    one_text size_of text claim (numeric "NUMERIC_SIZE_1") (numeric "NUMERIC_SIZE_8") byte_resolves byte_sized eight_resolves eight_sized same in
    omega (arith, alike)

-- and displays
pub displays_told : (text : List ℕ → List ℕ) → Meets text → text (numeric "DISPLAY_INT_DEC") ≡ text (numeric "NUMERIC_SIZE_8") → ⊥
displays_told text claim same =
    let alike : ◌≡◌ {A = ℕ} 32 33 =
    one_text size_of text claim (numeric "DISPLAY_INT_DEC") (numeric "NUMERIC_SIZE_8") signed_resolves signed_sized eight_resolves eight_sized same in
    omega (arith, alike)
