-- The bytes of rows in which statements are laid are those of the screen of the statements.
-- Assumes nothing.
use Prim.Native.Nat.{ℕ, suc, ◌≤◌, ◌<◌}
use mathlib.Core.Path.{◌≡◌, refl, ap, ap₂, ◌∙◌}
use mathlib.Core.Bool.{Bool, true, false, cond, ◌&&◌, ◌||◌, or-false}
use mathlib.Core.List.{List, ◌∷◌, ◌++◌, append_assoc}
use mathlib.Core.Option.{some}
use native.Mathlib.Omega.{arith}
use lib.Bits.{bit_or}
use lib.Dec.{eqb}
use lib.ListN.{get_or, replicate}
use borrow.Author.Tests.{eqb-true}
use Rattle.lexemes.proofs.Lists.{either}
use Rattle.rows.specs.Columns as column
use Rattle.rows.specs.Table.{row_at, cell_at}
use Rattle.operators.specs.declared.Scalar.{Scalar}
use Rattle.ll1.proofs.Basics.{both}
use Rattle.stored.specs.Stored.{value_at}
use Rattle.saved_answers.specs.Search.{question_value}
use Rattle.formulas.specs.Formula.{Formula, formula}
use Rattle.formulas.specs.Expressions.{Shallow}
use Rattle.laid.specs.Items.{Inner, Items}
use Rattle.laid.specs.Laid.{Stretch, Inside, inside_plain, inside_expressed, Laid, laid_done, laid_item}
use Rattle.evaluate.proofs.Theorems.{spelled}
use Rattle.expression_rows.specs.Ends.{value_after}
use Rattle.expression_rows.proofs.Theorems.{after_spelled, after_none}
use Rattle.screen.specs.Kinds.{is_item, hides, greys, is_true, byte}
use Rattle.screen.specs.Screen.{expression_of, screen_of}
use Rattle.screen.specs.Bytes.{expression_rows, value_of, bytes}
use Rattle.screen.specs.Round.{EachExpression}
use Rattle.screen.proofs.KindLaws.{item_hides_not, item_greys_not}
use Rattle.screen.proofs.ExpressionLaws.{each_own, each_within, each_later}
use Rattle.screen_rows.specs.Passes.{own_flags}
use Rattle.screen_rows.proofs.LaidRows.{inside_rows}
use Rattle.screen_rows.proofs.RowBytes.{flags_at, flags_at_lem, rest, rest_next, rest_expressions}

-- ---- flags that are joined

-- a test that holds of both truth values
abbrev always : (Bool → Bool) → Bool
always p = p true && p false

holds : (p : Bool → Bool) → always p ≡ true → (b : Bool) → p b ≡ true
holds p t true = (both (p true) (p false) t).0
holds p t false = (both (p true) (p false) t).1

abbrev joins : Bool → Bool → Bool → Bool → Bool
joins a b c d = eqb (bit_or (byte a b) (byte c d)) (byte (a || c) (b || d))

join_bytes : (a b c d : Bool) → bit_or (byte a b) (byte c d) ≡ byte (a || c) (b || d)
join_bytes a b c d =
    eqb-true _ _
    (holds (joins a b c)
    (holds (λ c. always (joins a b c))
    (holds (λ b. always (λ c. always (joins a b c)))
    (holds (λ a. always (λ b. always (λ c. always (joins a b c)))) refl a) b) c) d)

-- an item has no flags of its own
own_item : (k : ℕ) (h g x : Bool) → cond (is_item k) (byte (h || hides k && x) (g || greys k && x)) 0 ≡ cond (is_item k) (byte h g) 0
own_item k h g x =
    either (is_item k)
    (λ item. rw (item, item_hides_not k item, item_greys_not k item, or-false h, or-false g))
    (λ other. rw other)

-- ---- the expression of a statement

module _ (answers gotos checkboxes : List ℕ) (rules : List Scalar) (t : List ℕ) (count : ℕ) (found : ℕ → List ℕ) where
  abbrev questions : ℕ → Scalar
  questions = question_value answers gotos checkboxes

  abbrev value : ℕ → Scalar
  value = value_after answers gotos checkboxes rules t count

  inside_value :
      {i j : ℕ} {x : Inner} → Inside t count found (suc i) x j → i < count → Stretch t count (suc i) j
      → ((e : Formula) → expression_of found x ≡ some e → Shallow e)
      → value i ≡ value_of questions (value_at rules) (expression_of found x)
  inside_value inside_plain h s shallow = after_none answers gotos checkboxes rules t count _ _ h s refl
  inside_value (inside_expressed {e = e} spans) h s shallow =
      after_spelled answers gotos checkboxes rules t count _ _ h s (spelled spans) (omega (arith, (shallow (formula found e) refl).levels))

  -- ---- a statement in the row `parent`, where the conditions round it hide and grey as the flags there say

  -- its code, by its place
  abbrev code : ℕ → ℕ
  code p = get_or (found p) column.CODE 0

  -- whether it is a condition of a kind that is TRUE
  abbrev does : (ℕ → Bool) → ℕ → Inner → Bool
  does kind p x = kind (code p) && is_true (value_of questions (value_at rules) (expression_of found x))

  module _ {parent i j p : ℕ} {x : Inner}
      (row : row_at t i ≡ found p) (within_parent : cell_at t i column.PARENT ≡ parent) (room : i < count)
      (stretch : Stretch t count (suc i) j) (inside : Inside t count found (suc i) x j)
      (shallow : (e : Formula) → expression_of found x ≡ some e → Shallow e)
      (below : parent < i) (h g : Bool) (flags : flags_at t value parent ≡ byte h g) where
    same_code : cell_at t i column.CODE ≡ code p
    same_code = ap (λ (r : List ℕ). get_or r column.CODE 0) row

    -- the flags in it
    inner_flags : flags_at t value i ≡ byte (h || does hides p x) (g || does greys p x)
    inner_flags =
        flags_at_lem t value i parent within_parent below
        ∙ ap₂ bit_or flags (ap₂ own_flags same_code (inside_value inside room stretch shallow))
        ∙ join_bytes h g (does hides p x) (does greys p x)

    -- the bytes of its own row and of its expression
    own_bytes :
        rest t value count i ≡ cond (is_item (code p)) (byte h g) 0 ∷ (replicate (expression_rows (expression_of found x)) 0 ++ rest t value count j)
    own_bytes =
        rest_next t value count i room
        ∙ ap₂ (λ (b : ℕ) (l : List ℕ). b ∷ l)
        (ap₂ (λ (c b : ℕ). cond (is_item c) b 0) same_code inner_flags ∙ own_item (code p) h g _)
        (rest_expressions t value count (expression_rows (expression_of found x)) (suc i) j (inside_rows t count found inside)
        (stretch.below room) stretch.within)

  -- ---- statements beside one another: the rows from i to before m have the bytes of their screen

  pub record Shows (h g : Bool) (i m : ℕ) (s : Items) : Type 0 where
    pub up : i ≤ m
    pub is : rest t value count i ≡ bytes questions (value_at rules) h g (screen_of found s) ++ rest t value count m

  pub laid_bytes :
      {parent i m : ℕ} {s : Items} → Laid t count found parent i s m → EachExpression Shallow (screen_of found s)
      → parent < i → (h g : Bool) → flags_at t value parent ≡ byte h g → Shows h g i m s
  unfolding screen_of bytes
  laid_bytes laid_done each below h g flags = record { up = omega arith; is = refl }
  laid_bytes (laid_item {p = p} {inner = x} row within_parent room stretch inside a stops b) each below h g flags =
      let own = each_own Shallow each in
      let inner = inner_flags row within_parent room stretch inside own below h g flags in
      let within = laid_bytes a (each_within Shallow each) stretch.up (h || does hides p x) (g || does greys p x) inner in
      let later = laid_bytes b (each_later Shallow each) (omega (arith, within.up, stretch.up)) h g flags in
      record {
        up = omega (arith, within.up, later.up, stretch.up);
        is =
            own_bytes row within_parent room stretch inside own below h g flags
            ∙ rw (within.is, later.is, append_assoc, append_assoc);
      }
