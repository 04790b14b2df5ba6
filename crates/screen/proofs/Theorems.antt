-- Which items are hidden and which are grey, by the conditions round them (document 02, W-202).
-- Assumes nothing.
use Prim.Native.Nat.{ℕ, ◌+◌, ◌/◌, ◌%◌, ◌<◌}
use mathlib.Core.Path.{◌≡◌, refl, sym, ap, ◌∙◌}
use mathlib.Core.Bool.{Bool, true, false, ◌&&◌, ◌||◌, and-false, or-false}
use mathlib.Core.List.{◌++◌, append_assoc}
use mathlib.Core.Logic.{◌↔◌}
use mathlib.Core.Option.{Option, none, some}
use native.Mathlib.Omega.{arith}
use lib.ListN.{get_or}
use Rattle.ll1.proofs.Basics.{clash}
use Rattle.operators.specs.declared.Scalar.{Scalar}
use Rattle.operators.specs.declared.Scalar.TheVariants.{Number, Undefined}
use Rattle.formulas.specs.Formula.{Formula}
use Rattle.meaning.specs.Meaning.{meaning}
use Rattle.meaning.specs.References.{references, question_references}
use Rattle.meaning.proofs.Named.{Agree, meaning_named}
use Rattle.screen.specs.Kinds.{is_item, hides, greys, is_true, byte}
use Rattle.screen.specs.Screen.{Screen, done, statement}
use Rattle.screen.specs.Bytes.{value_of, bytes}
use Rattle.screen.specs.Round.{own_rows, Stands, ItemAt, SomeTrue, EachExpression}
use Rattle.screen.proofs.RowLaws.{expression_zero, others_zero}
use Rattle.screen.proofs.RoundLaws.{some_true, true_some, some_true_lem, stands_byte}
use Rattle.screen.proofs.ExpressionLaws.{each_own, each_within, each_later}
-- there are as many bytes as rows
pub use Rattle.screen.proofs.RowLaws.{length_bytes}
-- the expressions of a derivation that is nowhere too deep are shallow
pub use Rattle.screen.proofs.ExpressionLaws.{source_shallow}

-- ---- what a byte says

has_1 : (a b : Bool) → (byte a b % 2 ≡ 1) ↔ (a ≡ true)
has_1 true true = (λ e. refl, λ e. refl)
has_1 true false = (λ e. refl, λ e. refl)
has_1 false true = (λ e. clash e, λ e. clash cc)
has_1 false false = (λ e. clash e, λ e. clash cc)

has_2 : (a b : Bool) → (byte a b / 2 ≡ 1) ↔ (b ≡ true)
has_2 true true = (λ e. refl, λ e. refl)
has_2 true false = (λ e. clash e, λ e. clash cc)
has_2 false true = (λ e. refl, λ e. refl)
has_2 false false = (λ e. clash e, λ e. clash cc)

less_4 : (a b : Bool) → byte a b < 4
less_4 true true = omega arith
less_4 true false = omega arith
less_4 false true = omega arith
less_4 false false = omega arith

module _ (questions rules : ℕ → Scalar) (s : Screen) where
  -- the byte of a row, where no condition is round the whole screen
  abbrev pub byte_at : ℕ → ℕ
  byte_at row = get_or (bytes questions rules false false s) row 0

  -- whether some condition that holds an item hides it, and whether one greys it
  abbrev hidden : {row : ℕ} → ItemAt row s → Bool
  hidden i = some_true questions rules hides i.stands

  abbrev grey : {row : ℕ} → ItemAt row s → Bool
  grey i = some_true questions rules greys i.stands

  item_byte : {row : ℕ} (i : ItemAt row s) → byte_at row ≡ byte (hidden i) (grey i)
  item_byte i = stands_byte questions rules i.stands false false ∙ rw i.item

  -- a part of the byte that is 1 where they do
  exactly :
      {row : ℕ} (i : ItemAt row s) (kind : ℕ → Bool) (part : ℕ → ℕ)
      → (part (byte (hidden i) (grey i)) ≡ 1) ↔ (some_true questions rules kind i.stands ≡ true)
      → (part (byte_at row) ≡ 1) ↔ SomeTrue questions rules kind row s
  exactly i kind part has = (
    λ e. true_some questions rules kind i.stands (has.0 (ap part (sym (item_byte i)) ∙ e)),
    λ h. ap part (item_byte i) ∙ has.1 (some_true_lem questions rules kind i.stands h),
  )

  -- "An item is hidden when some `suppressif` or `disableif` round it is TRUE": its byte has 1
  pub hidden_exactly : {row : ℕ} → ItemAt row s → (byte_at row % 2 ≡ 1) ↔ SomeTrue questions rules hides row s
  hidden_exactly i = exactly i hides (λ n. n % 2) (has_1 (hidden i) (grey i))

  -- "grey when some `grayoutif` is": its byte has 2
  pub grey_exactly : {row : ℕ} → ItemAt row s → (byte_at row / 2 ≡ 1) ↔ SomeTrue questions rules greys row s
  grey_exactly i = exactly i greys (λ n. n / 2) (has_2 (hidden i) (grey i))

  -- and nothing else
  pub byte_small : {row : ℕ} → ItemAt row s → byte_at row < 4
  byte_small i = rw (item_byte i) (less_4 (hidden i) (grey i))

  -- "0 for other rows": wherever no item stands,
  pub other_rows_zero : (row : ℕ) → (ItemAt row s → ⊥) → byte_at row ≡ 0
  other_rows_zero row no_item = others_zero questions rules s row no_item false false

  -- be it the row of another statement, by its code a form set, form, rule, condition or option,
  pub other_statement_zero : {code row : ℕ} {e : Option Formula} {inner : Screen} → Stands code e inner row s → is_item code ≡ false → byte_at row ≡ 0
  other_statement_zero st e = stands_byte questions rules st false false ∙ rw e

  -- or a row of a statement's expression
  pub expression_row_zero :
      {code at row : ℕ} {e : Option Formula} {inner : Screen} → Stands code e inner at s → at < row → row < at + own_rows e → byte_at row ≡ 0
  expression_row_zero st l m = expression_zero questions rules st l m false false

-- ---- conditions that are not TRUE

module _ (questions rules : ℕ → Scalar) (hidden grey : Bool) (code : ℕ) (condition : Formula) (within later : Screen) where
  -- what stands in the condition has the bytes that it would have after it
  abbrev pub HidesNothing : Type 0
  HidesNothing =
      bytes questions rules hidden grey (statement code (some condition) within later)
      ≡ bytes questions rules hidden grey (statement code (some condition) done within) ++ bytes questions rules hidden grey later

  nothing : is_true (meaning questions rules condition) ≡ false → HidesNothing
  unfolding bytes
  nothing e = rw (e, and-false (hides code), and-false (greys code), or-false hidden, or-false grey, append_assoc)

  -- "undefined hides nothing", nor does it grey
  pub undefined_nothing : meaning questions rules condition ≡ Undefined → HidesNothing
  undefined_nothing e = nothing (rw e)

  -- nor does a number, whatever it is
  pub number_nothing : {n : ℕ} → meaning questions rules condition ≡ Number n → HidesNothing
  number_nothing e = nothing (rw e)

-- ---- what the bytes depend on

module _ (p q r s : ℕ → Scalar) where
  same_value_lem : (f : Option Formula) → ((x : Formula) → f ≡ some x → meaning p r x ≡ meaning q s x) → value_of p r f ≡ value_of q s f
  same_value_lem none same = refl
  same_value_lem (some x) same = same x refl

  same_bytes : (x : Screen) → EachExpression (λ e. meaning p r e ≡ meaning q s e) x → (h g : Bool) → bytes p r h g x ≡ bytes q s h g x
  unfolding bytes
  same_bytes done each h g = refl
  same_bytes (statement k f within later) each h g =
      rw (
        same_value_lem f (each_own _ each),
        same_bytes within (each_within _ each) (h || hides k && is_true (value_of q s f)) (g || greys k && is_true (value_of q s f)),
        same_bytes later (each_later _ each) h g,
      )

  -- only on the questions and the rules that the screen's expressions refer to
  pub bytes_named :
      (x : Screen) → EachExpression (λ e. Agree (question_references e) p q × Agree (references e) r s) x
      → (h g : Bool) → bytes p r h g x ≡ bytes q s h g x
  bytes_named x each = same_bytes x (λ k n e i st. let a = each k n e i st in meaning_named e a.0 a.1)
