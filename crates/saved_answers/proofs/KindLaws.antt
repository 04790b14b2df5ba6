-- What is answered, by the code's tests.
use Prim.Native.Nat.{ℕ, ◌≤◌, ◌<◌}
use mathlib.Core.Path.{◌≡◌}
use mathlib.Core.Bool.{Bool, true, false, not, and-false}
use mathlib.Core.List.{List}
use mathlib.Core.Option.{Option, none, some}
use lib.Dec.{eqb}
use borrow.Author.Tests.{lt-ltb, le-ltb, eq-eqb, ne_eqb}
use Rattle.numbers.specs.Numbers.{used}
use Rattle.operators.specs.declared.Scalar.TheVariants.{Boolean, Number, Undefined}
use Rattle.saved_answers.specs.Answers.{by_kind, count, question_of, value_of}
use Rattle.saved_answers.specs.Search.{lowest, searched, question_value}

-- ---- the answer found

module _ (answers : List ℕ) (n k : ℕ) (e : k ≡ lowest answers n) where
  pub searched_past : count answers ≤ k → searched answers n ≡ none
  unfolding searched
  searched_past h = rw (← e, le-ltb k (count answers) h)

  pub searched_other : (question_of answers k ≡ n → ⊥) → searched answers n ≡ none
  unfolding searched
  searched_other d = rw (← e, ne_eqb (question_of answers k) n d, and-false)

  pub searched_own : k < count answers → question_of answers k ≡ n → searched answers n ≡ some (value_of answers k)
  unfolding searched
  searched_own h d = rw (← e, lt-ltb k (count answers) h, eq-eqb (question_of answers k) n d)

-- ---- its kind

module _ (checkbox : Bool) (o : Option ℕ) where
  pub missing : o ≡ none → Undefined ≡ by_kind false checkbox o
  unfolding by_kind
  missing e = rw e

  pub truth : (v : ℕ) → o ≡ some v → checkbox ≡ true → Boolean (not (eqb v 0)) ≡ by_kind false checkbox o
  unfolding by_kind
  truth v e b = rw (e, b)

  pub number : (v : ℕ) → o ≡ some v → checkbox ≡ false → Number v ≡ by_kind false checkbox o
  unfolding by_kind
  number v e b = rw (e, b)

module _ (answers gotos checkboxes : List ℕ) (n : ℕ) where
  pub goto : used gotos n ≡ true → Undefined ≡ question_value answers gotos checkboxes n
  unfolding question_value by_kind
  goto e = rw e

  pub no_goto : used gotos n ≡ false → by_kind false (used checkboxes n) (searched answers n) ≡ question_value answers gotos checkboxes n
  unfolding question_value
  no_goto e = rw e
