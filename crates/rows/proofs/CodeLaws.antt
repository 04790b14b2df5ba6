-- The tests for the codes of questions and expressions give what the lists of codes say.
use Prim.Native.Nat.{ℕ, suc}
use mathlib.Core.Path.{◌≡◌, refl}
use mathlib.Core.Bool.{Bool, ◌&&◌, ◌||◌, and-false, or-false, or_assoc}
use native.Mathlib.Omega.{arith}
use borrow.Author.Tests.{lt-leb}
use lib.Dec.{eqb, leb}
use Rattle.rows.specs.Codes.{GOTO, CHECKBOX, NUMERIC, ONE_OF, AND, NOT, EQUAL, BITWISE_OR, SHIFT_LEFT, QUESTION_REF, NUMBER, FALSE, ZERO, UNDEFINED}
use Rattle.rows.specs.Codes.{member, questions, expressions, is_question, is_expression}
use Rattle.rows.proofs.ListedCodes.{agree, below, listed_exactly}

pub is_question_lem : (c : ℕ) → (eqb c GOTO || eqb c CHECKBOX || eqb c NUMERIC || eqb c ONE_OF) ≡ is_question c
unfolding is_question questions member
is_question_lem c = simp (or_assoc, or-false)

-- the five runs of the codes of expressions
abbrev in_runs : ℕ → Bool
in_runs c =
    (leb AND c && leb c NOT)
    || (leb EQUAL c && leb c BITWISE_OR)
    || (leb SHIFT_LEFT c && leb c QUESTION_REF)
    || (leb NUMBER c && leb c FALSE)
    || (leb ZERO c && leb c UNDEFINED)

-- computed up to UNDEFINED, past which there is no code of an expression
pub is_expression_lem : (c : ℕ) → in_runs c ≡ is_expression c
unfolding is_expression agree below member expressions
is_expression_lem =
    listed_exactly in_runs expressions (suc UNDEFINED) refl refl
    (λ c h.
    simp (
      lt-leb c NOT (omega arith),
      lt-leb c BITWISE_OR (omega arith),
      lt-leb c QUESTION_REF (omega arith),
      lt-leb c FALSE (omega arith),
      lt-leb c UNDEFINED h,
      and-false,
    ))
