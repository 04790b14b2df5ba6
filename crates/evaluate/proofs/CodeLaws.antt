-- The codes of operators of two operands are three runs of numbers; no other row of an expression has one.
use Prim.Native.Nat.{ℕ, suc, ◌≤◌}
use native.Mathlib.Decide.{dec_lt}
use native.Mathlib.Omega.{arith}
use mathlib.Core.Path.{◌≡◌, refl, sym, ap, ◌∙◌}
use mathlib.Core.Bool.{Bool, true, false, true≢false, ◌&&◌, ◌||◌, and-false, or-true}
use mathlib.Core.List.{map}
use lib.Dec.{leb}
use borrow.Author.Tests.{lt-leb, le-leb}
use Rattle.rows.specs.Codes as code
use Rattle.rows.proofs.ListedCodes.{agree, below, listed_exactly}
use Rattle.operators.specs.Values.{operations}
use Rattle.answers.specs.Expression.{Operator, operator_code, or, and, bit_or, bit_and, equal, not_equal, less, less_equal, greater, greater_equal}
use Rattle.answers.specs.Expression.{shift_left, shift_right, add, subtract, multiply, divide, modulo}
use Rattle.evaluate.specs.Machine.{is_binary}

-- ---- the runs

abbrev in_runs : ℕ → Bool
in_runs k =
    (leb code.AND k && leb k code.OR) || (leb code.EQUAL k && leb k code.BITWISE_OR) || (leb code.SHIFT_LEFT k && leb k code.MODULO)

-- computed up to MODULO, past which there is no such code
pub is_binary_lem : (k : ℕ) → in_runs k ≡ is_binary k
unfolding is_binary operations agree below code.member
is_binary_lem =
    listed_exactly in_runs (map (λ o. o.0) operations) (suc code.MODULO) refl refl
    (λ k h. simp (lt-leb k code.OR (omega arith), lt-leb k code.BITWISE_OR (omega arith), lt-leb k code.MODULO h, and-false))

-- so a code in a run is one, and a code in none is not

inside : (a b k : ℕ) → a ≤ k → k ≤ b → (leb a k && leb k b) ≡ true
inside a b k h l = rw (le-leb a k h, le-leb k b l)

outside : (a b k : ℕ) → (a ≤ k → k ≤ b → ⊥) → (leb a k && leb k b) ≡ false
outside a b k f =
    elim (dec_lt k a) [
      | yes h ↦ rw (lt-leb a k h)
      | no h ↦ elim (dec_lt b k) [ yes l ↦ rw (lt-leb k b l, and-false (leb a k)) | no l ↦ absurd (f (omega arith) (omega arith)) ]
    ]

module _ (k : ℕ) where
  pub binary_logic : code.AND ≤ k → k ≤ code.OR → true ≡ is_binary k
  binary_logic h l = rw (inside code.AND code.OR k h l) at (is_binary_lem k)

  pub binary_equal : code.EQUAL ≤ k → k ≤ code.BITWISE_OR → true ≡ is_binary k
  binary_equal h l = rw (inside code.EQUAL code.BITWISE_OR k h l, or-true (leb code.AND k && leb k code.OR)) at (is_binary_lem k)

  pub binary_shift : code.SHIFT_LEFT ≤ k → k ≤ code.MODULO → true ≡ is_binary k
  binary_shift h l =
      rw (inside code.SHIFT_LEFT code.MODULO k h l, or-true ((leb code.AND k && leb k code.OR) || (leb code.EQUAL k && leb k code.BITWISE_OR)))
      at (is_binary_lem k)

  pub binary_none :
      (code.AND ≤ k → k ≤ code.OR → ⊥) → (code.EQUAL ≤ k → k ≤ code.BITWISE_OR → ⊥) → (code.SHIFT_LEFT ≤ k → k ≤ code.MODULO → ⊥)
      → false ≡ is_binary k
  binary_none f g h =
      rw (outside code.AND code.OR k f, outside code.EQUAL code.BITWISE_OR k g, outside code.SHIFT_LEFT code.MODULO k h) at (is_binary_lem k)

-- ---- the operators of expressions

pub operator_binary : (o : Operator) → is_binary (operator_code o) ≡ true
unfolding is_binary operations code.member
operator_binary or = refl
operator_binary and = refl
operator_binary bit_or = refl
operator_binary bit_and = refl
operator_binary equal = refl
operator_binary not_equal = refl
operator_binary less = refl
operator_binary less_equal = refl
operator_binary greater = refl
operator_binary greater_equal = refl
operator_binary shift_left = refl
operator_binary shift_right = refl
operator_binary add = refl
operator_binary subtract = refl
operator_binary multiply = refl
operator_binary divide = refl
operator_binary modulo = refl

not_binary : is_binary code.NOT ≡ false
unfolding is_binary operations code.member
not_binary = refl

pub operator_not : (o : Operator) → operator_code o ≡ code.NOT → ⊥
operator_not o e = true≢false (sym (operator_binary o) ∙ ap is_binary e ∙ not_binary)
