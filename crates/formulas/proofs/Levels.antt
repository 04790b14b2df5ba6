-- What the grammar's table has at each level of an expression: the level, its tail, its operators; and the constants.
-- Assumes nothing.
use mathlib.Core.Path.{◌≡◌, refl}
use mathlib.Core.List.{[], ◌∷◌}
use mathlib.Core.Option.{some}
use mathlib.Core.Bool.{false}
use Prim.Native.Nat.{ℕ, zero, suc, ◌<◌}
use native.Mathlib.Omega.{arith}
use lib.Dec.{eqb}
use Rattle.ll1.specs.Trees.{token, alternative_of}
use Rattle.grammar.specs.Notation.{t, r, plain}
use Rattle.grammar.specs.Rules.{<atom>}
use Rattle.grammar.specs.Grammar.{rules}
use Rattle.answers.specs.Expression.{Operator, or, and, bit_or, bit_and, equal, not_equal, less, less_equal, greater, greater_equal, shift_left, shift_right, add, subtract, multiply, divide, modulo, operator_class, operators, operator_among, operator}
use Rattle.answers.specs.Expression.{Constant, true', false', zero', one', ones', undefined', constant_class}
use Rattle.formulas.specs.Formula.{tight}
use Rattle.formulas.specs.Levels.{alternative, constant_alternative, lv, tl}

-- what holds of nine numbers holds of each below 9
pub nine : (P : ℕ → Type 0) → P 0 → P 1 → P 2 → P 3 → P 4 → P 5 → P 6 → P 7 → P 8 → (n : ℕ) → n < 9 → P n
nine P a b c d e f g h i zero l = a
nine P a b c d e f g h i (suc zero) l = b
nine P a b c d e f g h i (suc (suc zero)) l = c
nine P a b c d e f g h i (suc (suc (suc zero))) l = d
nine P a b c d e f g h i (suc (suc (suc (suc zero)))) l = e
nine P a b c d e f g h i (suc (suc (suc (suc (suc zero))))) l = f
nine P a b c d e f g h i (suc (suc (suc (suc (suc (suc zero)))))) l = g
nine P a b c d e f g h i (suc (suc (suc (suc (suc (suc (suc zero))))))) l = h
nine P a b c d e f g h i (suc (suc (suc (suc (suc (suc (suc (suc zero)))))))) l = i
nine P a b c d e f g h i (suc (suc (suc (suc (suc (suc (suc (suc (suc n))))))))) l = absurd (omega arith)

pub level_alternative : (n : ℕ) → n < 9 → alternative_of rules (lv (suc n)) 0 ≡ some (plain (r (lv n) ∷ r (tl n) ∷ []))
unfolding rules
level_alternative = nine (λ n. alternative_of rules (lv (suc n)) 0 ≡ some (plain (r (lv n) ∷ r (tl n) ∷ []))) refl refl refl refl refl refl refl refl refl

pub tail_alternative : (n : ℕ) → n < 9 → alternative_of rules (tl n) 0 ≡ some (plain [])
unfolding rules
tail_alternative = nine (λ n. alternative_of rules (tl n) 0 ≡ some (plain [])) refl refl refl refl refl refl refl refl refl

pub level_no_atom : (n : ℕ) → n < 9 → eqb (lv (suc n)) <atom> ≡ false
level_no_atom = nine (λ n. eqb (lv (suc n)) <atom> ≡ false) refl refl refl refl refl refl refl refl refl

pub tail_no_atom : (n : ℕ) → n < 9 → eqb (tl n) <atom> ≡ false
tail_no_atom = nine (λ n. eqb (tl n) <atom> ≡ false) refl refl refl refl refl refl refl refl refl

pub tight_lt : (o : Operator) → tight o < 9
tight_lt or = omega arith
tight_lt and = omega arith
tight_lt bit_or = omega arith
tight_lt bit_and = omega arith
tight_lt equal = omega arith
tight_lt not_equal = omega arith
tight_lt less = omega arith
tight_lt less_equal = omega arith
tight_lt greater = omega arith
tight_lt greater_equal = omega arith
tight_lt shift_left = omega arith
tight_lt shift_right = omega arith
tight_lt add = omega arith
tight_lt subtract = omega arith
tight_lt multiply = omega arith
tight_lt divide = omega arith
tight_lt modulo = omega arith

pub operator_alternative : (o : Operator) → alternative_of rules (tl (tight o)) (alternative o) ≡ some (plain (t (operator_class o) ∷ r (lv (tight o)) ∷ r (tl (tight o)) ∷ []))
unfolding rules
operator_alternative or = refl
operator_alternative and = refl
operator_alternative bit_or = refl
operator_alternative bit_and = refl
operator_alternative equal = refl
operator_alternative not_equal = refl
operator_alternative less = refl
operator_alternative less_equal = refl
operator_alternative greater = refl
operator_alternative greater_equal = refl
operator_alternative shift_left = refl
operator_alternative shift_right = refl
operator_alternative add = refl
operator_alternative subtract = refl
operator_alternative multiply = refl
operator_alternative divide = refl
operator_alternative modulo = refl

pub constant_alternative_lem : (c : Constant) → alternative_of rules <atom> (constant_alternative c) ≡ some (plain (t (constant_class c) ∷ []))
unfolding rules
constant_alternative_lem true' = refl
constant_alternative_lem false' = refl
constant_alternative_lem zero' = refl
constant_alternative_lem one' = refl
constant_alternative_lem ones' = refl
constant_alternative_lem undefined' = refl

pub operator_told : (o : Operator) (p : ℕ) → operator_among operators (token (operator_class o) p) ≡ operator o p
operator_told or p = refl
operator_told and p = refl
operator_told bit_or p = refl
operator_told bit_and p = refl
operator_told equal p = refl
operator_told not_equal p = refl
operator_told less p = refl
operator_told less_equal p = refl
operator_told greater p = refl
operator_told greater_equal p = refl
operator_told shift_left p = refl
operator_told shift_right p = refl
operator_told add p = refl
operator_told subtract p = refl
operator_told multiply p = refl
operator_told divide p = refl
operator_told modulo p = refl
