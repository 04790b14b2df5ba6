-- The alternatives of an expression's rules, read back from the grammar's table.
-- Assumes nothing.
use mathlib.Core.Path.{◌≡◌, refl}
use mathlib.Core.List.{[], ◌∷◌}
use mathlib.Core.Option.{none, some}
use Prim.Native.Nat.{ℕ, zero, suc, ◌<◌}
use lib.ListN.{get_elem?}
use Rattle.lexemes.specs.Classes as class
use Rattle.ll1.specs.Trees.{Alternative, alternative_of}
use Rattle.ll1.proofs.Basics.{clash}
use Rattle.grammar.specs.Notation.{t, r, plain, group}
use Rattle.grammar.specs.Rules.{<expression>, <atom>, <large>, <name_or_number>}
use Rattle.grammar.specs.Grammar.{rules}
use Rattle.answers.specs.Expression.{Operator, or, and, bit_or, bit_and, equal, not_equal, less, less_equal, greater, greater_equal, shift_left, shift_right, add, subtract, multiply, divide, modulo, operator_class}
use Rattle.answers.specs.Expression.{Constant, true', false', zero', one', ones', undefined', constant_class}
use Rattle.formulas.specs.Formula.{tight}
use Rattle.formulas.specs.Levels.{alternative, constant_alternative, lv, tl}
use Rattle.formulas.proofs.Levels.{nine}

-- the alternative that the table has, and one that it has not
pub alternative_is : {x a : Alternative} → some x ≡ some a → x ≡ a
alternative_is e = cc

pub no_alternative : {P : Type 0} {a : Alternative} → none ≡ some a → P
no_alternative e = clash cc

-- a rule of one alternative
pub only : (x a : Alternative) (i : ℕ) → get_elem? (x ∷ []) i ≡ some a → (i ≡ 0) × (x ≡ a)
only x a zero e = (refl, cc)
only x a (suc i) e = clash cc

pub level_inverse : (i : ℕ) (a : Alternative) (n : ℕ) → n < 9 → alternative_of rules (lv (suc n)) i ≡ some a → (i ≡ 0) × (plain (r (lv n) ∷ r (tl n) ∷ []) ≡ a)
unfolding rules
level_inverse i a = nine (λ n. alternative_of rules (lv (suc n)) i ≡ some a → (i ≡ 0) × (plain (r (lv n) ∷ r (tl n) ∷ []) ≡ a)) (only _ a i) (only _ a i) (only _ a i) (only _ a i) (only _ a i) (only _ a i) (only _ a i) (only _ a i) (only _ a i)

-- what follows a first operand: nothing, or an operator, an operand and what follows it
pub data Tail (n i : ℕ) (a : Alternative) : Type 0 where
  no_more : i ≡ 0 → plain [] ≡ a → Tail n i a
  goes_on : (o : Operator) → tight o ≡ n → i ≡ alternative o → plain (t (operator_class o) ∷ r (lv n) ∷ r (tl n) ∷ []) ≡ a → Tail n i a

tail_0 : (i : ℕ) (a : Alternative) → alternative_of rules (tl 0) i ≡ some a → Tail 0 i a
unfolding rules
tail_0 zero a e = no_more refl (alternative_is e)
tail_0 (suc zero) a e = goes_on multiply refl refl (alternative_is e)
tail_0 (suc (suc zero)) a e = goes_on divide refl refl (alternative_is e)
tail_0 (suc (suc (suc zero))) a e = goes_on modulo refl refl (alternative_is e)
tail_0 (suc (suc (suc (suc i)))) a e = no_alternative e

tail_1 : (i : ℕ) (a : Alternative) → alternative_of rules (tl 1) i ≡ some a → Tail 1 i a
unfolding rules
tail_1 zero a e = no_more refl (alternative_is e)
tail_1 (suc zero) a e = goes_on add refl refl (alternative_is e)
tail_1 (suc (suc zero)) a e = goes_on subtract refl refl (alternative_is e)
tail_1 (suc (suc (suc i))) a e = no_alternative e

tail_2 : (i : ℕ) (a : Alternative) → alternative_of rules (tl 2) i ≡ some a → Tail 2 i a
unfolding rules
tail_2 zero a e = no_more refl (alternative_is e)
tail_2 (suc zero) a e = goes_on shift_left refl refl (alternative_is e)
tail_2 (suc (suc zero)) a e = goes_on shift_right refl refl (alternative_is e)
tail_2 (suc (suc (suc i))) a e = no_alternative e

tail_3 : (i : ℕ) (a : Alternative) → alternative_of rules (tl 3) i ≡ some a → Tail 3 i a
unfolding rules
tail_3 zero a e = no_more refl (alternative_is e)
tail_3 (suc zero) a e = goes_on less refl refl (alternative_is e)
tail_3 (suc (suc zero)) a e = goes_on less_equal refl refl (alternative_is e)
tail_3 (suc (suc (suc zero))) a e = goes_on greater refl refl (alternative_is e)
tail_3 (suc (suc (suc (suc zero)))) a e = goes_on greater_equal refl refl (alternative_is e)
tail_3 (suc (suc (suc (suc (suc i))))) a e = no_alternative e

tail_4 : (i : ℕ) (a : Alternative) → alternative_of rules (tl 4) i ≡ some a → Tail 4 i a
unfolding rules
tail_4 zero a e = no_more refl (alternative_is e)
tail_4 (suc zero) a e = goes_on equal refl refl (alternative_is e)
tail_4 (suc (suc zero)) a e = goes_on not_equal refl refl (alternative_is e)
tail_4 (suc (suc (suc i))) a e = no_alternative e

tail_5 : (i : ℕ) (a : Alternative) → alternative_of rules (tl 5) i ≡ some a → Tail 5 i a
unfolding rules
tail_5 zero a e = no_more refl (alternative_is e)
tail_5 (suc zero) a e = goes_on bit_and refl refl (alternative_is e)
tail_5 (suc (suc i)) a e = no_alternative e

tail_6 : (i : ℕ) (a : Alternative) → alternative_of rules (tl 6) i ≡ some a → Tail 6 i a
unfolding rules
tail_6 zero a e = no_more refl (alternative_is e)
tail_6 (suc zero) a e = goes_on bit_or refl refl (alternative_is e)
tail_6 (suc (suc i)) a e = no_alternative e

tail_7 : (i : ℕ) (a : Alternative) → alternative_of rules (tl 7) i ≡ some a → Tail 7 i a
unfolding rules
tail_7 zero a e = no_more refl (alternative_is e)
tail_7 (suc zero) a e = goes_on and refl refl (alternative_is e)
tail_7 (suc (suc i)) a e = no_alternative e

tail_8 : (i : ℕ) (a : Alternative) → alternative_of rules (tl 8) i ≡ some a → Tail 8 i a
unfolding rules
tail_8 zero a e = no_more refl (alternative_is e)
tail_8 (suc zero) a e = goes_on or refl refl (alternative_is e)
tail_8 (suc (suc i)) a e = no_alternative e

pub tail_inverse : (i : ℕ) (a : Alternative) (n : ℕ) → n < 9 → alternative_of rules (tl n) i ≡ some a → Tail n i a
tail_inverse i a = nine (λ n. alternative_of rules (tl n) i ≡ some a → Tail n i a) (tail_0 i a) (tail_1 i a) (tail_2 i a) (tail_3 i a) (tail_4 i a) (tail_5 i a) (tail_6 i a) (tail_7 i a) (tail_8 i a)

-- the atoms
pub data Atom (i : ℕ) (a : Alternative) : Type 0 where
  a_not : i ≡ 0 → group (t class.«NOT» ∷ r <atom> ∷ []) ≡ a → Atom i a
  a_paren : i ≡ 1 → group (t class.open_paren ∷ r <expression> ∷ t class.close_paren ∷ []) ≡ a → Atom i a
  a_constant : (k : Constant) → i ≡ constant_alternative k → plain (t (constant_class k) ∷ []) ≡ a → Atom i a
  a_number : i ≡ 8 → plain (r <large> ∷ []) ≡ a → Atom i a
  a_question : i ≡ 9 → plain (t class.«questionref» ∷ t class.open_paren ∷ r <name_or_number> ∷ t class.close_paren ∷ []) ≡ a → Atom i a
  a_rule : i ≡ 10 → plain (t class.«ruleref» ∷ t class.open_paren ∷ t class.NAME ∷ t class.close_paren ∷ []) ≡ a → Atom i a

pub atom_inverse : (i : ℕ) (a : Alternative) → alternative_of rules <atom> i ≡ some a → Atom i a
unfolding rules
atom_inverse zero a e = a_not refl (alternative_is e)
atom_inverse (suc zero) a e = a_paren refl (alternative_is e)
atom_inverse (suc (suc zero)) a e = a_constant true' refl (alternative_is e)
atom_inverse (suc (suc (suc zero))) a e = a_constant false' refl (alternative_is e)
atom_inverse (suc (suc (suc (suc zero)))) a e = a_constant zero' refl (alternative_is e)
atom_inverse (suc (suc (suc (suc (suc zero))))) a e = a_constant one' refl (alternative_is e)
atom_inverse (suc (suc (suc (suc (suc (suc zero)))))) a e = a_constant ones' refl (alternative_is e)
atom_inverse (suc (suc (suc (suc (suc (suc (suc zero))))))) a e = a_constant undefined' refl (alternative_is e)
atom_inverse (suc (suc (suc (suc (suc (suc (suc (suc zero)))))))) a e = a_number refl (alternative_is e)
atom_inverse (suc (suc (suc (suc (suc (suc (suc (suc (suc zero))))))))) a e = a_question refl (alternative_is e)
atom_inverse (suc (suc (suc (suc (suc (suc (suc (suc (suc (suc zero)))))))))) a e = a_rule refl (alternative_is e)
atom_inverse (suc (suc (suc (suc (suc (suc (suc (suc (suc (suc (suc i))))))))))) a e = no_alternative e
