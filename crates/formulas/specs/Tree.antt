-- The tree of an expression's text, as a shape; and the expressions of a text that have the values of a formula.
-- Assumes nothing.
use Rattle.std.specs.Prelude.{◌≡◌, List, Bool, true, false, ℕ, zero, suc, eqb, leb, drop, Some}
use Rattle.lexemes.specs.Classes as class
use Rattle.values.specs.Numbers.{value_at}
use Rattle.lexemes.specs.Words as words
use Rattle.grammar.specs.Rules.{<atom>, <large>, <id>, <name_or_number>}
use Rattle.answers.specs.Expression.{Operator, operator_class, Constant, constant_class, Expression, number, constant, question_numbered, rule_named, negation, binary}
use Rattle.formulas.specs.Shapes.{sign, decimal, rule_name, rule_word, Shape, s_nil, s_leaf, s_node}
use Rattle.formulas.specs.Formula.{Formula, f_number, f_constant, f_question, f_rule, f_not, f_binary, tight}
use Rattle.formulas.specs.Levels.{alternative, constant_alternative, lv, tl}

-- ---- the shape, with the shapes beside it

-- a shape x with m levels below it, raised to n
abbrev pub raised : ℕ → (Shape → Shape) → ℕ → Shape → Shape
raised m x zero f = x f
raised m x (suc n) f = elim (leb m n) [ true ↦ s_node (lv (suc n)) 0 (raised m x n (s_node (tl n) 0 s_nil s_nil)) f | false ↦ x f ]

abbrev pub atomic : ℕ → Shape → ℕ → Shape → Shape
atomic i c n f = raised 0 (λ g. s_node <atom> i c g) n f

-- an operator's tail: the operator, its right operand, what follows
abbrev pub tail_of : Operator → (ℕ → Shape → Shape) → ℕ → Shape → Shape
tail_of o r n f = s_node (tl n) (alternative o) (s_leaf (sign (operator_class o)) (r n f)) s_nil

abbrev pub joining : Operator → (ℕ → Shape → Shape) → (ℕ → Shape → Shape) → Shape → Shape
joining o l r f = s_node (lv (suc (tight o))) 0 (l (tight o) (tail_of o r (tight o) (s_node (tl (tight o)) 0 s_nil s_nil))) f

abbrev pub paren : Bool → ℕ → (Shape → Shape) → ℕ → Shape → Shape
paren true m x n f = atomic 1 (s_leaf (sign class.open_paren) (raised m x 9 (s_leaf (sign class.close_paren) s_nil))) n f
paren false m x n f = raised m x n f

abbrev pub binary_tree : Operator → (ℕ → Shape → Shape) → (ℕ → Shape → Shape) → ℕ → Shape → Shape
binary_tree o l r n f = paren (leb n (tight o)) (suc (tight o)) (joining o l r) n f

abbrev pub numeral_shape : ℕ → ℕ → Shape → Shape
numeral_shape A v f = s_node A 0 (s_leaf (decimal v) s_nil) f

abbrev pub question_under : ℕ → Shape
question_under q = s_leaf (sign class.«questionref») (s_leaf (sign class.open_paren) (s_node <name_or_number> 1 (numeral_shape <id> q s_nil) (s_leaf (sign class.close_paren) s_nil)))

abbrev pub rule_under : ℕ → Shape
rule_under q = s_leaf (sign class.«ruleref») (s_leaf (sign class.open_paren) (s_leaf (rule_name q) (s_leaf (sign class.close_paren) s_nil)))

abbrev mutual
  pub tree : Formula → ℕ → Shape → Shape
  tree (f_number v) n f = atomic 8 (numeral_shape <large> v s_nil) n f
  tree (f_constant c) n f = atomic (constant_alternative c) (s_leaf (sign (constant_class c)) s_nil) n f
  tree (f_question q) n f = atomic 9 (question_under q) n f
  tree (f_rule q) n f = atomic 10 (rule_under q) n f
  tree (f_not e) n f = atomic 0 (s_leaf (sign class.«NOT») (tree e 0 s_nil)) n f
  tree (f_binary o l r) n f = binary_tree o (λ m g. chain l m g) (λ m g. tree r m g) n f

  -- the first operand of a level, with the tail f: what the level itself joins goes on in the tail
  pub chain : Formula → ℕ → Shape → Shape
  chain (f_number v) n f = atomic 8 (numeral_shape <large> v s_nil) n f
  chain (f_constant c) n f = atomic (constant_alternative c) (s_leaf (sign (constant_class c)) s_nil) n f
  chain (f_question q) n f = atomic 9 (question_under q) n f
  chain (f_rule q) n f = atomic 10 (rule_under q) n f
  chain (f_not e) n f = atomic 0 (s_leaf (sign class.«NOT») (tree e 0 s_nil)) n f
  chain (f_binary o l r) n f = elim (eqb (tight o) n) [ true ↦ chain l n (tail_of o (λ m g. tree r m g) n f) | false ↦ binary_tree o (λ m g. chain l m g) (λ m g. tree r m g) n f ]

-- ---- an expression of the text t has these values

pub data Rel (t : List ℕ) : Expression → Formula → Type 0 where
  rel_number : {p v : ℕ} → value_at t p ≡ Some v → Rel t (number p) (f_number v)
  rel_constant : {c : Constant} {p : ℕ} → Rel t (constant c p) (f_constant c)
  rel_question : {p q v : ℕ} → value_at t q ≡ Some v → Rel t (question_numbered p q) (f_question v)
  rel_rule : {p q n : ℕ} → value_at t q ≡ Some n → words.word (drop q t) ≡ rule_word n → Rel t (rule_named p q) (f_rule n)
  rel_not : {p : ℕ} {e : Expression} {x : Formula} → Rel t e x → Rel t (negation p e) (f_not x)
  rel_binary : {o : Operator} {p : ℕ} {l r : Expression} {x y : Formula} → Rel t l x → Rel t r y → Rel t (binary o p l r) (f_binary o x y)
