-- An expression's shape is one node of the grammar's `expression`, and what is over it reads as an expression of the same values.
-- Assumes nothing.
use mathlib.Core.Path.{◌≡◌, refl, sym, ◌∙◌, subst}
use mathlib.Core.List.{List}
use Prim.Native.Nat.{ℕ}
use native.Mathlib.Omega.{arith}
use Rattle.ll1.specs.Trees.{Trees, nil, node}
use Rattle.grammar.specs.Rules.{<expression>}
use Rattle.answers.specs.Expression.{or, and, bit_or, bit_and, equal, not_equal, less, less_equal, greater, greater_equal, shift_left, shift_right, add, subtract, multiply, divide, modulo}
use Rattle.answers.specs.Expression.{true', false', zero', one', ones', undefined'}
use Rattle.answers.specs.Expression.{Expression, number, nothing, spelled, expression}
use Rattle.formulas.specs.Shapes.{Shape, s_nil, s_node, part, Over, over_nil, over_node}
use Rattle.formulas.specs.Formula.{Formula, f_number, f_constant, f_question, f_rule, f_not, f_binary}
use Rattle.formulas.specs.Tree.{tree, Rel}
use Rattle.formulas.proofs.Good.{good}

-- ---- the tree of an expression is one node

pub tree_node : (e : Formula) (f : Shape) → tree e 9 f ≡ s_node <expression> 0 (part 0 (tree e 9 s_nil)) f
tree_node (f_number v) f = refl
tree_node (f_constant true') f = refl
tree_node (f_constant false') f = refl
tree_node (f_constant zero') f = refl
tree_node (f_constant one') f = refl
tree_node (f_constant ones') f = refl
tree_node (f_constant undefined') f = refl
tree_node (f_question q) f = refl
tree_node (f_rule q) f = refl
tree_node (f_not e) f = refl
tree_node (f_binary or l r) f = refl
tree_node (f_binary and l r) f = refl
tree_node (f_binary bit_or l r) f = refl
tree_node (f_binary bit_and l r) f = refl
tree_node (f_binary equal l r) f = refl
tree_node (f_binary not_equal l r) f = refl
tree_node (f_binary less l r) f = refl
tree_node (f_binary less_equal l r) f = refl
tree_node (f_binary greater l r) f = refl
tree_node (f_binary greater_equal l r) f = refl
tree_node (f_binary shift_left l r) f = refl
tree_node (f_binary shift_right l r) f = refl
tree_node (f_binary add l r) f = refl
tree_node (f_binary subtract l r) f = refl
tree_node (f_binary multiply l r) f = refl
tree_node (f_binary divide l r) f = refl
tree_node (f_binary modulo l r) f = refl

-- the trees under it read as an expression of its values
pub expression_is : (t : List ℕ) (e : Formula) (x : Shape) {C : Trees} → Over t C (part 0 (tree e 9 x)) → Rel t (expression C) e
unfolding expression
expression_is t e x {C} o =
    let E = node <expression> 0 C nil in
    let o' : Over t E (tree e 9 s_nil) = subst (λ y. Over t E y) (sym (tree_node e s_nil)) (over_node (subst (λ y. Over t C (part 0 y)) (tree_node e x) o) over_nil) in
    let m = ((good t e).whole 9 (omega arith)).means s_nil E o' in
    subst (λ y. Rel t y e) (sym (m.is (number 0) nothing ∙ ended m.expr m.over)) m.rel
  where
    ended : {B : Trees} (a : Expression) → Over t B s_nil → spelled a nothing B ≡ a
    ended a over_nil = refl
