-- An expression in a derivation: its text goes no deeper than it does.
-- Assumes nothing.
use mathlib.Core.Path.{◌≡◌, refl, ap, ap₂, sym, ◌∙◌, subst}
use mathlib.Core.List.{List, [], ◌∷◌}
use mathlib.Core.Option.{some}
use mathlib.Core.Bool.{Bool, true, false}
use Prim.Native.Nat.{ℕ, zero, suc, ◌+◌, ◌≤◌, ◌<◌, max}
use native.Mathlib.Omega.{arith}
use lib.Dec.{eqb, leb}
use borrow.Author.Tests.{leb-true, leb-false, lt-leb}
use Rattle.lexemes.specs.Classes as class
use Rattle.ll1.specs.Trees.{token, Trees, nil, leaf, node, Symbol, terminal, nonterminal, Alternative, alternative_of, Depth, depth, deeper}
use Rattle.lexemes.proofs.Lists.{either}
use Rattle.grammar.specs.Rules.{<expression>, <atom>, <large>, <name_or_number>}
use Rattle.grammar.specs.Grammar.{rules}
use Rattle.grammar.specs.Derivation.{too_deep}
use Rattle.grammar.specs.Parts.{chosen, place_at}
use Rattle.answers.specs.Expression.{Operator, operator_class, Constant, true', false', zero', one', ones', undefined', constant_class, Expression, number, constant, rule_named, negation, binary, nothing, joined, asked, atom, spelled}
use Rattle.formulas.specs.Fitted.{Fitted, f_nil, f_leaf, f_node}
use Rattle.formulas.proofs.Fitted.{not_deep}
use Rattle.formulas.specs.Formula.{Formula, f_number, f_constant, f_question, f_rule, f_not, f_binary, formula, tight, inward, nest}
use Rattle.formulas.specs.Levels.{constant_alternative, lv, tl}
use Rattle.formulas.proofs.Levels.{level_no_atom, tail_no_atom, tight_lt, operator_told}
use Rattle.formulas.proofs.Inverse.{alternative_is, no_alternative, level_inverse, Tail, no_more, goes_on, tail_inverse, Atom, a_not, a_paren, a_constant, a_number, a_question, a_rule, atom_inverse}

-- ---- fewer parentheses where more levels are allowed

inward_le : (b : Bool) (k : ℕ) → inward b k ≤ suc k
inward_le true k = omega arith
inward_le false k = omega arith

nest_less : (n : ℕ) (e : Formula) → nest (suc n) e ≤ nest n e
nest_less n (f_number v) = omega arith
nest_less n (f_constant c) = omega arith
nest_less n (f_question q) = omega arith
nest_less n (f_rule q) = omega arith
nest_less n (f_not e) = omega arith
nest_less n (f_binary o l r) = by (leb n (tight o)) (leb (suc n) (tight o)) refl refl
  where
    k : ℕ
    k = max (nest (suc (tight o)) l) (nest (tight o) r)

    by : (a b : Bool) → leb n (tight o) ≡ a → leb (suc n) (tight o) ≡ b → inward (leb (suc n) (tight o)) k ≤ inward (leb n (tight o)) k
    by true b p q = rw p (inward_le (leb (suc n) (tight o)) k)
    by false true p q = absurd (omega (arith, leb-false n (tight o) p, leb-true (suc n) (tight o) q))
    by false false p q = rw (p, q) (omega arith)

nest_paren : (e : Formula) → nest 0 e ≤ suc (nest 9 e)
nest_paren (f_number v) = omega arith
nest_paren (f_constant c) = omega arith
nest_paren (f_question q) = omega arith
nest_paren (f_rule q) = omega arith
nest_paren (f_not e) = omega arith
nest_paren (f_binary o l r) = rw (lt-leb 9 (tight o) (tight_lt o)) (inward_le (leb 0 (tight o)) _)

-- ---- one walk over the derivation

module _ (look : ℕ → List ℕ) where
  abbrev nested : ℕ → Expression → ℕ
  nested n e = nest n (formula look e)

  -- the operand that a node spells
  abbrev operand_of : ℕ → ℕ → Trees → Expression → Expression
  operand_of A i c inner = elim (eqb A <atom>) [ true ↦ atom i c inner | false ↦ inner ]

  -- the node A i c, of n levels below it, under d conditions and g groups
  pub record Level (d g n A i : ℕ) (c : Trees) : Type 0 where
    pub expr : Expression
    pub is : (left : Expression) → operand_of A i c (spelled left nothing c) ≡ expr
    pub deep : g + nested n expr ≤ 32
    pub conditions : d ≤ 16

  -- a tail's trees c, after the operand a
  record After (g n : ℕ) (c : Trees) (a : Expression) : Type 0 where
    pub expr : Expression
    pub is : spelled a nothing c ≡ expr
    pub deep : g + nested (suc n) expr ≤ 32

  -- a number stands no deeper than it may
  abbrev Numeral : ℕ → ℕ → Type 0
  Numeral d g = (d ≤ 16) × (g ≤ 32)

  abbrev NodeGood : Depth → ℕ → ℕ → Trees → Type 0
  NodeGood (depth d g) A i c =
      ((n : ℕ) → n ≤ 9 → A ≡ lv n → Level d g n A i c)
      × ((n : ℕ) → n < 9 → A ≡ tl n → (a : Expression) → g + nested (suc n) a ≤ 32 → After g n c a)
      × (A ≡ <large> → Numeral d g)

  data Every : Depth → List Symbol → Trees → Type 0 where
    e_nil : {d : Depth} → Every d [] nil
    e_leaf : {d : Depth} {k p : ℕ} {σ : List Symbol} {f : Trees} → too_deep d ≡ false → Every d σ f → Every d (terminal k ∷ σ) (leaf (token k p) f)
    e_node : {d : Depth} {A i : ℕ} {σ : List Symbol} {c f : Trees} → NodeGood d A i c → Every d σ f → Every d (nonterminal A ∷ σ) (node A i c f)

  -- ---- a level: its first operand, and its tail

  no_atom : (A i : ℕ) (c : Trees) (e : Expression) → eqb A <atom> ≡ false → operand_of A i c e ≡ e
  no_atom A i c e q = rw (q, operand_of)

  level_join : {d g n i₁ i₂ : ℕ} {c₁ c₂ : Trees} → n < 9 → (x : Level d g n (lv n) i₁ c₁) → After g n c₂ x.expr → Level d g (suc n) (lv (suc n)) 0 (node (lv n) i₁ c₁ (node (tl n) i₂ c₂ nil))
  level_join {n} {i₁} {i₂} {c₁} {c₂} b x y =
      let C = node (lv n) i₁ c₁ (node (tl n) i₂ c₂ nil) in
      record {
        expr = y.expr;
        is = λ left.
            no_atom (lv (suc n)) 0 C (spelled left nothing C) (level_no_atom n b)
            ∙ ap (λ e. spelled e nothing (node (tl n) i₂ c₂ nil)) (x.is left)
            ∙ no_atom (tl n) i₂ c₂ (spelled x.expr nothing c₂) (tail_no_atom n b)
            ∙ y.is;
        deep = y.deep;
        conditions = x.conditions;
      }

  level_node : {d g n : ℕ} {c : Trees} → n < 9 → Every (depth d g) (nonterminal (lv n) ∷ nonterminal (tl n) ∷ []) c → Level d g (suc n) (lv (suc n)) 0 c
  level_node {n} b (e_node p (e_node q e_nil)) =
      let x = p.0 n (omega arith) refl in
      level_join b x (q.1 n b refl x.expr (omega (arith, nest_less n (formula look x.expr), x.deep)))

  -- ---- a tail: an operator, its right operand, and the tail after it

  tail_join : {d g i₁ i₂ p : ℕ} {c₁ c₂ : Trees} (o : Operator) (a : Expression) (x : Level d g (tight o) (lv (tight o)) i₁ c₁) → After g (tight o) c₂ (binary o p a x.expr) → After g (tight o) (leaf (token (operator_class o) p) (node (lv (tight o)) i₁ c₁ (node (tl (tight o)) i₂ c₂ nil))) a
  tail_join {i₂ = i₂} {p = p} {c₂ = c₂} o a x y =
      let T = node (tl (tight o)) i₂ c₂ nil in
      record {
        expr = y.expr;
        is =
            ap₂ (λ w e. spelled (joined w a e) nothing T) (operator_told o p) (x.is a)
            ∙ no_atom (tl (tight o)) i₂ c₂ (spelled (binary o p a x.expr) nothing c₂) (tail_no_atom (tight o) (tight_lt o))
            ∙ y.is;
        deep = y.deep;
      }

  binary_deep : (o : Operator) (g p : ℕ) (a x : Expression) → g + nested (suc (tight o)) a ≤ 32 → g + nested (tight o) x ≤ 32 → g + nested (suc (tight o)) (binary o p a x) ≤ 32
  binary_deep o g p a x h l = rw (lt-leb (suc (tight o)) (tight o) (omega arith)) (omega arith)

  tail_node : {d g : ℕ} {c : Trees} (o : Operator) (a : Expression) → g + nested (suc (tight o)) a ≤ 32 → Every (depth d g) (terminal (operator_class o) ∷ nonterminal (lv (tight o)) ∷ nonterminal (tl (tight o)) ∷ []) c → After g (tight o) c a
  tail_node {g} o a h (e_leaf {p = p} u (e_node q (e_node r e_nil))) =
      let x = q.0 (tight o) (omega (arith, tight_lt o)) refl in
      tail_join o a x (r.1 (tight o) (tight_lt o) refl (binary o p a x.expr) (binary_deep o g p a x.expr h x.deep))

  tail_none : {d : Depth} {g n : ℕ} {c : Trees} (a : Expression) → g + nested (suc n) a ≤ 32 → Every d [] c → After g n c a
  tail_none a h e_nil = record { expr = a; is = refl; deep = h }

  -- ---- the atoms

  not_node : {d g : ℕ} {c : Trees} → Every (depth d (suc g)) (terminal class.«NOT» ∷ nonterminal <atom> ∷ []) c → Level d g 0 <atom> 0 c
  not_node (e_leaf u (e_node p e_nil)) = by (p.0 0 (omega arith) refl)
    where
      by : {d g i p : ℕ} {c : Trees} → Level d (suc g) 0 <atom> i c → Level d g 0 <atom> 0 (leaf (token class.«NOT» p) (node <atom> i c nil))
      by {p = p} x = record { expr = negation p x.expr; is = λ left. ap (negation p) (x.is left); deep = omega (arith, x.deep); conditions = x.conditions }

  paren_node : {d g : ℕ} {c : Trees} → Every (depth d (suc g)) (terminal class.open_paren ∷ nonterminal <expression> ∷ terminal class.close_paren ∷ []) c → Level d g 0 <atom> 1 c
  paren_node (e_leaf u (e_node p (e_leaf v e_nil))) = by (p.0 9 (omega arith) refl)
    where
      by : {d g i p q : ℕ} {c : Trees} → Level d (suc g) 9 <expression> i c → Level d g 0 <atom> 1 (leaf (token class.open_paren p) (node <expression> i c (leaf (token class.close_paren q) nil)))
      by x = record { expr = x.expr; is = x.is; deep = omega (arith, x.deep, nest_paren (formula look x.expr)); conditions = x.conditions }

  constant_node : {d g : ℕ} {c : Trees} (k : Constant) → Every (depth d g) (terminal (constant_class k) ∷ []) c → Level d g 0 <atom> (constant_alternative k) c
  constant_node {d} {g} k (e_leaf {p = p} u e_nil) = by k
    where
      h : (d ≤ 16) × (g ≤ 32)
      h = not_deep d g u

      by : (k : Constant) → Level d g 0 <atom> (constant_alternative k) (leaf (token (constant_class k) p) nil)
      by true' = record { expr = constant true' p; is = λ left. refl; deep = omega (arith, h.1); conditions = h.0 }
      by false' = record { expr = constant false' p; is = λ left. refl; deep = omega (arith, h.1); conditions = h.0 }
      by zero' = record { expr = constant zero' p; is = λ left. refl; deep = omega (arith, h.1); conditions = h.0 }
      by one' = record { expr = constant one' p; is = λ left. refl; deep = omega (arith, h.1); conditions = h.0 }
      by ones' = record { expr = constant ones' p; is = λ left. refl; deep = omega (arith, h.1); conditions = h.0 }
      by undefined' = record { expr = constant undefined' p; is = λ left. refl; deep = omega (arith, h.1); conditions = h.0 }

  asked_nested : (n p : ℕ) (c : Trees) → nested n (asked p c) ≡ 0
  asked_nested n p c = either (eqb (chosen 2 c) 0) (λ e. rw (e, asked)) (λ e. rw (e, asked))

  question_node : {d g : ℕ} {c : Trees} → Every (depth d g) (terminal class.«questionref» ∷ terminal class.open_paren ∷ nonterminal <name_or_number> ∷ terminal class.close_paren ∷ []) c → Level d g 0 <atom> 9 c
  question_node {d} {g} (e_leaf {p = p} u (e_leaf {p = q} v (e_node {i = i} {c = c} h (e_leaf {p = r} w e_nil)))) =
      let f = leaf (token class.«questionref» p) (leaf (token class.open_paren q) (node <name_or_number> i c (leaf (token class.close_paren r) nil))) in
      record {
        expr = asked p f;
        is = λ left. refl;
        deep = omega (arith, (not_deep d g u).1, asked_nested 0 p f);
        conditions = (not_deep d g u).0;
      }

  rule_node : {d g : ℕ} {c : Trees} → Every (depth d g) (terminal class.«ruleref» ∷ terminal class.open_paren ∷ terminal class.NAME ∷ terminal class.close_paren ∷ []) c → Level d g 0 <atom> 10 c
  rule_node {d} {g} (e_leaf {p = p} u (e_leaf v (e_leaf {p = q} w (e_leaf y e_nil)))) =
      record { expr = rule_named p q; is = λ left. refl; deep = omega (arith, (not_deep d g u).1); conditions = (not_deep d g u).0 }

  number_node : {d g : ℕ} {c : Trees} → Every (depth d g) (nonterminal <large> ∷ []) c → Level d g 0 <atom> 8 c
  number_node (e_node {c = c} p e_nil) =
      let h = p.2 refl in
      record { expr = number (place_at 0 c); is = λ left. refl; deep = omega (arith, h.1); conditions = h.0 }

  -- ---- every node

  atom_node : {d g i : ℕ} {a : Alternative} {c : Trees} → Atom i a → Every (deeper (depth d g) a.opens) a.symbols c → Level d g 0 <atom> i c
  atom_node (a_not q r) u = rw q (not_node (rw (← r) at u))
  atom_node (a_paren q r) u = rw q (paren_node (rw (← r) at u))
  atom_node (a_constant k q r) u = rw q (constant_node k (rw (← r) at u))
  atom_node (a_number q r) u = rw q (number_node (rw (← r) at u))
  atom_node (a_question q r) u = rw q (question_node (rw (← r) at u))
  atom_node (a_rule q r) u = rw q (rule_node (rw (← r) at u))

  tail_of_lem : (d g n i : ℕ) {b : Alternative} {c : Trees} (a : Expression) → g + nested (suc n) a ≤ 32 → Tail n i b → Every (deeper (depth d g) b.opens) b.symbols c → After g n c a
  tail_of_lem d g n i a h (no_more q r) u = tail_none a h (rw (← r) at u)
  tail_of_lem d g n i {c = c} a h (goes_on o q w r) u = subst (λ n. After g n c a) q (tail_node o a (rw (← q) at h) (rw (← q) at (rw (← r) at u)))

  numeral_leaf : {d g k : ℕ} {c : Trees} → Every (depth d g) (terminal k ∷ []) c → Numeral d g
  numeral_leaf {d} {g} (e_leaf u e_nil) = not_deep d g u

  -- the trees under the alternative that it is
  under_it :
      (d : Depth) {x a : Alternative} {c : Trees} → some x ≡ some a → Every (deeper d a.opens) a.symbols c
      → Every (deeper d x.opens) x.symbols c
  under_it d {c = c} q u = subst (λ b. Every (deeper d b.opens) b.symbols c) (sym (alternative_is q)) u

  numeral_of :
      (d g i : ℕ) (a : Alternative) (c : Trees) → alternative_of rules <large> i ≡ some a → Every (deeper (depth d g) a.opens) a.symbols c
      → Numeral d g
  unfolding rules
  numeral_of d g zero a c e u = numeral_leaf (under_it (depth d g) e u)
  numeral_of d g (suc zero) a c e u = numeral_leaf (under_it (depth d g) e u)
  numeral_of d g (suc (suc i)) a c e u = no_alternative e

  node_good : (d : Depth) (A i : ℕ) (a : Alternative) (c : Trees) → alternative_of rules A i ≡ some a → Every (deeper d a.opens) a.symbols c → NodeGood d A i c
  node_good (depth d g) A i a c e u = (
    levels,
    λ n b q x k. tail_of_lem d g n i x k (tail_inverse i a n b (rw q at e)) u,
    λ q. numeral_of d g i a c (rw q at e) u,
  )
    where
      levels : (n : ℕ) → n ≤ 9 → A ≡ lv n → Level d g n A i c
      levels zero b q = rw q (atom_node (atom_inverse i a (rw q at e)) u)
      levels (suc n) b q =
          let w = level_inverse i a n b (rw q at e) in
          let v : Every (depth d g) (nonterminal (lv n) ∷ nonterminal (tl n) ∷ []) c = rw (← w.1) at u in
          rw (q, w.0) (level_node b v)

  every : {d : Depth} {σ : List Symbol} {f : Trees} → Fitted d σ f → Every d σ f
  every f_nil = e_nil
  every (f_leaf u h) = e_leaf u (every h)
  every (f_node {d = d} {A = A} {i = i} {a = a} {c = c} e h₁ h₂) = e_node (node_good d A i a c e (every h₁)) (every h₂)

  -- an expression's node in a derivation
  pub expression_node : {d g i : ℕ} {a : Alternative} {c : Trees} → alternative_of rules <expression> i ≡ some a → Fitted (deeper (depth d g) a.opens) a.symbols c → Level d g 9 <expression> i c
  expression_node {d} {g} {i} {a} {c} e h = (node_good (depth d g) <expression> i a c e (every h)).0 9 (omega arith) refl
