-- The shape of every expression's text is good.
-- Assumes nothing.
use mathlib.Core.Path.{◌≡◌, refl, ap, sym, ◌∙◌, subst}
use mathlib.Core.List.{List, [], ◌∷◌, ◌++◌, append_assoc, append-nil}
use mathlib.Core.Bool.{Bool, true, false}
use Prim.Native.Nat.{ℕ, suc, ◌+◌, ◌≤◌, ◌<◌, max}
use native.Mathlib.Omega.{arith}
use lib.Dec.{eqb, leb}
use borrow.Author.Tests.{leb-true, leb-false, eqb-true, eqb-false, le-leb, lt-leb}
use Rattle.lexemes.specs.Classes as class
use Rattle.ll1.specs.Trees.{token, Trees, nil, leaf, nonterminal, depth}
use Rattle.ll1.proofs.Basics.{same}
use Rattle.grammar.specs.Rules.{<large>}
use Rattle.grammar.specs.Grammar.{rules}
use Rattle.answers.specs.Expression.{Operator, operator_class, Constant, true', false', zero', one', ones', undefined', constant_class, Expression, number, constant, question_numbered, rule_named, negation, binary, nothing, operator, atom, spelled}
use Rattle.formulas.specs.Shapes.{Lexed, sign, decimal, Shape, s_nil, s_leaf, flat, lexed, read_sign, read_decimal, read_rule, Over, over_nil, over_leaf, over_node}
use Rattle.formulas.specs.Fitted.{Fitted, f_nil, f_leaf, f_node}
use Rattle.formulas.proofs.Fitted.{fine}
use Rattle.formulas.specs.Formula.{Formula, f_number, f_constant, f_question, f_rule, f_not, f_binary, tight, inward, nest}
use Rattle.formulas.specs.Levels.{constant_alternative, tl}
use Rattle.formulas.specs.Words.{parens, print}
use Rattle.formulas.proofs.Levels.{tail_no_atom, tight_lt, operator_alternative, operator_told, constant_alternative_lem}
use Rattle.formulas.specs.Tree.{raised, atomic, tail_of, joining, paren, binary_tree, numeral_shape, question_under, rule_under, tree, chain, Rel, rel_number, rel_constant, rel_question, rel_rule, rel_not, rel_binary}
use Rattle.formulas.proofs.Tree.{Atom, Good, Chained, like_chained, chained, level_good, no_tail, no_tail_fits, ended, raise, atom_good}

module _ (t : List ℕ) where
  -- ---- operands

  number_good : (v n : ℕ) → n ≤ 9 → Good t n 0 (decimal v ∷ []) (f_number v) (tree (f_number v) n)
  unfolding rules
  number_good v n b =
      atom_good t 8 (numeral_shape <large> v s_nil) refl (λ T o. by o)
      (λ c g l d. (_, refl, f_node refl (f_leaf (fine c g l (omega arith)) f_nil) f_nil)) n b
    where
      by : {T : Trees} → Over t T (numeral_shape <large> v s_nil) → Atom t 8 (f_number v) T
      by (over_node (over_leaf {p = p} (read_decimal h) over_nil) over_nil) = record { expr = number p; rel = rel_number h; is = λ left. refl }

  constant_good : (k : Constant) (n : ℕ) → n ≤ 9 → Good t n 0 (sign (constant_class k) ∷ []) (f_constant k) (tree (f_constant k) n)
  constant_good k n b =
      atom_good t (constant_alternative k) (s_leaf (sign (constant_class k)) s_nil) refl (λ T o. by o)
      (λ c g l d. (_, constant_alternative_lem k, f_leaf (fine c g l (omega arith)) f_nil)) n b
    where
      read : (k : Constant) (p : ℕ) (x : Expression) → atom (constant_alternative k) (leaf (token (constant_class k) p) nil) x ≡ constant k p
      read true' p x = refl
      read false' p x = refl
      read zero' p x = refl
      read one' p x = refl
      read ones' p x = refl
      read undefined' p x = refl

      by : {T : Trees} → Over t T (s_leaf (sign (constant_class k)) s_nil) → Atom t (constant_alternative k) (f_constant k) T
      by (over_leaf {p = p} read_sign over_nil) = record { expr = constant k p; rel = rel_constant; is = λ left. read k p _ }

  question_good : (q n : ℕ) → n ≤ 9 → Good t n 0 (print 0 (f_question q)) (f_question q) (tree (f_question q) n)
  unfolding rules
  question_good q n b =
      atom_good t 9 (question_under q) refl (λ T o. by o)
      (λ c g l d. let u = fine c g l (omega arith) in (_, refl, f_leaf u (f_leaf u (f_node refl (f_node refl (f_leaf u f_nil) f_nil) (f_leaf u f_nil))))) n b
    where
      by : {T : Trees} → Over t T (question_under q) → Atom t 9 (f_question q) T
      by (over_leaf {p = p₀} read_sign (over_leaf read_sign (over_node (over_node (over_leaf {p = p} (read_decimal h) over_nil) over_nil) (over_leaf read_sign over_nil)))) =
          record { expr = question_numbered p₀ p; rel = rel_question h; is = λ left. refl }

  rule_good : (q n : ℕ) → n ≤ 9 → Good t n 0 (print 0 (f_rule q)) (f_rule q) (tree (f_rule q) n)
  unfolding rules
  rule_good q n b =
      atom_good t 10 (rule_under q) refl (λ T o. by o)
      (λ c g l d. let u = fine c g l (omega arith) in (_, refl, f_leaf u (f_leaf u (f_leaf u (f_leaf u f_nil))))) n b
    where
      by : {T : Trees} → Over t T (rule_under q) → Atom t 10 (f_rule q) T
      by (over_leaf {p = p₀} read_sign (over_leaf read_sign (over_leaf {p = p} (read_rule h w) (over_leaf read_sign over_nil)))) =
          record { expr = rule_named p₀ p; rel = rel_rule h w; is = λ left. refl }

  -- ---- NOT and parentheses

  not_good : {k : ℕ} {w : List Lexed} {e : Formula} {z : Shape → Shape} → Good t 0 k w e z → (n : ℕ) → n ≤ 9 → Good t n (suc k) (sign class.«NOT» ∷ w) (f_not e) (atomic 0 (s_leaf (sign class.«NOT») (z s_nil)) n)
  unfolding rules
  not_good {k} {w} {e} {z} h n b =
      atom_good t 0 (s_leaf (sign class.«NOT») (z s_nil)) (ap (λ l. sign class.«NOT» ∷ l) (h.spells s_nil ∙ append-nil w)) (λ T o. by o)
      (λ c g l d. (_, refl, f_leaf (fine c (suc g) l (omega arith)) (h.fits c (suc g) l (omega arith) [] s_nil f_nil))) n b
    where
      last : {B : Trees} (x : Expression) → Over t B s_nil → spelled x nothing B ≡ x
      last x over_nil = refl

      by : {T : Trees} → Over t T (s_leaf (sign class.«NOT») (z s_nil)) → Atom t 0 (f_not e) T
      by (over_leaf {p = p} {f = f} read_sign o) =
          let m = h.means s_nil f o in
          record { expr = negation p m.expr; rel = rel_not m.rel; is = λ left. ap (negation p) (m.is left nothing ∙ last m.expr m.over) }

  closing : Shape
  closing = s_leaf (sign class.close_paren) s_nil

  paren_good : {k : ℕ} {w : List Lexed} {e : Formula} {z : Shape → Shape} → Good t 9 k w e z → (n : ℕ) → n ≤ 9 → Good t n (suc k) (parens true w) e (atomic 1 (s_leaf (sign class.open_paren) (z (s_leaf (sign class.close_paren) s_nil))) n)
  unfolding rules
  paren_good {k} {w} {e} {z} h n b =
      let T₁ = s_leaf (sign class.close_paren) s_nil in
      atom_good t 1 (s_leaf (sign class.open_paren) (z T₁)) (ap (λ l. sign class.open_paren ∷ l) (h.spells T₁)) (λ T o. by o)
      (λ c g l d. let u = fine c (suc g) l (omega arith) in (_, refl, f_leaf u (h.fits c (suc g) l (omega arith) _ T₁ (f_leaf u f_nil)))) n b
    where
      last : {B : Trees} (x : Expression) → Over t B (s_leaf (sign class.close_paren) s_nil) → spelled x nothing B ≡ x
      last x (over_leaf read_sign over_nil) = refl

      by : {T : Trees} → Over t T (s_leaf (sign class.open_paren) (z (s_leaf (sign class.close_paren) s_nil))) → Atom t 1 e T
      by (over_leaf {p = p} {f = f} read_sign o) =
          let m = h.means (s_leaf (sign class.close_paren) s_nil) f o in
          record { expr = m.expr; rel = m.rel; is = λ left. m.is left nothing ∙ last m.expr m.over }

  -- ---- operators

  -- an operator's tail after the operand a
  record Tail (o : Operator) (e : Formula) (f : Shape) (T : Trees) : Type 0 where
    pub beside : Trees
    pub over : Over t beside f
    pub place : ℕ
    pub expr : Expression
    pub rel : Rel t expr e
    pub is : (a : Expression) → spelled a nothing T ≡ spelled (binary o place a expr) nothing beside

  module _ (o : Operator) (k : ℕ) (w : List Lexed) (e : Formula) (x : ℕ → Shape → Shape) (h : Good t (tight o) k w e (x (tight o))) (f : Shape) where
    tail_spells : lexed (tail_of o x (tight o) f) ≡ sign (operator_class o) ∷ (w ++ lexed f)
    tail_spells = append-nil _ ∙ ap (λ l. sign (operator_class o) ∷ l) (h.spells f)

    tail_means : {T : Trees} → Over t T (tail_of o x (tight o) f) → Tail o e f T
    tail_means (over_node (over_leaf {p = p} {f = c} read_sign u) over_nil) =
        let m = h.means f c u in
        record { beside = m.beside; over = m.over; place = p; expr = m.expr; rel = m.rel; is = λ a. rw (tail_no_atom (tight o) (tight_lt o), operator_told o p) (m.is a (operator o p)) }

    tail_fits : (c g : ℕ) → c ≤ 16 → g + k ≤ 32 → Fitted (depth c g) (nonterminal (tl (tight o)) ∷ []) (flat f) → Fitted (depth c g) (nonterminal (tl (tight o)) ∷ []) (flat (tail_of o x (tight o) f))
    tail_fits c g l b u = f_node (operator_alternative o) (f_leaf (fine c g l (omega arith)) (h.fits c g l b _ f u)) f_nil

  -- what an operator joins, its two operands known
  module _ (o : Operator) (k₁ k₂ : ℕ) (w₁ w₂ : List Lexed) (e₁ e₂ : Formula) (x y : ℕ → Shape → Shape) (h₁ : Chained t (tight o) k₁ w₁ e₁ (x (tight o))) (h₂ : Good t (tight o) k₂ w₂ e₂ (y (tight o))) where
    abbrev n₀ : ℕ
    n₀ = tight o

    go_on : Chained t (tight o) (max k₁ k₂) (w₁ ++ (sign (operator_class o) ∷ w₂)) (f_binary o e₁ e₂) (λ f. x (tight o) (tail_of o y (tight o) f))
    go_on =
        record {
          spells = λ f. h₁.spells (tail_of o y (tight o) f) ∙ rw (tail_spells o k₂ w₂ e₂ y h₂ f, append_assoc);
          means = λ f T u.
              let a = h₁.means (tail_of o y (tight o) f) T u in
              let b = tail_means o k₂ w₂ e₂ y h₂ f a.over in
              record { beside = b.beside; over = b.over; expr = binary o b.place a.expr b.expr; rel = rel_binary a.rel b.rel; is = λ left. a.is left ∙ b.is a.expr };
          fits = λ c g l b f u. h₁.fits c g l (omega arith) (tail_of o y (tight o) f) (tail_fits o k₂ w₂ e₂ y h₂ f c g l (omega arith) u);
        }

    joining_good : Good t (suc (tight o)) (max k₁ k₂) (w₁ ++ (sign (operator_class o) ∷ w₂)) (f_binary o e₁ e₂) (joining o x y)
    joining_good =
        let b = tight_lt o in
        level_good t (tight o) (x (tight o) (tail_of o y (tight o) (no_tail t (tight o)))) b (go_on.spells (no_tail t (tight o)) ∙ append-nil _)
        (λ T u. ended t (tight o) T b (go_on.means (no_tail t (tight o)) T u))
        (λ c g l d. go_on.fits c g l d (no_tail t (tight o)) (no_tail_fits t (tight o) c g b))

    binary_good : (n : ℕ) → n ≤ 9 → Good t n (inward (leb n (tight o)) (max k₁ k₂)) (parens (leb n (tight o)) (w₁ ++ (sign (operator_class o) ∷ w₂))) (f_binary o e₁ e₂) (binary_tree o x y n)
    binary_good n b = by (leb n (tight o)) refl
      where
        inner : Good t 9 (max k₁ k₂) (w₁ ++ (sign (operator_class o) ∷ w₂)) (f_binary o e₁ e₂) (raised (suc (tight o)) (joining o x y) 9)
        inner = raise t joining_good 9 (tight_lt o) (omega arith)

        by : (c : Bool) → leb n (tight o) ≡ c → Good t n (inward c (max k₁ k₂)) (parens c (w₁ ++ (sign (operator_class o) ∷ w₂))) (f_binary o e₁ e₂) (paren c (suc (tight o)) (joining o x y) n)
        by true q = paren_good inner n b
        by false q = raise t joining_good n (leb-false n (tight o) q) b

  -- ---- every expression

  pub record Both (e : Formula) : Type 0 where
    pub whole : (n : ℕ) → n ≤ 9 → Good t n (nest n e) (print n e) e (tree e n)
    pub first : (n : ℕ) → n < 9 → Chained t n (nest (suc n) e) (print (suc n) e) e (chain e n)

  next_leb : (n m : ℕ) → eqb m n ≡ false → leb n m ≡ leb (suc n) m
  next_leb n m q = by (leb n m) refl
    where
      by : (b : Bool) → leb n m ≡ b → leb n m ≡ leb (suc n) m
      by true e = let z = eqb-false m n q in let l = leb-true n m e in e ∙ sym (le-leb (suc n) m (lt_of_ne l z))
        where
          lt_of_ne : n ≤ m → (m ≡ n → ⊥) → suc n ≤ m
          lt_of_ne l z = omega arith
      by false e = e ∙ sym (lt-leb (suc n) m (omega (arith, leb-false n m e)))

  both_binary : (o : Operator) (l r : Formula) → Chained t (tight o) (nest (suc (tight o)) l) (print (suc (tight o)) l) l (chain l (tight o)) → Good t (tight o) (nest (tight o) r) (print (tight o) r) r (tree r (tight o)) → Both (f_binary o l r)
  both_binary o l r h₁ h₂ = record { whole = whole; first = λ n b. by n b (eqb (tight o) n) refl }
    where
      whole : (n : ℕ) → n ≤ 9 → Good t n (nest n (f_binary o l r)) (print n (f_binary o l r)) (f_binary o l r) (tree (f_binary o l r) n)
      whole = binary_good o _ _ _ _ l r (chain l) (tree r) h₁ h₂

      here : Chained t (tight o) (nest (suc (tight o)) (f_binary o l r)) (print (suc (tight o)) (f_binary o l r)) (f_binary o l r) (chain (f_binary o l r) (tight o))
      here =
          let q : leb (suc (tight o)) (tight o) ≡ false = lt-leb (suc (tight o)) (tight o) (omega arith) in
          let u : eqb (tight o) (tight o) ≡ true = same (tight o) in
          rw q (like_chained t (λ f. rw (u, chain)) (go_on o _ _ _ _ l r (chain l) (tree r) h₁ h₂))

      by : (n : ℕ) → n < 9 → (z : Bool) → eqb (tight o) n ≡ z → Chained t n (nest (suc n) (f_binary o l r)) (print (suc n) (f_binary o l r)) (f_binary o l r) (chain (f_binary o l r) n)
      by n b true q = subst (λ n. Chained t n (nest (suc n) (f_binary o l r)) (print (suc n) (f_binary o l r)) (f_binary o l r) (chain (f_binary o l r) n)) (eqb-true (tight o) n q) here
      by n b false q = rw (← next_leb n (tight o) q) (like_chained t (λ f. rw (q, chain)) (chained t (whole n (omega arith))))

  pub good : (e : Formula) → Both e
  good (f_number v) = record { whole = number_good v; first = λ n b. chained t (number_good v n (omega arith)) }
  good (f_constant c) = record { whole = constant_good c; first = λ n b. chained t (constant_good c n (omega arith)) }
  good (f_question q) = record { whole = question_good q; first = λ n b. chained t (question_good q n (omega arith)) }
  good (f_rule q) = record { whole = rule_good q; first = λ n b. chained t (rule_good q n (omega arith)) }
  good (f_not e) = let h = (good e).whole 0 (omega arith) in record { whole = not_good h; first = λ n b. chained t (not_good h n (omega arith)) }
  good (f_binary o l r) = both_binary o l r ((good l).first (tight o) (tight_lt o)) ((good r).whole (tight o) (omega (arith, tight_lt o)))
