-- The rows of an expression in a source are sound, and none is an option.
-- Assumes nothing.
use mathlib.Core.Path.{◌≡◌, refl}
use mathlib.Core.List.{List, [], ◌∷◌}
use mathlib.Core.Bool.{true, false}
use Prim.Native.Nat.{ℕ, ◌≤◌}
use native.Mathlib.Omega.{arith}
use lib.Dec.{eqb}
use Rattle.lexemes.proofs.Lists.{either}
use Rattle.rows.specs.Codes as code
use Rattle.rows.specs.Codes.{member, questions, is_question}
use Rattle.ll1.specs.Trees.{token, Trees, nil, leaf, node}
use Rattle.ll1.proofs.Basics.{clash}
use Rattle.grammar.specs.Rules.{<atom>}
use Rattle.answers.specs.Answer.{LONGEST}
use Rattle.grammar.specs.Parts.{child, chosen, place_at}
use Rattle.answers.specs.Expression.{Operator, or, and, bit_or, bit_and, equal, not_equal, less, less_equal, greater, greater_equal, shift_left, shift_right, add, subtract, multiply, divide, modulo, operator_class, operator_code, operators}
use Rattle.answers.specs.Expression.{Constant, true', false', zero', one', ones', undefined', constant_code}
use Rattle.answers.specs.Expression.{Expression, number, constant, question_named, question_numbered, rule_named, negation, binary, Pending, nothing, operator, operator_among, joined, asked, atom, spelled, expression}
use Rattle.answers.specs.Rows.{operand, expression_rows}
use Rattle.sound.proofs.Lists.{All, none, more, all_append, all_get_or}
use Rattle.sound.proofs.Places.{Bounded, place_le, child_bounded}
use Rattle.sound.proofs.SoundRow.{is_bare, Other, bare, reference_other}

-- ---- the places of an expression

abbrev Placed : Expression → Type 0
Placed (number p) = p ≤ LONGEST
Placed (constant c p) = p ≤ LONGEST
Placed (question_named p q) = (p ≤ LONGEST) × (q ≤ LONGEST)
Placed (question_numbered p q) = (p ≤ LONGEST) × (q ≤ LONGEST)
Placed (rule_named p q) = (p ≤ LONGEST) × (q ≤ LONGEST)
Placed (negation p e) = (p ≤ LONGEST) × Placed e
Placed (binary o p l r) = (p ≤ LONGEST) × Placed l × Placed r

abbrev PlacedPending : Pending → Type 0
PlacedPending nothing = Unit {0}
PlacedPending (operator o p) = p ≤ LONGEST

among_placed : (os : List Operator) (k p : ℕ) → p ≤ LONGEST → PlacedPending (operator_among os (token k p))
among_placed [] k p h = tt
among_placed (o ∷ os) k p h =
    either (eqb (operator_class o) k) (λ e. rw (e, operator_among) h) (λ e. rw (e, operator_among) (among_placed os k p h))

joined_placed :
    (pending : Pending) (left right : Expression)
    → PlacedPending pending → Placed left → Placed right → Placed (joined pending left right)
joined_placed nothing left right p l r = r
joined_placed (operator o q) left right p l r = (p, l, r)

asked_placed : (p : ℕ) (c : Trees) → p ≤ LONGEST → Bounded c → Placed (asked p c)
asked_placed p c h b =
    let named = child_bounded 2 c b in
    either (eqb (chosen 2 c) 0)
    (λ e. rw (e, asked) (h, place_le 0 (child 2 c) named))
    (λ e. rw (e, asked) (h, place_le 0 (child 0 (child 2 c)) (child_bounded 0 (child 2 c) named)))

atom_placed : (i : ℕ) (c : Trees) (inner : Expression) → Bounded c → Placed inner → Placed (atom i c inner)
atom_placed i c inner b h =
    let p = place_le 0 c b in
    all_get_or {P = Placed} i
    (more (p, h) (more h (more p (more p (more p (more p (more p (more p
    (more (place_le 0 (child 0 c) (child_bounded 0 c b)) (more (asked_placed (place_at 0 c) c p b) (more (p, place_le 2 c b) none)))))))))))
    h

spelled_placed :
    (left : Expression) (pending : Pending) (f : Trees)
    → Bounded f → Placed left → PlacedPending pending → Placed (spelled left pending f)
spelled_placed left pending nil b l p = l
spelled_placed left pending (leaf (token k q) f) b l p = spelled_placed left _ f b.1 l (among_placed operators k q b.0)
spelled_placed left pending (node A i c f) b l p =
    let inner = spelled left nothing c in
    let within = spelled_placed left nothing c b.0 l tt in
    let right : Expression = elim (eqb A <atom>) [ true ↦ atom i c inner | false ↦ inner ] in
    let placed : Placed right = either (eqb A <atom>) (λ e. rw e (atom_placed i c inner b.0 within)) (λ e. rw e within) in
    spelled_placed (joined pending left right) nothing f b.1 (joined_placed pending left right p l placed) tt

-- ---- its rows

pub operator_bare : (o : Operator) → is_bare (operator_code o) ≡ true
unfolding is_question questions member
operator_bare or = refl
operator_bare and = refl
operator_bare bit_or = refl
operator_bare bit_and = refl
operator_bare equal = refl
operator_bare not_equal = refl
operator_bare less = refl
operator_bare less_equal = refl
operator_bare greater = refl
operator_bare greater_equal = refl
operator_bare shift_left = refl
operator_bare shift_right = refl
operator_bare add = refl
operator_bare subtract = refl
operator_bare multiply = refl
operator_bare divide = refl
operator_bare modulo = refl

pub constant_bare : (c : Constant) → is_bare (constant_code c) ≡ true
unfolding is_question questions member
constant_bare true' = refl
constant_bare false' = refl
constant_bare zero' = refl
constant_bare one' = refl
constant_bare ones' = refl
constant_bare undefined' = refl

module _ (value : ℕ → ℕ) (parent : ℕ) where
  -- a row that names nothing
  bare_operand : (k a p : ℕ) → is_bare k ≡ true → p ≤ LONGEST → Other (operand value parent k a p 0)
  bare_operand k a p b h = bare k parent 0 0 0 a 0 0 0 p b (omega arith) (omega arith) h

  rows_other : (e : Expression) → Placed e → All Other (expression_rows value parent e)
  unfolding is_question questions member
  rows_other (number p) h = more (bare_operand code.NUMBER (value p) p refl h) none
  rows_other (constant c p) h = more (bare_operand (constant_code c) 0 p (constant_bare c) h) none
  rows_other (question_named p q) h = more (reference_other value parent code.QUESTION_REF 0 p q refl (λ e. refl) h.0 h.1) none
  rows_other (question_numbered p q) h =
      more (reference_other value parent code.QUESTION_REF (value q) p q refl (λ e. clash cc) h.0 h.1) none
  rows_other (rule_named p q) h = more (reference_other value parent code.RULE_REF 0 p q refl (λ e. refl) h.0 h.1) none
  rows_other (negation p e) h = all_append (rows_other e h.1) (more (bare_operand code.NOT 0 p refl h.0) none)
  rows_other (binary o p l r) h =
      all_append (rows_other l h.1)
      (all_append (rows_other r h.2) (more (bare_operand (operator_code o) 0 p (operator_bare o) h.0) none))

  pub expression_other : (f : Trees) → Bounded f → All Other (expression_rows value parent (expression f))
  unfolding expression
  expression_other f b = rows_other (expression f) (spelled_placed (number 0) nothing f b (omega arith) tt)
