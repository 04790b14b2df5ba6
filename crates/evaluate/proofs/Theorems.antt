-- What the rows of an expression are evaluated to is what the expression means (document 02, W-202).
use Prim.Native.Nat.{ℕ, ◌≤◌}
use native.Mathlib.Omega.{arith}
use mathlib.Core.Path.{◌≡◌, ap, ◌∙◌}
use mathlib.Core.List.{List, [], ◌∷◌}
use Rattle.ll1.specs.Trees.{Token, Trees}
use Rattle.grammar.specs.Derivation.{Derives, NowhereTooDeep}
use Rattle.answers.specs.Expression.{Expression, expression}
use Rattle.answers.specs.WholeAnswer.{read_answer, read_table}
use Rattle.answers.specs.Demand3.{Sound}
use Rattle.operators.specs.declared.Scalar.{Scalar}
use Rattle.formulas.specs.Formula.{Formula, formula}
use Rattle.formulas.specs.Need.{need}
use Rattle.formulas.specs.Expressions.{ExpressionIn, Shallow}
use Rattle.formulas.proofs.Theorems.{expressions_shallow, accepted_shallow}
use Rattle.laid.specs.Spans.{Spans, spans_number, spans_constant, spans_question_named, spans_question_numbered, spans_rule_named}
use Rattle.laid.specs.Spans.{spans_negation, spans_binary}
use Rattle.laid.proofs.Theorems.{row_of}
use Rattle.meaning.specs.Meaning.{meaning}
use Rattle.stored.specs.Stored.{value_at}
use Rattle.saved_answers.specs.Answers.{Ascending, answered}
use Rattle.saved_answers.specs.Search.{question_value}
use Rattle.saved_answers.proofs.Theorems.{value_answered}
use Rattle.evaluate.specs.Spells.{Spells, spells_number, spells_constant, spells_question, spells_rule, spells_not, spells_binary}
use Rattle.evaluate.specs.Machine.{ROOM, top, evaluated}
use Rattle.evaluate.specs.Lent.{value_in}
use Rattle.evaluate.proofs.MachineLaws.{before_none, meant}

-- the rows of an expression of the source spell its values
pub spelled : {found : ℕ → List ℕ} {t : List ℕ} {i j : ℕ} {e : Expression} → Spans found t i e j → Spells t i (formula found e) j
spelled (spans_number k a) = spells_number k a
spelled (spans_constant c k) = spells_constant c k
spelled (spans_question_named k a) = spells_question k a
spelled (spans_question_numbered k a) = spells_question k a
spelled (spans_rule_named k a) = spells_rule k a
spelled (spans_negation s k) = spells_not (spelled s) k
spelled (spans_binary o s u k) = spells_binary o (spelled s) (spelled u) k

-- whatever the questions answer and the rules are worth
module _ (questions rules : ℕ → Scalar) where
  -- where the rows spell an expression and the stack has room for it
  pub evaluated_meaning :
      {room : ℕ} {t : List ℕ} {first end : ℕ} {e : Formula} → Spells t first e end → need e ≤ room
      → evaluated questions rules room t first end ≡ meaning questions rules e
  unfolding evaluated
  evaluated_meaning {room} {t} {first} {end} {e} s h =
      let v = meaning questions rules e in
      ap top (meant questions rules room t s end [] (omega arith) (omega arith) ∙ before_none questions rules room t end end (v ∷ []) (omega arith))

  -- where they are those of an expression of a source that goes no deeper than one of an accepted source
  pub shallow_meaning :
      {found : ℕ → List ℕ} {t : List ℕ} {i j : ℕ} {e : Expression} → Spans found t i e j → Shallow (formula found e)
      → evaluated questions rules ROOM t i j ≡ meaning questions rules (formula found e)
  shallow_meaning s shallow = evaluated_meaning (spelled s) (omega (arith, shallow.levels))

  -- every expression of a derivation that is nowhere too deep, in any table that has its rows
  pub expression_meaning :
      {ts : List Token} {tree c : Trees} {found : ℕ → List ℕ} {t : List ℕ} {i j : ℕ}
      → Derives ts tree → NowhereTooDeep tree → ExpressionIn c tree → Spans found t i (expression c) j
      → evaluated questions rules ROOM t i j ≡ meaning questions rules (formula found (expression c))
  expression_meaning {found = found} derives deep k s = shallow_meaning s (expressions_shallow found derives deep k)

  -- an accepted source has a derivation (the only one, as `grammar` shows); and every expression in it, in the table of n numbers that reading leaves,
  -- with the values of the finished rows
  pub accepted_meaning :
      (s : List ℕ) (n : ℕ) → (read_answer s n).number ≡ 0
      → (tree : Trees)
      × ((sound : Sound s tree)
      × ((c : Trees) (i j : ℕ) → ExpressionIn c tree → Spans (row_of s n tree sound.derives) (read_table s n) i (expression c) j
      → evaluated questions rules ROOM (read_table s n) i j ≡ meaning questions rules (formula (row_of s n tree sound.derives) (expression c))))
  accepted_meaning s n accepted =
      let w = accepted_shallow s n accepted in
      (w.0, (w.1, λ c i j k z. expression_meaning w.1.derives w.1.depths k z))

-- and for ascending answers the code's questions answer what W-202 says: so of the value that the code gives
module _ (answers gotos checkboxes : List ℕ) (rules : List Scalar) (ascending : Ascending answers) where
  pub value_meaning :
      {t : List ℕ} {first end : ℕ} {e : Formula} → Spells t first e end → need e ≤ ROOM
      → value_in answers gotos checkboxes rules t first end ≡ meaning (answered answers gotos checkboxes) (value_at rules) e
  value_meaning {e = e} s h =
      evaluated_meaning (question_value answers gotos checkboxes) (value_at rules) s h
      ∙ ap (λ questions. meaning questions (value_at rules) e) (value_answered answers ascending gotos checkboxes)
