-- The nine levels of expressions are alike: what a reader that is told its level uses of the grammar, and of an operator.
-- Assumes nothing.
use Prim.Native.Nat.{ℕ, zero, suc, ◌<◌}
use mathlib.Core.Path.{◌≡◌, refl, sym, ◌∙◌, subst}
use mathlib.Core.Bool.{Bool, true, false}
use mathlib.Core.List.{List, [], ◌∷◌, map}
use mathlib.Core.Option.{Option, none, some}
use mathlib.Core.Logic.{◌⊎◌, inr, ◌≢◌}
use native.Mathlib.Omega.{arith}
use lib.Dec.{eqb}
use borrow.Author.Tests.{eqb-true, eqb-false}
use Rattle.lexemes.specs.Classes.{BAD}
use Rattle.ll1.specs.Trees.{token, alternative_of}
use Rattle.ll1.specs.ParseTable.{entry_of, predict, member, find, nullable}
use Rattle.ll1.specs.Test.{all, joined}
use Rattle.ll1.proofs.Basics.{clash, all_member, find_joined}
use Rattle.ll1.proofs.Lookups.{find_one}
use Rattle.grammar.specs.Rules.{level_rule, tail_rule, <atom>}
use Rattle.grammar.specs.Grammar.{rules}
use Rattle.grammar.specs.Notation.{t, r, plain}
use Rattle.grammar.specs.Lookahead.{lookahead}
use Rattle.grammar.specs.Ranges.{range_of}
use Rattle.answers.specs.Expression as expr
use Rattle.answers.specs.Expression.{Operator, operators, operator_class, operator_code, operator, operator_among}
use Rattle.fields.specs.Words.{pair, look_up, word_codes, code_of}
use Rattle.fields.specs.Operators.{LEVELS, operator_levels, level_of}
use Rattle.walk.proofs.TreeLaws.{Faultless, faultless}
use Rattle.walk.proofs.StatementSteps.{Told}

-- Q holds of each number below n
abbrev Below : (ℕ → Type 0) → ℕ → Type 0
Below Q zero = Unit {0}
Below Q (suc n) = Q n × Below Q n

below : (Q : ℕ → Type 0) (n : ℕ) → Below Q n → (i : ℕ) → i < n → Q i
below Q zero b i h = absurd (omega arith)
below Q (suc n) b i h = by (below Q n b.1 i) (eqb n i) refl
  where
    by : (i < n → Q i) → (t : Bool) → eqb n i ≡ t → Q i
    by f true e = subst Q (eqb-true n i e) b.0
    by f false e = f (let z : n ≢ i = eqb-false n i e in omega arith)

-- ---- the rules of a level and of its tail

-- at most one set tells an alternative
abbrev single : List (List ℕ) → Bool
single [] = true
single (f ∷ []) = true
single (f ∷ g ∷ l) = false

single_told : (l : List (List ℕ)) (k : ℕ) → single l ≡ true → (find l k ≡ some 0) ⊎ (find l k ≡ none)
single_told [] k h = inr refl
single_told (f ∷ []) k h = find_one f k
single_told (f ∷ g ∷ l) k h = clash cc

pub record Level (n : ℕ) : Type 0 where
  -- an operand of the next level, and the tail
  pub operand : alternative_of rules (level_rule n) 0 ≡ some (plain (r (level_rule (suc n)) ∷ r (tail_rule n) ∷ []))
  pub alone : single (entry_of lookahead (level_rule n)).firsts ≡ true
  pub present : nullable rules (level_rule n) ≡ false
  pub no_faults : Faultless (level_rule n) 0
  pub no_atom : eqb (level_rule n) <atom> ≡ false
  -- the tail is empty, or starts with an operator of the level
  pub empty : alternative_of rules (tail_rule n) 0 ≡ some (plain [])
  pub absent : nullable rules (tail_rule n) ≡ true
  pub no_faults_tail : (i : ℕ) → Faultless (tail_rule n) i
  pub no_atom_tail : eqb (tail_rule n) <atom> ≡ false
  pub only : all (λ k. eqb (level_of k) n) (joined (entry_of lookahead (tail_rule n)).firsts) ≡ true

-- from what is computed of the rules
level :
    {n : ℕ}
    → alternative_of rules (level_rule n) 0 ≡ some (plain (r (level_rule (suc n)) ∷ r (tail_rule n) ∷ []))
    → single (entry_of lookahead (level_rule n)).firsts ≡ true → nullable rules (level_rule n) ≡ false
    → Faultless (level_rule n) 0 → eqb (level_rule n) <atom> ≡ false
    → alternative_of rules (tail_rule n) 0 ≡ some (plain []) → nullable rules (tail_rule n) ≡ true
    → ((i : ℕ) → Faultless (tail_rule n) i) → eqb (tail_rule n) <atom> ≡ false
    → all (λ k. eqb (level_of k) n) (joined (entry_of lookahead (tail_rule n)).firsts) ≡ true → Level n
level a b c d e f g h i j =
    record {
      operand = a;
      alone = b;
      present = c;
      no_faults = d;
      no_atom = e;
      empty = f;
      absent = g;
      no_faults_tail = h;
      no_atom_tail = i;
      only = j;
    }

all_levels : Below Level LEVELS
unfolding rules lookahead range_of operator_levels level_of
all_levels = (
  level refl refl refl (faultless refl refl refl) refl refl refl (λ i. faultless refl refl refl) refl refl,
  (
    level refl refl refl (faultless refl refl refl) refl refl refl (λ i. faultless refl refl refl) refl refl,
    (
      level refl refl refl (faultless refl refl refl) refl refl refl (λ i. faultless refl refl refl) refl refl,
      (
        level refl refl refl (faultless refl refl refl) refl refl refl (λ i. faultless refl refl refl) refl refl,
        (
          level refl refl refl (faultless refl refl refl) refl refl refl (λ i. faultless refl refl refl) refl refl,
          (
            level refl refl refl (faultless refl refl refl) refl refl refl (λ i. faultless refl refl refl) refl refl,
            (
              level refl refl refl (faultless refl refl refl) refl refl refl (λ i. faultless refl refl refl) refl refl,
              (
                level refl refl refl (faultless refl refl refl) refl refl refl (λ i. faultless refl refl refl) refl refl,
                (
                  level refl refl refl (faultless refl refl refl) refl refl refl (λ i. faultless refl refl refl) refl refl,
                  tt,
                ),
              ),
            ),
          ),
        ),
      ),
    ),
  ),
)

pub level_is : (n : ℕ) → n < LEVELS → Level n
level_is = below Level LEVELS all_levels

pub level_told : (n k : ℕ) → n < LEVELS → Told (level_rule n) 0 k
level_told n k h = single_told (entry_of lookahead (level_rule n)).firsts k (level_is n h).alone

-- a token that is no operator of the level ends the tail
pub tail_ends : (n k : ℕ) → n < LEVELS → level_of k ≢ n → predict lookahead (tail_rule n) k ≡ none
tail_ends n k h e = by (predict lookahead (tail_rule n) k) refl
  where
    by : (o : Option ℕ) → predict lookahead (tail_rule n) k ≡ o → predict lookahead (tail_rule n) k ≡ none
    by none q = q
    by (some i) q =
        let firsts = (entry_of lookahead (tail_rule n)).firsts in
        let m : member k (joined firsts) ≡ true = sym (find_joined firsts k) ∙ rw q in
        absurd (e (eqb-true (level_of k) n (all_member (λ k. eqb (level_of k) n) (joined firsts) k (level_is n h).only m)))

-- ---- operators

pub record Operates (o : Operator) : Type 0 where
  pub way : ℕ
  pub known : operator_class o < BAD
  pub tells : predict lookahead (tail_rule (expr.level o)) (operator_class o) ≡ some way
  pub alternative : alternative_of rules (tail_rule (expr.level o)) way ≡ some (plain (t (operator_class o) ∷ r (level_rule (suc (expr.level o))) ∷ r (tail_rule (expr.level o)) ∷ []))
  pub among : (p : ℕ) → operator_among operators (token (operator_class o) p) ≡ operator o p
  pub code : code_of (operator_class o) ≡ operator_code o

pub operates : (o : Operator) → Operates o
unfolding rules lookahead word_codes code_of
operates expr.or = record { way = 1; known = omega arith; tells = refl; alternative = refl; among = λ p. refl; code = refl }
operates expr.and = record { way = 1; known = omega arith; tells = refl; alternative = refl; among = λ p. refl; code = refl }
operates expr.bit_or = record { way = 1; known = omega arith; tells = refl; alternative = refl; among = λ p. refl; code = refl }
operates expr.bit_and = record { way = 1; known = omega arith; tells = refl; alternative = refl; among = λ p. refl; code = refl }
operates expr.equal = record { way = 1; known = omega arith; tells = refl; alternative = refl; among = λ p. refl; code = refl }
operates expr.not_equal = record { way = 2; known = omega arith; tells = refl; alternative = refl; among = λ p. refl; code = refl }
operates expr.less = record { way = 1; known = omega arith; tells = refl; alternative = refl; among = λ p. refl; code = refl }
operates expr.less_equal = record { way = 2; known = omega arith; tells = refl; alternative = refl; among = λ p. refl; code = refl }
operates expr.greater = record { way = 3; known = omega arith; tells = refl; alternative = refl; among = λ p. refl; code = refl }
operates expr.greater_equal = record { way = 4; known = omega arith; tells = refl; alternative = refl; among = λ p. refl; code = refl }
operates expr.shift_left = record { way = 1; known = omega arith; tells = refl; alternative = refl; among = λ p. refl; code = refl }
operates expr.shift_right = record { way = 2; known = omega arith; tells = refl; alternative = refl; among = λ p. refl; code = refl }
operates expr.add = record { way = 1; known = omega arith; tells = refl; alternative = refl; among = λ p. refl; code = refl }
operates expr.subtract = record { way = 2; known = omega arith; tells = refl; alternative = refl; among = λ p. refl; code = refl }
operates expr.multiply = record { way = 1; known = omega arith; tells = refl; alternative = refl; among = λ p. refl; code = refl }
operates expr.divide = record { way = 2; known = omega arith; tells = refl; alternative = refl; among = λ p. refl; code = refl }
operates expr.modulo = record { way = 3; known = omega arith; tells = refl; alternative = refl; among = λ p. refl; code = refl }

-- the operator of a class that has a level
pub record Found (n k : ℕ) : Type 0 where
  pub operator : Operator
  pub class : operator_class operator ≡ k
  pub level : expr.level operator ≡ n

among_found : (l : List Operator) (n k : ℕ) → n ≢ LEVELS → look_up (map (λ o. pair (operator_class o) (expr.level o)) l) LEVELS k ≡ n → Found n k
among_found [] n k h e = absurd (h (sym e))
among_found (o ∷ l) n k h e = by (among_found l n k h) (eqb (operator_class o) k) refl
  where
    by : (look_up (map (λ o. pair (operator_class o) (expr.level o)) l) LEVELS k ≡ n → Found n k) → (b : Bool) → eqb (operator_class o) k ≡ b → Found n k
    by f true q = record { operator = o; class = eqb-true (operator_class o) k q; level = rw (q, look_up) at e }
    by f false q = f (rw (q, look_up) at e)

pub operator_found : (n k : ℕ) → n < LEVELS → level_of k ≡ n → Found n k
unfolding operator_levels level_of
operator_found n k h e = among_found operators n k (λ q. omega arith) e
