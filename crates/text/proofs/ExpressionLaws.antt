-- The last row of an expression tells what it is, and what is printed before it.
-- Assumes nothing.
use Prim.Native.Nat.{ℕ, suc, ◌+◌, ◌-◌, ◌*◌, ◌≤◌, ◌<◌}
use native.Mathlib.Omega.{arith}
use mathlib.Core.Path.{◌≡◌, refl, sym, ap, ◌∙◌}
use mathlib.Core.Bool.{true, false}
use mathlib.Core.List.{List, ◌++◌, append_assoc}
use lib.Dec.{ltb}
use lib.ListN.{length, length-append}
use borrow.Author.Tests.{lt-ltb, le-ltb}
use Rattle.lexemes.specs.Classes as class
use Rattle.lexemes.specs.Classes.{NAME}
use Rattle.lexemes.specs.Lexemes.{lexemes, signs, reserved}
use Rattle.rows.specs.Codes as code
use Rattle.rows.specs.Columns as column
use Rattle.rows.specs.Table.{row_at, cell_at}
use Rattle.answers.specs.Expression.{Expression, negation, binary, Operator, operator_code, operator_class, level, constant_class}
use Rattle.answers.specs.Text.{Word, lexeme, printed, text_of}
use Rattle.spellings.specs.declared.output.Output.{Output}
use Rattle.spellings.specs.Output.{MOST, end_of, PrintsBefore}
use Rattle.spellings.specs.Printed.{Printed, PrintedBefore}
use Rattle.statements.specs.Statements.{operand_words}
use Rattle.spellings.proofs.Outputs.{text_append, prints_then, print_before, counted_before, before_end, count_before}
use Rattle.laid.specs.Spans.{Spans, spans_number, spans_constant, spans_question_named, spans_question_numbered, spans_rule_named, spans_negation, spans_binary}
use Rattle.fields.specs.Operators.{LEVELS, code_class}
use Rattle.text.specs.Operators.{code_level, atom_words}
use Rattle.text.specs.Before.{PrintsCounted, ExpressionBefore, ExpressionCounted, ExpressionPrinted}
use Rattle.text.proofs.OperatorLaws.{operator_level, operator_class_lem, constant_class_lem, constant_level, level_low, constant_word, operator_not, constant_not, not_level, number_level, question_level, rule_level, number_class, question_class, rule_class}

-- ---- what the last row tells

module _ (found : ℕ → List ℕ) (t : List ℕ) where
  record IsNegation (first m : ℕ) (e : Expression) : Type 0 where
    pub place : ℕ
    pub inner : Expression
    pub is : e ≡ negation place inner
    pub spans : Spans found t first inner m

  record IsBinary (first m : ℕ) (e : Expression) : Type 0 where
    pub operator : Operator
    pub place : ℕ
    pub left : Expression
    pub right : Expression
    pub middle : ℕ
    pub is : e ≡ binary operator place left right
    pub code_is : cell_at t m column.CODE ≡ operator_code operator
    pub left_spans : Spans found t first left middle
    pub right_spans : Spans found t middle right m

  record IsAtom (first m : ℕ) (e : Expression) : Type 0 where
    pub one : first ≡ m
    pub words : (least : ℕ) → printed found least e ≡ atom_words (row_at t m)

  -- an expression has a row
  spans_some : {first n : ℕ} {e : Expression} → Spans found t first e n → 0 < n
  spans_some (spans_number c v) = omega arith
  spans_some (spans_constant k c) = omega arith
  spans_some (spans_question_named c v) = omega arith
  spans_some (spans_question_numbered c v) = omega arith
  spans_some (spans_rule_named c v) = omega arith
  spans_some (spans_negation s c) = omega arith
  spans_some (spans_binary o s r c) = omega arith

  is_negation : {first m : ℕ} {e : Expression} → Spans found t first e (suc m) → cell_at t m column.CODE ≡ code.NOT → IsNegation first m e
  is_negation (spans_number c v) h = absurd (omega arith)
  is_negation (spans_constant k c) h = absurd (constant_not k (sym c ∙ h))
  is_negation (spans_question_named c v) h = absurd (omega arith)
  is_negation (spans_question_numbered c v) h = absurd (omega arith)
  is_negation (spans_rule_named c v) h = absurd (omega arith)
  is_negation (spans_negation s c) h = record { place = _; inner = _; is = refl; spans = s }
  is_negation (spans_binary o s r c) h = absurd (operator_not o (sym c ∙ h))

  level_at : (m : ℕ) {k : ℕ} → cell_at t m column.CODE ≡ k → code_level k ≡ LEVELS → code_level (cell_at t m column.CODE) < LEVELS → ⊥
  level_at m e l h = let q : code_level (cell_at t m column.CODE) ≡ LEVELS = rw e l in omega arith

  is_binary_lem : {first m : ℕ} {e : Expression} → Spans found t first e (suc m) → code_level (cell_at t m column.CODE) < LEVELS → IsBinary first m e
  is_binary_lem (spans_number {i = i} c v) h = absurd (level_at i c number_level h)
  is_binary_lem (spans_constant {i = i} k c) h = absurd (level_at i c (constant_level k) h)
  is_binary_lem (spans_question_named {i = i} c v) h = absurd (level_at i c question_level h)
  is_binary_lem (spans_question_numbered {i = i} c v) h = absurd (level_at i c question_level h)
  is_binary_lem (spans_rule_named {i = i} c v) h = absurd (level_at i c rule_level h)
  is_binary_lem (spans_negation {j = j} s c) h = absurd (level_at j c not_level h)
  is_binary_lem (spans_binary o s r c) h = record { operator = o; place = _; left = _; right = _; middle = _; is = refl; code_is = c; left_spans = s; right_spans = r }

  -- a word that is no operator's or constant's
  operand_atom : (m : ℕ) {k : ℕ} → cell_at t m column.CODE ≡ k → code_class k ≡ NAME → atom_words (row_at t m) ≡ operand_words (row_at t m)
  unfolding atom_words
  operand_atom m e l = rw (e, l)

  is_atom : {first m : ℕ} {e : Expression} → Spans found t first e (suc m) → (cell_at t m column.CODE ≡ code.NOT → ⊥) → LEVELS ≤ code_level (cell_at t m column.CODE) → IsAtom first m e
  unfolding atom_words operand_words
  is_atom (spans_number {i = i} c v) n h = record { one = refl; words = λ least. sym (operand_atom i c number_class ∙ rw (c, v)) }
  is_atom (spans_constant {i = i} k c) n h = record { one = refl; words = λ least. sym (rw (c, constant_class_lem k, lt-ltb (constant_class k) NAME (constant_word k))) }
  is_atom (spans_question_named {i = i} c v) n h = record { one = refl; words = λ least. sym (operand_atom i c question_class ∙ rw (c, v)) }
  is_atom (spans_question_numbered {i = i} c v) n h = record { one = refl; words = λ least. sym (operand_atom i c question_class ∙ rw (c, v)) }
  is_atom (spans_rule_named {i = i} c v) n h = record { one = refl; words = λ least. sym (operand_atom i c rule_class ∙ rw (c, v)) }
  is_atom (spans_negation s c) n h = absurd (n c)
  is_atom (spans_binary {k = k} o s r c) n h = absurd (let q : code_level (cell_at t k column.CODE) ≡ level o = rw c (operator_level o) in omega (arith, level_low o))

-- the same words
pub as_words_before : {o o' : List ℕ} {end r : ℕ} {a b : List Word} → a ≡ b → PrintsBefore o end a o' r → PrintsBefore o end b o' r
as_words_before e p = rw (← e) p

-- ---- what is printed by the last row's code

-- nothing where there is no row
pub none_before : {t : List ℕ} {end : ℕ} {o : Output} (least : ℕ) → end ≡ 0 → ExpressionBefore t end least o o end
none_before {t} least z = record { prints = λ found first e s. absurd (omega (arith, spans_some found t s)); lent = refl; fewer = omega arith }

-- an operator between its operands
binary_before : (found : ℕ → List ℕ) (least l k p : ℕ) (op : Operator) (x y : Expression) {o o₁ o₂ o₃ : List ℕ} {end r₁ r₂ r₃ : ℕ} → ltb (level op) least ≡ false → l ≡ level op → k ≡ operator_class op
    → PrintsBefore o end (printed found (l + 1) y) o₁ r₁ → PrintsBefore o₁ r₁ (lexeme k) o₂ r₂ → PrintsBefore o₂ r₂ (printed found l x) o₃ r₃ → PrintsBefore o end (printed found least (binary op p x y)) o₃ r₃
binary_before found least l k p op x y g e f right word left =
    let n : suc (level op) ≡ l + 1 = omega arith in
    rw g (rw (append_assoc, n, ← e, ← f) (print_before (print_before right word) left))

module _ (t : List ℕ) (end : ℕ) {k : ℕ} (pos : 0 < end) (c : k ≡ cell_at t (end - 1) column.CODE) (least : ℕ) where
  last : {found : ℕ → List ℕ} {first : ℕ} {e : Expression} → Spans found t first e end → Spans found t first e (suc (end - 1))
  last s = let q : end ≡ suc (end - 1) = omega arith in rw q at s

  -- NOT and its operand
  pub not_before : {o o₁ o₂ : Output} {r : ℕ} → k ≡ code.NOT → ExpressionBefore t (end - 1) LEVELS o o₁ r → PrintedBefore o₁ (lexeme class.«NOT») o₂ → ExpressionBefore t end least o o₂ r
  unfolding lexemes signs reserved
  not_before n p w =
      record {
        prints = λ found first e s.
            let q = is_negation found t (last s) (sym c ∙ n) in
            let operand = p.prints found first q.inner q.spans in
            (rw q.is (print_before operand.0 w.prints), operand.1);
        lent = w.lent ∙ p.lent;
        fewer = let f = p.fewer in omega arith;
      }

  -- a constant, a number or a reference
  pub atom_before : {o o₁ : Output} → (k ≡ code.NOT → ⊥) → LEVELS ≤ code_level k → PrintedBefore o (atom_words (row_at t (end - 1))) o₁ → ExpressionBefore t end least o o₁ (end - 1)
  atom_before n l w =
      record {
        prints = λ found first e s.
            let q = is_atom found t (last s) (λ z. n (c ∙ z)) (rw c at l) in
            (rw (q.words least) w.prints, sym q.one);
        lent = w.lent;
        fewer = omega arith;
      }

  module _ {l : ℕ} (v : l ≡ code_level k) (binary_one : l < LEVELS) where
    low : code_level (cell_at t (end - 1) column.CODE) < LEVELS
    low = let q : l ≡ code_level (cell_at t (end - 1) column.CODE) = v ∙ rw c in omega arith

    level_is : (o : Operator) → cell_at t (end - 1) column.CODE ≡ operator_code o → l ≡ level o
    level_is o e = v ∙ rw (c, e) (operator_level o)

    -- an operator in parentheses
    pub group_before : {o o₁ o₂ o₃ : Output} {r : ℕ} → l < least → PrintedBefore o (lexeme class.close_paren) o₁ → ExpressionBefore t end 0 o₁ o₂ r → PrintedBefore o₂ (lexeme class.open_paren) o₃ → ExpressionBefore t end least o o₃ r
    unfolding lexemes signs reserved
    group_before h w p v =
        record {
          prints = λ found first e s.
              let q = is_binary_lem found t (last s) low in
              let whole = p.prints found first e s in
              let g : ltb (level q.operator) least ≡ true = rw (← level_is q.operator q.code_is) (lt-ltb l least h) in
              let z : ltb (level q.operator) 0 ≡ false = le-ltb (level q.operator) 0 (omega arith) in
              (rw (q.is, g) (rw append_assoc (print_before (print_before w.prints (rw (q.is, z) at whole.0)) v.prints)), whole.1);
          lent = v.lent ∙ p.lent ∙ w.lent;
          fewer = p.fewer;
        }

    -- an operator with its right operand, where its left one follows
    pub operator_before : {o o₁ o₂ o₃ : Output} {middle r f : ℕ} → least ≤ l → ExpressionBefore t (end - 1) (l + 1) o o₁ middle → f ≡ code_class k → PrintedBefore o₁ (lexeme f) o₂ → ExpressionBefore t middle l o₂ o₃ r → ExpressionBefore t end least o o₃ r
    operator_before {f = n₁} h p f w p₂ =
        record {
          prints = λ found first e s.
              let q = is_binary_lem found t (last s) low in
              let lv : l ≡ level q.operator = level_is q.operator q.code_is in
              let right = p.prints found q.middle q.right q.right_spans in
              let left = p₂.prints found first q.left (rw right.1 q.left_spans) in
              let g : ltb (level q.operator) least ≡ false = le-ltb (level q.operator) least (omega arith) in
              let j : n₁ ≡ operator_class q.operator = f ∙ ap code_class (c ∙ q.code_is) ∙ operator_class_lem q.operator in
              (rw q.is (binary_before found least l n₁ q.place q.operator q.left q.right g lv j right.0 w.prints left.0), left.1);
          lent = p₂.lent ∙ w.lent ∙ p.lent;
          fewer = let f₁ = p.fewer in let f₂ = p₂.fewer in omega arith;
        }

-- ---- the left operands, one after another: whoever prints the rest from here prints the whole

pub record Spine (t : List ℕ) (end least : ℕ) (o : Output) (end' least' : ℕ) (o' : Output) : Type 0 where
  pub low : least' ≤ LEVELS
  pub fall : end' * 10 + least' ≤ end * 10 + least
  pub rest : {o'' : Output} {r : ℕ} → ExpressionBefore t end' least' o' o'' r → ExpressionBefore t end least o o'' r

pub spine_none : {t : List ℕ} {o : Output} {end least : ℕ} → least ≤ LEVELS → Spine t end least o end least o
spine_none l = record { low = l; fall = omega arith; rest = λ p. p }

pub spine_more : {t : List ℕ} {o o₁ o₂ : Output} {end end₁ end₂ least least₁ l : ℕ} → Spine t end least o end₁ least₁ o₁ → l < LEVELS → end₂ < end₁
    → ((o'' : Output) (r : ℕ) → ExpressionBefore t end₂ l o₂ o'' r → ExpressionBefore t end₁ least₁ o₁ o'' r) → Spine t end least o end₂ l o₂
spine_more s l f p = record { low = omega arith; fall = omega (arith, s.fall); rest = λ q. s.rest (p _ _ q) }

-- ---- operands before what is printed: they are counted, and then written from where they start

pub operand_before : {o o₁ o₂ o₃ : Output} {ws : List Word} {start : ℕ} → Printed o₁ ws o₂ → o₁.at ≡ 0 → start ≡ o.at - o₂.at → Printed (record { bytes = o.bytes; at = start }) ws o₃
    → PrintedBefore o ws (record { bytes = o₃.bytes; at = start })
operand_before p z e q = record { prints = record { puts = counted_before (rw z at p.prints.puts) e q.prints.puts }; lent = q.lent }

-- ---- a whole expression

pub counted : {t : List ℕ} {o o' : Output} {end n r : ℕ} → ExpressionBefore t end 0 o o' r → o.at ≡ MOST → n ≡ MOST - o'.at → ExpressionCounted t end n
counted p z e = record { counts = λ found first x s h. count_before h (rw z at (p.prints found first x s).0.puts) e }

pub expression_printed : {t : List ℕ} {o o' : Output} {end n last r : ℕ} → ExpressionCounted t end n → last ≡ end_of o.at n → ExpressionBefore t end 0 (record { bytes = o.bytes; at = last }) o' r
    → ExpressionPrinted t end o (record { bytes = o'.bytes; at = last })
expression_printed {o = o} {n = n} {last = last} k f p =
    record {
      prints = λ found first x s. record {
        prints = λ h.
            let bs = text_of (printed found 0 x) in
            let e : n ≡ length bs = k.counts found first x s (omega arith) in
            record { puts = before_end (rw e at f) (p.prints found first x s).0.puts (λ l. absurd (omega arith)) };
      };
      lent = p.lent;
    }

-- ---- words one after another, where all are counted

pub counts : {o o' : Output} {ws : List Word} → Printed o ws o' → PrintsCounted o ws o'
counts p = record { prints = λ h. p.prints }

pub counted_then : {o o₁ o₂ : Output} {a b : List Word} → PrintsCounted o a o₁ → PrintsCounted o₁ b o₂ → PrintsCounted o (a ++ b) o₂
counted_then {a = a} {b = b} p q =
    record {
      prints = λ h.
          let n = ap length (text_append a b) ∙ length-append (text_of a) (text_of b) in
          let first = p.prints (omega (arith, n)) in
          prints_then first (q.prints (omega (arith, n, first.puts.end)));
    }
