-- The rules of a derivation have the own numbers 1, 2, .. in the order of their rows.
-- Assumes nothing.
use mathlib.Core.Path.{◌≡◌, refl, sym, ◌∙◌}
use mathlib.Core.List.{List, [], ◌∷◌, ◌++◌}
use mathlib.Core.Bool.{Bool, true, false, not, ◌&&◌, ◌||◌, or-true, false≢true}
use Prim.Native.Nat.{ℕ, zero, suc, ◌+◌, ◌<◌}
use native.Mathlib.Omega.{arith}
use lib.Dec.{eqb, ltb}
use borrow.Author.Tests.{eqb-true}
use Rattle.lexemes.proofs.Lists.{either}
use Rattle.numbers.specs.Numbers.{mem}
use Rattle.rows.specs.Codes as code
use Rattle.ll1.specs.Trees.{Trees, nil, node, Symbol, terminal, nonterminal, Fits, fits_nil, fits_leaf, fits_node}
use Rattle.ll1.specs.ParseTable.{member}
use Rattle.ll1.proofs.Basics.{both, implied}
use Rattle.grammar.specs.Rules.{<source>, <form>*, <form>, <item_or_rule>*, <rule>, <item>, <option>*, <item>*, <option>}
use Rattle.grammar.specs.Grammar.{rules}
use Rattle.grammar.specs.Derivation.{Derives}
use Rattle.grammar.specs.Source.{source_tokens, number_at}
use Rattle.grammar.specs.Parts.{child}
use Rattle.answers.specs.Expression.{Expression, number, constant, question_named, question_numbered, rule_named, negation, binary, expression}
use Rattle.answers.specs.Rows.{Draft, rules_in, item, operand, expression_rows, condition, otherwise, own_rows, drafts_of}
use Rattle.answers.specs.Stages.{is}
use Rattle.answers.specs.Answer.{drafts}
use Rattle.answers.proofs.RuleForms.{operator_no_rule, constant_no_rule}
use Rattle.grammar.proofs.Alternatives.{everywhere, at_alternative}
use Rattle.sound.proofs.Lists.{apart}
use Rattle.again.proofs.Owns.{owns_append}
use Rattle.again.specs.RuleNumbers.{owns_of, rule_numbers, From, at_end, one_more}

-- ---- numbers that count on

from_append : {n m k : ℕ} {a b : List ℕ} → From n a m → From m b k → From n (a ++ b) k
from_append at_end q = q
from_append (one_more p) q = one_more (from_append p q)

from_to : {n m k : ℕ} {a b : List ℕ} → m ≡ k → a ≡ b → From n a m → From n b k
from_to e f p = rw (← e, ← f) p

pub from_above : {n m : ℕ} {l : List ℕ} → From n l m → (k : ℕ) → mem k l ≡ true → n < k
unfolding mem
from_above at_end k h = absurd (false≢true h)
from_above (one_more {n = n} {l = l} p) k h =
    either (eqb k (suc n)) (λ e. omega (arith, eqb-true k (suc n) e)) (λ e. let later : mem k l ≡ true = rw e at h in omega (arith, from_above p k later))

-- ---- rows that are no rules

module _ (value : ℕ → ℕ) where
  abbrev None : List Draft → Type 0
  None ds = rule_numbers ds ≡ []

  none_append : (ds es : List Draft) → None ds → None es → None (ds ++ es)
  none_append ds es p q = owns_append (is code.RULE) ds es ∙ rw (p, q)

  operand_none : (parent k a place at : ℕ) → eqb k code.RULE ≡ false → None (operand value parent k a place at ∷ [])
  unfolding owns_of
  operand_none parent k a place at h = rw h

  expression_none : (parent : ℕ) (e : Expression) → None (expression_rows value parent e)
  expression_none parent (number p) = operand_none parent _ _ p _ refl
  expression_none parent (constant c p) = operand_none parent _ _ p _ (constant_no_rule c)
  expression_none parent (question_named p q) = operand_none parent _ _ p _ refl
  expression_none parent (question_numbered p q) = operand_none parent _ _ p _ refl
  expression_none parent (rule_named p q) = operand_none parent _ _ p _ refl
  expression_none parent (negation p e) = none_append (expression_rows value parent e) _ (expression_none parent e) (operand_none parent _ _ p _ refl)
  expression_none parent (binary o p l r) =
      none_append (expression_rows value parent l) _ (expression_none parent l)
      (none_append (expression_rows value parent r) _ (expression_none parent r) (operand_none parent _ _ p _ (operator_no_rule o)))

  item_other : (parent i : ℕ) (c : Trees) → is code.RULE (item value parent i c) ≡ false
  item_other parent zero c = refl
  item_other parent (suc zero) c = refl
  item_other parent (suc (suc zero)) c = refl
  item_other parent (suc (suc (suc zero))) c = refl
  item_other parent (suc (suc (suc (suc zero)))) c = refl
  item_other parent (suc (suc (suc (suc (suc zero))))) c = refl
  item_other parent (suc (suc (suc (suc (suc (suc zero)))))) c = refl
  item_other parent (suc (suc (suc (suc (suc (suc (suc zero))))))) c = refl
  item_other parent (suc (suc (suc (suc (suc (suc (suc (suc zero)))))))) c = refl
  item_other parent (suc (suc (suc (suc (suc (suc (suc (suc (suc zero))))))))) c = refl
  item_other parent (suc (suc (suc (suc (suc (suc (suc (suc (suc (suc i)))))))))) c = refl

  item_none : (parent at i : ℕ) (c : Trees) → None (item value parent i c ∷ condition value at i c)
  unfolding owns_of
  item_none parent at i c =
      rw (item_other parent i c)
      (either (ltb 6 i) (λ e. rw (e, condition) (expression_none at (expression (child 1 c)))) (λ e. rw (e, condition)))

  -- of all trees only a rule has such a row of its own
  own_none : (A i : ℕ) (c : Trees) (parent at n : ℕ) → eqb A <rule> ≡ false → None (own_rows value parent at n A i c)
  unfolding owns_of
  own_none A i c parent at n h =
      either (eqb A <item>)
      (λ e. rw (e, otherwise) (item_none parent at i c))
      (λ e. rw (e, otherwise) (either (eqb A <option>) (λ e. rw (e, otherwise))
      (λ e. rw (e, otherwise, h) (either (eqb A <form>) (λ e. rw (e, otherwise))
      (λ e. rw (e, otherwise) (either (eqb A <source>) (λ e. rw (e, otherwise)) (λ e. rw (e, otherwise))))))))

-- ---- no rule stands under a rule

-- the rules of statements and of their lists
abbrev statements : List ℕ
statements = <source> ∷ <form>* ∷ <form> ∷ <item_or_rule>* ∷ <rule> ∷ <item> ∷ <option>* ∷ <item>* ∷ <option> ∷ []

abbrev no_statement : List Symbol → Bool
no_statement [] = true
no_statement (terminal k ∷ σ) = no_statement σ
no_statement (nonterminal A ∷ σ) = not (member A statements) && no_statement σ

none_under : everywhere (λ A i a. not (not (member A statements) || eqb A <rule>) || no_statement a.symbols) ≡ true
unfolding rules
none_under = refl

module _ (value : ℕ → ℕ) where
  record Ruleless (f : Trees) : Type 0 where
    rows : (parent at n : ℕ) → None value (drafts_of value f parent at n)
    count : rules_in f ≡ 0

  ruleless : {σ : List Symbol} {f : Trees} → Fits rules σ f → no_statement σ ≡ true → Ruleless f
  unfolding owns_of
  ruleless fits_nil h = record { rows = λ parent at n. refl; count = refl }
  ruleless (fits_leaf r) h = let t = ruleless r h in record { rows = t.rows; count = t.count }
  ruleless (fits_node {A = A} {i = i} {c = c} {f = f} e r₁ r₂) h =
      let t = both (not (member A statements)) _ h in
      let other : eqb A <rule> ≡ false = apart (λ B. not (member B statements)) A <rule> t.0 refl in
      let under = ruleless r₁ (implied (not (member A statements) || eqb A <rule>) _ (at_alternative _ none_under e) (rw t.0)) in
      let beside = ruleless r₂ t.1 in
      record {
        rows = λ parent at n.
            none_append value (own_rows value parent at n A i c ++ _) _
            (none_append value (own_rows value parent at n A i c) _ (own_none value A i c parent at n other) (under.rows _ _ _))
            (beside.rows _ _ _);
        count = rw (other, under.count, beside.count);
      }

  -- ---- all rows

  three_from : (a b c : List Draft) {n m k l : ℕ} → From n (rule_numbers a) m → From m (rule_numbers b) k → From k (rule_numbers c) l → From n (rule_numbers ((a ++ b) ++ c)) l
  three_from a b c p q r = rw (owns_append (is code.RULE) (a ++ b) c, owns_append (is code.RULE) a b) (from_append (from_append p q) r)

  -- a rule's own rows: the next number
  rule_own : (i : ℕ) (c : Trees) (parent at n : ℕ) → From n (rule_numbers (own_rows value parent at n <rule> i c)) (suc n)
  unfolding owns_of
  rule_own i c parent at n = rw (expression_none value at (expression (child 3 c))) (one_more at_end)

  -- the rules before what stands beside a node
  abbrev past : ℕ → ℕ → ℕ → Trees → ℕ
  past n A i c = n + rules_in (node A i c nil)

  past_other : (n A i : ℕ) (c : Trees) → eqb A <rule> ≡ false → n + rules_in c ≡ past n A i c
  past_other n A i c h = rw h (omega arith)

  past_rule : (n i : ℕ) (c : Trees) → rules_in c ≡ 0 → suc n ≡ past n <rule> i c
  past_rule n i c h = rw h (omega arith)

  pub rules_from : {σ : List Symbol} {f : Trees} → Fits rules σ f → (parent at n : ℕ) → From n (rule_numbers (drafts_of value f parent at n)) (n + rules_in f)
  unfolding owns_of
  rules_from fits_nil parent at n = from_to (omega arith) refl at_end
  rules_from (fits_leaf r) parent at n = rules_from r parent at n
  rules_from (fits_node {A = A} {i = i} {a = a} {c = c} {f = f} e r₁ r₂) parent at n =
      let beside : (p q : ℕ) → From (past n A i c) (rule_numbers (drafts_of value f p q (past n A i c))) (n + rules_in (node A i c f)) =
      λ p q. from_to (omega arith) refl (rules_from r₂ p q (past n A i c)) in
      either (eqb A <rule>)
      (λ h.
      let alone = ruleless r₁ (implied (not (member A statements) || eqb A <rule>) _ (at_alternative _ none_under e) (rw h (or-true (not (member A statements))))) in
      let own : From n (rule_numbers (own_rows value parent at n A i c)) (suc n) = rw (eqb-true A <rule> h) (rule_own i c parent at n) in
      three_from (own_rows value parent at n A i c) _ _ own (from_to (past_is h alone.count) (sym (alone.rows _ _ _)) at_end) (beside _ _))
      (λ h.
      let own : From n (rule_numbers (own_rows value parent at n A i c)) n = rw (own_none value A i c parent at n h) at_end in
      three_from (own_rows value parent at n A i c) _ _ own (from_to (past_other n A i c h) refl (rules_from r₁ _ _ n)) (beside _ _))
    where
      past_is : eqb A <rule> ≡ true → rules_in c ≡ 0 → suc n ≡ past n A i c
      past_is h k = rw (eqb-true A <rule> h) (past_rule n i c k)

-- the rules of a derivation count from 1
pub rules_count : (s : List ℕ) (tree : Trees) → Derives (source_tokens s) tree → From 0 (rule_numbers (drafts s tree)) (rules_in tree)
unfolding drafts
rules_count s tree derives = from_to (omega arith) refl (rules_from (number_at s) derives.fits 0 0 0)
