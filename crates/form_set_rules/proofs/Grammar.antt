-- What the grammar tells of rules: a rule's row alone has its code, a rule has an expression, and no statement stands in one.
-- Assumes nothing.
use Prim.Native.Nat.{ℕ, ◌+◌}
use mathlib.Core.Path.{◌≡◌, refl}
use mathlib.Core.Logic.{◌≢◌}
use mathlib.Core.Option.{some}
use mathlib.Core.Bool.{Bool, true, false, not, ◌&&◌, ◌||◌}
use mathlib.Core.List.{List, [], ◌∷◌}
use lib.Dec.{eqb}
use borrow.Author.Tests.{eqb-false, not-true, ne_eqb}
use Rattle.rows.specs.Codes as code
use Rattle.ll1.specs.Trees.{Trees, Symbol, terminal, nonterminal, Alternative, alternative_of, Fits, fits_nil, fits_leaf, fits_node}
use Rattle.ll1.specs.ParseTable.{member}
use Rattle.ll1.proofs.Basics.{clash, both, implied}
use Rattle.grammar.specs.Rules.{<source>, <form>*, <item_or_rule>*, <rule>, <option>*, <item>*, <expression>}
use Rattle.grammar.specs.Grammar.{rules}
use Rattle.grammar.specs.Positions.{rule_expression}
use Rattle.grammar.proofs.Alternatives.{everywhere, at_alternative}
use Rattle.answers.specs.Rows.{rules_in, parent_in, drafts_of}
use Rattle.formulas.specs.Expressions.{rule_at}
use Rattle.laid.specs.Statements.{makes_row, item_codes, code_of}
use Rattle.laid.proofs.OwnRows.{no_statement_lem, none_of_lem}
use Rattle.form_set_rules.specs.Rules.{rule_in, rules_of}

-- ---- which statements are rules

only_rules : everywhere (λ A i a. eqb A <rule> || not (makes_row A) || not (eqb (code_of A i) code.RULE)) ≡ true
unfolding rules code_of item_codes
only_rules = refl

rule_expression_lem : everywhere (λ A i a. not (eqb A <rule>) || rule_at rule_expression <expression> a.symbols) ≡ true
unfolding rules
rule_expression_lem = refl

module _ (A i : ℕ) {a : Alternative} (e : alternative_of rules A i ≡ some a) where
  -- a statement that is no rule has another code
  pub other_code : makes_row A ≡ true → eqb A <rule> ≡ false → code_of A i ≢ code.RULE
  other_code made other =
      let z : not (eqb (code_of A i) code.RULE) ≡ true = rw (other, made) at (at_alternative _ only_rules e) in
      eqb-false (code_of A i) code.RULE (not-true (eqb (code_of A i) code.RULE) z)

  -- a rule has an expression
  pub has_expression : eqb A <rule> ≡ true → rule_at rule_expression <expression> a.symbols ≡ true
  has_expression rule = implied (eqb A <rule>) _ (at_alternative _ rule_expression_lem e) rule

-- ---- no statement stands in a rule

-- neither a statement nor a list of statements
abbrev is_part : ℕ → Bool
is_part A = not (makes_row A) && not (member A (<source> ∷ <form>* ∷ <item_or_rule>* ∷ <option>* ∷ <item>* ∷ []))

abbrev all_parts : List Symbol → Bool
all_parts [] = true
all_parts (terminal k ∷ σ) = all_parts σ
all_parts (nonterminal A ∷ σ) = is_part A && all_parts σ

parts_under : everywhere (λ A i a. not (is_part A || eqb A <rule>) || all_parts a.symbols) ≡ true
unfolding rules
parts_under = refl

-- trees without statements
pub record Quiet (f : Trees) : Type 0 where
  pub rows : (value : ℕ → ℕ) (parent at n : ℕ) → drafts_of value f parent at n ≡ []
  pub rules : (look : ℕ → List ℕ) → rules_of look f ≡ []
  pub count : rules_in f ≡ 0

quiet : {σ : List Symbol} {f : Trees} → Fits rules σ f → all_parts σ ≡ true → Quiet f
unfolding rules_of
quiet fits_nil h = record { rows = λ value parent at n. refl; rules = λ look. refl; count = refl }
quiet (fits_leaf r) h = let q = quiet r h in record { rows = q.rows; rules = q.rules; count = q.count }
quiet (fits_node {A = A} {i = i} {c = c} {f = f} e r₁ r₂) h =
    let both_parts = both (is_part A) _ h in
    let part = both (not (makes_row A)) _ both_parts.0 in
    let made : makes_row A ≡ false = not-true (makes_row A) part.0 in
    let source : eqb A <source> ≡ false = ne_eqb A <source> (λ q. clash (let z : false ≡ true = rw q at part.1 in cc)) in
    let rule : eqb A <rule> ≡ false = no_statement_lem A <rule> made refl in
    let under = quiet r₁ (implied (is_part A || eqb A <rule>) _ (at_alternative _ parts_under e) (rw both_parts.0)) in
    let beside = quiet r₂ both_parts.1 in
    record {
      rows = λ value parent at n.
          let own = none_of_lem value parent at n A i c made source in
          rw (own, under.rows value parent (at + 0) n, parent_in, beside.rows value parent (at + 0) _);
      rules = λ look. rw (rule, rule_in, under.rules look, beside.rules look);
      count = rw (rule, under.count, beside.count);
    }

-- what stands in a rule has none
pub quiet_rule_lem : (i : ℕ) {a : Alternative} {c : Trees} → alternative_of rules <rule> i ≡ some a → Fits rules a.symbols c → Quiet c
quiet_rule_lem i e r = quiet r (at_alternative _ parts_under e)
