-- A table that holds the draft rows of a derivation's trees has the rows of their rules.
-- Assumes nothing.
use Prim.Native.Nat.{ℕ, suc, ◌+◌, ◌≤◌}
use native.Mathlib.Omega.{arith}
use mathlib.Core.Path.{◌≡◌, refl, sym, ◌∙◌}
use mathlib.Core.Bool.{true, not}
use mathlib.Core.List.{List, [], ◌∷◌, ◌++◌, append_assoc}
use lib.Dec.{eqb}
use lib.ListN.{length}
use borrow.Author.Tests.{eqb-true, not-true}
use Rattle.lexemes.proofs.Lists.{either}
use Rattle.rows.specs.Codes as code
use Rattle.rows.specs.Codes.{is_expression, expressions}
use Rattle.ll1.specs.Trees.{Trees, nil, node, Symbol, nonterminal, Fits, fits_nil, fits_leaf, fits_node}
use Rattle.ll1.proofs.Basics.{both}
use Rattle.grammar.specs.Rules.{<source>, <rule>}
use Rattle.grammar.specs.Grammar.{rules}
use Rattle.grammar.specs.Parts.{child}
use Rattle.grammar.specs.Positions.{rule_expression}
use Rattle.grammar.proofs.Alternatives.{at_alternative}
use Rattle.answers.specs.Expression.{Expression, expression}
use Rattle.answers.specs.Rows.{rules_in, drafts_of}
use Rattle.formulas.specs.Formula.{Formula, formula}
use Rattle.laid.specs.Items.{expressed}
use Rattle.laid.specs.Statements.{makes_row, code_of, inner_of}
use Rattle.laid.specs.Laid.{Inside, inside_expressed}
use Rattle.laid.proofs.Held.{Held}
use Rattle.laid.proofs.Expressions.{AllParts}
use Rattle.laid.proofs.HeldTrees.{no_source, no_source_under, Parts, StatementHeld, statement_held, plain_held, source_size, source_held}
use Rattle.laid.proofs.Forests.{inner_laid}
use Rattle.evaluate.specs.Spells.{Spells}
use Rattle.evaluate.proofs.Theorems.{spelled}
use Rattle.form_set_rules.specs.Rules.{rule_in, rules_of}
use Rattle.form_set_rules.proofs.Grammar.{other_code, Quiet, quiet_rule_lem}
use Rattle.form_set_rules.proofs.RuleRows.{Statement, RuleRows, no_rows, other_row, rule_row, first_plain}

module _ (t : List ℕ) (count : ℕ) (found : ℕ → List ℕ) (value : ℕ → ℕ) where
  rule_spelled : {i j : ℕ} {e : Expression} → Inside t count found i (expressed e) j → Spells t i (formula found e) j
  rule_spelled (inside_expressed s) = spelled s

  -- ---- a statement

  module _ {parent at n A i : ℕ} {c f : Trees} (h : StatementHeld t found value parent at n A i c f) where
    abbrev j : ℕ
    j = suc at + length h.others

    inside : Inside t count found (suc at) (inner_of A i c) j × AllParts t found at (suc at) j
    inside = inner_laid t count found value h.inner h.inner_held refl

    -- where the rows after it are statements'
    statement : {m : ℕ} {after : List Formula} → j ≤ count → RuleRows t count j m after → Statement t count at j
    statement room next =
        record {
          inside = omega arith;
          plain = rw h.code_is h.part;
          stretch = record { up = omega arith; within = λ k l d. (inside.1 k l d).part; ends = first_plain t count next; below = λ l. room };
          within = λ k l d. (inside.1 k (omega arith) d).parent_is;
        }

    -- a rule: the next number is its own, and its expression follows
    rule_first :
        {after : List Formula}
        → A ≡ <rule> → Quiet c → h.parts.k ≤ count
        → RuleRows t count h.parts.k h.parts.rules_before after
        → RuleRows t count at n (formula found (expression (child rule_expression c)) ∷ after)
    unfolding code_of
    rule_first {after} q quiet room next =
        let k : h.parts.k ≡ j = h.parts.k_is ∙ rw (quiet.rows value at j n) (omega arith) in
        let m : h.parts.rules_before ≡ suc n = h.parts.rules_are ∙ rw (q, quiet.count) (omega arith) in
        let follows : RuleRows t count j (suc n) after = rw (k, m) at next in
        let expressed_is : inner_of A i c ≡ expressed (expression (child rule_expression c)) = rw q in
        let code_is : code_of A i ≡ code.RULE = rw q in
        rule_row (statement (omega arith) follows) (h.code_is ∙ code_is) (h.own_is q)
        (rule_spelled (rw expressed_is at inside.0)) follows

  -- ---- trees, before others

  trees_rows :
      {σ : List Symbol} {f : Trees}
      → Fits rules σ f → no_source σ ≡ true
      → (parent at n e : ℕ)
      → e ≡ at + length (drafts_of value f parent at n) → e ≤ count → Held t found (drafts_of value f parent at n) at
      → {after : List Formula} → RuleRows t count e (n + rules_in f) after → RuleRows t count at n (rules_of found f ++ after)
  unfolding rules_of
  trees_rows fits_nil s parent at n e end room held next =
      let q : e ≡ at = omega arith in
      let m : n + 0 ≡ n = omega arith in
      rw (q, m) at next
  trees_rows (fits_leaf r) s parent at n e end room held next = trees_rows r s parent at n e end room held next
  trees_rows (fits_node {A = A} {i = i} {c = c} {f = f} eq r₁ r₂) s parent at n e end room held {after} next =
      let no_source_lem = both (not (eqb A <source>)) _ s in
      let none_under = at_alternative _ no_source_under eq in
      let more : List Formula = rules_of found f ++ after in
      -- the rules of what stands beside the tree, from the row k on
      let beside :
      (q j : ℕ) (p : Parts t found value parent at n A i c f q j)
      → RuleRows t count p.k p.rules_before more =
      λ q j p. let m : n + rules_in (node A i c f) ≡ p.rules_before + rules_in f = omega (arith, p.rules_are) in
      trees_rows r₂ no_source_lem.1 parent p.k p.rules_before e (omega (arith, end, p.end)) room p.after (rw m at next) in
      either (eqb A <rule>)
      (λ rule.
      let is : A ≡ <rule> = eqb-true A <rule> rule in
      let quiet = quiet_rule_lem i (rw is at eq) r₁ in
      let h = statement_held t found value parent at n A i c f eq (rw is) held in
      rw (rule, rule_in, quiet.rules found) (rule_first h is quiet (omega (arith, end, h.parts.end)) (beside _ _ h.parts)))
      (λ other.
      let regrouped : rules_of found (node A i c f) ++ after ≡ rules_of found c ++ more =
      rw (other, rule_in, append_assoc (rules_of found c) (rules_of found f) after) in
      let under :
      (q j : ℕ) (p : Parts t found value parent at n A i c f q j) → RuleRows t count j n (rules_of found c ++ more) =
      λ q j p. let m : p.rules_before ≡ n + rules_in c = p.rules_are ∙ rw other (omega arith) in
      trees_rows r₁ none_under q j n p.k p.k_is (omega (arith, end, p.end)) p.under (rw m at (beside q j p)) in
      rw regrouped (either (makes_row A)
      (λ made.
      let h = statement_held t found value parent at n A i c f eq made held in
      let within = under _ _ h.parts in
      other_row (statement h (omega (arith, end, h.parts.end, h.parts.k_is)) within) (λ q. other_code A i eq made other (sym h.code_is ∙ q)) within)
      (λ made.
      under _ _ (plain_held t found value parent at n A i c f made (not-true (eqb A <source>) no_source_lem.0) held))))

-- ---- the tree of a source

pub source_rows_lem :
    (t : List ℕ) (found : ℕ → List ℕ) (value : ℕ → ℕ) {tree : Trees}
    → Fits rules (nonterminal <source> ∷ []) tree
    → Held t found (drafts_of value tree 0 0 0) 0
    → RuleRows t (length (drafts_of value tree 0 0 0)) 0 0 (rules_of found tree)
unfolding rules_of is_expression expressions code.member
source_rows_lem t found value (fits_node {i = i} {c = c} e r fits_nil) held =
    let count = length (drafts_of value (node <source> i c nil) 0 0 0) in
    let size : count ≡ suc (length (drafts_of value c 0 1 0)) = source_size value i c in
    let rows = source_held value i c t found held in
    let no_source_lem = at_alternative _ no_source_under e in
    let under : RuleRows t count 1 0 (rules_of found c ++ []) =
    trees_rows t count found value r no_source_lem 0 1 0 count (omega (arith, size)) (omega arith) rows.1 no_rows in
    let first : Statement t count 0 1 =
    record {
      inside = omega (arith, size);
      plain = rw rows.0.code_is;
      stretch =
          record {
            up = omega arith;
            within = λ k l d. absurd (omega arith);
            ends = first_plain t count under;
            below = λ l. l;
          };
      within = λ k l d. absurd (omega arith);
    } in
    other_row first (λ q. omega (arith, q, rows.0.code_is)) under
