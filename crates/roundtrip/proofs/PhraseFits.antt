-- The shape of each statement fits the grammar, where its depth is allowed.
-- Assumes nothing.
use mathlib.Core.Path.{◌≡◌, refl, ap}
use mathlib.Core.List.{List, [], ◌∷◌}
use mathlib.Core.Option.{some}
use mathlib.Core.Bool.{Bool, true, false, not}
use Prim.Native.Nat.{ℕ, suc, ◌+◌, ◌≤◌}
use native.Mathlib.Omega.{arith}
use lib.Dec.{eqb}
use lib.ListN.{get_or, get_elem?}
use Rattle.lexemes.specs.Classes as class
use Rattle.rows.specs.Columns as column
use Rattle.rows.specs.Flags as flag
use Rattle.ll1.specs.Trees.{token, Trees, nil, leaf, node, Symbol, nonterminal, alternative_of, Depth, depth}
use Rattle.grammar.specs.Notation.{t, r, plain, optional}
use Rattle.grammar.specs.Rules.{<source>, <form>*, <guid>, <str>, <form>, <item_or_rule>*, <rule>, <item>, <goto_flags>?, <flags>?, <truth_default>?, <truth>, <step>?, <number_default>?, <option>*, <item>*, <option>, <option_flags>, <head>, <numeric_flags>?}
use Rattle.grammar.specs.Flags.{FlagWord}
use Rattle.grammar.specs.Grammar.{rules}
use Rattle.grammar.specs.Derivation.{too_deep}
use Rattle.answers.specs.Text.{has_flag, numeric_list}
use Rattle.formulas.specs.Shapes.{Shape, s_nil, flat}
use Rattle.formulas.specs.Fitted.{Fitted, f_nil, f_leaf, f_node}
use Rattle.formulas.proofs.Fitted.{fine}
use Rattle.formulas.specs.Formula.{Formula, nest}
use Rattle.formulas.proofs.Good.{good}
use Rattle.roundtrip.proofs.Phrases.{cell, say, present, string_under, head_under, row_flags, FlagRules, flag_rules, numeric_flag_rules, flags_part, goto_flags_part, present_flags, truth_under, truth_default_under, number_default_under, option_flags_under, step_under, subtitle_under, text_under, label_under, goto_under, checkbox_under, numeric_under, one_of_under, condition_under, option_under, rule_under, form_under, guid_under, form_set_under}
use Rattle.roundtrip.proofs.FlagLists.{Listed, flags_are_listed, numeric_flags_are_listed, Known, flags_known, list_fits}
use Rattle.roundtrip.proofs.NumericLists.{numeric_flags_known}

module _ {d : Depth} (u : too_deep d ≡ false) where
  -- ---- parts

  number_fits : {A v : ℕ} {σ : List Symbol} {F : Trees} → alternative_of rules A 0 ≡ some (plain (t class.DECIMAL ∷ [])) → Fitted d σ F → Fitted d (nonterminal A ∷ σ) (node A 0 (leaf (token class.DECIMAL v) nil) F)
  number_fits e h = f_node e (f_leaf u f_nil) h

  hex_fits : {A v : ℕ} {σ : List Symbol} {F : Trees} → alternative_of rules A 0 ≡ some (plain (t class.HEX ∷ [])) → Fitted d σ F → Fitted d (nonterminal A ∷ σ) (node A 0 (leaf (token class.HEX v) nil) F)
  hex_fits e h = f_node e (f_leaf u f_nil) h

  string_fits : {n : ℕ} {σ : List Symbol} {F : Trees} → Fitted d σ F → Fitted d (nonterminal <str> ∷ σ) (node <str> 0 (flat (string_under n)) F)
  unfolding rules
  string_fits h = f_node refl (f_leaf u (f_leaf u (number_fits refl (f_leaf u f_nil)))) h

  head_fits : (r : List ℕ) {σ : List Symbol} {F : Trees} → Fitted d σ F → Fitted d (nonterminal <head> ∷ σ) (node <head> 0 (flat (head_under r)) F)
  unfolding rules
  head_fits r h = f_node refl (f_node refl f_nil (f_node refl (f_leaf u (f_leaf u (number_fits refl (f_leaf u f_nil)))) (f_leaf u (f_leaf u (string_fits (f_leaf u (f_leaf u (f_leaf u (string_fits f_nil))))))))) h

  goto_flags_fits : (ws : List FlagWord) {σ : List Symbol} {F : Trees} → Known flag_rules ws → Fitted d σ F → Fitted d (nonterminal <goto_flags>? ∷ σ) (node <goto_flags>? (present_flags ws) (flat (goto_flags_part ws)) F)
  unfolding rules
  goto_flags_fits [] k h = f_node refl f_nil h
  goto_flags_fits (w ∷ ws) k h = f_node refl (f_leaf u (f_leaf u (f_leaf u (list_fits flag_rules flags_are_listed u w ws k f_nil)))) h

  -- of the other questions, where the rule A is [flags = FL ,]
  flags_fit :
      (A : ℕ) (R : FlagRules) (ws : List FlagWord) {σ : List Symbol} {F : Trees}
      → get_or rules A [] ≡ optional (t class.«flags» ∷ t class.«=» ∷ r R.list ∷ t class.comma ∷ []) → Listed R → Known R ws → Fitted d σ F
      → Fitted d (nonterminal A ∷ σ) (node A (present_flags ws) (flat (flags_part R ws)) F)
  flags_fit A R [] e L k h = f_node (ap (λ l. get_elem? l 0) e) f_nil h
  flags_fit A R (w ∷ ws) e L k h = f_node (ap (λ l. get_elem? l 1) e) (f_leaf u (f_leaf u (list_fits R L u w ws k (f_leaf u f_nil)))) h

  truth_fits : (v : Bool) {σ : List Symbol} {F : Trees} → Fitted d σ F → Fitted d (nonterminal <truth> ∷ σ) (node <truth> (present (not v)) (flat (truth_under v)) F)
  unfolding rules
  truth_fits true h = f_node refl (f_leaf u f_nil) h
  truth_fits false h = f_node refl (f_leaf u f_nil) h

  truth_default_fits : (e v : Bool) {σ : List Symbol} {F : Trees} → Fitted d σ F → Fitted d (nonterminal <truth_default>? ∷ σ) (node <truth_default>? (present e) (flat (truth_default_under e v)) F)
  unfolding rules
  truth_default_fits true v h = f_node refl (f_leaf u (f_leaf u (truth_fits v (f_leaf u f_nil)))) h
  truth_default_fits false v h = f_node refl f_nil h

  number_default_fits : (e : Bool) (v : ℕ) {σ : List Symbol} {F : Trees} → Fitted d σ F → Fitted d (nonterminal <number_default>? ∷ σ) (node <number_default>? (present e) (flat (number_default_under e v)) F)
  unfolding rules
  number_default_fits true v h = f_node refl (f_leaf u (f_leaf u (number_fits refl (f_leaf u f_nil)))) h
  number_default_fits false v h = f_node refl f_nil h

  step_fits : (v : ℕ) {σ : List Symbol} {F : Trees} → Fitted d σ F → Fitted d (nonterminal <step>? ∷ σ) (node <step>? 1 (flat (step_under v)) F)
  unfolding rules
  step_fits v h = f_node refl (f_leaf u (f_leaf u (number_fits refl (f_leaf u f_nil)))) h

  option_flags_fits : (e : Bool) {σ : List Symbol} {F : Trees} → Fitted d σ F → Fitted d (nonterminal <option_flags> ∷ σ) (node <option_flags> (present e) (flat (option_flags_under e)) F)
  unfolding rules
  option_flags_fits true h = f_node refl (f_leaf u f_nil) h
  option_flags_fits false h = f_node refl (number_fits refl f_nil) h

  -- ---- items

  pub subtitle_fits : (r : List ℕ) {σ : List Symbol} {F : Trees} → Fitted d σ F → Fitted d (nonterminal <item> ∷ σ) (node <item> 0 (flat (subtitle_under r)) F)
  unfolding rules
  subtitle_fits r h = f_node refl (f_leaf u (f_leaf u (f_leaf u (string_fits (f_leaf u f_nil))))) h

  pub text_fits : (r : List ℕ) {σ : List Symbol} {F : Trees} → Fitted d σ F → Fitted d (nonterminal <item> ∷ σ) (node <item> 1 (flat (text_under r)) F)
  unfolding rules
  text_fits r h = f_node refl (f_leaf u (f_leaf u (f_leaf u (string_fits (f_leaf u (f_leaf u (f_leaf u (string_fits (f_leaf u f_nil))))))))) h

  pub label_fits : (r : List ℕ) {σ : List Symbol} {F : Trees} → Fitted d σ F → Fitted d (nonterminal <item> ∷ σ) (node <item> 2 (flat (label_under r)) F)
  unfolding rules
  label_fits r h = f_node refl (f_leaf u (number_fits refl (f_leaf u f_nil))) h

  pub goto_fits : (r : List ℕ) {σ : List Symbol} {F : Trees} → Fitted d σ F → Fitted d (nonterminal <item> ∷ σ) (node <item> 3 (flat (goto_under r)) F)
  unfolding rules
  goto_fits r h = f_node refl (f_leaf u (number_fits refl (f_leaf u (head_fits r (goto_flags_fits (row_flags r) (flags_known r) (f_leaf u f_nil)))))) h

  pub checkbox_fits : (r : List ℕ) {σ : List Symbol} {F : Trees} → Fitted d σ F → Fitted d (nonterminal <item> ∷ σ) (node <item> 4 (flat (checkbox_under r)) F)
  unfolding rules
  checkbox_fits r h = f_node refl (f_leaf u (head_fits r (f_leaf u (flags_fit <flags>? flag_rules (row_flags r) refl flags_are_listed (flags_known r) (truth_default_fits (has_flag flag.HAS_DEFAULT r) (eqb (cell column.D r) 1) (f_leaf u (f_leaf u f_nil))))))) h

  pub numeric_fits : (r : List ℕ) {σ : List Symbol} {F : Trees} → Fitted d σ F → Fitted d (nonterminal <item> ∷ σ) (node <item> 5 (flat (numeric_under r)) F)
  unfolding rules
  numeric_fits r h = f_node refl (f_leaf u (head_fits r (f_leaf u (flags_fit <numeric_flags>? numeric_flag_rules (numeric_list r) refl numeric_flags_are_listed (numeric_flags_known r) (f_leaf u (f_leaf u (number_fits refl (f_leaf u (f_leaf u (f_leaf u (number_fits refl (f_leaf u (step_fits (cell column.C r) (number_default_fits (has_flag flag.HAS_DEFAULT r) (cell column.D r) (f_leaf u (f_leaf u f_nil)))))))))))))))) h

  pub one_of_fits : (r : List ℕ) (x : Shape) {σ : List Symbol} {F : Trees} → Fitted d (nonterminal <option> ∷ nonterminal <option>* ∷ t class.«endoneof» ∷ t class.semicolon ∷ []) (flat x) → Fitted d σ F → Fitted d (nonterminal <item> ∷ σ) (node <item> 6 (flat (one_of_under r x)) F)
  unfolding rules
  one_of_fits r x g h = f_node refl (f_leaf u (head_fits r (f_leaf u (flags_fit <flags>? flag_rules (row_flags r) refl flags_are_listed (flags_known r) g)))) h

  -- ---- the other statements

  pub option_fits : (r : List ℕ) {σ : List Symbol} {F : Trees} → Fitted d σ F → Fitted d (nonterminal <option> ∷ σ) (node <option> 0 (flat (option_under r)) F)
  unfolding rules
  option_fits r h = f_node refl (f_leaf u (f_leaf u (f_leaf u (string_fits (f_leaf u (f_leaf u (f_leaf u (number_fits refl (f_leaf u (f_leaf u (f_leaf u (option_flags_fits (has_flag flag.OPTION_DEFAULT r) (f_leaf u f_nil))))))))))))) h

  pub form_fits : (r : List ℕ) (x : Shape) {σ : List Symbol} {F : Trees} → Fitted d (nonterminal <item_or_rule>* ∷ t class.«endform» ∷ t class.semicolon ∷ []) (flat x) → Fitted d σ F → Fitted d (nonterminal <form> ∷ σ) (node <form> 0 (flat (form_under r x)) F)
  unfolding rules
  form_fits r x g h = f_node refl (f_leaf u (f_leaf u (f_leaf u (number_fits refl (f_leaf u (f_leaf u (f_leaf u (string_fits (f_leaf u g))))))))) h

  guid_fits : (r : List ℕ) {σ : List Symbol} {F : Trees} → Fitted d σ F → Fitted d (nonterminal <guid> ∷ σ) (node <guid> 0 (flat (guid_under r)) F)
  unfolding rules
  guid_fits r h = f_node refl (f_leaf u (hex_fits refl (f_leaf u (hex_fits refl (f_leaf u (hex_fits refl (f_leaf u (f_node refl (f_leaf u (f_node refl (hex_fits refl (f_leaf u (hex_fits refl (f_leaf u (hex_fits refl (f_leaf u (hex_fits refl (f_leaf u (hex_fits refl (f_leaf u (hex_fits refl (f_leaf u (hex_fits refl (f_leaf u (hex_fits refl f_nil))))))))))))))) (f_leaf u (f_leaf u f_nil)))) f_nil)))))))) h

  pub form_set_fits : (r : List ℕ) (x : Shape) {σ : List Symbol} {F : Trees} → Fitted d (nonterminal <form> ∷ nonterminal <form>* ∷ t class.«endformset» ∷ t class.semicolon ∷ []) (flat x) → Fitted d σ F → Fitted d (nonterminal <source> ∷ σ) (node <source> 0 (flat (form_set_under r x)) F)
  unfolding rules
  form_set_fits r x g h = f_node refl (f_leaf u (f_leaf u (f_leaf u (guid_fits r (f_leaf u (f_leaf u (f_leaf u (string_fits (f_leaf u (f_leaf u (f_leaf u (string_fits (f_leaf u g))))))))))))) h

-- ---- statements with an expression

pub rule_fits : (c g : ℕ) (r : List ℕ) (e : Formula) {σ : List Symbol} {F : Trees} → c ≤ 16 → g + nest 9 e ≤ 32 → Fitted (depth c g) σ F → Fitted (depth c g) (nonterminal <rule> ∷ σ) (node <rule> 0 (flat (rule_under r e)) F)
unfolding rules
rule_fits c g r e l b h =
    let u = fine c g l (omega arith) in
    f_node refl (f_leaf u (f_leaf u (f_leaf u (((good [] e).whole 9 (omega arith)).fits c g l b _ (say class.«endrule» (say class.semicolon s_nil)) (f_leaf u (f_leaf u f_nil)))))) h

pub suppressif_fits : (c g : ℕ) (e : Formula) (x : Shape) {σ : List Symbol} {F : Trees} → suc c ≤ 16 → g + nest 9 e ≤ 32 → Fitted (depth (suc c) g) (nonterminal <item>* ∷ t class.«endif» ∷ t class.semicolon ∷ []) (flat x) → Fitted (depth c g) σ F → Fitted (depth c g) (nonterminal <item> ∷ σ) (node <item> 7 (flat (condition_under class.«suppressif» e x)) F)
unfolding rules
suppressif_fits c g e x l b y h =
    let u = fine (suc c) g l (omega arith) in
    f_node refl (f_leaf u (((good [] e).whole 9 (omega arith)).fits (suc c) g l b _ (say class.semicolon x) (f_leaf u y))) h

pub grayoutif_fits : (c g : ℕ) (e : Formula) (x : Shape) {σ : List Symbol} {F : Trees} → suc c ≤ 16 → g + nest 9 e ≤ 32 → Fitted (depth (suc c) g) (nonterminal <item>* ∷ t class.«endif» ∷ t class.semicolon ∷ []) (flat x) → Fitted (depth c g) σ F → Fitted (depth c g) (nonterminal <item> ∷ σ) (node <item> 8 (flat (condition_under class.«grayoutif» e x)) F)
unfolding rules
grayoutif_fits c g e x l b y h =
    let u = fine (suc c) g l (omega arith) in
    f_node refl (f_leaf u (((good [] e).whole 9 (omega arith)).fits (suc c) g l b _ (say class.semicolon x) (f_leaf u y))) h

pub disableif_fits : (c g : ℕ) (e : Formula) (x : Shape) {σ : List Symbol} {F : Trees} → suc c ≤ 16 → g + nest 9 e ≤ 32 → Fitted (depth (suc c) g) (nonterminal <item>* ∷ t class.«endif» ∷ t class.semicolon ∷ []) (flat x) → Fitted (depth c g) σ F → Fitted (depth c g) (nonterminal <item> ∷ σ) (node <item> 9 (flat (condition_under class.«disableif» e x)) F)
unfolding rules
disableif_fits c g e x l b y h =
    let u = fine (suc c) g l (omega arith) in
    f_node refl (f_leaf u (((good [] e).whole 9 (omega arith)).fits (suc c) g l b _ (say class.semicolon x) (f_leaf u y))) h
