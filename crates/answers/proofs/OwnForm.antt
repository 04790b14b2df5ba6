-- Document 02's W-203: a rule belongs to its form. The terms are those of `specs/Forms`.
-- Assumes nothing.
use Prim.Native.Nat.{ℕ, ◌<◌}
use native.Mathlib.Omega.{arith}
use mathlib.Core.Path.{◌≡◌, sym, ap, ◌∙◌}
use mathlib.Core.Logic.{◌≢◌, ◌↔◌}
use mathlib.Core.Bool.{true, false}
use mathlib.Core.List.{List, [], ◌∷◌}
use lib.ListN.{length, get_or}
use borrow.Author.Tests.{eqb-true, eq-eqb, ne_eqb}
use Rattle.lexemes.proofs.Lists.{and_true}
use Rattle.rows.specs.Codes as code
use Rattle.rows.specs.Columns as column
use Rattle.ll1.specs.Trees.{Trees}
use Rattle.grammar.specs.Derivation.{Derives, NowhereTooDeep}
use Rattle.grammar.specs.Source.{source_tokens}
use Rattle.answers.specs.Rows.{Draft}
use Rattle.answers.specs.Stages.{cell, is, any, place_of, row_among, form_round, rule_named, finds, in_vain, repeated_names, unfound, draft_rows, finished}
use Rattle.answers.specs.Answer.{refuses, drafts}
use Rattle.answers.specs.WholeAnswer.{read_answer}
use Rattle.answers.specs.Demand3.{Passes, to_9, to_10, nothing_found}
use Rattle.answers.specs.Forms.{column_of, StandsIn, directly, within, SharesForm, OfItsForm, Stray}
use Rattle.answers.proofs.Answers.{passes_grammatical, refused_answer}
use Rattle.answers.proofs.Demand3.{rows_whole}
use Rattle.answers.proofs.Faults.{fault_first}
use Rattle.answers.proofs.FoundRows.{map_map, finished_column, finished_count}
use Rattle.answers.proofs.FoundRules.{finds_rule_lem, first_own, found_rule}
use Rattle.answers.proofs.Forms.{map_get_or, column_is, stands_once, stands_same, parent_stands, round_stands}
use Rattle.answers.proofs.RuleForms.{RuleForms, rule_forms}
use Rattle.answers.proofs.RuleNames.{any_row, any_only, named_once}

-- ---- finished rows stand where their drafts do

module _ (s : List ℕ) (ds : List Draft) where
  column_same : (c : ℕ) → c ≢ column.OWN → c ≢ column.A → (p : ℕ) → column_of (draft_rows ds) c p ≡ column_of (finished s ds) c p
  column_same c own a p =
      sym (map_get_or (λ (r : List ℕ). get_or r c 0) (draft_rows ds) p [])
      ∙ ap (λ (l : List ℕ). get_or l p 0) (sym (map_map (λ (r : List ℕ). get_or r c 0) (λ (d : Draft). d.row) ds) ∙ sym (finished_column s ds c own a))
      ∙ map_get_or (λ (r : List ℕ). get_or r c 0) (finished s ds) p []

  finished_stands : {f i : ℕ} → StandsIn (draft_rows ds) f i → StandsIn (finished s ds) f i
  finished_stands =
      stands_same
      (column_same column.CODE (λ q. omega arith) (λ q. omega arith))
      (column_same column.PARENT (λ q. omega arith) (λ q. omega arith))

module _ (s : List ℕ) (tree : Trees) (derives : Derives (source_tokens s) tree) (depths : NowhereTooDeep tree) where
  abbrev ds : List Draft
  ds = drafts s tree

  forms : RuleForms ds
  forms = rule_forms s tree derives depths

  -- the code of a finished row is its draft's
  code_of : (i : ℕ) {k : ℕ} → column_of (finished s ds) column.CODE i ≡ k → is k (row_among ds i) ≡ true
  code_of i {k} e =
      eq-eqb _ k (sym (column_is ds column.CODE i) ∙ column_same s ds column.CODE (λ q. omega arith) (λ q. omega arith) i ∙ e)

  -- the rule and the ruleref in these rows stand in what is computed for them
  rule_there : (i : ℕ) → i < length ds → is code.RULE (row_among ds i) ≡ true → StandsIn (draft_rows ds) (cell column.PARENT (row_among ds i)) i
  rule_there i h r = parent_stands ds i (forms.of_rule i h r)

  reference_there : (i : ℕ) → i < length ds → is code.RULE_REF (row_among ds i) ≡ true → StandsIn (draft_rows ds) (form_round ds (row_among ds i)) i
  reference_there i h r = round_stands ds i (forms.of_reference i h r)

  -- ---- what a ruleref finds

  -- it finds something exactly where a rule of its name stands in its form
  pub finds_exactly :
      (i : ℕ) → i < length ds → is code.RULE_REF (row_among ds i) ≡ true → (any (finds s ds (row_among ds i)) ds ≡ true) ↔ SharesForm s ds i
  finds_exactly i h r = (found, shared)
    where
      d : Draft
      d = row_among ds i

      found : any (finds s ds (row_among ds i)) ds ≡ true → SharesForm s ds i
      found e =
          let u = first_own s (finds s ds d) ds e in
          let passes = ap (λ (p : Draft → _). p (row_among ds u.0)) (sym (finds_rule_lem s ds d r)) ∙ u.2 in
          let both = and_true (rule_named s (place_of d.own_at) (row_among ds u.0)) _ passes in
          let rule = (and_true (is code.RULE (row_among ds u.0)) _ both.0).0 in
          record {
            rule = u.0;
            form = form_round ds d;
            inside = u.1;
            names_it = both.0;
            rule_stands = rw (← eqb-true _ (form_round ds d) both.1) (rule_there u.0 u.1 rule);
            reference_stands = reference_there i h r;
          }

      shared : SharesForm s ds i → any (finds s ds (row_among ds i)) ds ≡ true
      shared v =
          let rule = (and_true (is code.RULE (row_among ds v.rule)) _ v.names_it).0 in
          let own = stands_once (rule_there v.rule v.inside rule) v.rule_stands in
          let form = stands_once (reference_there i h r) v.reference_stands in
          ap (λ (p : Draft → _). any p ds) (finds_rule_lem s ds d r)
          ∙ any_row _ ds v.rule v.inside (rw v.names_it (eq-eqb _ (form_round ds d) (own ∙ sym form)))

  -- ---- where stage 11 finds no fault

  -- every ruleref has the number of a rule of its own form
  pub of_its_form : unfound s ds ≡ [] → (i : ℕ) → i < length ds → column_of (finished s ds) column.CODE i ≡ code.RULE_REF → OfItsForm (finished s ds) i
  of_its_form found i h c =
      let f = found_rule s ds found (rows_whole s tree derives) i h c in
      record {
        rule = f.at;
        form = form_round ds (row_among ds i);
        inside = omega (arith, f.inside, finished_count s ds);
        is_rule = f.code_is;
        number = f.own_is;
        rule_stands =
            finished_stands s ds (rw (← f.parent_is) (rule_there f.at f.inside (code_of f.at f.code_is)));
        reference_stands = finished_stands s ds (reference_there i h (code_of i c));
      }

  -- and so does the rule that it stands in, if it stands in one
  pub rule_round_lem :
      (found : unfound s ds ≡ []) (i : ℕ) (h : i < length ds) (c : column_of (finished s ds) column.CODE i ≡ code.RULE_REF)
      → column_of (finished s ds) column.CODE (column_of (finished s ds) column.PARENT i) ≡ code.RULE
      → StandsIn (finished s ds) (of_its_form found i h c).form (column_of (finished s ds) column.PARENT i)
  rule_round_lem found i h c k = go (of_its_form found i h c).reference_stands
    where
      go : {f : ℕ} → StandsIn (finished s ds) f i → StandsIn (finished s ds) f (column_of (finished s ds) column.PARENT i)
      go {f} (directly e d) = absurd (let z : code.RULE ≡ code.FORM = sym k ∙ rw e d in omega arith)
      go (within n v) = v

  -- ---- a ruleref whose rule stands in another form

  module _ (names : repeated_names s ds ≡ []) {i : ℕ} (h : i < length ds) (v : Stray s ds i) where
    abbrev d : Draft
    d = row_among ds i

    -- the rule's parent is the other form
    not_there : cell column.PARENT (row_among ds v.rule) ≢ form_round ds d
    not_there e =
        let rule = (and_true (is code.RULE (row_among ds v.rule)) _ v.names_it).0 in
        let other = stands_once (rule_there v.rule v.inside rule) v.rule_stands in
        let form = stands_once (reference_there i h v.is_reference) v.reference_stands in
        v.apart (sym form ∙ sym e ∙ other)

    nothing : any (finds s ds d) ds ≡ false
    nothing =
        ap (λ (p : Draft → _). any p ds) (finds_rule_lem s ds d v.is_reference)
        ∙ any_only (rule_named s (place_of d.own_at)) _ ds (named_once s (place_of d.own_at) ds names)
        v.rule v.inside v.names_it (ne_eqb _ _ not_there)

    -- names it in vain
    stray_vain : in_vain s ds d ≡ d.own_at ∷ []
    stray_vain =
        let k : cell column.CODE d ≡ code.RULE_REF = eqb-true (cell column.CODE d) code.RULE_REF v.is_reference in
        rw (nothing, k)

-- "11 is now also given where the rule stands in another form": at that name, unless an earlier stage refuses, or an earlier row names something in vain
pub stray_refused :
    {s : List ℕ} {n : ℕ} {tree : Trees}
    → Passes s n tree 10 → {i : ℕ} → i < length (drafts s tree) → Stray s (drafts s tree) i
    → ((j : ℕ) → j < i → in_vain s (drafts s tree) (row_among (drafts s tree) j) ≡ [])
    → read_answer s n ≡ refuses 11 (place_of (row_among (drafts s tree) i).own_at)
unfolding unfound
stray_refused {s} {n} {tree} p {i} h v before =
    let g = passes_grammatical p in
    let vain = stray_vain s tree g.derives g.depths (names p) h v in
    let first = fault_first (in_vain s (drafts s tree)) (drafts s tree) [] i h before vain in
    refused_answer s n (nothing_found p first.1)
  where
    names : Passes s n tree 10 → repeated_names s (drafts s tree) ≡ []
    names (to_10 (to_9 q e) f) = e
