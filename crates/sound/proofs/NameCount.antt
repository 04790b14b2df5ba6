-- A source declares few names: a row that declares one takes six tokens or more.
-- Assumes nothing.
use mathlib.Core.Path.{◌≡◌, refl, ap, ◌∙◌}
use mathlib.Core.List.{List, [], ◌∷◌, ◌++◌}
use mathlib.Core.Bool.{true, cond}
use Prim.Native.Nat.{ℕ, zero, suc, ◌+◌, ◌*◌, ◌≤◌}
use native.Mathlib.Omega.{arith}
use lib.Dec.{eqb, ltb, leb}
use lib.ListN.{length, get_or, length-append}
use borrow.Author.Tests.{leb-true}
use Rattle.lexemes.proofs.Lists.{either}
use Rattle.rows.specs.Columns as column
use Rattle.ll1.specs.Trees.{Trees, nil, node, Symbol, terminal, nonterminal, leaves, Fits, fits_nil, fits_leaf, fits_node}
use Rattle.ll1.specs.ParseTable.{member}
use Rattle.grammar.specs.Rules.{<source>, <form>, <rule>, <item>, <option>, <head>, <large>, <or>, <and>, <bit_or>, <bit_and>, <equality>, <order>, <shift>, <sum>, <product>, <atom>}
use Rattle.grammar.specs.Grammar.{rules}
use Rattle.grammar.specs.Derivation.{Derives}
use Rattle.grammar.specs.Source.{source_tokens, number_at}
use Rattle.grammar.specs.Parts.{child}
use Rattle.grammar.proofs.Alternatives.{everywhere, at_alternative}
use Rattle.grammar.proofs.SourceTokens.{tokens_few}
use Rattle.answers.specs.Answer.{drafts}
use Rattle.answers.specs.Expression.{Expression, number, constant, question_named, question_numbered, rule_named, negation, binary, operator_code, expression}
use Rattle.answers.specs.Rows.{Draft, item, rule_draft, operand, condition, expression_rows, otherwise, own_rows, parent_in, rules_in, drafts_of}
use Rattle.answers.specs.Stages.{cell}
use Rattle.names.specs.Names.{names_in}

-- ---- names in rows

names_append : (ds es : List Draft) → names_in (ds ++ es) ≡ names_in ds + names_in es
unfolding names_in
names_append [] es = omega arith
names_append (d ∷ ds) es =
    either (eqb (cell column.NAME d) 0) (λ e. rw e (names_append ds es)) (λ e. rw e (omega (arith, names_append ds es)))

-- a row declares one name at most
names_next : (d : Draft) (ds : List Draft) → names_in (d ∷ ds) ≤ suc (names_in ds)
unfolding names_in
names_next d ds = either (eqb (cell column.NAME d) 0) (λ e. rw e (omega arith)) (λ e. rw e (omega arith))

-- of an item's alternatives, the questions may declare a name
abbrev asking : List ℕ
asking = 0 ∷ 0 ∷ 0 ∷ 1 ∷ 1 ∷ 1 ∷ 1 ∷ []

-- a tree of alternative i of rule A may
abbrev naming : ℕ → ℕ → ℕ
naming A i = cond (eqb A <item>) (get_or asking i 0) (cond (eqb A <rule>) 1 0)

module _ (value : ℕ → ℕ) where
  -- an expression declares none
  expression_names : (parent : ℕ) (e : Expression) → names_in (expression_rows value parent e) ≡ 0
  unfolding names_in
  expression_names parent (number p) = refl
  expression_names parent (constant c p) = refl
  expression_names parent (question_named p q) = refl
  expression_names parent (question_numbered p q) = refl
  expression_names parent (rule_named p q) = refl
  expression_names parent (negation p e) = names_append (expression_rows value parent e) _ ∙ rw (expression_names parent e)
  expression_names parent (binary o p l r) =
      names_append (expression_rows value parent l) _
      ∙ rw (
        expression_names parent l,
        names_append (expression_rows value parent r) (operand value parent (operator_code o) 0 p 0 ∷ []),
        expression_names parent r,
      )

  -- a tree's own rows

  item_names : (parent i : ℕ) (c : Trees) → names_in (item value parent i c ∷ []) ≤ get_or asking i 0
  unfolding names_in
  item_names parent zero c = omega arith
  item_names parent (suc zero) c = omega arith
  item_names parent (suc (suc zero)) c = omega arith
  item_names parent (suc (suc (suc zero))) c = names_next (item value parent 3 c) []
  item_names parent (suc (suc (suc (suc zero)))) c = names_next (item value parent 4 c) []
  item_names parent (suc (suc (suc (suc (suc zero))))) c = names_next (item value parent 5 c) []
  item_names parent (suc (suc (suc (suc (suc (suc zero)))))) c = names_next (item value parent 6 c) []
  item_names parent (suc (suc (suc (suc (suc (suc (suc zero))))))) c = omega arith
  item_names parent (suc (suc (suc (suc (suc (suc (suc (suc zero)))))))) c = omega arith
  item_names parent (suc (suc (suc (suc (suc (suc (suc (suc (suc zero))))))))) c = omega arith
  item_names parent (suc (suc (suc (suc (suc (suc (suc (suc (suc (suc i)))))))))) c = omega arith

  condition_names : (at i : ℕ) (c : Trees) → names_in (condition value at i c) ≡ 0
  unfolding names_in
  condition_names at i c = either (ltb 6 i) (λ e. rw (e, condition) (expression_names at (expression (child 1 c)))) (λ e. rw (e, condition))

  own_names : (A i : ℕ) (c : Trees) (parent at n : ℕ) → names_in (own_rows value parent at n A i c) ≤ naming A i
  unfolding names_in
  own_names A i c parent at n =
      either (eqb A <item>)
      (λ e.
      let both = names_append (item value parent i c ∷ []) (condition value at i c) in
      rw (e, otherwise) (omega (arith, both, item_names parent i c, condition_names at i c)))
      (λ e. rw (e, otherwise) (either (eqb A <option>) (λ e. rw (e, otherwise) (omega arith))
      (λ e. rw (e, otherwise) (either (eqb A <rule>)
      (λ e.
      let formula = expression_rows value at (expression (child 3 c)) in
      rw (e, otherwise) (omega (arith, names_next (rule_draft value parent n c) formula, expression_names at (expression (child 3 c)))))
      (λ e. rw (e, otherwise) (either (eqb A <form>) (λ e. rw (e, otherwise) (omega arith))
      (λ e. rw (e, otherwise) (either (eqb A <source>) (λ e. rw (e, otherwise) (omega arith)) (λ e. rw (e, otherwise) (omega arith))))))))))

-- ---- tokens

-- of the rules that a name's row has in it: at least so many tokens stand under each
abbrev least : ℕ → ℕ
least A =
    cond (eqb A <head>) 5
    (cond (member A (<or> ∷ <and> ∷ <bit_or> ∷ <bit_and> ∷ <equality> ∷ <order> ∷ <shift> ∷ <sum> ∷ <product> ∷ <atom> ∷ <large> ∷ [])) 1 0)

abbrev least_in : List Symbol → ℕ
least_in [] = 0
least_in (terminal k ∷ σ) = suc (least_in σ)
least_in (nonterminal A ∷ σ) = least A + least_in σ

-- so they are in each alternative, with six more where a row declares a name
all_least : everywhere (λ A i a. leb (least A + naming A i * 6) (least_in a.symbols)) ≡ true
unfolding rules
all_least = refl

module _ (value : ℕ → ℕ) where
  names_light : {σ : List Symbol} {f : Trees} → Fits rules σ f → (parent at n : ℕ) → least_in σ + names_in (drafts_of value f parent at n) * 6 ≤ length (leaves f)
  unfolding names_in
  names_light fits_nil parent at n = omega arith
  names_light (fits_leaf r) parent at n = omega (arith, names_light r parent at n)
  names_light (fits_node {A = A} {i = i} {a = a} {σ = σ} {c = c} {f = f} e r₁ r₂) parent at n =
      let own : List Draft = own_rows value parent at n A i c in
      let under : List Draft = drafts_of value c (parent_in value parent at own) (at + length own) n in
      let beside : List Draft = drafts_of value f parent (at + length (own ++ under)) (n + rules_in (node A i c nil)) in
      omega (
        arith,
        leb-true (least A + naming A i * 6) (least_in a.symbols) (at_alternative _ all_least e),
        own_names value A i c parent at n,
        names_append own under,
        names_append (own ++ under) beside,
        length-append (leaves c) (leaves f),
        names_light r₁ (parent_in value parent at own) (at + length own) n,
        names_light r₂ parent (at + length (own ++ under)) (n + rules_in (node A i c nil)),
      )

-- six for each name, of a source's bytes
pub names_six : (s : List ℕ) (tree : Trees) → Derives (source_tokens s) tree → names_in (drafts s tree) * 6 ≤ length s
unfolding drafts
names_six s tree d = omega (arith, names_light (number_at s) d.fits 0 0 0, ap length d.reads, tokens_few s)
