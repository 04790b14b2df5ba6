-- An expression weighs at most what the leaves of its trees do: each operator, NOT and operand stands at a leaf of its own.
-- Assumes nothing.
use mathlib.Core.Path.{◌≡◌, refl}
use mathlib.Core.List.{List, [], ◌∷◌, ◌++◌}
use mathlib.Core.Option.{some}
use mathlib.Core.Bool.{true, false}
use Prim.Native.Nat.{ℕ, zero, suc, ◌+◌, ◌≤◌, ◌<◌}
use native.Mathlib.Omega.{arith}
use lib.Dec.{eqb, ltb}
use borrow.Author.Tests.{ltb-true, le-ltb}
use Rattle.lexemes.proofs.Lists.{either}
use Rattle.ll1.specs.Trees.{token, Trees, nil, leaf, node, Symbol, Alternative, alternative_of, Fits, fits_nil, fits_leaf, fits_node}
use Rattle.ll1.specs.ParseTable.{member}
use Rattle.ll1.proofs.Basics.{clash, both, implied}
use Rattle.grammar.specs.Rules.{<large>, <or>, <atom>}
use Rattle.grammar.specs.Grammar.{rules}
use Rattle.grammar.specs.Parts.{child, chosen, place_at}
use Rattle.answers.specs.Expression.{Operator, Expression, number, constant, question_named, question_numbered, rule_named, negation, binary}
use Rattle.answers.specs.Expression.{Pending, nothing, operator, operator_class, operators, operator_among, joined, asked, atom, spelled, expression}
use Rattle.grammar.proofs.Alternatives.{at_alternative}
use Rattle.answers.specs.RowPlaces.{expression_places}
use Rattle.grammar.specs.Places.{total}
use Rattle.grammar.proofs.Totals.{total_append, load}
use Rattle.answers.proofs.ExpressionSymbols.{operands, tails, Mode, operand_after, more, awaited, no_operator, spells, first_word, first_number, spells_atom, spells_operand, Waits}
use Rattle.answers.proofs.ExpressionSymbols.{operands_spell, tails_spell, numbers_are_words, no_tail_is_atom, not_operator}

module _ (w : ℕ → ℕ) where
  -- ---- weights

  abbrev pub weight : Expression → ℕ
  weight (number p) = w p
  weight (constant c p) = w p
  weight (question_named p q) = w p
  weight (question_numbered p q) = w p
  weight (rule_named p q) = w p
  weight (negation p e) = weight e + w p
  weight (binary o p l r) = weight l + (weight r + w p)

  pub weight_total : (e : Expression) → total w (expression_places e) ≡ weight e
  weight_total (number p) = omega arith
  weight_total (constant c p) = omega arith
  weight_total (question_named p q) = omega arith
  weight_total (question_numbered p q) = omega arith
  weight_total (rule_named p q) = omega arith
  weight_total (negation p e) = omega (arith, total_append w (expression_places e) (p ∷ []), weight_total e)
  weight_total (binary o p l r) =
      let after = expression_places r ++ p ∷ [] in
      omega (arith, total_append w (expression_places l) after, total_append w (expression_places r) (p ∷ []), weight_total l, weight_total r)

  abbrev pending_weight : Pending → ℕ
  pending_weight nothing = 0
  pending_weight (operator o p) = w p

  -- of the first n trees, leaves
  abbrev pub heads : ℕ → Trees → ℕ
  heads zero f = 0
  heads (suc n) nil = w 0
  heads (suc n) (leaf (token k p) f) = w p + heads n f
  heads (suc n) (node A i c f) = w 0

  pub first_head : (n : ℕ) (f : Trees) → w (place_at 0 f) ≤ heads (suc n) f
  first_head n nil = omega arith
  first_head n (leaf (token k p) f) = omega arith
  first_head n (node A i c f) = omega arith

  -- with `before` the weight of what was spelled before, the weight r of what is spelled by the trees f
  abbrev Light : Mode → ℕ → ℕ → ℕ → Trees → Type 0
  Light (operand_after n) before waiting r f = r + heads n f ≤ load w f
  Light more before waiting r f = r ≤ before + load w f
  Light awaited before waiting r f = r ≤ before + (waiting + load w f)

  among_weight : (os : List Operator) (k p : ℕ) → pending_weight (operator_among os (token k p)) ≤ w p
  among_weight [] k p = omega arith
  among_weight (o ∷ os) k p =
      either (eqb (operator_class o) k) (λ e. rw (e, operator_among) (omega arith)) (λ e. rw (e, operator_among) (among_weight os k p))

  joined_weight : (pending : Pending) (left right : Expression) → weight (joined pending left right) ≤ weight left + (pending_weight pending + weight right)
  joined_weight nothing left right = omega arith
  joined_weight (operator o p) left right = omega arith

  -- ---- atoms

  first_light : {σ : List Symbol} {f : Trees} → Fits rules σ f → first_word σ ≡ true → w (place_at 0 f) ≤ load w f
  first_light fits_nil h = clash cc
  first_light (fits_leaf r) h = omega arith
  first_light (fits_node e r₁ r₂) h = clash cc

  number_light : {σ : List Symbol} {f : Trees} → Fits rules σ f → first_number σ ≡ true → w (place_at 0 (child 0 f)) ≤ load w f
  number_light fits_nil h = clash cc
  number_light (fits_leaf r) h = clash cc
  number_light (fits_node {A = A} e r₁ r₂) h = omega (arith, first_light r₁ (implied (eqb A <large>) _ (at_alternative _ numbers_are_words e) h))

  asked_weight : (p : ℕ) (c : Trees) → weight (asked p c) ≡ w p
  asked_weight p c = either (eqb (chosen 2 c) 0) (λ e. rw (e, asked)) (λ e. rw (e, asked))

  -- the alternatives of an atom that are a row each
  atom_weight :
      (i : ℕ) (σ : List Symbol) (c : Trees) (inner : Expression)
      → i < 9 → Fits rules σ c → elim (eqb (suc (suc i)) 8) [ true ↦ first_number σ | false ↦ first_word σ ] ≡ true
      → weight (atom (suc (suc i)) c inner) ≤ load w c
  atom_weight zero σ c inner h r t = first_light r t
  atom_weight (suc zero) σ c inner h r t = first_light r t
  atom_weight (suc (suc zero)) σ c inner h r t = first_light r t
  atom_weight (suc (suc (suc zero))) σ c inner h r t = first_light r t
  atom_weight (suc (suc (suc (suc zero)))) σ c inner h r t = first_light r t
  atom_weight (suc (suc (suc (suc (suc zero))))) σ c inner h r t = first_light r t
  atom_weight (suc (suc (suc (suc (suc (suc zero)))))) σ c inner h r t = number_light r t
  atom_weight (suc (suc (suc (suc (suc (suc (suc zero))))))) σ c inner h r t = omega (arith, asked_weight (place_at 0 c) c, first_light r t)
  atom_weight (suc (suc (suc (suc (suc (suc (suc (suc zero)))))))) σ c inner h r t = first_light r t
  atom_weight (suc (suc (suc (suc (suc (suc (suc (suc (suc i))))))))) σ c inner h r t = absurd (omega arith)

  atom_light :
      (i : ℕ) (σ : List Symbol) (c : Trees) (inner : Expression)
      → Fits rules σ c → spells_atom i σ ≡ true → (spells (operand_after 1) σ ≡ true → weight inner + heads 1 c ≤ load w c)
      → weight (atom i c inner) ≤ load w c
  atom_light zero σ c inner r h light = omega (arith, light h, first_head 0 c)
  atom_light (suc zero) σ c inner r h light = omega (arith, light h)
  atom_light (suc (suc i)) σ c inner r h light =
      let t = both (ltb (suc (suc i)) 11) _ (rw (le-ltb (suc (suc i)) 2 (omega arith), spells_atom) at h) in
      atom_weight i σ c inner (omega (arith, ltb-true (suc (suc i)) 11 t.0)) r t.1

  operand_light :
      (A i : ℕ) (a : Alternative) (c : Trees) (inner : Expression)
      → alternative_of rules A i ≡ some a → Fits rules a.symbols c → member A operands ≡ true
      → ((n : ℕ) → spells (operand_after n) a.symbols ≡ true → weight inner + heads n c ≤ load w c)
      → weight (elim (eqb A <atom>) [ true ↦ atom i c inner | false ↦ inner ]) ≤ load w c
  operand_light A i a c inner e r h light =
      let t : spells_operand A i a.symbols ≡ true = implied (member A operands) _ (at_alternative _ operands_spell e) h in
      either (eqb A <atom>)
      (λ is. rw is (atom_light i a.symbols c inner r (rw (is, spells_operand) at t) (light 1)))
      (λ is. rw is (omega (arith, light 0 (rw (is, spells_operand) at t))))

  -- ---- trees

  spelled_light :
      {σ : List Symbol} {f : Trees} (m : Mode) (left : Expression) (pending : Pending)
      → Fits rules σ f → spells m σ ≡ true → Waits m pending
      → Light m (weight left) (pending_weight pending) (weight (spelled left pending f)) f
  spelled_light (operand_after n) left pending fits_nil h u = clash cc
  spelled_light more left pending fits_nil h u = omega arith
  spelled_light awaited left pending fits_nil h u = omega arith
  spelled_light (operand_after zero) left pending (fits_leaf r) h u = clash cc
  spelled_light (operand_after (suc n)) left pending (fits_leaf {k = k} {p = p} r) h u =
      let t = both (no_operator k) _ h in
      omega (arith, spelled_light (operand_after n) left (operator_among operators (token k p)) r t.1 (not_operator operators k p t.0))
  spelled_light more left pending (fits_leaf {k = k} {p = p} r) h u =
      omega (arith, among_weight operators k p, spelled_light awaited left (operator_among operators (token k p)) r h tt)
  spelled_light awaited left pending (fits_leaf r) h u = clash cc
  spelled_light (operand_after zero) left pending (fits_node {A = A} {i = i} {a = a} {c = c} {f = f} e r₁ r₂) h u =
      let t = both (member A operands) _ h in
      let inner = spelled left nothing c in
      let operand : Expression = elim (eqb A <atom>) [ true ↦ atom i c inner | false ↦ inner ] in
      let one = operand_light A i a c inner e r₁ t.0 (λ n s. spelled_light (operand_after n) left nothing r₁ s refl) in
      rw u (omega (arith, spelled_light more operand nothing r₂ t.1 refl))
  spelled_light (operand_after (suc n)) left pending (fits_node e r₁ r₂) h u = clash cc
  spelled_light more left pending (fits_node {A = A} {i = i} {a = a} {c = c} {f = f} e r₁ r₂) h u =
      let t = both (member A tails) _ h in
      let inner = spelled left nothing c in
      let tail = implied (member A tails) _ (at_alternative _ tails_spell e) t.0 in
      rw (u, no_tail_is_atom A t.0)
      (omega (arith, spelled_light more left nothing r₁ tail refl, spelled_light more inner nothing r₂ t.1 refl))
  spelled_light awaited left pending (fits_node {A = A} {i = i} {a = a} {c = c} {f = f} e r₁ r₂) h u =
      let t = both (member A operands) _ h in
      let inner = spelled left nothing c in
      let operand : Expression = elim (eqb A <atom>) [ true ↦ atom i c inner | false ↦ inner ] in
      let one = operand_light A i a c inner e r₁ t.0 (λ n s. spelled_light (operand_after n) left nothing r₁ s refl) in
      omega (arith, joined_weight pending left operand, spelled_light more (joined pending left operand) nothing r₂ t.1 refl)

  -- ---- the expression of a level's tree

  pub expression_light : (i : ℕ) (a : Alternative) (c : Trees) → alternative_of rules <or> i ≡ some a → Fits rules a.symbols c → weight (expression c) ≤ load w c
  unfolding expression
  expression_light i a c e r = omega (arith, spelled_light (operand_after 0) (number 0) nothing r (at_alternative _ operands_spell e) refl)
