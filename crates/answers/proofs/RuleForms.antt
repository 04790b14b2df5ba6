-- Every rule stands directly in a form, and every ruleref in one, however deep in conditions, so that `form_round` finds a form (document 02, W-203).
-- By one induction over a derivation's trees, which is told where they stand: anywhere; in a form, however deep in conditions; or directly in a form.
-- Assumes nothing.
use mathlib.Core.Path.{◌≡◌, refl}
use mathlib.Core.List.{List, [], ◌∷◌, ◌++◌}
use mathlib.Core.Option.{some}
use mathlib.Core.Bool.{Bool, true, false, cond, not, ◌&&◌, ◌||◌}
use Prim.Native.Nat.{ℕ, zero, suc, ◌≤◌, ◌<◌}
use native.Mathlib.Omega.{arith}
use lib.Dec.{eqb, ltb}
use lib.ListN.{length}
use lib.Seq.{get_or-append_seam}
use borrow.Author.Tests.{eqb-true, ltb-true, ltb-false, not-true}
use Rattle.lexemes.proofs.Lists.{either}
use Rattle.rows.specs.Codes as code
use Rattle.rows.specs.Columns as column
use Rattle.ll1.specs.Trees.{Trees, Symbol, Alternative, alternative_of, Fits, fits_nil, fits_leaf, fits_node}
use Rattle.ll1.specs.Trees.{Opens, nothing, a_condition, a_group, Depth, depth, deeper, opening, depths}
use Rattle.ll1.specs.Verdict.{Allowed}
use Rattle.ll1.specs.ParseTable.{member}
use Rattle.ll1.proofs.Basics.{clash, both, implied}
use Rattle.ll1.proofs.Equations.{allowed_append}
use Rattle.grammar.specs.Rules.{<source>, <form>, <item_or_rule>*, <rule>, <item>, <item>*, <option>}
use Rattle.grammar.specs.Grammar.{rules}
use Rattle.grammar.specs.Derivation.{Derives, NowhereTooDeep, too_deep, max_conditions}
use Rattle.grammar.specs.Source.{source_tokens, number_at}
use Rattle.grammar.specs.Parts.{child}
use Rattle.grammar.specs.Positions.{rule_expression, condition_expression}
use Rattle.grammar.proofs.Alternatives.{everywhere, at_alternative}
use Rattle.grammar.proofs.Statements.{free}
use Rattle.answers.specs.Expression.{Expression, number, constant, question_named, question_numbered, rule_named, negation, binary, expression}
use Rattle.answers.specs.Expression.{Operator, or, and, bit_or, bit_and, equal, not_equal, less, less_equal, greater, greater_equal}
use Rattle.answers.specs.Expression.{shift_left, shift_right, add, subtract, multiply, divide, modulo, operator_code}
use Rattle.answers.specs.Expression.{Constant, true', false', zero', one', ones', undefined', constant_code}
use Rattle.answers.specs.Rows.{Draft, item, operand, expression_rows, condition, otherwise, own_rows, parent_in, drafts_of}
use Rattle.answers.specs.Stages.{cell, is, row_among, form_from, form_round}
use Rattle.answers.specs.Answer.{drafts}
use Rattle.answers.specs.Reached.{Reached, whole, past, under, beside}
use Rattle.answers.proofs.ExpressionSymbols.{first_word}
use Rattle.answers.proofs.Walks.{Among, own_among}

-- every rule stands in a form, and so does every ruleref, however deep in conditions
pub record RuleForms (ds : List Draft) : Type 0 where
  pub of_rule : (i : ℕ) → i < length ds → is code.RULE (row_among ds i) ≡ true → is code.FORM (row_among ds (cell column.PARENT (row_among ds i))) ≡ true
  pub of_reference : (i : ℕ) → i < length ds → is code.RULE_REF (row_among ds i) ≡ true → is code.FORM (row_among ds (form_round ds (row_among ds i))) ≡ true

module _ (ds : List Draft) where
  -- ---- up by parents as far as a form

  abbrev IsForm : ℕ → Type 0
  IsForm p = is code.FORM (row_among ds p) ≡ true

  -- from row p a form is reached, by n parents at most
  abbrev Reaches : ℕ → ℕ → Type 0
  Reaches n p = IsForm (form_from ds n p)

  form_reached : (n p : ℕ) → IsForm p → Reaches n p
  unfolding form_from
  form_reached zero p h = h
  form_reached (suc n) p h = rw h h

  -- from a row that is no form, by one parent more than from its parent
  reached_below : (n at : ℕ) (d : Draft) → row_among ds at ≡ d → is code.FORM d ≡ false → Reaches n (cell column.PARENT d) → Reaches (suc n) at
  unfolding form_from
  reached_below n at d e f h = rw (e, f) h

  -- and by more still
  reached_more : (n m p : ℕ) → n ≤ m → Reaches n p → Reaches m p
  unfolding form_from
  reached_more zero m p l h = form_reached m p h
  reached_more (suc n) zero p l h = absurd (omega arith)
  reached_more (suc n) (suc m) p l h =
      either (is code.FORM (row_among ds p))
      (λ f. form_reached (suc m) p f)
      (λ f. reached_below m p _ refl f (reached_more n m _ (omega arith) (rw f at h)))

  -- ---- rows

  -- a rule's row is directly in a form, and a ruleref's in one by as many conditions as may be open
  record Housed (d : Draft) : Type 0 where
    of_rule : is code.RULE d ≡ true → IsForm (cell column.PARENT d)
    of_reference : is code.RULE_REF d ≡ true → Reaches max_conditions (cell column.PARENT d)

  data AllHoused : List Draft → Type 0 where
    no_row : AllHoused []
    add_row : {d : Draft} {es : List Draft} → Housed d → AllHoused es → AllHoused (d ∷ es)

  housed_append : {es fs : List Draft} → AllHoused es → AllHoused fs → AllHoused (es ++ fs)
  housed_append no_row q = q
  housed_append (add_row h p) q = add_row h (housed_append p q)

  housed_at : {es : List Draft} (i : ℕ) → i < length es → AllHoused es → Housed (row_among es i)
  housed_at i l no_row = absurd (omega arith)
  housed_at zero l (add_row h p) = h
  housed_at (suc i) l (add_row h p) = housed_at i (omega arith) p

  -- a row that is no ruleref; that is no rule; that is neither
  rule_housed : {d : Draft} → is code.RULE_REF d ≡ false → IsForm (cell column.PARENT d) → Housed d
  rule_housed e h = record { of_rule = λ t. h; of_reference = λ t. clash cc }

  reference_housed : {d : Draft} → is code.RULE d ≡ false → Reaches max_conditions (cell column.PARENT d) → Housed d
  reference_housed e h = record { of_rule = λ t. clash cc; of_reference = λ t. h }

  neither_housed : {d : Draft} → is code.RULE d ≡ false → is code.RULE_REF d ≡ false → Housed d
  neither_housed e f = record { of_rule = λ t. clash cc; of_reference = λ t. clash cc }

  -- the first of rows that stand among these
  row_among_lem : {at : ℕ} {d : Draft} {es : List Draft} → Among ds (d ∷ es) at → row_among ds at ≡ d
  row_among_lem {d = d} {es = es} m = rw (← m.number, m.are) (get_or-append_seam m.before d (es ++ m.after) _)

-- ---- codes: no part of an expression is a rule

pub operator_no_rule : (o : Operator) → eqb (operator_code o) code.RULE ≡ false
operator_no_rule or = refl
operator_no_rule and = refl
operator_no_rule bit_or = refl
operator_no_rule bit_and = refl
operator_no_rule equal = refl
operator_no_rule not_equal = refl
operator_no_rule less = refl
operator_no_rule less_equal = refl
operator_no_rule greater = refl
operator_no_rule greater_equal = refl
operator_no_rule shift_left = refl
operator_no_rule shift_right = refl
operator_no_rule add = refl
operator_no_rule subtract = refl
operator_no_rule multiply = refl
operator_no_rule divide = refl
operator_no_rule modulo = refl

pub constant_no_rule : (c : Constant) → eqb (constant_code c) code.RULE ≡ false
constant_no_rule true' = refl
constant_no_rule false' = refl
constant_no_rule zero' = refl
constant_no_rule one' = refl
constant_no_rule ones' = refl
constant_no_rule undefined' = refl

-- an item's row is no form, no rule and no ruleref, and stands in its parent
abbrev Plain : ℕ → Draft → Type 0
Plain parent d = (is code.FORM d ≡ false) × (is code.RULE d ≡ false) × (is code.RULE_REF d ≡ false) × (cell column.PARENT d ≡ parent)

module _ (value : ℕ → ℕ) (parent : ℕ) where
  item_plain : (i : ℕ) (c : Trees) → i < 10 → Plain parent (item value parent i c)
  item_plain zero c h = (refl, refl, refl, refl)
  item_plain (suc zero) c h = (refl, refl, refl, refl)
  item_plain (suc (suc zero)) c h = (refl, refl, refl, refl)
  item_plain (suc (suc (suc zero))) c h = (refl, refl, refl, refl)
  item_plain (suc (suc (suc (suc zero)))) c h = (refl, refl, refl, refl)
  item_plain (suc (suc (suc (suc (suc zero))))) c h = (refl, refl, refl, refl)
  item_plain (suc (suc (suc (suc (suc (suc zero)))))) c h = (refl, refl, refl, refl)
  item_plain (suc (suc (suc (suc (suc (suc (suc zero))))))) c h = (refl, refl, refl, refl)
  item_plain (suc (suc (suc (suc (suc (suc (suc (suc zero)))))))) c h = (refl, refl, refl, refl)
  item_plain (suc (suc (suc (suc (suc (suc (suc (suc (suc zero))))))))) c h = (refl, refl, refl, refl)
  item_plain (suc (suc (suc (suc (suc (suc (suc (suc (suc (suc i)))))))))) c h = absurd (omega arith)

-- ---- depths

abbrev conditions_of : Depth → ℕ
conditions_of (depth c g) = c

abbrev is_condition : Opens → Bool
is_condition nothing = false
is_condition a_condition = true
is_condition a_group = false

-- what stands in a tree has no fewer conditions open, and what stands in a condition has more
deeper_more : (d : Depth) (o : Opens) → conditions_of d ≤ conditions_of (deeper d o)
deeper_more (depth c g) nothing = omega arith
deeper_more (depth c g) a_condition = omega arith
deeper_more (depth c g) a_group = omega arith

deeper_condition : (d : Depth) (o : Opens) → is_condition o ≡ true → conditions_of d < conditions_of (deeper d o)
deeper_condition (depth c g) nothing h = clash cc
deeper_condition (depth c g) a_condition h = omega arith
deeper_condition (depth c g) a_group h = clash cc

-- at a leaf no more conditions are open than may be; so at trees that start with one
shallow : (d : Depth) → too_deep d ≡ false → conditions_of d ≤ max_conditions
shallow (depth c g) h = either (ltb max_conditions c) (λ e. clash (let z : true ≡ false = rw e at h in cc)) (λ e. ltb-false max_conditions c e)

first_shallow :
    {σ : List Symbol} {f : Trees} (d : Depth)
    → Fits rules σ f → first_word σ ≡ true → Allowed too_deep (depths rules d f) → conditions_of d ≤ max_conditions
first_shallow d fits_nil h b = clash cc
first_shallow d (fits_leaf r) h b = shallow d b.0
first_shallow d (fits_node e r₁ r₂) h b = clash cc

-- ---- where trees stand

-- anywhere; in a form, however deep in conditions; directly in a form
data Zone : Type 0 where
  anywhere inside directly : Zone

-- the grammar's rules of which no tree is there
abbrev barred : Zone → List ℕ
barred anywhere = <item> ∷ <item>* ∷ <rule> ∷ <item_or_rule>* ∷ []
barred inside = <rule> ∷ <item_or_rule>* ∷ []
barred directly = []

-- where the trees under a tree of the rule A and the alternative i stand, if it stands in z
abbrev zone_under : Zone → ℕ → ℕ → Zone
zone_under z A i =
    cond (eqb A <item>) (cond (ltb 6 i) inside anywhere)
    (cond (eqb A <option>) anywhere
    (cond (eqb A <rule>) anywhere
    (cond (eqb A <form>) directly
    (cond (eqb A <source>) anywhere z))))

zones_kept : (z : Zone) → everywhere (λ A i a. member A (barred z) || free (barred (zone_under z A i)) a.symbols) ≡ true
unfolding rules
zones_kept anywhere = refl
zones_kept inside = refl
zones_kept directly = refl

-- an item is one of ten, and the last three open a condition with their first word
items_open : everywhere (λ A i a. not (eqb A <item>) || (ltb i 10 && (not (ltb 6 i) || (is_condition a.opens && first_word a.symbols)))) ≡ true
unfolding rules
items_open = refl

-- ---- the rows of trees

module _ (value : ℕ → ℕ) (tree : Trees) where
  abbrev ds : List Draft
  ds = drafts_of value tree 0 0 0

  -- what this tells of the row p that the trees stand in, with c conditions open
  abbrev Stands : Zone → ℕ → ℕ → Type 0
  Stands anywhere c p = Unit {0}
  Stands inside c p = Reaches ds c p
  Stands directly c p = IsForm ds p

  stands_deeper : (z : Zone) (c k p : ℕ) → c ≤ k → Stands z c p → Stands z k p
  stands_deeper anywhere c k p l s = s
  stands_deeper inside c k p l s = reached_more ds c k p l s
  stands_deeper directly c k p l s = s

  item_reaches : (z : Zone) (c p : ℕ) → member <item> (barred z) ≡ false → Stands z c p → Reaches ds c p
  item_reaches anywhere c p h s = clash cc
  item_reaches inside c p h s = s
  item_reaches directly c p h s = form_reached ds c p s

  rule_in_form : (z : Zone) (c p : ℕ) → member <rule> (barred z) ≡ false → Stands z c p → IsForm ds p
  rule_in_form anywhere c p h s = clash cc
  rule_in_form inside c p h s = clash cc
  rule_in_form directly c p h s = s

  -- the parts of an expression, in the row of the rule or condition that holds it
  part : {k a place mark : ℕ} (at : ℕ) → Reaches ds max_conditions at → eqb k code.RULE ≡ false → Housed ds (operand value at k a place mark)
  part at h e = reference_housed ds e h

  expression_housed : (at : ℕ) → Reaches ds max_conditions at → (e : Expression) → AllHoused ds (expression_rows value at e)
  expression_housed at h (number p) = add_row (part at h refl) no_row
  expression_housed at h (constant c p) = add_row (part at h (constant_no_rule c)) no_row
  expression_housed at h (question_named p q) = add_row (part at h refl) no_row
  expression_housed at h (question_numbered p q) = add_row (part at h refl) no_row
  expression_housed at h (rule_named p q) = add_row (part at h refl) no_row
  expression_housed at h (negation p e) = housed_append ds (expression_housed at h e) (add_row (part at h refl) no_row)
  expression_housed at h (binary o p l r) =
      housed_append ds (expression_housed at h l) (housed_append ds (expression_housed at h r) (add_row (part at h (operator_no_rule o)) no_row))

  -- ---- one tree: of the alternative i over the trees f, in the row `parent`, its own rows from the row `at` on

  module _ (parent at n i : ℕ) (f : Trees) where
    abbrev own : ℕ → List Draft
    own A = own_rows value parent at n A i f

    -- its own rows, and what is known of the row that the trees under it stand in
    record Node (rows : List Draft) (z : Zone) (c : ℕ) : Type 0 where
      housed : AllHoused ds rows
      stands : Stands z c (parent_in value parent at rows)

    -- a row that is neither rule nor ruleref: an option's, the form set's, or of an item that is no condition
    plain_node : {c : ℕ} {e : Draft} → is code.RULE e ≡ false → is code.RULE_REF e ≡ false → Node (e ∷ []) anywhere c
    plain_node h k = record { housed = add_row (neither_housed ds h k) no_row; stands = tt }

    form_node : {c : ℕ} → Among ds (own <form>) at → Node (own <form>) directly c
    form_node m = record { housed = add_row (neither_housed ds refl refl) no_row; stands = rw (row_among_lem ds m) }

    rule_node : {c : ℕ} → IsForm ds parent → Among ds (own <rule>) at → Node (own <rule>) anywhere c
    rule_node h m =
        let reaches = reached_below ds 0 at _ (row_among_lem ds m) refl (form_reached ds 0 parent h) in
        let inner = expression_housed at (reached_more ds 1 max_conditions at (omega arith) reaches) (expression (child rule_expression f)) in
        record { housed = add_row (rule_housed ds refl h) inner; stands = tt }

    item_node :
        (a : Alternative) (d : Depth)
        → alternative_of rules <item> i ≡ some a → Fits rules a.symbols f → Allowed too_deep (depths rules (deeper d a.opens) f)
        → Reaches ds (conditions_of d) parent → Among ds (own <item>) at
        → Node (own <item>) (zone_under anywhere <item> i) (conditions_of (deeper d a.opens))
    item_node a d e r b h m =
        let t = both (ltb i 10) _ (at_alternative _ items_open e) in
        let plain = item_plain value parent i f (ltb-true i 10 t.0) in
        let k = conditions_of (deeper d a.opens) in
        let below = reached_below ds (conditions_of d) at _ (row_among_lem ds m) plain.0 (rw plain.3 h) in
        either (ltb 6 i)
        (λ q.
        let opens = both (is_condition a.opens) _ (implied (ltb 6 i) _ t.1 q) in
        let reaches = reached_more ds (suc (conditions_of d)) k at (deeper_condition d a.opens opens.0) below in
        let most = reached_more ds k max_conditions at (first_shallow (deeper d a.opens) r opens.1 b) reaches in
        let inner = expression_housed at most (expression (child condition_expression f)) in
        rw (q, condition) (record { housed = add_row (neither_housed ds plain.1 plain.2) inner; stands = reaches }))
        (λ q. rw (q, condition) (plain_node plain.1 plain.2))

    -- whichever tree it is
    node_of :
        (A : ℕ) (a : Alternative) (z : Zone) (d : Depth)
        → alternative_of rules A i ≡ some a → member A (barred z) ≡ false
        → Fits rules a.symbols f → Allowed too_deep (depths rules (deeper d a.opens) f)
        → Stands z (conditions_of d) parent → Among ds (own A) at → Node (own A) (zone_under z A i) (conditions_of (deeper d a.opens))
    node_of A a z d e h r b s m =
        either (eqb A <item>)
        (λ t. let q = eqb-true A <item> t in rw q (item_node a d (rw q at e) r b (item_reaches z (conditions_of d) parent (rw q at h) s) (rw q at m)))
        (λ t₁. either (eqb A <option>) (λ t. rw (eqb-true A <option> t) (plain_node refl refl))
        (λ t₂. either (eqb A <rule>)
        (λ t. let q = eqb-true A <rule> t in rw q (rule_node (rule_in_form z (conditions_of d) parent (rw q at h) s) (rw q at m)))
        (λ t₃. either (eqb A <form>) (λ t. let q = eqb-true A <form> t in rw q (form_node (rw q at m)))
        (λ t₄. either (eqb A <source>) (λ t. rw (eqb-true A <source> t) (plain_node refl refl))
        (λ t₅.
        let same = stands_deeper z _ _ parent (deeper_more d a.opens) s in
        rw (t₁, t₂, t₃, t₄, t₅, otherwise) (record { housed = no_row; stands = same }))))))

  -- ---- all trees

  trees_housed :
      {σ : List Symbol} {f : Trees} {parent at n : ℕ} (z : Zone) (d : Depth)
      → Fits rules σ f → free (barred z) σ ≡ true → Allowed too_deep (depths rules d f)
      → Stands z (conditions_of d) parent → Reached value tree f parent at n → AllHoused ds (drafts_of value f parent at n)
  trees_housed z d fits_nil h b s w = no_row
  trees_housed z d (fits_leaf r) h b s w = trees_housed z d r h b.1 s (past w)
  trees_housed {parent = parent} {at = at} {n = n} z d (fits_node {A = A} {i = i} {a = a} {c = c} {f = f} e r₁ r₂) h b s w =
      let t = both (not (member A (barred z))) _ h in
      let may = not-true (member A (barred z)) t.0 in
      let parts = allowed_append too_deep (depths rules (deeper d (opening (alternative_of rules A i))) c) (depths rules d f) b in
      let within : Allowed too_deep (depths rules (deeper d a.opens) c) = rw e at parts.0 in
      let here = node_of parent at n i c A a z d e may r₁ within s (own_among value w) in
      let kept : free (barred (zone_under z A i)) a.symbols ≡ true = rw may at (at_alternative _ (zones_kept z) e) in
      housed_append ds
      (housed_append ds here.housed (trees_housed (zone_under z A i) (deeper d a.opens) r₁ kept within here.stands (under w)))
      (trees_housed z d r₂ t.1 parts.1 s (beside w))

-- ---- the rows of a derivation

pub rule_forms : (s : List ℕ) (tree : Trees) → Derives (source_tokens s) tree → NowhereTooDeep tree → RuleForms (drafts s tree)
unfolding drafts form_round
rule_forms s tree derives allowed =
    let ds = drafts_of (number_at s) tree 0 0 0 in
    let all = trees_housed (number_at s) tree anywhere (depth 0 0) derives.fits refl allowed tt whole in
    record { of_rule = λ i l. (housed_at ds i l all).of_rule; of_reference = λ i l. (housed_at ds i l all).of_reference }
