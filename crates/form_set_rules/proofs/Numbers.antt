-- The own numbers of rules' rows: each number stands in one row, which the rule's expression follows.
-- Assumes nothing.
use Prim.Native.Nat.{ℕ, zero, suc, ◌+◌, ◌≤◌, ◌<◌}
use native.Mathlib.Decide.{ℕ_discrete}
use native.Mathlib.Omega.{arith}
use mathlib.Core.Path.{◌≡◌, refl, sym, ◌∙◌}
use mathlib.Core.Logic.{◌⊎◌, inl, inr, ⊎_elim}
use mathlib.Core.Bool.{true, false, true≢false}
use mathlib.Core.List.{List, ◌∷◌}
use lib.ListN.{length, get_or}
use Rattle.lexemes.proofs.Lists.{either_less}
use Rattle.rows.specs.Codes as code
use Rattle.rows.specs.Codes.{is_expression, expressions}
use Rattle.rows.specs.Columns as column
use Rattle.rows.specs.Table.{cell_at}
use Rattle.answers.specs.Expression.{undefined'}
use Rattle.formulas.specs.Formula.{Formula, f_constant}
use Rattle.laid.specs.Laid.{Stretch}
use Rattle.meaning.specs.Rules.{rule_at}
use Rattle.evaluate.specs.Spells.{Spells}
use Rattle.form_set_rules.proofs.RuleRows.{Statement, RuleRows, no_rows, other_row, rule_row}

-- a rule's row is no part of an expression
pub rule_plain : is_expression code.RULE ≡ false
unfolding is_expression expressions code.member
rule_plain = refl

module _ (t : List ℕ) (count : ℕ) where
  -- row r is a rule's
  abbrev IsRule : ℕ → Type 0
  IsRule r = cell_at t r column.CODE ≡ code.RULE

  -- a rule's row from a statement's on is this one, or comes after the expression in it
  first_or_later : {i j r : ℕ} → Statement t count i j → i ≤ r → IsRule r → (r ≡ i) ⊎ (j ≤ r)
  first_or_later {i} {j} {r} s h k =
      elim (ℕ_discrete r i) [
        | yes e ↦ inl e
        | no d ↦
            either_less r j
            (λ l. let e : true ≡ false = sym (s.stretch.within r (omega arith) l) ∙ rw k rule_plain in absurd (true≢false e))
            (λ l. inr l)
      ]

  -- ---- the numbers are those after n

  pub own_range :
      {i n : ℕ} {rules : List Formula}
      → RuleRows t count i n rules
      → (r : ℕ) → i ≤ r → r < count → IsRule r → (n < cell_at t r column.OWN) × (cell_at t r column.OWN ≤ n + length rules)
  own_range no_rows r h l k = absurd (omega arith)
  own_range (other_row s d rest) r h l k =
      ⊎_elim (λ e. absurd (d (rw e at k))) (λ g. own_range rest r g l k) (first_or_later s h k)
  own_range (rule_row {n = n} s c o e rest) r h l k =
      ⊎_elim
      (λ q. let z : cell_at t r column.OWN ≡ suc n = rw q o in (omega arith, omega arith))
      (λ g. let u = own_range rest r g l k in (omega (arith, u), omega (arith, u)))
      (first_or_later s h k)

  -- where no rule has a number above 255, there are no more of them
  pub few_rules :
      ((r : ℕ) → r < count → IsRule r → cell_at t r column.OWN < 256)
      → {i n : ℕ} {rules : List Formula} → RuleRows t count i n rules → n < 256 → n + length rules < 256
  few_rules low no_rows h = omega arith
  few_rules low (other_row s d rest) h = few_rules low rest h
  few_rules low (rule_row {i = i} s c o e rest) h =
      omega (arith, few_rules low rest (let l = low i s.inside c in omega arith))

  -- ---- the row of a number

  -- rule k with the expression e has its row from i on
  pub record RuleFound (i k : ℕ) (e : Formula) : Type 0 where
    pub at : ℕ
    pub from : i ≤ at
    pub inside : at < count
    pub code_is : IsRule at
    pub own_is : cell_at t at column.OWN ≡ k
    pub only : (r : ℕ) → i ≤ r → r < count → IsRule r → cell_at t r column.OWN ≡ k → r ≡ at
    pub end : ℕ
    pub stretch : Stretch t count (suc at) end
    pub spells : Spells t (suc at) e end

  -- found among the rows after a statement, it is found from the statement on
  earlier :
      {i j k : ℕ} {e : Formula}
      → Statement t count i j → (IsRule i → cell_at t i column.OWN ≡ k → ⊥) → RuleFound j k e → RuleFound i k e
  earlier {i} {j} {k} s d f =
      record {
        at = f.at;
        from = omega (arith, f.from, s.stretch.up);
        inside = f.inside;
        code_is = f.code_is;
        own_is = f.own_is;
        only = λ r h l c o. ⊎_elim (λ q. absurd (d (rw q at c) (rw q at o))) (λ g. f.only r g l c o) (first_or_later s h c);
        end = f.end;
        stretch = f.stretch;
        spells = f.spells;
      }

  -- the first rule
  first_found :
      {i j n : ℕ} {e : Formula} {rules : List Formula}
      → Statement t count i j → IsRule i → cell_at t i column.OWN ≡ suc n → Spells t (suc i) e j → RuleRows t count j (suc n) rules
      → RuleFound i (suc n) e
  first_found {i} {j} s c o e rest =
      record {
        at = i;
        from = omega arith;
        inside = s.inside;
        code_is = c;
        own_is = o;
        only = λ r h l k q. ⊎_elim (λ z. z) (λ g. absurd (let u = own_range rest r g l k in omega arith)) (first_or_later s h k);
        end = j;
        stretch = s.stretch;
        spells = e;
      }

  -- the first rule, or a later one
  either_found :
      {i : ℕ} (n : ℕ) (e : Formula) (rules : List Formula)
      → RuleFound i (suc n) e → ((m : ℕ) → m < length rules → RuleFound i (suc (suc n) + m) (get_or rules m (f_constant undefined')))
      → (m : ℕ) → m < length (e ∷ rules) → RuleFound i (suc n + m) (get_or (e ∷ rules) m (f_constant undefined'))
  either_found n e rules first later zero h = let z : suc n + 0 ≡ suc n = omega arith in rw z first
  either_found n e rules first later (suc m) h =
      let up : suc n + suc m ≡ suc (suc n) + m = omega arith in
      rw up (later m (omega arith))

  rule_found_lem :
      {i n : ℕ} {rules : List Formula}
      → RuleRows t count i n rules
      → (m : ℕ) → m < length rules → RuleFound i (suc n + m) (get_or rules m (f_constant undefined'))
  rule_found_lem no_rows m h = absurd (omega arith)
  rule_found_lem (other_row s d rest) m h = earlier s (λ c o. d c) (rule_found_lem rest m h)
  rule_found_lem (rule_row {n = n} {e = e} {rules = rules} s c o w rest) m h =
      either_found n e rules (first_found s c o w rest) (λ m l. earlier s (λ k q. omega arith) (rule_found_lem rest m l)) m h

  -- each rule, where these are all the rules
  pub rule_at_lem : {rules : List Formula} → RuleRows t count 0 0 rules → (k : ℕ) → 0 < k → k ≤ length rules → RuleFound 0 k (rule_at rules k)
  unfolding rule_at
  rule_at_lem r zero z h = absurd (omega arith)
  rule_at_lem r (suc m) z h = let e : suc 0 + m ≡ suc m = omega arith in rw e at (rule_found_lem r m (omega arith))
