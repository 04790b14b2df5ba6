-- The steps of a form set's rules are their references.
-- Assumes nothing.
use Prim.Native.Nat.{ℕ, zero, suc, ◌+◌, ◌≤◌, ◌<◌}
use native.Mathlib.Omega.{arith}
use mathlib.Core.Path.{◌≡◌, refl, sym, ◌∙◌}
use mathlib.Core.Bool.{Bool, true, false, true≢false, ◌&&◌, ◌||◌, or-false, and-false, and-or_distrib_left}
use mathlib.Core.List.{List, [], ◌∷◌, map}
use borrow.Author.Tests.{eq-eqb, ne_eqb, eqb-true, eqb-false, ltb-true, ltb-false}
use lib.Dec.{eqb, ltb}
use lib.ListN.{length, get_or, get_or-eq_default}
use Rattle.numbers.specs.Numbers.{mem}
use Rattle.circles.specs.Circles.{leads, Within}
use Rattle.circles.proofs.Steps.{leads_append}
use Rattle.answers.specs.Expression.{undefined'}
use Rattle.formulas.specs.Formula.{Formula, f_constant}
use Rattle.meaning.specs.References.{references}
use Rattle.meaning.specs.Rules.{rule_at, steps_from, steps, RuleSet}

-- ---- which steps lead from a to b

eqb_sym : (a b : ℕ) → eqb a b ≡ eqb b a
eqb_sym a b = go (eqb b a) refl
  where
    go : (t : Bool) → eqb b a ≡ t → eqb a b ≡ t
    go true e = eq-eqb a b (sym (eqb-true b a e))
    go false e = ne_eqb a b (λ q. eqb-false b a e (sym q))

leads_one : (n a b : ℕ) (l : List ℕ) → leads (map (λ m. record { from = n; to = m }) l) a b ≡ (eqb n a && mem b l)
unfolding leads mem
leads_one n a b [] = sym (and-false (eqb n a))
leads_one n a b (m ∷ l) = rw (leads_one n a b l, eqb_sym m b) (sym (and-or_distrib_left (eqb n a) (eqb b m) (mem b l)))

leads_first : (n a b : ℕ) (e : Formula) (rules : List Formula)
    → leads (steps_from n (e ∷ rules)) a b ≡ (eqb n a && mem b (references e) || leads (steps_from (suc n) rules) a b)
unfolding steps_from
leads_first n a b e rules =
    leads_append (map (λ m. record { from = n; to = m }) (references e)) (steps_from (suc n) rules) a b
    ∙ rw (leads_one n a b (references e))

-- none before the first rule
leads_before : (n a b : ℕ) (rules : List Formula) → a < n → leads (steps_from n rules) a b ≡ false
unfolding leads steps_from
leads_before n a b [] h = refl
leads_before n a b (e ∷ rules) h =
    leads_first n a b e rules ∙ rw (ne_eqb n a (λ q. omega arith)) (leads_before (suc n) a b rules (omega arith))

leads_at : (n k b : ℕ) (rules : List Formula) → leads (steps_from n rules) (n + k) b ≡ mem b (references (get_or rules k (f_constant undefined')))
unfolding leads steps_from references mem
leads_at n k b [] = refl
leads_at n zero b (e ∷ rules) =
    leads_first n (n + 0) b e rules
    ∙ rw (eq-eqb n (n + 0) (omega arith), leads_before (suc n) (n + 0) b rules (omega arith), or-false (mem b (references e)))
leads_at n (suc k) b (e ∷ rules) =
    let up : suc n + k ≡ n + suc k = omega arith in
    leads_first n (n + suc k) b e rules
    ∙ rw (ne_eqb n (n + suc k) (λ q. omega arith)) (rw (← up) (leads_at (suc n) k b rules))

-- a step leads from a to b exactly when the expression of rule a refers to rule b
pub steps_lead : (rules : List Formula) (a b : ℕ) → leads (steps rules) a b ≡ mem b (references (rule_at rules a))
unfolding rule_at references mem
steps_lead rules zero b = leads_before 1 0 b rules (omega arith)
steps_lead rules (suc k) b = let up : 1 + k ≡ suc k = omega arith in rw (← up) (leads_at 1 k b rules)

-- ---- the steps of a set of rules stay within it

past_end : (rules : List Formula) (a b : ℕ) → length rules < a → leads (steps rules) a b ≡ false
unfolding rule_at references mem
past_end rules zero b h = absurd (omega arith)
past_end rules (suc k) b h =
    steps_lead rules (suc k) b ∙ rw (get_or-eq_default rules (f_constant undefined') {n = k} (omega arith))

pub steps_within : {rules : List Formula} → RuleSet rules → Within (steps rules) (length rules)
steps_within {rules} set =
    record {
      few = set.few;
      from = λ a b e. (after a b e, before a b e);
      to = λ a b e. set.found a b (sym (steps_lead rules a b) ∙ e);
    }
  where
    after : (a b : ℕ) → leads (steps rules) a b ≡ true → 0 < a
    after zero b e = absurd (true≢false (sym e ∙ leads_before 1 0 b rules (omega arith)))
    after (suc k) b e = omega arith

    before : (a b : ℕ) → leads (steps rules) a b ≡ true → a ≤ length rules
    before a b e = go (ltb (length rules) a) refl
      where
        go : (t : Bool) → ltb (length rules) a ≡ t → a ≤ length rules
        go true t = absurd (true≢false (sym e ∙ past_end rules a b (ltb-true (length rules) a t)))
        go false t = ltb-false (length rules) a t
