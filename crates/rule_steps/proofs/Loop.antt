-- The loop of `add_steps`: adding what is left comes to the same map, and to the same greatest rule.
use Prim.Native.Nat.{ℕ, suc, ◌+◌, ◌-◌, ◌≤◌, ◌<◌, max}
use mathlib.Core.Path.{◌≡◌, refl, sym, ap, ◌∙◌}
use mathlib.Core.List.{List, [], ◌∷◌, ◌++◌}
use native.Mathlib.Omega.{arith}
use Rattle.std.specs.Prelude.{Option, Some, None, cond}
use Rattle.std.specs.Cmp.{ranks}
use Rattle.std.specs.Option.{option_cmp}
use Rattle.std.proofs.Common.{Ordering, Less, Equal, Greater}
use Rattle.std.specs.Ordering.{MatchOrdering, is_lt, nat_cmp, ord_max}
use Rattle.rows.specs.Rows.{rows_from}
use Rattle.circles.specs.Circles.{Step, added}
use Rattle.rule_steps.specs.Steps.{steps_among, table_steps, step_at, greatest, all_added, rule_or_zero}

-- ---- lists of steps, one after the other

pub added_append : (words : List ℕ) (l m : List Step) → all_added words (l ++ m) ≡ all_added (all_added words l) m
unfolding all_added
added_append words [] m = refl
added_append words (s ∷ l) m = added_append (added words s.from s.to) l m

pub greatest_append : (l m : List Step) → greatest (l ++ m) ≡ max (greatest l) (greatest m)
unfolding greatest
greatest_append [] m = omega arith
greatest_append (s ∷ l) m = omega (arith, greatest_append l m)

-- ---- the greater of two rules that may be absent

pub greater_or_zero : (x y : Option ℕ) → rule_or_zero (ord_max (option_cmp nat_cmp) x y) ≡ max (rule_or_zero x) (rule_or_zero y)
greater_or_zero None None = refl
greater_or_zero None (Some b) = omega arith
greater_or_zero (Some a) None = omega arith
greater_or_zero (Some a) (Some b) = go (nat_cmp b a) (ranks b a)
  where
    go : (o : Ordering) → MatchOrdering o (b < a) (b ≡ a) (a < b) → rule_or_zero (cond (is_lt o) (Some a) (Some b)) ≡ max a b
    go Less h = omega (arith, h)
    go Equal h = omega (arith, h)
    go Greater h = omega (arith, h)

-- ---- the loop

-- the steps of the rows from i to before n
module _ (t : List ℕ) (n : ℕ) where
  abbrev left : ℕ → List Step
  left i = steps_among (rows_from t 0 n) (rows_from t i (n - i))

  left_start : table_steps t n ≡ left 0
  left_start = let e : n - 0 ≡ n = omega arith in rw e

  left_next : (i : ℕ) → i < n → left i ≡ step_at t n i ++ left (i + 1)
  unfolding rows_from steps_among
  left_next i h = let e : n - i ≡ suc (n - (i + 1)) = omega arith in ap (λ (m : ℕ). steps_among (rows_from t 0 n) (rows_from t i m)) e

  left_end : (i : ℕ) → n ≤ i → left i ≡ []
  unfolding rows_from steps_among
  left_end i h = let e : n - i ≡ 0 = omega arith in ap (λ (m : ℕ). steps_among (rows_from t 0 n) (rows_from t i m)) e

  pub record Adding (words₀ words : List ℕ) (last i : ℕ) : Type 0 where
    pub inside : i ≤ n
    pub map : all_added words₀ (table_steps t n) ≡ all_added words (left i)
    pub top : greatest (table_steps t n) ≡ max last (greatest (left i))

  pub adding_start : (words : List ℕ) → Adding words words 0 0
  adding_start words =
      record { inside = omega arith; map = ap (all_added words) left_start; top = ap greatest left_start ∙ omega arith }

  module _ {words₀ words : List ℕ} {last i : ℕ} (v : Adding words₀ words last i) where
    pub adding_next :
        {words' : List ℕ} {r last' : ℕ}
        → i < n → words' ≡ all_added words (step_at t n i) → r ≡ greatest (step_at t n i) → last' ≡ max last r
        → Adding words₀ words' last' (i + 1)
    adding_next {words'} h e f g =
        record {
          inside = omega arith;
          map =
              v.map
              ∙ ap (all_added words) (left_next i h)
              ∙ added_append words (step_at t n i) (left (i + 1))
              ∙ ap (λ (w : List ℕ). all_added w (left (i + 1))) (sym e);
          top = omega (arith, v.top, ap greatest (left_next i h), greatest_append (step_at t n i) (left (i + 1)));
        }

    pub adding_end : n ≤ i → (words ≡ all_added words₀ (table_steps t n)) × (last ≡ greatest (table_steps t n))
    unfolding all_added greatest
    adding_end h =
        (sym (v.map ∙ ap (all_added words) (left_end i h)), omega (arith, v.top, ap greatest (left_end i h)))
