-- The steps of rows lead between rules, and a map to which they are added has them.
use Prim.Native.Nat.{ℕ, ◌≤◌, ◌<◌}
use mathlib.Core.Path.{◌≡◌, refl}
use mathlib.Core.Bool.{Bool, true, false, cond, ◌&&◌}
use mathlib.Core.Logic.{⊎_elim}
use mathlib.Core.List.{List, [], ◌∷◌, ◌++◌, append-nil, append_assoc}
use native.Mathlib.Omega.{arith}
use borrow.Author.Tests.{eqb-true}
use lib.Dec.{eqb}
use Rattle.numbers.specs.Numbers.{empty_map}
use Rattle.circles.specs.Circles.{is_rule, Step, leads, Within, Maps, added}
use Rattle.numbers.proofs.Ranges.{and_yes}
use Rattle.circles.proofs.Reaching.{or_yes}
use Rattle.circles.proofs.Steps.{rule_range, maps_empty, maps_behind}
use Rattle.rule_steps.specs.Steps.{rule_round, rule_found, is_step, step_in, steps_among, rule_steps, greatest, all_added}

-- ---- steps between rules

-- every step of the list leads from a rule number to one
data Rules : List Step → Type 0 where
  none : Rules []
  more : {s : Step} {l : List Step} → (is_rule s.from && is_rule s.to) ≡ true → Rules l → Rules (s ∷ l)

rules_append : {l m : List Step} → Rules l → Rules m → Rules (l ++ m)
rules_append none k = k
rules_append (more e h) k = more e (rules_append h k)

module _ (rows : List (List ℕ)) where
  rules_in_lem : (r : List ℕ) → Rules (step_in rows r)
  unfolding step_in
  rules_in_lem r = go (is_step rows r) refl
    where
      go :
          (t : Bool) → is_step rows r ≡ t
          → Rules (cond t (record { from = rule_round rows r; to = rule_found rows r } ∷ []) [])
      go true e = more e none
      go false e = none

  rules_among : (rs : List (List ℕ)) → Rules (steps_among rows rs)
  unfolding steps_among
  rules_among [] = none
  rules_among (r ∷ rs) = rules_append (rules_in_lem r) (rules_among rs)

-- ---- they lie within the greatest of them

-- the two rules of a step of the list
record Led (l : List Step) (a b : ℕ) : Type 0 where
  from : (0 < a) × (a < 256) × (a ≤ greatest l)
  to : (0 < b) × (b < 256) × (b ≤ greatest l)

led : {l : List Step} → Rules l → (a b : ℕ) → leads l a b ≡ true → Led l a b
unfolding leads greatest
led none a b e = absurd (let z : ◌≡◌ {A = ℕ} 0 1 = cc in omega arith)
led (more {s = s} {l = l} h k) a b e = ⊎_elim here (λ f. later (led k a b f)) (or_yes (eqb s.from a && eqb s.to b) (leads l a b) e)
  where
    here : (eqb s.from a && eqb s.to b) ≡ true → Led (s ∷ l) a b
    here f =
        let z = and_yes (eqb s.from a) (eqb s.to b) f in
        let u = and_yes (is_rule s.from) (is_rule s.to) h in
        let x : s.from ≡ a = eqb-true s.from a z.0 in
        let y : s.to ≡ b = eqb-true s.to b z.1 in
        let p = rule_range s.from u.0 in
        let q = rule_range s.to u.1 in
        record { from = (omega (arith, p), omega (arith, p), omega arith); to = (omega (arith, q), omega (arith, q), omega arith) }

    later : Led l a b → Led (s ∷ l) a b
    later i = record { from = (i.from.0, i.from.1, omega (arith, i.from.2)); to = (i.to.0, i.to.1, omega (arith, i.to.2)) }

greatest_low : {l : List Step} → Rules l → greatest l < 256
unfolding greatest
greatest_low none = omega arith
greatest_low (more {s = s} h k) =
    let u = and_yes (is_rule s.from) (is_rule s.to) h in
    omega (arith, greatest_low k, (rule_range s.from u.0).1, (rule_range s.to u.1).1)

pub steps_within : (rows : List (List ℕ)) → Within (rule_steps rows) (greatest (rule_steps rows))
steps_within rows =
    let h = rules_among rows rows in
    record {
      few = greatest_low h;
      from = λ a b e. let i = led h a b e in (i.from.0, i.from.2);
      to = λ a b e. let i = led h a b e in (i.to.0, i.to.2);
    }

-- ---- a map to which they are added has them

maps_all : {words : List ℕ} {l m : List Step} → Maps words l → Rules m → Maps (all_added words m) (l ++ m)
unfolding all_added
maps_all {l = l} v none = rw (append-nil l) v
maps_all {words = words} {l = l} v (more {s = s} {l = m} e h) =
    rw (append_assoc l (s ∷ []) m) at (maps_all {words = added words s.from s.to} {l = l ++ s ∷ []} (maps_behind v s.from s.to refl e) h)

pub steps_mapped : (rows : List (List ℕ)) → Maps (all_added empty_map (rule_steps rows)) (rule_steps rows)
steps_mapped rows = maps_all {l = []} maps_empty (rules_among rows rows)
