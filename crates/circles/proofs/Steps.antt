-- A map of steps: adding a step, and what the closed map says of the steps.
use mathlib.Core.Path.{◌≡◌, refl, sym, ap, ◌∙◌}
use mathlib.Core.Bool.{Bool, true, false, ◌&&◌, ◌||◌, or-false, or_comm, or_assoc, and-true}
use mathlib.Core.List.{List, [], ◌∷◌, ◌++◌}
use Prim.Native.Nat.{ℕ, zero, suc, ◌+◌, ◌*◌, ◌≤◌, ◌<◌}
use native.Mathlib.Omega.{arith}
use borrow.Author.Tests.{eq-eqb, ne_eqb, eqb-true, eqb-false, ltb-true, lt-ltb}
use lib.Dec.{ltb, eqb}
use lib.ListN.{length}
use Rattle.numbers.specs.Numbers.{empty_map, used, with_used, is_number}
use Rattle.numbers.proofs.Maps.{used_empty, used_marked, length_marked, holds_empty}
use Rattle.numbers.proofs.Ranges.{and_yes}
use Rattle.numbers.proofs.FreeNumbers.{is_number_lem}
use Rattle.circles.specs.Circles.{is_rule, Step, leads, Within, closure, circular, has_step, added, Maps, last, Closed, circular_in}

-- ---- rule numbers

is_rule_lem : (n : ℕ) → 0 < n → n < 256 → is_rule n ≡ true
is_rule_lem n h l = rw (lt-ltb 0 n h, lt-ltb n 256 l)

pub rule_range : (n : ℕ) → is_rule n ≡ true → (0 < n) × (n < 256)
rule_range n e = let z = and_yes (ltb 0 n) (ltb n 256) e in (ltb-true 0 n z.0, ltb-true n 256 z.1)

pub rules_low : (a b : ℕ) → (is_rule a && is_rule b) ≡ true → (a < 256) × (b < 256)
rules_low a b e = let z = and_yes (is_rule a) (is_rule b) e in ((rule_range a z.0).1, (rule_range b z.1).1)

-- ---- adding a step

module _ (ws : List ℕ) (a b : ℕ) where
  pub added_rules : {now : List ℕ} → (is_rule a && is_rule b) ≡ true → now ≡ with_used ws (a * 256 + b) → now ≡ added ws a b
  unfolding added
  added_rules e f = rw e f

  pub added_none : (is_rule a && is_rule b) ≡ false → ws ≡ added ws a b
  unfolding added
  added_none e = rw e

  pub circular_rules : {r : Bool} → (is_rule a && is_rule b) ≡ true → r ≡ used ws (b * 256 + a) → (eqb a b || r) ≡ circular_in ws a b
  unfolding circular_in has_step
  circular_rules e f = rw (e, f)

  pub circular_none : (is_rule a && is_rule b) ≡ false → false ≡ circular_in ws a b
  unfolding circular_in
  circular_none e = rw e

-- ---- a map of steps

pub leads_append : (l m : List Step) (a b : ℕ) → leads (l ++ m) a b ≡ (leads l a b || leads m a b)
unfolding leads
leads_append [] m a b = refl
leads_append (s ∷ l) m a b = rw (leads_append l m a b) (sym (or_assoc (eqb s.from a && eqb s.to b) (leads l a b) (leads m a b)))

pub maps_empty : Maps empty_map []
unfolding has_step leads
maps_empty = record { size = holds_empty.size; same = λ a b h l. used_empty (a * 256 + b) }

-- one number for a step: the numbers of two steps are equal where both ends are
pair_test : (a b x y : ℕ) → b < 256 → y < 256 → eqb (x * 256 + y) (a * 256 + b) ≡ (eqb a x && eqb b y)
pair_test a b x y h l = go (eqb a x) refl (eqb b y) refl
  where
    go : (s : Bool) → eqb a x ≡ s → (t : Bool) → eqb b y ≡ t → eqb (x * 256 + y) (a * 256 + b) ≡ (s && t)
    go true e true f = eq-eqb (x * 256 + y) (a * 256 + b) (rw (eqb-true a x e, eqb-true b y f))
    go true e false f = ne_eqb _ _ (λ (z : x * 256 + y ≡ a * 256 + b). eqb-false b y f (omega (arith, eqb-true a x e)))
    go false e t f = ne_eqb _ _ (λ (z : x * 256 + y ≡ a * 256 + b). eqb-false a x e (omega arith))

module _ {ws : List ℕ} {l : List Step} (v : Maps ws l) (a b : ℕ) {now : List ℕ} (e : now ≡ added ws a b) where
  -- what is no step between rules changes nothing
  pub maps_kept : (is_rule a && is_rule b) ≡ false → Maps now l
  maps_kept f = rw (e ∙ sym (added_none ws a b f)) v

  -- a step between rules, in front of the others or behind them
  maps_front : (is_rule a && is_rule b) ≡ true → Maps now (record { from = a; to = b } ∷ l)
  unfolding has_step leads added
  maps_front f = record { size = ap length now_is ∙ length_marked ws (a * 256 + b) ∙ v.size; same = same }
    where
      rules : (0 < a) × (a < 256) × (b < 256)
      rules = let z = and_yes (is_rule a) (is_rule b) f in ((rule_range a z.0).0, (rule_range a z.0).1, (rule_range b z.1).1)

      now_is : now ≡ with_used ws (a * 256 + b)
      now_is = e ∙ rw f

      number : is_number (a * 256 + b) ≡ true
      number = is_number_lem (a * 256 + b) (omega (arith, rules)) (omega (arith, rules))

      same : (x y : ℕ) → x < 256 → y < 256 → used now (x * 256 + y) ≡ (eqb a x && eqb b y || leads l x y)
      same x y h g =
          ap (λ (m : List ℕ). used m (x * 256 + y)) now_is
          ∙ used_marked ws (a * 256 + b) v.size (x * 256 + y)
          ∙ rw (number, and-true (eqb (x * 256 + y) (a * 256 + b)), v.same x y h g, pair_test a b x y rules.2 g)
          (or_comm (leads l x y) (eqb a x && eqb b y))

  pub maps_behind : (is_rule a && is_rule b) ≡ true → Maps now (l ++ record { from = a; to = b } ∷ [])
  unfolding leads
  maps_behind f =
      let w = maps_front f in
      record {
        size = w.size;
        same = λ x y h g. w.same x y h g
            ∙ rw (leads_append l (record { from = a; to = b } ∷ []) x y, or-false (eqb a x && eqb b y)) (or_comm (eqb a x && eqb b y) (leads l x y));
      }

-- ---- the closed map

closure_same : (r s : ℕ → ℕ → Bool) → ((a b : ℕ) → a < 256 → b < 256 → r a b ≡ s a b)
    → (k a b : ℕ) → k ≤ 256 → a < 256 → b < 256 → closure r k a b ≡ closure s k a b
unfolding closure
closure_same r s e zero a b h l m = e a b l m
closure_same r s e (suc k) a b h l m =
    rw (closure_same r s e k a b (omega arith) l m, closure_same r s e k a k (omega arith) l h, closure_same r s e k k b (omega arith) h m)

-- the closed map has the paths of one or more steps, whatever the steps are
pub closed_paths :
    {ws : List ℕ} {l : List Step} {n : ℕ} {after : List ℕ} → Maps ws l → Closed ws n after
    → (a b : ℕ) → a ≤ last n → b < 256 → has_step after a b ≡ closure (leads l) (suc (last n)) a b
closed_paths {ws} {l} {n} v c a b h g =
    c.same a b h g ∙ closure_same (has_step ws) (leads l) v.same (suc (last n)) a b (omega arith) (omega arith) g

module _ {ws : List ℕ} {l : List Step} {n : ℕ} {after : List ℕ} (v : Maps ws l) (w : Within l n) (c : Closed ws n after) where
  pub closed_steps : (a b : ℕ) → a ≤ n → b < 256 → has_step after a b ≡ closure (leads l) (suc n) a b
  closed_steps a b h g = let e : last n ≡ n = omega (arith, w.few) in rw e at (closed_paths v c a b (omega (arith, w.few)) g)

  -- it tells which steps stand on a circle
  pub closed_circular : (a b : ℕ) → leads l a b ≡ true → circular_in after a b ≡ circular l n a b
  unfolding circular_in circular
  closed_circular a b e =
      let f = w.from a b e in
      let g = w.to a b e in
      rw (is_rule_lem a f.0 (omega (arith, w.few)), is_rule_lem b g.0 (omega (arith, w.few)), closed_steps b a g.1 (omega (arith, w.few)))
