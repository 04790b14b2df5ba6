-- What lists of places weigh, how often a place is in one, and lists without a repeat.
-- Assumes nothing.
use mathlib.Core.Path.{◌≡◌, refl}
use mathlib.Core.List.{List, [], ◌∷◌, ◌++◌}
use mathlib.Core.Logic.{◌≢◌}
use Prim.Native.Nat.{ℕ, ◌+◌, ◌≤◌, ◌<◌}
use native.Mathlib.Omega.{arith}
use lib.Dec.{eqb}
use borrow.Author.Tests.{eqb-true, eqb-false, ne_eqb}
use Rattle.lexemes.proofs.Lists.{either}
use Rattle.ll1.specs.Trees.{Trees, nil, leaf, node, Token, token, leaves}
use Rattle.ll1.proofs.Basics.{same}
use Rattle.grammar.specs.Places.{places_of, total, hit, times}
use Rattle.grammar.specs.Places.{Absent, absent_none, absent_more, Distinct, distinct_none, distinct_more, Ascending, ascending_none, ascending_more}

-- ---- weights

module _ (w : ℕ → ℕ) where
  pub total_append : (ps qs : List ℕ) → total w (ps ++ qs) ≡ total w ps + total w qs
  total_append [] qs = omega arith
  total_append (p ∷ ps) qs = omega (arith, total_append ps qs)

  -- the weight of the leaves
  abbrev pub load : Trees → ℕ
  load nil = 0
  load (leaf (token k p) f) = w p + load f
  load (node A i c f) = load c + load f

  tokens_append : (ts us : List Token) → total w (places_of (ts ++ us)) ≡ total w (places_of ts) + total w (places_of us)
  tokens_append [] us = omega arith
  tokens_append (token k p ∷ ts) us = omega (arith, tokens_append ts us)

  pub load_total : (f : Trees) → load f ≡ total w (places_of (leaves f))
  load_total nil = refl
  load_total (leaf (token k p) f) = omega (arith, load_total f)
  load_total (node A i c f) = omega (arith, tokens_append (leaves c) (leaves f), load_total c, load_total f)

-- ---- how often

module _ (p q : ℕ) where
  hit_same : q ≡ p → hit p q ≡ 1
  unfolding hit
  hit_same e = rw (e, same p)

  hit_other : q ≢ p → hit p q ≡ 0
  unfolding hit
  hit_other h = rw (ne_eqb q p h)

absent_times : (p : ℕ) (ps : List ℕ) → times p ps ≡ 0 → Absent p ps
absent_times p [] h = absent_none
absent_times p (q ∷ ps) h = absent_more (λ (e : q ≡ p). omega (arith, hit_same p q e)) (absent_times p ps (omega arith))

-- what is in a list at most once
pub distinct_times : (ps : List ℕ) → ((p : ℕ) → times p ps ≤ 1) → Distinct ps
distinct_times [] h = distinct_none
distinct_times (p ∷ ps) h =
    distinct_more (absent_times p ps (omega (arith, h p, hit_same p p refl))) (distinct_times ps (λ q. omega (arith, h q)))

-- ---- ascending places

below_none : (p : ℕ) {low : ℕ} {ps : List ℕ} → Ascending low ps → p < low → times p ps ≡ 0
below_none p ascending_none h = refl
below_none p (ascending_more {p = q} l a) h = omega (arith, hit_other p q (λ e. omega arith), below_none p a (omega arith))

pub ascending_times : (p : ℕ) {low : ℕ} {ps : List ℕ} → Ascending low ps → times p ps ≤ 1
ascending_times p ascending_none = omega arith
ascending_times p (ascending_more {p = q} l a) =
    either (eqb q p)
    (λ e. let is = eqb-true q p e in omega (arith, hit_same p q is, below_none p a (omega arith)))
    (λ e. omega (arith, hit_other p q (eqb-false q p e), ascending_times p a))

pub ascending_from : {lower low : ℕ} {ps : List ℕ} → lower ≤ low → Ascending low ps → Ascending lower ps
ascending_from h ascending_none = ascending_none
ascending_from {lower} h (ascending_more {p = p} l a) = let le : lower ≤ p = omega arith in ascending_more le a
