-- Laws of lists without some of their elements.
-- Assumes nothing.
use mathlib.Core.Path.{◌≡◌, refl}
use mathlib.Core.List.{List, [], ◌∷◌, ◌++◌}
use mathlib.Core.Bool.{Bool, true, false, cond}
use Prim.Native.Nat.{ℕ, suc, ◌≤◌, ◌<◌}
use native.Mathlib.Omega.{arith}
use Rattle.grammar.specs.Places.{Ascending, ascending_none, ascending_more}
use Rattle.grammar.proofs.Totals.{ascending_from}
use Rattle.earliest.specs.Order.{Sublist, sublist_none, sublist_skip, sublist_take, Later, later_none, later_more}

module _ {X : Type 0} where
  -- none of the elements
  pub sublist_nil : (qs : List X) → Sublist [] qs
  sublist_nil [] = sublist_none
  sublist_nil (q ∷ qs) = sublist_skip (sublist_nil qs)

  -- one list after another
  pub sublist_append : {ps qs rs ts : List X} → Sublist ps qs → Sublist rs ts → Sublist (ps ++ rs) (qs ++ ts)
  sublist_append sublist_none v = v
  sublist_append (sublist_skip u) v = sublist_skip (sublist_append u v)
  sublist_append (sublist_take u) v = sublist_take (sublist_append u v)

  -- of the first of two lists, and of the second
  pub sublist_first : {ps qs : List X} (rs : List X) → Sublist ps qs → Sublist ps (qs ++ rs)
  sublist_first rs sublist_none = sublist_nil rs
  sublist_first rs (sublist_skip u) = sublist_skip (sublist_first rs u)
  sublist_first rs (sublist_take u) = sublist_take (sublist_first rs u)

  pub sublist_second : {ps rs : List X} (qs : List X) → Sublist ps rs → Sublist ps (qs ++ rs)
  sublist_second qs u = sublist_append (sublist_nil qs) u

  pub sublist_trans : {ps qs rs : List X} → Sublist ps qs → Sublist qs rs → Sublist ps rs
  sublist_trans u sublist_none = u
  sublist_trans {ps = ps} u (sublist_skip v) = sublist_skip (sublist_trans {ps = ps} u v)
  sublist_trans {ps = ps} (sublist_skip u) (sublist_take v) = sublist_skip (sublist_trans {ps = ps} u v)
  sublist_trans (sublist_take {q = q} {ps = ps} u) (sublist_take {ps = ps'} {qs = qs} v) = sublist_take (sublist_trans {ps = ps} u v)

  -- whichever of two a test takes
  pub sublist_if : (b : Bool) {ps qs rs : List X} → (b ≡ true → Sublist ps rs) → (b ≡ false → Sublist qs rs) → Sublist (cond b ps qs) rs
  sublist_if true u v = u refl
  sublist_if false u v = v refl

-- ---- places

pub ascending_sublist : {low : ℕ} {ps qs : List ℕ} → Sublist ps qs → Ascending low qs → Ascending low ps
ascending_sublist sublist_none a = ascending_none
ascending_sublist {low} (sublist_skip {q = q} u) (ascending_more l a) =
    let le : low ≤ suc q = omega arith in ascending_from le (ascending_sublist u a)
ascending_sublist (sublist_take u) (ascending_more l a) = ascending_more l (ascending_sublist u a)

ascending_later : (p : ℕ) {low : ℕ} {ps : List ℕ} → p < low → Ascending low ps → Later p ps
ascending_later p h ascending_none = later_none
ascending_later p h (ascending_more {p = q} l a) = let more : p < q = omega arith in later_more more (ascending_later p (omega arith) a)

-- the first of ascending places is the earliest
pub first_earliest : {low p : ℕ} {ps : List ℕ} → Ascending low (p ∷ ps) → Later p ps
first_earliest {p = p} (ascending_more l a) = ascending_later p (omega arith) a
