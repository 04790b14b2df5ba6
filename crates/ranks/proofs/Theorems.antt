-- What is believed of ranks and the order (W-202): without circles every rule comes after those that it refers to.
use mathlib.Core.Path.{◌≡◌, refl, sym, ap, ◌∙◌}
use mathlib.Core.Bool.{Bool, true, false}
use mathlib.Core.List.{List}
use Prim.Native.Nat.{ℕ, ◌≤◌, ◌<◌}
use native.Mathlib.Omega.{arith}
use borrow.Author.Tests.{ltb-true, ltb-false}
use lib.Dec.{ltb}
use lib.ListN.{length, get_or, get_or-eq_default}
use Rattle.circles.specs.Circles.{Step, leads, NoCircle, Within, Maps, last, Closed}
use Rattle.ranks.specs.Ranks.{InOrder, rank, by_rank, padded, order_of, rank_in, order_in}
use Rattle.ranks.proofs.Ranks.{rank_falls, rank_low, closed_rank}
use Rattle.ranks.proofs.Places.{padded_at, padded_size, by_rank_same}
use Rattle.ranks.proofs.Ordering.{order_length, order_rule, order_place, order_once, order_lower}

-- an order has 256 places, whatever the map or the steps
pub order_size : (words : List ℕ) (n : ℕ) → length (order_in words n) ≡ 256
unfolding order_in
order_size words n = padded_size _

pub steps_size : (l : List Step) (n : ℕ) → length (order_of l n) ≡ 256
unfolding order_of
steps_size l n = padded_size _

-- ---- steps without circles

module _ {l : List Step} {n : ℕ} (w : Within l n) (free : NoCircle l) where
  abbrev low : (a : ℕ) → 0 < a → a ≤ n → rank l n a < n
  low = rank_low l n w free

  at : (i : ℕ) → i < 256 → get_or (order_of l n) i 0 ≡ get_or (by_rank (rank l n) n n) i 0
  unfolding order_of
  at i h =
      let e : last n ≡ n = omega (arith, w.few) in
      padded_at (by_rank (rank l (last n)) (last n) (last n)) i h ∙ rw e

  -- the order follows the references
  pub steps_ordered : InOrder l n (order_of l n)
  steps_ordered = record { rule = rule; place = place; once = once; earlier = earlier; past = λ i h. past i h (ltb i 256) refl }
    where
      rule : (i : ℕ) → i < n → (0 < get_or (order_of l n) i 0) × (get_or (order_of l n) i 0 ≤ n)
      rule i h = rw (at i (omega (arith, w.few))) (order_rule (rank l n) n low i h)

      place : (a : ℕ) → 0 < a → a ≤ n → (i : ℕ) × (i < n) × (get_or (order_of l n) i 0 ≡ a)
      place a z h =
          let u = order_place (rank l n) n low a z h in
          (u.0, u.1, at u.0 (omega (arith, w.few, u.1)) ∙ u.2)

      once : (i j : ℕ) → i < j → j < n → get_or (order_of l n) i 0 ≡ get_or (order_of l n) j 0 → ⊥
      once i j h g e =
          order_once (rank l n) n low i j h g
          (sym (at i (omega (arith, w.few))) ∙ e ∙ at j (omega (arith, w.few)))

      earlier : (i b : ℕ) → i < n → leads l (get_or (order_of l n) i 0) b ≡ true → (j : ℕ) × (j < i) × (get_or (order_of l n) j 0 ≡ b)
      earlier i b h e =
          let a : ℕ = get_or (by_rank (rank l n) n n) i 0 in
          let f : leads l a b ≡ true = ap (λ (x : ℕ). leads l x b) (sym (at i (omega (arith, w.few)))) ∙ e in
          let u = order_lower (rank l n) n low i b h (w.to a b f).0 (w.to a b f).1 (rank_falls l n w free a b f) in
          (u.0, u.1, at u.0 (omega (arith, w.few, u.1)) ∙ u.2)

      past : (i : ℕ) → n ≤ i → (t : Bool) → ltb i 256 ≡ t → get_or (order_of l n) i 0 ≡ 0
      past i h true t =
          at i (ltb-true i 256 t)
          ∙ get_or-eq_default (by_rank (rank l n) n n) 0 (omega (arith, order_length (rank l n) n low))
      past i h false t = get_or-eq_default (order_of l n) 0 (omega (arith, steps_size l n, ltb-false i 256 t))

-- ---- the closed map of steps

module _ {ws : List ℕ} {l : List Step} {n : ℕ} {after : List ℕ} (v : Maps ws l) (c : Closed ws n after) where
  -- its order is that of the steps, be there circles or not
  pub order_same : order_in after n ≡ order_of l n
  unfolding order_in order_of
  order_same = ap padded (by_rank_same (rank_in after) (rank l (last n)) (last n) (λ a z h. closed_rank v c a (omega arith)) (last n))

  module _ (w : Within l n) (free : NoCircle l) where
    rank_is : (a : ℕ) → a ≤ n → rank_in after a ≡ rank l n a
    rank_is a h = let e : last n ≡ n = omega (arith, w.few) in rw e at (closed_rank v c a (omega arith))

    -- the rank falls with every reference
    pub ranks_fall : (a b : ℕ) → leads l a b ≡ true → rank_in after b < rank_in after a
    ranks_fall a b e = rw (rank_is a (w.from a b e).1, rank_is b (w.to a b e).1) (rank_falls l n w free a b e)

    -- n rules have ranks below n
    pub ranks_low : (a : ℕ) → 0 < a → a ≤ n → rank_in after a < n
    ranks_low a z h = rw (rank_is a h) (rank_low l n w free a z h)

    -- the order follows the references
    pub order_follows : InOrder l n (order_in after n)
    order_follows = rw order_same (steps_ordered w free)
