-- The rank of a rule: the ones of its closed row. Without circles it falls with every reference.
use mathlib.Core.Path.{◌≡◌, refl, sym, ap, ◌∙◌}
use mathlib.Core.Bool.{Bool, true, false}
use mathlib.Core.List.{List}
use Prim.Native.Nat.{ℕ, zero, suc, ◌+◌, ◌-◌, ◌*◌, ◌^◌, ◌≤◌, ◌<◌}
use native.Mathlib.Omega.{arith}
use lib.Count.{ones, ones-le}
use lib.ListN.{length, get_or}
use Rattle.numbers.specs.Numbers.{used, picked}
use Rattle.numbers.proofs.Ranges.{one, count_none, count_next, count_add, pick_none, pick_same}
use Rattle.numbers.proofs.Maps.{used_past, count_word}
use Rattle.circles.specs.Circles.{Step, leads, Reaches, here, onward, NoCircle, Within, closure, has_step, Maps, last, Closed}
use Rattle.circles.proofs.Reaching.{not_yes, closure_step, closure_through, closure_path}
use Rattle.circles.proofs.Steps.{closed_paths}
use Rattle.ranks.specs.Ranks.{rank, rank_in}
use Rattle.ranks.proofs.Lists.{count_all, count_fewer}

-- ---- a row's numbers in the map

count_shift : (p : ℕ → Bool) (m k n : ℕ) → length (picked (λ b. p (m + b)) n k) ≡ length (picked p (m + n) k)
count_shift p m zero n = count_none (λ b. p (m + b)) n ∙ sym (count_none p (m + n))
count_shift p m (suc k) n =
    let e : m + n + 1 ≡ m + (n + 1) = omega arith in
    count_next (λ b. p (m + b)) n k ∙ rw (count_shift p m k (n + 1), ← e) (sym (count_next p (m + n) k))

rank_row : (ws : List ℕ) (a : ℕ) → rank_in ws a ≡ length (picked (used ws) (a * 256) 256)
unfolding rank_in has_step
rank_row ws a = let e : a * 256 + 0 ≡ a * 256 = omega arith in count_shift (used ws) (a * 256) 256 0 ∙ rw e

-- what is no rule number has no row
pub rank_none : (ws : List ℕ) (a : ℕ) → length ws ≡ 1024 → 256 ≤ a → 0 ≡ rank_in ws a
rank_none ws a e h =
    sym (rank_row ws a ∙ ap length (pick_none (used ws) 256 (a * 256) (λ k l g. used_past ws k (omega arith))))

-- the loop of `rank`: the ones of j words
pub record Ranking (ws : List ℕ) (a sum j : ℕ) : Type 0 where
  pub few : j ≤ 4
  pub low : sum ≤ j * 64
  pub same : sum + length (picked (used ws) 0 (a * 256)) ≡ length (picked (used ws) 0 ((a * 4 + j) * 64))

pub ranking_start : (ws : List ℕ) (a : ℕ) → Ranking ws a 0 0
ranking_start ws a =
    let e : (a * 4 + 0) * 64 ≡ a * 256 = omega arith in
    record { few = omega arith; low = omega arith; same = rw e (omega arith) }

module _ {ws : List ℕ} {a sum j : ℕ} (v : Ranking ws a sum j) where
  pub ranking_next : j < 4 → get_or ws (a * 4 + j) 0 < 2 ^ 64 → Ranking ws a (sum + ones (get_or ws (a * 4 + j) 0)) (j + 1)
  ranking_next h l =
      let e : a * 4 + (j + 1) ≡ a * 4 + j + 1 = omega arith in
      record {
        few = omega arith;
        low = omega (arith, v.low, ones-le 64 _ l);
        same = rw e (omega (arith, v.same, count_word ws (a * 4 + j) l));
      }

  pub ranking_end : 4 ≤ j → sum ≡ rank_in ws a
  ranking_end h =
      let e : (a * 4 + j) * 64 ≡ a * 256 + 256 = omega (arith, v.few) in
      let z : 0 + a * 256 ≡ a * 256 = omega arith in
      let all : length (picked (used ws) 0 ((a * 4 + j) * 64)) ≡ length (picked (used ws) 0 (a * 256)) + length (picked (used ws) (a * 256) 256) =
      rw (e, count_add (used ws) (a * 256) 256 0, z) in
      sym (rank_row ws a ∙ omega (arith, v.same))

-- ---- without circles the rank falls with every step

module _ (l : List Step) (n : ℕ) (w : Within l n) where
  -- what a rule reaches is a rule
  reached_rule : {x k : ℕ} → Reaches (leads l) x k → (0 < x) × (x ≤ n) → (0 < k) × (k ≤ n)
  reached_rule here h = h
  reached_rule (onward {a = x} {b = y} e p) h = reached_rule p (w.to x y e)

  closure_rule : (a k : ℕ) → closure (leads l) (suc n) a k ≡ true → (0 < k) × (k ≤ n)
  closure_rule a k e = let u = closure_path (leads l) (suc n) a k e in reached_rule u.2 (w.to a u.0 u.1)

  module _ (free : NoCircle l) where
    never_back : (a : ℕ) → closure (leads l) (suc n) a a ≡ false
    never_back a = not_yes _ (λ e. let u = closure_path (leads l) (suc n) a a e in free a u.0 u.1 u.2)

    -- a rule reaches more rules than one that it refers to: all that this one reaches, and this one
    pub rank_falls : (a b : ℕ) → leads l a b ≡ true → rank l n b < rank l n a
    unfolding rank
    rank_falls a b e =
        let h : b ≤ n = (w.to a b e).1 in
        let step : closure (leads l) (suc n) a b ≡ true = closure_step (leads l) (suc n) a b e in
        count_fewer (closure (leads l) (suc n) b) (closure (leads l) (suc n) a) 256 0 b
        (λ k f g t. closure_through (leads l) (suc n) b a k (omega arith) step t)
        (omega arith) (omega (arith, w.few)) (never_back b) step

    -- it reaches rules of 1 to n, and not itself
    pub rank_low : (a : ℕ) → 0 < a → a ≤ n → rank l n a < n
    unfolding rank
    rank_low a z h =
        omega (
          arith,
          count_next reached 0 255,
          ap one (not_yes (reached 0) (λ e. omega (arith, closure_rule a 0 e))),
          ap (λ (m : ℕ). length (picked reached 1 m)) split,
          count_add reached n (255 - n) 1,
          ap length (pick_none reached (255 - n) (1 + n) (λ k f g. not_yes (reached k) (λ e. omega (arith, closure_rule a k e)))),
          count_fewer reached (λ k. true) n 1 a (λ k f g e. refl) z (omega arith) (never_back a) refl,
          count_all (λ k. true) n 1 (λ k f g. refl),
        )
      where
        reached : ℕ → Bool
        reached = closure (leads l) (suc n) a

        split : 255 ≡ n + (255 - n)
        split = omega (arith, w.few)

-- the ranks of the closed map, whatever the steps are
pub closed_rank :
    {ws : List ℕ} {l : List Step} {n : ℕ} {after : List ℕ} → Maps ws l → Closed ws n after
    → (a : ℕ) → a ≤ last n → rank_in after a ≡ rank l (last n) a
unfolding rank_in rank
closed_rank {l = l} {n = n} {after = after} v c a h =
    ap length (pick_same (has_step after a) (closure (leads l) (suc (last n)) a) 256 0 (λ k f g. closed_paths v c a k h (omega arith)))
