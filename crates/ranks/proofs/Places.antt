-- The loops of `all_ranks`, `put_rank` and `order`: places filled with a list, one after another.
use mathlib.Core.Path.{◌≡◌, refl, sym, ap, ◌∙◌}
use mathlib.Core.Bool.{Bool, true, false, not, cond}
use mathlib.Core.List.{List, [], ◌∷◌, ◌++◌, append-nil, append_assoc}
use Prim.Native.Nat.{ℕ, zero, suc, ◌+◌, ◌-◌, ◌≤◌, ◌<◌}
use native.Mathlib.Omega.{arith}
use native.Mathlib.Numerals.{add-one}
use borrow.Author.Tests.{eqb-true, eqb-false, ltb-true, ltb-false, not-true, not-false}
use lib.Dec.{ltb, eqb}
use lib.ListN.{length, get_or, set, replicate, length-append, length-take, length-set, length-replicate}
use lib.ListN.{get_or-replicate, get_or-append, get_or-eq_default}
use lib.Seq.{get_or-append_seam, get_or-append-add, get_or-set_same, get_or-set_other, get_or-take, ext_get_or}
use Rattle.numbers.specs.Numbers.{picked}
use Rattle.numbers.proofs.Ranges.{pick_same}
use Rattle.circles.specs.Circles.{last}
use Rattle.ranks.specs.Ranks.{rank_in, RanksOf, by_rank, padded, order_in, Filled, Appends}
use Rattle.ranks.proofs.Lists.{pick_last}

-- ---- a list in 256 places

-- what stands past a list is 0, and so are the places behind it
pub padded_at : (l : List ℕ) (i : ℕ) → i < 256 → get_or (padded l) i 0 ≡ get_or l i 0
unfolding padded
padded_at l i h = get_or-take 256 (l ++ replicate 256 0) i 0 h ∙ go (ltb i (length l)) refl
  where
    go : (t : Bool) → ltb i (length l) ≡ t → get_or (l ++ replicate 256 0) i 0 ≡ get_or l i 0
    go true t = get_or-append l (replicate 256 0) 0 i (ltb-true _ _ t)
    go false t =
        let past : length l ≤ i = ltb-false _ _ t in
        let e : i ≡ length l + (i - length l) = omega arith in
        ap (λ (j : ℕ). get_or (l ++ replicate 256 0) j 0) e
        ∙ get_or-append-add l (replicate 256 0) (i - length l) 0
        ∙ get_or-replicate 256 (i - length l) 0 0 (omega arith)
        ∙ sym (get_or-eq_default l 0 past)

pub padded_size : (l : List ℕ) → length (padded l) ≡ 256
unfolding padded
padded_size l =
    omega (arith, length-take 256 (l ++ replicate 256 0), length-append l (replicate 256 0), length-replicate {A = ℕ} 256 0)

filled_none : Filled [] (replicate 256 0) 0
filled_none = record { size = length-replicate {A = ℕ} 256 0; next = omega arith; same = λ j h. get_or-replicate 256 j 0 0 h }

filled_padded : {l places : List ℕ} {i : ℕ} → Filled l places i → places ≡ padded l
filled_padded {l} {places} v =
    ext_get_or 0 places (padded l) (v.size ∙ sym (padded_size l))
    (λ i h. let low : i < 256 = omega (arith, v.size) in v.same i low ∙ sym (padded_at l i low))

-- ---- putting a rule behind a list

appends_none : (before : List ℕ) (i : ℕ) → Appends before i [] before i
appends_none before i = record { behind = λ l v. rw (append-nil l) v }

appends_both : {before mid after more more' : List ℕ} {i j k : ℕ}
    → Appends before i more mid j → Appends mid j more' after k → Appends before i (more ++ more') after k
appends_both {more = more} {more' = more'} p q =
    record { behind = λ l v. rw (append_assoc l more more') at (q.behind (l ++ more) (p.behind l v)) }

module _ (before : List ℕ) (i a : ℕ) where
  -- there is no place left
  full : 256 ≤ i → Appends before i (a ∷ []) before i
  full h =
      record {
        behind = λ l v. let far : 256 ≤ length l = omega (arith, v.next) in
            record {
              size = v.size;
              next = omega (arith, v.next, length-append l (a ∷ []));
              same = λ j g. v.same j g ∙ sym (get_or-append l (a ∷ []) 0 j (omega arith));
            };
      }

  -- there is one
  stored : i < 256 → Appends before i (a ∷ []) (set before i a) (i + 1)
  stored h = record { behind = behind }
    where
      behind : (l : List ℕ) → Filled l before i → Filled (l ++ a ∷ []) (set before i a) (i + 1)
      behind l v =
          record {
            size = length-set before i a ∙ v.size;
            next = omega (arith, v.next, length-append l (a ∷ []));
            same = λ j g. same j g (eqb j i) refl (ltb j i) refl;
          }
        where
          end : i ≡ length l
          end = omega (arith, v.next)

          same : (j : ℕ) → j < 256 → (s : Bool) → eqb j i ≡ s → (t : Bool) → ltb j i ≡ t → get_or (set before i a) j 0 ≡ get_or (l ++ a ∷ []) j 0
          same j g true s t u = rw (eqb-true j i s) (get_or-set_same before i a 0 (omega (arith, v.size)) ∙ sym (rw end (get_or-append_seam l a [] 0)))
          same j g false s true u =
              get_or-set_other before i j a 0 (eqb-false j i s)
              ∙ v.same j g
              ∙ sym (get_or-append l (a ∷ []) 0 j (omega (arith, ltb-true j i u)))
          same j g false s false u =
              let far : i < j = omega (arith, ltb-false j i u, eqb-false j i s) in
              get_or-set_other before i j a 0 (eqb-false j i s)
              ∙ v.same j g
              ∙ get_or-eq_default l 0 (omega arith)
              ∙ sym (get_or-eq_default (l ++ a ∷ []) 0 (omega (arith, length-append l (a ∷ []))))

  -- the tests of `put_if`
  module _ (wanted : Bool) where
    pub put_unwanted : not wanted ≡ true → Appends before i (cond wanted (a ∷ []) []) before i
    put_unwanted e = rw (not-true wanted e) (appends_none before i)

    pub put_full : not wanted ≡ false → 256 ≤ i → Appends before i (cond wanted (a ∷ []) []) before i
    put_full e h = rw (not-false wanted e) (full h)

    pub put_stored : not wanted ≡ false → i < 256 → Appends before i (cond wanted (a ∷ []) []) (set before i a) (i + 1)
    put_stored e h = rw (not-false wanted e) (stored h)

-- ---- the loop of `put_rank`: the rules below a of one rank are put

pub record Putting (p : ℕ → Bool) (n : ℕ) (before : List ℕ) (i a : ℕ) (places : List ℕ) (next : ℕ) : Type 0 where
  pub some : 1 ≤ a
  pub few : a ≤ n + 1
  pub put : Appends before i (picked p 1 (a - 1)) places next

pub putting_start : (p : ℕ → Bool) (n : ℕ) (before : List ℕ) (i : ℕ) → Putting p n before i 1 before i
unfolding picked
putting_start p n before i = record { some = omega arith; few = omega arith; put = appends_none before i }

module _ {p : ℕ → Bool} {n : ℕ} {before : List ℕ} {i a : ℕ} {places : List ℕ} {next : ℕ} (v : Putting p n before i a places next) where
  pub putting_next : {places' : List ℕ} {next' : ℕ} → a ≤ n
      → Appends places next (cond (p a) (a ∷ []) []) places' next' → Putting p n before i (a + 1) places' next'
  putting_next h w =
      let e : a + 1 - 1 ≡ suc (a - 1) = omega (arith, v.some) in
      let f : 1 + (a - 1) ≡ a = omega (arith, v.some) in
      record { some = omega arith; few = omega arith; put = rw (e, pick_last p (a - 1) 1, f) (appends_both v.put w) }

  pub putting_end : n < a → Appends before i (picked p 1 n) places next
  putting_end h = let e : n ≡ a - 1 = omega (arith, v.few) in rw e v.put

-- ---- the loop of `all_ranks`: the ranks below a are known

pub record Knowing (ws : List ℕ) (a : ℕ) (all : List ℕ) : Type 0 where
  pub few : a ≤ 256
  pub size : length all ≡ 256
  pub same : (i : ℕ) → i < a → get_or all i 0 ≡ rank_in ws i

pub knowing_start : (ws : List ℕ) {all : List ℕ} → all ≡ replicate 256 0 → Knowing ws 0 all
knowing_start ws e = record { few = omega arith; size = ap length e ∙ length-replicate {A = ℕ} 256 0; same = λ i h. absurd (omega arith) }

module _ {ws : List ℕ} {a : ℕ} {all : List ℕ} (v : Knowing ws a all) where
  pub knowing_next : {own : ℕ} → a < 256 → own ≡ rank_in ws a → Knowing ws (a + 1) (set all a own)
  knowing_next {own} h e = record { few = omega arith; size = length-set all a own ∙ v.size; same = λ i l. go i l (eqb i a) refl }
    where
      go : (i : ℕ) → i < a + 1 → (b : Bool) → eqb i a ≡ b → get_or (set all a own) i 0 ≡ rank_in ws i
      go i l true b = rw (eqb-true i a b) (get_or-set_same all a own 0 (omega (arith, v.size)) ∙ e)
      go i l false b = get_or-set_other all a i own 0 (eqb-false i a b) ∙ v.same i (omega (arith, eqb-false i a b))

  pub knowing_end : 256 ≤ a → RanksOf ws all
  knowing_end h = record { size = v.size; same = λ i l. v.same i (omega arith) }

-- ---- the loop of `order`: the rules of rank below r are put

by_rank_none : (f : ℕ → ℕ) (n : ℕ) → by_rank f n 0 ≡ []
unfolding by_rank
by_rank_none f n = refl

by_rank_next : (f : ℕ → ℕ) (n k : ℕ) → by_rank f n (suc k) ≡ by_rank f n k ++ picked (λ a. eqb (f a) k) 1 n
unfolding by_rank
by_rank_next f n k = refl

pub by_rank_same : (f g : ℕ → ℕ) (n : ℕ) → ((a : ℕ) → 1 ≤ a → a < 1 + n → f a ≡ g a) → (k : ℕ) → by_rank f n k ≡ by_rank g n k
unfolding by_rank
by_rank_same f g n h zero = refl
by_rank_same f g n h (suc k) =
    rw (by_rank_same f g n h k, pick_same (λ a. eqb (f a) k) (λ a. eqb (g a) k) n 1 (λ a l m. ap (λ (x : ℕ). eqb x k) (h a l m)))

module _ (all : List ℕ) (n : ℕ) where
  pub record Ordering (r : ℕ) (places : List ℕ) (next : ℕ) : Type 0 where
    pub few : r ≤ n
    pub put : Filled (by_rank (λ a. get_or all a 0) n r) places next

  pub ordering_start : {places : List ℕ} → places ≡ replicate 256 0 → Ordering 0 places 0
  ordering_start e = record { few = omega arith; put = rw (by_rank_none (λ a. get_or all a 0) n, e) filled_none }

  module _ {r : ℕ} {places : List ℕ} {next : ℕ} (v : Ordering r places next) where
    pub ordering_next : {places' : List ℕ} {next' : ℕ} → r < n
        → Appends places next (picked (λ a. eqb (get_or all a 0) r) 1 n) places' next' → Ordering (r + 1) places' next'
    ordering_next h w =
        record { few = omega arith; put = rw (add-one r, by_rank_next (λ a. get_or all a 0) n r) (w.behind _ v.put) }

    pub ordering_end : (ws : List ℕ) (m : ℕ) → RanksOf ws all → n ≡ last m → n ≤ r → places ≡ order_in ws m
    unfolding order_in
    ordering_end ws m k e h =
        let f : r ≡ n = omega (arith, v.few) in
        filled_padded v.put
        ∙ rw (f, ← e) (ap padded (by_rank_same (λ a. get_or all a 0) (rank_in ws) n (λ a l g. k.same a (omega arith)) n))
