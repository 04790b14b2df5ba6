-- Lists of own numbers: which numbers stand in them, and how zeros are filled.
use mathlib.Core.Path.{◌≡◌, refl, sym, ap, ◌∙◌}
use mathlib.Core.Bool.{Bool, true, false, ◌&&◌, ◌||◌, or-true, or-false, and-true, or_assoc, or_comm, and-or_distrib_left}
use mathlib.Core.List.{List, [], ◌∷◌, ◌++◌}
use Prim.Native.Nat.{ℕ, zero, suc, ◌≤◌, ◌<◌}
use native.Mathlib.Omega.{arith}
use borrow.Author.Tests.{eq-eqb, ne_eqb, eqb-true}
use lib.Dec.{eqb, eqb-zero-suc}
use lib.ListN.{length, get_or, take}
use lib.Seq.{take-nil}
use Rattle.numbers.specs.Numbers.{is_number, mem, fill, unwritten, written}
use Rattle.numbers.proofs.Ranges.{or_no}

-- ---- what stands in a list

pub mem_append : (k : ℕ) (l m : List ℕ) → mem k (l ++ m) ≡ (mem k l || mem k m)
unfolding mem
mem_append k [] m = refl
mem_append k (q ∷ l) m = rw (mem_append k l m) (sym (or_assoc (eqb k q) (mem k l) (mem k m)))

-- a list with n in front
pub mem_cons : (k n : ℕ) (l : List ℕ) → mem k (n ∷ l) ≡ (mem k l || eqb k n)
unfolding mem
mem_cons k n l = or_comm (eqb k n) (mem k l)

pub mem_get_or : (l : List ℕ) (i : ℕ) → i < length l → mem (get_or l i 0) l ≡ true
unfolding mem
mem_get_or [] i h = absurd (omega arith)
mem_get_or (q ∷ l) zero h = rw (eq-eqb q q refl)
mem_get_or (q ∷ l) (suc i) h = rw (mem_get_or l i (omega arith), or-true (eqb (get_or l i 0) q))

pub mem_take : (k n : ℕ) (l : List ℕ) → mem k l ≡ false → mem k (take n l) ≡ false
unfolding mem
mem_take k n [] e = rw (take-nil n)
mem_take k zero (q ∷ l) e = refl
mem_take k (suc n) (q ∷ l) e = let b = or_no (eqb k q) (mem k l) e in rw (b.0, mem_take k n l b.1)

-- what is written: all of the list but 0
pub zero_unwritten : (l : List ℕ) → mem 0 (written l) ≡ false
unfolding mem written
zero_unwritten [] = refl
zero_unwritten (zero ∷ l) = zero_unwritten l
zero_unwritten (suc q ∷ l) = rw (eqb-zero-suc q) (zero_unwritten l)

pub mem_written : (k : ℕ) (l : List ℕ) → (k ≡ 0 → unwritten l ≤ 0) → mem k (written l) ≡ mem k l
unfolding mem written unwritten
mem_written k [] z = refl
mem_written k (zero ∷ l) z = rw (ne_eqb k 0 (λ e. omega (arith, z e))) (mem_written k l (λ e. omega (arith, z e)))
mem_written k (suc q ∷ l) z = rw (mem_written k l z)

pub suc_written : (k : ℕ) (l : List ℕ) → mem (suc k) (written l) ≡ mem (suc k) l
suc_written k l = mem_written (suc k) l (λ e. absurd (omega arith))

-- the numbers that are borne, and n
pub borne_or : (k n : ℕ) (b : Bool) → (is_number k && b || eqb k n && is_number n) ≡ (is_number k && (b || eqb k n))
borne_or k n b = go (eqb k n) refl
  where
    go : (c : Bool) → eqb k n ≡ c → (is_number k && b || c && is_number n) ≡ (is_number k && (b || c))
    go true e = rw (← eqb-true k n e) (sym (and-or_distrib_left (is_number k) b true ∙ rw (and-true (is_number k))))
    go false e = rw (or-false b, or-false (is_number k && b))

-- ---- filling, and counting zeros, element by element

pub fill_end : (fs : List ℕ) → fill fs [] ≡ []
unfolding fill
fill_end fs = refl

pub fill_none : (l : List ℕ) → fill [] l ≡ l
unfolding fill
fill_none [] = refl
fill_none (q ∷ l) = refl

pub fill_kept : {q : ℕ} (fs l : List ℕ) → (q ≡ 0 → ⊥) → fill fs (q ∷ l) ≡ q ∷ fill fs l
unfolding fill
fill_kept [] l z = rw (fill_none l)
fill_kept {q = zero} (f ∷ fs) l z = absurd (z refl)
fill_kept {q = suc p} (f ∷ fs) l z = refl

pub fill_given : {q : ℕ} (f : ℕ) (fs l : List ℕ) → q ≡ 0 → fill (f ∷ fs) (q ∷ l) ≡ f ∷ fill fs l
unfolding fill
fill_given f fs l e = rw e

pub unwritten_kept : {q : ℕ} (l : List ℕ) → (q ≡ 0 → ⊥) → unwritten (q ∷ l) ≡ unwritten l
unfolding unwritten
unwritten_kept {q = zero} l z = absurd (z refl)
unwritten_kept {q = suc p} l z = refl

pub unwritten_given : {q : ℕ} (l : List ℕ) → q ≡ 0 → unwritten (q ∷ l) ≡ suc (unwritten l)
unfolding unwritten
unwritten_given l e = rw e

-- before a zero stand fewer zeros than in the whole list
pub unwritten_before : (l : List ℕ) (j : ℕ) → j < length l → get_or l j 0 ≡ 0 → unwritten (take j l) < unwritten l
unfolding unwritten
unwritten_before [] j h z = absurd (omega arith)
unwritten_before (zero ∷ l) zero h z = omega arith
unwritten_before (zero ∷ l) (suc j) h z = omega (arith, unwritten_before l j (omega arith) z)
unwritten_before (suc q ∷ l) zero h z = absurd (omega arith)
unwritten_before (suc q ∷ l) (suc j) h z = unwritten_before l j (omega arith) z

-- ---- the filled list

pub fill_length : (fs l : List ℕ) → length (fill fs l) ≡ length l
unfolding fill
fill_length fs [] = refl
fill_length [] (q ∷ l) = refl
fill_length (f ∷ fs) (zero ∷ l) = ap suc (fill_length fs l)
fill_length (f ∷ fs) (suc q ∷ l) = ap suc (fill_length (f ∷ fs) l)

-- in it stand the numbers that are written, and as many of fs as there were zeros
pub fill_mem : (k : ℕ) (fs l : List ℕ) → (k ≡ 0 → unwritten l ≤ length fs) → mem k (fill fs l) ≡ (mem k (written l) || mem k (take (unwritten l) fs))
unfolding mem fill written unwritten
fill_mem k fs [] z = refl
fill_mem k [] (q ∷ l) z = rw (take-nil (unwritten (q ∷ l)), or-false (mem k (written (q ∷ l)))) (sym (mem_written k (q ∷ l) z))
fill_mem k (f ∷ fs) (zero ∷ l) z =
    let given : List ℕ = take (unwritten l) fs in
    rw (fill_mem k fs l (λ e. omega (arith, z e)), ← or_assoc (eqb k f) (mem k (written l)) (mem k given), or_comm (eqb k f) (mem k (written l)))
    (or_assoc (mem k (written l)) (eqb k f) (mem k given))
fill_mem k (f ∷ fs) (suc q ∷ l) z =
    rw (fill_mem k (f ∷ fs) l z) (sym (or_assoc (eqb k (suc q)) (mem k (written l)) (mem k (take (unwritten l) (f ∷ fs)))))

-- a number that is written stays
pub fill_written : (fs l : List ℕ) (i : ℕ) → (get_or l i 0 ≡ 0 → ⊥) → get_or (fill fs l) i 0 ≡ get_or l i 0
unfolding fill
fill_written fs [] i z = refl
fill_written [] (q ∷ l) i z = refl
fill_written (f ∷ fs) (zero ∷ l) zero z = absurd (z refl)
fill_written (f ∷ fs) (zero ∷ l) (suc i) z = fill_written fs l i z
fill_written (f ∷ fs) (suc q ∷ l) zero z = refl
fill_written (f ∷ fs) (suc q ∷ l) (suc i) z = fill_written (f ∷ fs) l i z

-- a zero with i zeros before it becomes the i-th of fs, counted from 0
pub fill_unwritten : (fs l : List ℕ) (i : ℕ) → i < length l → get_or l i 0 ≡ 0 → get_or (fill fs l) i 0 ≡ get_or fs (unwritten (take i l)) 0
unfolding fill unwritten
fill_unwritten fs [] i h z = absurd (omega arith)
fill_unwritten [] (q ∷ l) i h z = z
fill_unwritten (f ∷ fs) (zero ∷ l) zero h z = refl
fill_unwritten (f ∷ fs) (zero ∷ l) (suc i) h z = fill_unwritten fs l i (omega arith) z
fill_unwritten (f ∷ fs) (suc q ∷ l) zero h z = absurd (omega arith)
fill_unwritten (f ∷ fs) (suc q ∷ l) (suc i) h z = fill_unwritten (f ∷ fs) l i (omega arith) z
