-- Bytes packed into numbers: the parts of a packed number, and that a length and a number tell a text from all others.
-- Assumes nothing.
use mathlib.Core.Path.{◌≡◌, refl, sym, ap, ◌∙◌}
use mathlib.Core.Bool.{Bool, true, ◌&&◌}
use mathlib.Core.List.{List, [], ◌∷◌}
use Prim.Native.Nat.{ℕ, zero, suc, ◌+◌, ◌*◌, ◌^◌, ◌<◌}
use native.Mathlib.Nat.{add-zero, zero-add, suc-add, mul-zero, mul_assoc, mul_comm, pow-succ'}
use native.Mathlib.Omega.{arith}
use lib.Dec.{ltb}
use lib.ListN.{length, get_or, take, drop}
use lib.Seq.{get_or-drop, drop-drop, take_all}
use borrow.Author.Tests.{ltb-true, lt-ltb}
use Rattle.std.specs.Int.{w64, from_le_bytes, sum_through, byte_worth}
use Rattle.wordlist.specs.Filled.{packed}
use Rattle.wordlist.proofs.Lists.{and_true}

-- ---- the parts of a packed number

take_none : (b : ℕ) → take {A = ℕ} b [] ≡ []
take_none zero = refl
take_none (suc b) = refl

split : (a b : ℕ) (t : List ℕ) → packed (take (a + b) t) ≡ packed (take a t) + 256 ^ a * packed (take b (drop a t))
unfolding packed
split zero b t = rw (zero-add b) (omega arith)
split (suc a) b [] = rw (suc-add, take_none b, mul-zero)
split (suc a) b (x ∷ t) =
    let power : 256 ^ suc a * packed (take b (drop a t)) ≡ 256 * (256 ^ a * packed (take b (drop a t))) = rw (pow-succ', mul_assoc) in
    rw suc-add (omega (arith, split a b t))

one : (t : List ℕ) → packed (take 1 t) ≡ get_or t 0 0
unfolding packed
one [] = refl
one (x ∷ t) = omega arith

two : (t : List ℕ) → packed (take 2 t) ≡ get_or t 0 0 + 256 * get_or t 1 0
unfolding packed
two [] = refl
two (x ∷ []) = omega arith
two (x ∷ y ∷ t) = omega arith

module _ (s : List ℕ) (i : ℕ) where
  pub packed_two : packed (take 2 (drop i s)) ≡ get_or s i 0 + 256 * get_or s (i + 1) 0
  packed_two = two (drop i s) ∙ simp (get_or-drop, add-zero)

  pub packed_split : (a b : ℕ) → packed (take (a + b) (drop i s)) ≡ packed (take a (drop i s)) + 256 ^ a * packed (take b (drop (i + a) s))
  packed_split a b = split a b (drop i s) ∙ simp drop-drop

module _ (s : List ℕ) where
  -- the number of the first bytes is the sum of what each is worth
  packed_sum : (k : ℕ) → packed (take (suc k) s) ≡ sum_through (λ i. byte_worth i (get_or s i 0)) k
  packed_sum zero = one s
  packed_sum (suc k) =
      let more = split (suc k) 1 s in
      let last : packed (take 1 (drop (suc k) s)) ≡ get_or s (suc k) 0 = one (drop (suc k) s) ∙ simp (get_or-drop, add-zero) in
      let steps : suc (suc k) ≡ suc k + 1 = omega arith in
      ap (λ n. packed (take n s)) steps ∙ more ∙ rw (last, mul_comm (256 ^ suc k) (get_or s (suc k) 0)) (ap (λ n. n + get_or s (suc k) 0 * 256 ^ suc k) (packed_sum k))

  pub packed_eight : length s ≡ 8 → from_le_bytes w64 s ≡ packed s
  packed_eight h = sym (packed_sum 7) ∙ ap packed (take_all 8 s (omega arith))

-- ---- one length and one number, one text

abbrev pub are_bytes : List ℕ → Bool
are_bytes [] = true
are_bytes (b ∷ s) = ltb b 256 && are_bytes s

pub bytes_all : (w : List ℕ) → ((k : ℕ) → get_or w k 0 < 256) → are_bytes w ≡ true
bytes_all [] h = refl
bytes_all (b ∷ w) h = rw (lt-ltb b 256 (h 0)) (bytes_all w (λ k. h (suc k)))

pub packed_same : (w v : List ℕ) → are_bytes w ≡ true → are_bytes v ≡ true → length w ≡ length v → packed w ≡ packed v → w ≡ v
unfolding packed
packed_same [] [] p q l e = refl
packed_same [] (b ∷ v) p q l e = absurd (omega arith)
packed_same (a ∷ w) [] p q l e = absurd (omega arith)
packed_same (a ∷ w) (b ∷ v) p q l e =
    let a_small = ltb-true a 256 (and_true (ltb a 256) (are_bytes w) p).0 in
    let b_small = ltb-true b 256 (and_true (ltb b 256) (are_bytes v) q).0 in
    let first : a ≡ b = omega arith in
    let more : w ≡ v = packed_same w v (and_true (ltb a 256) (are_bytes w) p).1 (and_true (ltb b 256) (are_bytes v) q).1 (omega arith) (omega arith) in
    cc

pub take_bytes : (n : ℕ) (s : List ℕ) → are_bytes s ≡ true → are_bytes (take n s) ≡ true
take_bytes zero s h = refl
take_bytes (suc n) [] h = refl
take_bytes (suc n) (b ∷ s) h = let both = and_true (ltb b 256) (are_bytes s) h in rw both.0 (take_bytes n s both.1)

pub drop_bytes : (n : ℕ) (s : List ℕ) → are_bytes s ≡ true → are_bytes (drop n s) ≡ true
drop_bytes zero s h = h
drop_bytes (suc n) [] h = refl
drop_bytes (suc n) (b ∷ s) h = drop_bytes n s (and_true (ltb b 256) (are_bytes s) h).1
