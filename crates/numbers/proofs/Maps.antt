-- The map of used numbers: marking, the numbers that it holds, and the count of its ones.
use mathlib.Core.Path.{◌≡◌, refl, sym, ap, ◌∙◌}
use mathlib.Core.Bool.{Bool, true, false, ◌&&◌, ◌||◌, or-true, or-false, and-false}
use mathlib.Core.List.{List, [], ◌∷◌, ◌++◌, append-nil, append_assoc}
use Prim.Native.Nat.{ℕ, zero, suc, ◌+◌, ◌*◌, ◌/◌, ◌%◌, ◌^◌, ◌≤◌, ◌<◌, zero-le, max}
use native.Mathlib.Nat.{div-eq_of_lt, zero-lt-suc, max-zero}
use native.Mathlib.Omega.{arith}
use borrow.Author.Tests.{eq-eqb, eqb-true, eqb-false, ltb-true, ltb-false, le-ltb}
use lib.Dec.{ltb, eqb}
use lib.Bits.{bit_or}
use lib.Count.{ones, ones_step}
use lib.Pow.{shr-shr}
use lib.ListN.{length, get_or, set, replicate, length-set, length-replicate, get_or-eq_default}
use lib.Seq.{get_or-set_same, get_or-set_other, set_out}
use Rattle.numbers.specs.Numbers.{number_limit, is_number, picked, empty_map, digit, used, with_used, with_all_used, used_count, mem, borne, free_count, Holds}
use Rattle.numbers.proofs.Digits.{digit_or, digit_le, digit_past, bit_same, bit_other, bit_fits}
use Rattle.numbers.proofs.Ranges.{one, count_none, count_next, count_add, pick_same}
use Rattle.numbers.proofs.FreeNumbers.{is_number_lem, number_range, free_rest}
use Rattle.numbers.proofs.Lists.{mem_append, mem_cons, borne_or}

-- ---- which numbers are used

-- n is used where its word has its digit
pub used_at : (ws : List ℕ) (n i j : ℕ) → n / 64 ≡ i → n % 64 ≡ j → used ws n ≡ eqb (digit (get_or ws i 0) j) 1
unfolding used
used_at ws n i j p q = rw (p, q)

-- past the words nothing is used
pub used_past : (ws : List ℕ) (n : ℕ) → length ws ≤ n / 64 → used ws n ≡ false
unfolding used
used_past ws n h = rw (get_or-eq_default ws 0 h, digit_past 0 0 (n % 64) (zero-lt-suc 0) zero-le)

get_or_zeros : (n i : ℕ) → ◌≡◌ {A = ℕ} (get_or (replicate n 0) i 0) 0
get_or_zeros zero i = refl
get_or_zeros (suc n) zero = refl
get_or_zeros (suc n) (suc i) = get_or_zeros n i

pub used_empty : (k : ℕ) → used empty_map k ≡ false
unfolding used empty_map
used_empty k = rw (get_or_zeros 1024 (k / 64), digit_past 0 0 (k % 64) (zero-lt-suc 0) zero-le)

-- ---- marking

marked_none : (ws : List ℕ) (n : ℕ) → is_number n ≡ false → with_used ws n ≡ ws
unfolding with_used
marked_none ws n e = rw e

marked_number : (ws : List ℕ) (n : ℕ) → is_number n ≡ true → with_used ws n ≡ set ws (n / 64) (bit_or (get_or ws (n / 64) 0) (2 ^ (n % 64)))
unfolding with_used
marked_number ws n e = rw e

-- the same by the tests of `mark`
module _ (ws : List ℕ) {n : ℕ} where
  pub mark_zero : n ≡ 0 → ws ≡ with_used ws n
  mark_zero e = sym (marked_none ws n (rw e))

  pub mark_high : number_limit ≤ n → ws ≡ with_used ws n
  mark_high h = sym (marked_none ws n (rw (le-ltb n number_limit h, and-false)))

  pub mark_stored : (n ≡ 0 → ⊥) → n < number_limit → set ws (n / 64) (bit_or (get_or ws (n / 64) 0) ((1 * 2 ^ (n % 64)) % 2 ^ 64)) ≡ with_used ws n
  mark_stored z h = rw (bit_fits (n % 64) (omega arith)) (sym (marked_number ws n (is_number_lem n (omega (arith, z)) h)))

max_one : (x y : ℕ) → x ≤ 1 → y ≡ 1 → max x y ≡ 1
max_one x y h e = omega arith

module _ (ws : List ℕ) (n : ℕ) where
  abbrev word : ℕ
  word = get_or ws (n / 64) 0

  abbrev new_word : ℕ
  new_word = bit_or word (2 ^ (n % 64))

  abbrev stored : List ℕ
  stored = set ws (n / 64) new_word

  -- a number k of the word that is stored
  in_word : n / 64 < length ws → (k : ℕ) → k / 64 ≡ n / 64 → used stored k ≡ eqb (max (digit word (k % 64)) (digit (2 ^ (n % 64)) (k % 64))) 1
  in_word l k e =
      used_at stored k (n / 64) (k % 64) e refl
      ∙ rw (get_or-set_same ws (n / 64) new_word 0 l, digit_or word (2 ^ (n % 64)) (k % 64))

  stored_same : n / 64 < length ws → used stored n ≡ true
  stored_same l = in_word l n refl ∙ eq-eqb _ 1 (max_one _ _ (digit_le word (n % 64)) (bit_same (n % 64)))

  stored_other : (k : ℕ) → (k ≡ n → ⊥) → used stored k ≡ used ws k
  stored_other k f = go (eqb (k / 64) (n / 64)) refl (ltb (n / 64) (length ws)) refl
    where
      go : (b : Bool) → eqb (k / 64) (n / 64) ≡ b → (c : Bool) → ltb (n / 64) (length ws) ≡ c → used stored k ≡ used ws k
      go true e true l =
          let p : k / 64 ≡ n / 64 = eqb-true _ _ e in
          in_word (ltb-true _ _ l) k p
          ∙ rw (bit_other (k % 64) (n % 64) (λ q. f (omega arith)), max-zero (digit word (k % 64))) (sym (used_at ws k (n / 64) (k % 64) p refl))
      go true e false l = rw (set_out ws (n / 64) new_word (ltb-false _ _ l))
      go false e c l =
          used_at stored k (k / 64) (k % 64) refl refl
          ∙ rw (get_or-set_other ws (n / 64) (k / 64) new_word 0 (eqb-false _ _ e)) (sym (used_at ws k (k / 64) (k % 64) refl refl))

  pub length_marked : length (with_used ws n) ≡ length ws
  length_marked = go (is_number n) refl
    where
      go : (b : Bool) → is_number n ≡ b → length (with_used ws n) ≡ length ws
      go true e = rw (marked_number ws n e) (length-set ws (n / 64) new_word)
      go false e = rw (marked_none ws n e)

  -- every other number is as before
  pub marked_other : (k : ℕ) → (k ≡ n → ⊥) → used (with_used ws n) k ≡ used ws k
  marked_other k f = go (is_number n) refl
    where
      go : (b : Bool) → is_number n ≡ b → used (with_used ws n) k ≡ used ws k
      go true e = rw (marked_number ws n e) (stored_other k f)
      go false e = rw (marked_none ws n e)

  pub used_marked : length ws ≡ 1024 → (k : ℕ) → used (with_used ws n) k ≡ (used ws k || eqb k n && is_number n)
  used_marked l k = go (eqb k n) refl (is_number n) refl
    where
      go : (b : Bool) → eqb k n ≡ b → (c : Bool) → is_number n ≡ c → used (with_used ws n) k ≡ (used ws k || b && c)
      go true e true c =
          let p : k ≡ n = eqb-true k n e in
          let h = number_range n c in
          rw (p, marked_number ws n c) (stored_same (omega arith) ∙ sym (or-true (used ws n)))
      go true e false c = rw (marked_none ws n c, or-false (used ws k))
      go false e c d = marked_other k (eqb-false k n e) ∙ sym (or-false (used ws k))

-- ---- the numbers that the map holds

pub holds_empty : Holds empty_map []
unfolding empty_map mem
holds_empty = record { size = length-replicate {A = ℕ} 1024 0; same = λ k. used_empty k ∙ sym (and-false (is_number k)) }

module _ {ws l : List ℕ} (v : Holds ws l) where
  pub holds_mark : {ws' : List ℕ} {n : ℕ} → ws' ≡ with_used ws n → Holds ws' (n ∷ l)
  holds_mark {ws'} {n} e =
      rw e
      record {
        size = length_marked ws n ∙ v.size;
        same = λ k. used_marked ws n v.size k ∙ rw (v.same k) (borne_or k n (mem k l) ∙ rw (mem_cons k n l));
      }

  -- the order of the list does not matter, nor what is no number in it
  pub holds_same : {m : List ℕ} → ((k : ℕ) → borne l k ≡ borne m k) → Holds ws m
  holds_same h = record { size = v.size; same = λ k. v.same k ∙ h k }

pub holds_all : {ws l : List ℕ} (m : List ℕ) → Holds ws l → Holds (with_all_used ws m) (l ++ m)
unfolding with_all_used mem
holds_all {ws} {l} [] v = rw (append-nil l) v
holds_all {ws} {l} (n ∷ m) v = rw (← append_assoc l (n ∷ []) m) (holds_all {ws = with_used ws n} {l = l ++ n ∷ []} m (holds_same (holds_mark v refl) last))
  where
    last : (k : ℕ) → borne (n ∷ l) k ≡ borne (l ++ n ∷ []) k
    last k = rw (mem_append k l (n ∷ []), or-false (eqb k n), mem_cons k n l)

-- ---- counting

one_digit : (x : ℕ) → x ≤ 1 → one (eqb x 1) ≡ x
one_digit zero h = refl
one_digit (suc zero) h = refl
one_digit (suc (suc x)) h = absurd (omega arith)

ones_zero : ones 0 ≡ 0
unfolding ones
ones_zero = refl

module _ (ws : List ℕ) (i : ℕ) (h : get_or ws i 0 < 2 ^ 64) where
  -- the ones of a word from its digit j up are the numbers used there
  word_ones : (k j : ℕ) → j + k ≡ 64 → length (picked (used ws) (i * 64 + j) k) ≡ ones (get_or ws i 0 / 2 ^ j)
  word_ones zero j e =
      let f : j ≡ 64 = omega arith in
      count_none (used ws) (i * 64 + j) ∙ sym (rw f (ap ones (div-eq_of_lt h) ∙ ones_zero))
  word_ones (suc k) j e =
      let w : ℕ = get_or ws i 0 in
      let here : one (used ws (i * 64 + j)) ≡ digit w j = ap one (used_at ws (i * 64 + j) i j (omega arith) (omega arith)) ∙ one_digit (digit w j) (digit_le w j) in
      let next : i * 64 + j + 1 ≡ i * 64 + (j + 1) = omega arith in
      count_next (used ws) (i * 64 + j) k
      ∙ rw (here, next, word_ones k (j + 1) (omega arith), ← shr-shr w j 1) (sym (ones_step (w / 2 ^ j)))

  -- one more word
  pub count_word : length (picked (used ws) 0 (i * 64)) + ones (get_or ws i 0) ≡ length (picked (used ws) 0 ((i + 1) * 64))
  count_word =
      let e : (i + 1) * 64 ≡ i * 64 + 64 = omega arith in
      let z : 0 + i * 64 ≡ i * 64 + 0 = omega arith in
      let o : get_or ws i 0 / 2 ^ 0 ≡ get_or ws i 0 = omega arith in
      rw (e, count_add (used ws) (i * 64) 64 0, z, word_ones 64 0 refl, o)

-- the numbers that the map holds and the free ones are all of 1 to 65,535
pub free_count_lem : {ws l : List ℕ} → Holds ws l → used_count ws + free_count l ≡ 65535
unfolding used_count
free_count_lem {ws} {l} v =
    let z : one (used ws 0) ≡ 0 = ap one (v.same 0) in
    let e : picked (used ws) 1 65535 ≡ picked (borne l) 1 65535 = pick_same (used ws) (borne l) 65535 1 (λ k g h. v.same k) in
    omega (arith, count_next (used ws) 0 65535, ap length e, free_rest (borne l))
