-- Texts that are filled up with blanks, and as numbers: two that end in no blank are equal where their numbers are.
-- Assumes nothing.
use mathlib.Core.Path.{◌≡◌, refl, sym, ap, ◌∙◌}
use mathlib.Core.Bool.{Bool, true, false, not, ◌&&◌, true≢false}
use mathlib.Core.List.{List, [], ◌∷◌}
use Prim.Native.Nat.{ℕ, zero, suc, ◌-◌, ◌+◌, ◌≤◌, ◌<◌}
use native.Mathlib.Nat.{zero-add, suc-add, le_of_suc-le-suc}
use native.Mathlib.Omega.{arith}
use lib.Dec.{eqb, leb, ltb}
use lib.ListN.{length, get_or, take, drop, take-append-drop, length-take, length-drop, get_or-eq_default}
use lib.Seq.{take_all, ext_get_or}
use borrow.Author.Tests.{eq-eqb, leb-true}
use Rattle.wordlist.specs.Filled.{fill_to, filled, packed, first_of, rest_of, pack_of}
use Rattle.wordlist.proofs.Lists.{either_less, and_true, same_default}
use Rattle.wordlist.proofs.PackedBytes.{are_bytes, packed_same, take_bytes, drop_bytes}

-- ---- a text that is filled up

drop_none : (n : ℕ) → drop {A = ℕ} n [] ≡ []
drop_none zero = refl
drop_none (suc n) = refl

pub drop_short : (n : ℕ) (w : List ℕ) → length w ≤ n → drop n w ≡ []
drop_short n [] h = drop_none n
drop_short zero (b ∷ w) h = absurd (omega arith)
drop_short (suc n) (b ∷ w) h = drop_short n w (le_of_suc-le-suc h)

-- its bytes, its length, and itself filled up again
pub fill_at : (n i : ℕ) (w : List ℕ) → i < n → get_or (fill_to n w) i 0 ≡ get_or w i 32
unfolding fill_to
fill_at zero i w h = absurd (omega arith)
fill_at (suc n) zero [] h = refl
fill_at (suc n) zero (b ∷ w) h = refl
fill_at (suc n) (suc i) [] h = fill_at n i [] (le_of_suc-le-suc h)
fill_at (suc n) (suc i) (b ∷ w) h = fill_at n i w (le_of_suc-le-suc h)

-- a part that is filled up is a part of the whole
pub fill_part : (n m : ℕ) (w : List ℕ) → take n (fill_to (n + m) w) ≡ fill_to n w
unfolding fill_to
fill_part zero m w = refl
fill_part (suc n) m [] = rw suc-add (ap (◌∷◌ 32) (fill_part n m []))
fill_part (suc n) m (b ∷ w) = rw suc-add (ap (◌∷◌ b) (fill_part n m w))

pub fill_rest : (n m : ℕ) (w : List ℕ) → drop n (fill_to (n + m) w) ≡ fill_to m (drop n w)
unfolding fill_to
fill_rest zero m w = rw zero-add refl
fill_rest (suc n) m [] = rw suc-add (fill_rest n m [] ∙ ap (fill_to m) (drop_none n))
fill_rest (suc n) m (b ∷ w) = rw suc-add (fill_rest n m w)

-- a text that is long enough gets no blanks
pub fill_none : (n : ℕ) (w : List ℕ) → n ≤ length w → fill_to n w ≡ take n w
unfolding fill_to
fill_none zero w h = refl
fill_none (suc n) [] h = absurd (omega arith)
fill_none (suc n) (b ∷ w) h = ap (◌∷◌ b) (fill_none n w (le_of_suc-le-suc h))

-- the two numbers of a text
pub first_filled : (w : List ℕ) → first_of w ≡ packed (fill_to 8 w)
first_filled w = ap packed (fill_part 8 8 w)

pub rest_filled : (w : List ℕ) → rest_of w ≡ packed (fill_to 8 (drop 8 w))
rest_filled w = ap packed (ap (take 8) (fill_rest 8 8 w) ∙ fill_part 8 0 (drop 8 w))

pub fill_length : (n : ℕ) (w : List ℕ) → length (fill_to n w) ≡ n
unfolding fill_to
fill_length zero w = refl
fill_length (suc n) [] = ap suc (fill_length n [])
fill_length (suc n) (b ∷ w) = ap suc (fill_length n w)

pub fill_again : (n : ℕ) (w : List ℕ) → fill_to n (fill_to n w) ≡ fill_to n w
unfolding fill_to
fill_again zero w = refl
fill_again (suc n) [] = ap (◌∷◌ 32) (fill_again n [])
fill_again (suc n) (b ∷ w) = ap (◌∷◌ b) (fill_again n w)

-- n bytes that are those of a text, and blanks after its end, are the text filled up
pub filled_by : (n : ℕ) (w v : List ℕ) → length v ≡ n → ((i : ℕ) → i < n → get_or v i 32 ≡ get_or w i 32) → v ≡ fill_to n w
filled_by n w v long each =
    let size = fill_length n w in
    ext_get_or 32 v (fill_to n w) (omega arith)
    (λ i h.
    let there : i < n = omega arith in
    each i there ∙ sym (fill_at n i w there) ∙ same_default (fill_to n w) i 0 32 (omega arith))

-- packed, a text is as when it is filled up
pub pack_again : (w : List ℕ) → pack_of (filled w) ≡ pack_of w
pack_again w = rw (fill_again 16 w)

fill_bytes : (n : ℕ) (w : List ℕ) → are_bytes w ≡ true → are_bytes (fill_to n w) ≡ true
unfolding fill_to
fill_bytes zero w h = refl
fill_bytes (suc n) [] h = fill_bytes n [] refl
fill_bytes (suc n) (b ∷ w) h = let both = and_true (ltb b 256) (are_bytes w) h in rw both.0 (fill_bytes n w both.1)

-- ---- texts that fit

-- at most sixteen bytes, of which the last is no blank: as a test, and as facts
abbrev pub fits : List ℕ → Bool
fits w = are_bytes w && leb (length w) 16 && not (eqb (get_or w (length w - 1) 0) 32)

pub record Fits (w : List ℕ) : Type 0 where
  pub bytes : are_bytes w ≡ true
  pub short : length w ≤ 16
  pub ends : get_or w (length w - 1) 0 ≡ 32 → ⊥

not_true : (t : Bool) → not t ≡ true → t ≡ false
not_true true e = absurd (true≢false (sym e))
not_true false e = refl

pub fits_true : (w : List ℕ) → fits w ≡ true → Fits w
fits_true w e =
    let two = and_true (are_bytes w && leb (length w) 16) (not (eqb (get_or w (length w - 1) 0) 32)) e in
    let one = and_true (are_bytes w) (leb (length w) 16) two.0 in
    record {
      bytes = one.0;
      short = leb-true _ _ one.1;
      ends = λ h. true≢false (sym (eq-eqb _ _ h) ∙ not_true _ two.1);
    }

-- a text that has all bytes of another is no shorter
module _ (w v : List ℕ) (alike : (i : ℕ) → i < 16 → get_or w i 32 ≡ get_or v i 32) where
  no_shorter : Fits v → length v ≤ length w
  no_shorter fv =
      either_less (length w) (length v)
      (λ l.
      let j = length v - 1 in
      let past : get_or w j 32 ≡ 32 = get_or-eq_default w 32 (omega arith) in
      let last : get_or v j 32 ≡ get_or v j 0 = same_default v j 32 0 (omega arith) in
      absurd (fv.ends (sym last ∙ sym (alike j (omega (arith, fv.short))) ∙ past)))
      (λ l. l)

module _ (w v : List ℕ) (fw : Fits w) (fv : Fits v) where
  filled_same : filled w ≡ filled v → w ≡ v
  filled_same e =
      let alike : (i : ℕ) → i < 16 → get_or w i 32 ≡ get_or v i 32 = λ i l. sym (fill_at 16 i w l) ∙ rw e (fill_at 16 i v l) in
      let longer = no_shorter w v alike fv in
      let shorter = no_shorter v w (λ i l. sym (alike i l)) fw in
      ext_get_or 32 w v (omega arith) (λ i l. alike i (omega (arith, fw.short)))

  -- the eight bytes from k on are the same where their numbers are
  abbrev eight : ℕ → List ℕ → List ℕ
  eight k u = take 8 (drop k (filled u))

  eight_same : (k : ℕ) → packed (eight k v) ≡ packed (eight k w) → eight k w ≡ eight k v
  eight_same k e =
      let bw = drop_bytes k (filled w) (fill_bytes 16 w fw.bytes) in
      let bv = drop_bytes k (filled v) (fill_bytes 16 v fv.bytes) in
      let long : length (eight k w) ≡ length (eight k v) = simp (length-take, length-drop) (rw (fill_length 16 w, fill_length 16 v)) in
      packed_same (eight k w) (eight k v) (take_bytes 8 (drop k (filled w)) bw) (take_bytes 8 (drop k (filled v)) bv) long (sym e)

  pub pack_same : first_of v ≡ first_of w → rest_of v ≡ rest_of w → w ≡ v
  pack_same first rest =
      let dw = length-drop 8 (filled w) in
      let dv = length-drop 8 (filled v) in
      let lw = fill_length 16 w in
      let lv = fill_length 16 v in
      let one : take 8 (filled w) ≡ take 8 (filled v) = eight_same 0 first in
      let other : drop 8 (filled w) ≡ drop 8 (filled v) =
      sym (take_all 8 (drop 8 (filled w)) (omega arith)) ∙ eight_same 8 rest ∙ take_all 8 (drop 8 (filled v)) (omega arith) in
      filled_same (sym (take-append-drop 8 (filled w)) ∙ rw (one, other) (take-append-drop 8 (filled v)))
