-- The search finds a word's place: one test over the list for the words that stand there, and a law for all others.
-- Assumes nothing.
use mathlib.Core.Path.{◌≡◌, refl, sym, ◌∙◌}
use mathlib.Core.Bool.{Bool, true, false, cond, not, ◌&&◌, true≢false}
use mathlib.Core.List.{List, [], ◌∷◌}
use Prim.Native.Nat.{ℕ, zero, suc, ◌+◌, ◌-◌, ◌%◌, ◌≤◌, ◌<◌}
use native.Mathlib.Omega.{arith}
use lib.Dec.{eqb, leb}
use lib.ListN.{length, get_or, drop, drop_of_length-le}
use borrow.Author.Tests.{eqb-true, eq-eqb, ne_eqb}
use Rattle.lexemes.specs.Lexemes.{reserved}
use Rattle.lexemes.specs.Words.{same, place_among}
use Rattle.wordlist.specs.Filled.{fill_to, packed, first_of, rest_of, pack_of}
use Rattle.lexemes.specs.Search.{COUNT, letter_place, letter_start, scan}
use Rattle.wordlist.specs.declared.Packed.{Packed}
use Rattle.lexemes.proofs.Lists.{either, either_less, and_true, from_next, every, every_at}
use Rattle.lexemes.proofs.Equality.{eq_same, place_at_lem, place_le}
use Rattle.wordlist.proofs.Filling.{Fits, fits, fits_true, pack_same}

-- ---- a text that no word of the list can be

pub counted : length reserved ≡ COUNT
unfolding reserved
counted = refl

-- all listed words pass the test, and w does not
pub unlisted :
    (test : List ℕ → Bool) → every (λ _ v. test v) 0 reserved ≡ true → (w : List ℕ) → test w ≡ false → place_among w reserved ≡ COUNT
unlisted test t w h =
    either_less (place_among w reserved) (length reserved)
    (λ l. absurd (true≢false (sym (every_at (λ _ v. test v) reserved t (place_among w reserved) l) ∙ rw (place_at_lem w reserved l) h)))
    (λ l. omega (arith, counted, place_le w reserved))

pub at_least_two : every (λ _ v. leb 2 (length v)) 0 reserved ≡ true
unfolding reserved
at_least_two = refl

pub at_most_sixteen : every (λ _ v. leb (length v) 16) 0 reserved ≡ true
unfolding reserved
at_most_sixteen = refl

pub no_blank_ends : every (λ _ v. not (eqb (get_or v (length v - 1) 0) 32)) 0 reserved ≡ true
unfolding reserved
no_blank_ends = refl

-- ---- a word that is not listed

abbrev all_fit : List (List ℕ) → Bool
all_fit [] = true
all_fit (v ∷ vs) = fits v && all_fit vs

all_fit_lem : all_fit reserved ≡ true
unfolding reserved
all_fit_lem = refl

drop_fit : (n : ℕ) (ws : List (List ℕ)) → all_fit ws ≡ true → all_fit (drop n ws) ≡ true
drop_fit zero ws h = h
drop_fit (suc n) [] h = refl
drop_fit (suc n) (v ∷ vs) h = drop_fit n vs (and_true (fits v) (all_fit vs) h).1

-- nowhere in a list
abbrev nowhere : List ℕ → List (List ℕ) → Bool
nowhere w [] = true
nowhere w (v ∷ vs) = not (same w v) && nowhere w vs

none_nowhere : (w : List ℕ) (ws : List (List ℕ)) → place_among w ws ≡ length ws → nowhere w ws ≡ true
unfolding place_among
none_nowhere w [] h = refl
none_nowhere w (v ∷ vs) h =
    either (same w v)
    (λ e. let here : 0 ≡ suc (length vs) = rw e at h in absurd (omega arith))
    (λ e. let later : suc (place_among w vs) ≡ suc (length vs) = rw e at h in rw e (none_nowhere w vs (omega arith)))

drop_nowhere : (w : List ℕ) (n : ℕ) (ws : List (List ℕ)) → nowhere w ws ≡ true → nowhere w (drop n ws) ≡ true
drop_nowhere w zero ws h = h
drop_nowhere w (suc n) [] h = refl
drop_nowhere w (suc n) (v ∷ vs) h = drop_nowhere w n vs (and_true (not (same w v)) (nowhere w vs) h).1

cond_same : (t : Bool) (x y z : ℕ) → x ≡ z → y ≡ z → cond t x y ≡ z
cond_same true x y z p q = p
cond_same false x y z p q = q

scan_none :
    (w : List ℕ) → Fits w → (none i : ℕ) (ws : List (List ℕ)) → all_fit ws ≡ true → nowhere w ws ≡ true
    → scan none i (first_of w) (rest_of w) ws ≡ none
unfolding scan
scan_none w fw none i [] g h = refl
scan_none w fw none i (v ∷ vs) g h =
    let good = and_true (fits v) (all_fit vs) g in
    let missed = and_true (not (same w v)) (nowhere w vs) h in
    let later = scan_none w fw none (i + 1) vs good.1 missed.1 in
    either (eqb (first_of v) (first_of w) && eqb (rest_of v) (rest_of w))
    (λ e.
    let both = and_true (eqb (first_of v) (first_of w)) (eqb (rest_of v) (rest_of w)) e in
    let equal = pack_same w v fw (fits_true v good.0) (eqb-true _ _ both.0) (eqb-true _ _ both.1) in
    absurd (true≢false (sym missed.0 ∙ rw (eq_same w v equal))))
    (λ e. rw e (cond_same (eqb (first_of v % 256) (first_of w % 256)) _ none none later refl))

-- ---- the search

-- what is found of the word with the numbers x and y from the place i on, and what of a word from the first one with its letter on
abbrev from : ℕ → ℕ → ℕ → ℕ
from i x y = scan COUNT i x y (drop i reserved)

abbrev found_of : List ℕ → ℕ
found_of w = from (letter_start (get_or w 0 0)) (first_of w) (rest_of w)

-- each listed word is found at its place
finds : ℕ → List ℕ → Bool
finds k v = eqb (found_of v) k

all_found : every finds 0 reserved ≡ true
unfolding finds reserved scan letter_place letter_start fill_to packed
all_found = refl

-- and so every word is found, or found nowhere, as its place is
pub found : (w : List ℕ) → Fits w → found_of w ≡ place_among w reserved
unfolding finds
found w fw =
    either_less (place_among w reserved) (length reserved)
    (λ l. eqb-true _ _ (rw (place_at_lem w reserved l) at (every_at finds reserved all_found (place_among w reserved) l)))
    (λ l.
    let none : place_among w reserved ≡ length reserved = omega (arith, place_le w reserved) in
    let s = letter_start (get_or w 0 0) in
    let missed = drop_nowhere w s reserved (none_nowhere w reserved none) in
    scan_none w fw COUNT s (drop s reserved) (drop_fit s reserved all_fit_lem) missed ∙ sym (none ∙ counted))

pub found_place : (w : List ℕ) → Fits w → (s : ℕ) (p : Packed) → s ≡ letter_start (get_or w 0 0) → p ≡ pack_of w →
    from s p.first p.rest ≡ place_among w reserved
found_place w fw s p is_s is_p = rw (is_s, is_p) (found w fw)

-- ---- the steps of the search

-- at the place i, whose word has the packed form r, for the numbers x and y
module _ (i x y : ℕ) (r : Packed) (inside : i < COUNT) (is_r : r ≡ pack_of (get_or reserved i [])) where
  abbrev is_wanted : Bool
  is_wanted = eqb r.first x && eqb r.rest y

  step : from i x y ≡ cond is_wanted i (cond (eqb (r.first % 256) (x % 256)) (from (i + 1) x y) COUNT)
  unfolding scan
  step = rw (from_next reserved i [] (omega (arith, counted)), is_r)

  pub step_found : is_wanted ≡ true → from i x y ≡ i
  step_found e = step ∙ rw e

  pub step_stops : is_wanted ≡ false → (r.first % 256 ≡ x % 256 → ⊥) → from i x y ≡ COUNT
  step_stops e d = step ∙ rw (e, ne_eqb _ _ d)

  pub step_on : is_wanted ≡ false → r.first % 256 ≡ x % 256 → from i x y ≡ from (i + 1) x y
  step_on e d = step ∙ rw (e, eq-eqb _ _ d)

pub at_end : (i x y : ℕ) → COUNT ≤ i → from i x y ≡ COUNT
unfolding scan
at_end i x y h = let past : length reserved ≤ i = omega (arith, counted) in rw (drop_of_length-le reserved past)
