-- Blanks and comments: what stands between tokens is blanks, then any number of times a comment and blanks.
-- Assumes nothing.
use mathlib.Core.Path.{◌≡◌, refl}
use mathlib.Core.Bool.{Bool, true, false, not, ◌||◌, false≢true}
use mathlib.Core.List.{List, [], ◌∷◌}
use Prim.Native.Nat.{ℕ, suc, ◌+◌, ◌≤◌, ◌<◌, zero-le, suc-le-suc}
use native.Mathlib.Nat.{add-zero}
use native.Mathlib.Omega.{arith}
use lib.Dec.{eqb}
use lib.ListN.{length, get_or, drop}
use lib.Seq.{drop-drop, get_or-drop}
use borrow.Author.Tests.{eqb-true}
use Rattle.lexemes.specs.Bytes.{is_blank}
use Rattle.lexemes.specs.Words.{run}
use Rattle.lex.specs.Tokens.{is_gap, in_comment, gap, opens_comment}
use Rattle.lexemes.proofs.Lists.{either, and_true, inside, from_end, from_next}
use Rattle.lexemes.proofs.Steps.{run_yes}

-- a byte that does not end a comment
abbrev pub in_line : ℕ → Bool
in_line b = not (eqb b 10)

pub gap_le : (comment : Bool) (s : List ℕ) → gap comment s ≤ length s
unfolding gap
gap_le comment [] = zero-le
gap_le comment (b ∷ s) =
    either (is_gap comment b (get_or s 0 0)) (λ e. rw e (suc-le-suc (gap_le (in_comment comment b (get_or s 0 0)) s))) (λ e. rw e zero-le)

-- after blanks and comments there are none
pub gap_stops : (comment : Bool) (s : List ℕ) → gap false (drop (gap comment s) s) ≡ 0
unfolding gap is_gap
gap_stops comment [] = refl
gap_stops false (b ∷ s) =
    either (is_blank b || opens_comment b (get_or s 0 0)) (λ e. rw e (gap_stops (in_comment false b (get_or s 0 0)) s)) (λ e. rw (e, e))
gap_stops true (b ∷ s) = gap_stops (in_comment true b (get_or s 0 0)) s

no_comment : (b next : ℕ) → is_blank b ≡ true → opens_comment b next ≡ false
no_comment b next blank = either (eqb b 47) (λ e. absurd (no_slash (eqb-true b 47 e))) (λ e. rw e)
  where
    no_slash : b ≡ 47 → ⊥
    no_slash e = let never : false ≡ true = rw e at blank in false≢true never

-- a blank at i
pub after_blank : (s : List ℕ) (i : ℕ) → i < length s → is_blank (get_or s i 0) ≡ true → gap false (drop i s) ≡ suc (gap false (drop (i + 1) s))
unfolding gap is_gap in_comment
after_blank s i h e = rw (from_next s i 0 h, e, no_comment (get_or s i 0) (get_or (drop (i + 1) s) 0 0) e)

gap_comment : (s : List ℕ) → gap true s ≡ run in_line s + gap false (drop (run in_line s) s)
unfolding gap is_gap in_comment run
gap_comment [] = refl
gap_comment (b ∷ s) =
    either (eqb b 10) (λ e. rw (eqb-true b 10 e) (omega arith)) (λ e. rw e (omega (arith, gap_comment s)))

slashes : (b next : ℕ) → opens_comment b next ≡ true → (b ≡ 47) × (next ≡ 47)
slashes b next e = let both = and_true (eqb b 47) (eqb next 47) e in (eqb-true b 47 both.0, eqb-true next 47 both.1)

gap_slashes : (s : List ℕ) → (get_or s 0 0 ≡ 47) × (get_or s 1 0 ≡ 47) → gap false s ≡ run in_line s + gap false (drop (run in_line s) s)
unfolding gap is_gap in_comment run
gap_slashes [] h = refl
gap_slashes (b ∷ s) h = rw (h.0, h.1) (omega (arith, gap_comment s))

-- the end of the line of a comment at i
module _ (s : List ℕ) (i : ℕ) (opens : opens_comment (get_or s i 0) (get_or s (i + 1) 0) ≡ true) where
  both : (get_or (drop i s) 0 0 ≡ 47) × (get_or (drop i s) 1 0 ≡ 47)
  both = simp (get_or-drop, add-zero) (slashes (get_or s i 0) (get_or s (i + 1) 0) opens)

  pub after_comment : (e : ℕ) → e ≡ i + run in_line (drop i s) → i + gap false (drop i s) ≡ e + gap false (drop e s)
  after_comment e is_e = rw is_e (omega (arith, rw drop-drop at (gap_slashes (drop i s) both)))

  pub comment_inside : i < length s
  comment_inside = inside s i (λ e. omega (arith, (slashes (get_or s i 0) (get_or s (i + 1) 0) opens).0))

  pub comment_moves : i < i + run in_line (drop i s)
  comment_moves = omega (arith, run_yes in_line s i comment_inside (rw (slashes (get_or s i 0) (get_or s (i + 1) 0) opens).0))

-- neither a blank nor a comment at i
gap_other : (s : List ℕ) → is_blank (get_or s 0 0) ≡ false → opens_comment (get_or s 0 0) (get_or s 1 0) ≡ false → gap false s ≡ 0
unfolding gap is_gap
gap_other [] h o = refl
gap_other (b ∷ s) h o = rw (h, o)

pub gap_none : (s : List ℕ) (i : ℕ) → is_blank (get_or s i 0) ≡ false → opens_comment (get_or s i 0) (get_or s (i + 1) 0) ≡ false → gap false (drop i s) ≡ 0
gap_none s i h o = gap_other (drop i s) (simp (get_or-drop, add-zero) h) (simp (get_or-drop, add-zero) o)

pub gap_past : (s : List ℕ) (i : ℕ) → length s ≤ i → gap false (drop i s) ≡ 0
unfolding gap
gap_past s i h = rw (from_end s i h)
