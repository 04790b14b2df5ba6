-- The test of a family's ends, bytes and answers is what W-206 says of refusal 17.
-- Assumes nothing.
use Prim.Native.Nat.{ℕ, zero, suc, ◌-◌, ◌/◌, ◌≤◌, ◌<◌}
use native.Mathlib.Omega.{arith}
use mathlib.Core.Path.{◌≡◌, refl, sym, ap, ◌∙◌}
use mathlib.Core.Logic.{◌⊎◌, inl, inr, ◌≢◌, ◌↔◌}
use mathlib.Core.Bool.{Bool, true, false, not, ◌||◌, true≢false, or-true}
use mathlib.Core.List.{List, [], ◌∷◌}
use lib.Dec.{eqb, ltb}
use lib.ListN.{length, get_or}
use borrow.Author.Tests.{ltb-true, lt-ltb, eq-eqb, ne_eqb}
use Rattle.lexemes.proofs.Lists.{either as whether, either_less}
use Rattle.ll1.proofs.Basics.{either}
use Rattle.answers.specs.Answer.{LONGEST}
use Rattle.family.specs.Family.{WORDS, MOST, fall, last_end, bad_ends, is_bad}
use Rattle.family.specs.Bad.{Falls, Bad, too_many, falling, not_the_length, too_long, few_answers}

-- ---- falling ends

falls_behind : (before : ℕ) (ends : List ℕ) → Falls ends → Falls (before ∷ ends)
falls_behind before ends f = record { at = suc f.at; inside = omega (arith, f.inside); below = f.below }

-- after the one before
fall_falls : (before : ℕ) (ends : List ℕ) → fall before ends ≡ true → Falls (before ∷ ends)
unfolding fall
fall_falls before [] e = absurd (true≢false (sym e))
fall_falls before (end ∷ ends) e = by (either (ltb end before) (fall end ends) e) (fall_falls end ends)
  where
    by : (ltb end before ≡ true) ⊎ (fall end ends ≡ true) → (fall end ends ≡ true → Falls (end ∷ ends)) → Falls (before ∷ end ∷ ends)
    by (inl less) more = record { at = 0; inside = omega arith; below = ltb-true end before less }
    by (inr later) more = falls_behind before (end ∷ ends) (more later)

falls_fall : (before : ℕ) (ends : List ℕ) (i : ℕ) → suc i < length (before ∷ ends) → get_or ends i 0 < get_or (before ∷ ends) i 0 → fall before ends ≡ true
unfolding fall
falls_fall before [] i inside below = absurd (omega arith)
falls_fall before (end ∷ ends) zero inside below = rw (lt-ltb end before below)
falls_fall before (end ∷ ends) (suc i) inside below = rw (falls_fall end ends i (omega arith) below) (or-true (ltb end before))

-- after 0, below which there is none
fall_exactly : (ends : List ℕ) → (fall 0 ends ≡ true) ↔ Falls ends
fall_exactly ends =
    (λ e. let f = fall_falls 0 ends e in by f.at f.inside f.below, λ f. falls_fall 0 ends (suc f.at) (omega (arith, f.inside)) f.below)
  where
    by : (i : ℕ) → suc i < length (0 ∷ ends) → get_or ends i 0 < get_or (0 ∷ ends) i 0 → Falls ends
    by zero inside below = absurd (omega arith)
    by (suc i) inside below = record { at = i; inside = omega arith; below = below }

-- ---- the last end

last_behind : (before : ℕ) (ends : List ℕ) → last_end before ends ≡ get_or (before ∷ ends) (length ends) 0
unfolding last_end
last_behind before [] = refl
last_behind before (end ∷ ends) = last_behind end ends

last_is : (ends : List ℕ) → last_end 0 ends ≡ get_or ends (length ends - 1) 0
unfolding last_end
last_is [] = refl
last_is (end ∷ ends) = let e : length ends ≡ suc (length ends) - 1 = omega arith in last_behind end ends ∙ ap (λ (i : ℕ). get_or (end ∷ ends) i 0) e

-- ---- all causes

module _ (buffer ends : List ℕ) (m : ℕ) where
  -- a test that is true tells its cause
  last_told : not (eqb (last_end 0 ends) (length buffer)) ≡ true → get_or ends (length ends - 1) 0 ≢ length buffer
  last_told e same = true≢false (sym e ∙ ap not (eq-eqb (last_end 0 ends) (length buffer) (last_is ends ∙ same)))

  ends_told : bad_ends 0 ends (length buffer) ≡ true → Bad buffer ends m
  unfolding bad_ends
  ends_told e = by (either (fall 0 ends) (not (eqb (last_end 0 ends) (length buffer))) e)
    where
      by : (fall 0 ends ≡ true) ⊎ (not (eqb (last_end 0 ends) (length buffer)) ≡ true) → Bad buffer ends m
      by (inl e) = falling ((fall_exactly ends).0 e)
      by (inr e) = not_the_length (last_told e)

  abbrev many : Bool
  many = ltb MOST (length ends)

  abbrev wrong : Bool
  wrong = bad_ends 0 ends (length buffer)

  abbrev long : Bool
  long = ltb LONGEST (length buffer)

  bad_told : is_bad buffer ends m ≡ true → Bad buffer ends m
  unfolding is_bad
  bad_told e = by_answers (either (many || wrong || long) (ltb (m / WORDS) (length ends)) e)
    where
      by_ends : (many ≡ true) ⊎ (wrong ≡ true) → Bad buffer ends m
      by_ends (inl e) = too_many (ltb-true MOST (length ends) e)
      by_ends (inr e) = ends_told e

      by_length : (many || wrong ≡ true) ⊎ (long ≡ true) → Bad buffer ends m
      by_length (inl e) = by_ends (either many wrong e)
      by_length (inr e) = too_long (ltb-true LONGEST (length buffer) e)

      by_answers : (many || wrong || long ≡ true) ⊎ (ltb (m / WORDS) (length ends) ≡ true) → Bad buffer ends m
      by_answers (inl e) = by_length (either (many || wrong) long e)
      by_answers (inr e) = few_answers (ltb-true (m / WORDS) (length ends) e)

  told_bad : Bad buffer ends m → is_bad buffer ends m ≡ true
  unfolding is_bad bad_ends
  told_bad (too_many h) = rw (lt-ltb MOST (length ends) h)
  told_bad (falling f) = rw ((fall_exactly ends).1 f, or-true many)
  told_bad (not_the_length h) =
      rw (ne_eqb (last_end 0 ends) (length buffer) (λ e. h (sym (last_is ends) ∙ e)), or-true (fall 0 ends), or-true many)
  told_bad (too_long h) = rw (lt-ltb LONGEST (length buffer) h, or-true (many || wrong))
  told_bad (few_answers h) = rw (lt-ltb (m / WORDS) (length ends) h) (or-true (many || wrong || long))

  pub bad_exactly : (is_bad buffer ends m ≡ true) ↔ Bad buffer ends m
  bad_exactly = (bad_told, told_bad)

  -- ---- where there is none

  module _ (good : is_bad buffer ends m ≡ false) where
    none : Bad buffer ends m → ⊥
    none b = true≢false (sym (told_bad b) ∙ good)

    pub good_ends : bad_ends 0 ends (length buffer) ≡ false
    good_ends = whether (bad_ends 0 ends (length buffer)) (λ e. absurd (none (ends_told e))) (λ e. e)

    pub enough_answers : length ends ≤ m / WORDS
    enough_answers = either_less (m / WORDS) (length ends) (λ less. absurd (none (few_answers less))) (λ h. h)

    pub short_buffer : length buffer ≤ LONGEST
    short_buffer = either_less LONGEST (length buffer) (λ more. absurd (none (too_long more))) (λ h. h)
