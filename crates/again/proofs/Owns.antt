-- The own numbers of rows that pass a test: of like rows, of each row, and of the first row that passes another test.
-- Assumes nothing.
use mathlib.Core.Path.{◌≡◌, refl, sym}
use mathlib.Core.List.{List, [], ◌∷◌, ◌++◌}
use mathlib.Core.Bool.{Bool, true, false, or-true}
use Prim.Native.Nat.{ℕ}
use lib.Dec.{eqb}
use borrow.Author.Tests.{eq-eqb, eqb-true}
use Rattle.lexemes.proofs.Lists.{either}
use Rattle.numbers.specs.Numbers.{mem}
use Rattle.rows.specs.Columns as column
use Rattle.ll1.proofs.Basics.{clash}
use Rattle.answers.specs.Rows.{Draft}
use Rattle.answers.specs.Stages.{cell, asks, any, own_numbers, own_of_first}
use Rattle.sound.proofs.Lists.{All, none, more}
use Rattle.again.specs.Matches.{Pairs, no_pairs, pair}
use Rattle.again.specs.RuleNumbers.{owns_of}

-- row by row
module _ (p : Draft → Bool) (d : Draft) (ds : List Draft) where
  pub owns_yes : p d ≡ true → owns_of p (d ∷ ds) ≡ cell column.OWN d ∷ owns_of p ds
  unfolding owns_of
  owns_yes e = rw e

  pub owns_not : p d ≡ false → owns_of p (d ∷ ds) ≡ owns_of p ds
  unfolding owns_of
  owns_not e = rw e

pub owns_append : (p : Draft → Bool) (ds es : List Draft) → owns_of p (ds ++ es) ≡ owns_of p ds ++ owns_of p es
unfolding owns_of
owns_append p [] es = refl
owns_append p (d ∷ ds) es = either (p d) (λ e. rw (e, owns_append p ds es)) (λ e. rw (e, owns_append p ds es))

-- the questions' own numbers
pub owns_questions : (ds : List Draft) → owns_of asks ds ≡ own_numbers ds
unfolding owns_of own_numbers
owns_questions [] = refl
owns_questions (d ∷ ds) = rw (owns_questions ds)

-- what holds of the own number of each row that passes holds of each number
pub owns_each : (p : Draft → Bool) (P : ℕ → Type 0) {ds : List Draft} → All (λ d. p d ≡ true → P (cell column.OWN d)) ds → (k : ℕ) → mem k (owns_of p ds) ≡ true → P k
unfolding owns_of mem
owns_each p P none k h = clash cc
owns_each p P (more {x = d} f r) k h =
    either (p d)
    (λ e. either (eqb k (cell column.OWN d)) (λ g. rw (eqb-true k _ g) (f e)) (λ g. owns_each p P r k (rw (e, g) at h)))
    (λ e. owns_each p P r k (rw e at h))

-- rows that are like others in the test, and in the own number where they pass it
pub owns_like :
    {P : Draft → Draft → Type 0} (p q : Draft → Bool)
    → ((d e : Draft) → P d e → p d ≡ q e)
    → ((d e : Draft) → P d e → q e ≡ true → cell column.OWN d ≡ cell column.OWN e)
    → {ds es : List Draft} → Pairs P ds es → owns_of p ds ≡ owns_of q es
unfolding owns_of
owns_like p q f g no_pairs = refl
owns_like p q f g (pair {a = d} {b = e} {xs = ds} {ys = es} h r) =
    rw (f d e h, owns_like p q f g r) (either (q e) (λ y. rw (y, g d e h y)) (λ y. rw y))

-- numbers of rows that pass a test are of rows that pass a wider one
pub owns_wider :
    (p q : Draft → Bool) → ((d : Draft) → p d ≡ true → q d ≡ true)
    → (ds : List Draft) (k : ℕ) → mem k (owns_of p ds) ≡ true → mem k (owns_of q ds) ≡ true
unfolding owns_of mem
owns_wider p q f [] k h = clash cc
owns_wider p q f (d ∷ ds) k h =
    either (p d)
    (λ e.
    rw (f d e)
    (either (eqb k (cell column.OWN d)) (λ g. rw g) (λ g. rw g (owns_wider p q f ds k (rw (e, g) at h)))))
    (λ e.
    let later = owns_wider p q f ds k (rw e at h) in
    either (q d) (λ y. rw (y, later) (or-true (eqb k (cell column.OWN d)))) (λ y. rw y later))

-- some row passes a test exactly where its number is there, if the test is of the number alone
pub some_bears : (p q : Draft → Bool) (k : ℕ) {ds : List Draft} → All (λ d. p d ≡ true → cell column.OWN d ≡ k → q d ≡ true) ds → mem k (owns_of p ds) ≡ true → any q ds ≡ true
unfolding owns_of mem any
some_bears p q k none h = clash cc
some_bears p q k (more {x = d} {l = ds} f r) h =
    either (p d)
    (λ e.
    either (eqb k (cell column.OWN d))
    (λ g. rw (f e (sym (eqb-true k _ g))))
    (λ g. rw (some_bears p q k r (rw (e, g) at h)) (or-true (q d))))
    (λ e. rw (some_bears p q k r (rw e at h)) (or-true (q d)))

module _ (s : List ℕ) (p : Draft → Bool) where
  -- the first row that passes
  pub first_owns : (q : Draft → Bool) → ((d : Draft) → p d ≡ true → q d ≡ true) → (ds : List Draft) → any p ds ≡ true → mem (own_of_first s p ds) (owns_of q ds) ≡ true
  unfolding any own_of_first owns_of mem
  first_owns q f [] h = clash cc
  first_owns q f (d ∷ ds) h =
      either (p d)
      (λ e. rw (e, f d e) (rw (eq-eqb (cell column.OWN d) (cell column.OWN d) refl)))
      (λ e.
      let later = first_owns q f ds (rw e at h) in
      rw e (either (q d) (λ y. rw (y, later) (or-true (eqb (own_of_first s p ds) (cell column.OWN d)))) (λ y. rw y later)))

  -- all rows that pass have the same number
  pub first_same : (k : ℕ) {ds : List Draft} → All (λ d. p d ≡ true → cell column.OWN d ≡ k) ds → any p ds ≡ true → own_of_first s p ds ≡ k
  unfolding any own_of_first
  first_same k none h = clash cc
  first_same k (more {x = d} f r) h = either (p d) (λ e. rw e (f e)) (λ e. rw e (first_same k r (rw e at h)))
