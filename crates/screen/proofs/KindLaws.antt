-- The kinds of statements by their codes: by single tests, and that no code is of two kinds.
-- Assumes nothing.
use Prim.Native.Nat.{ℕ}
use mathlib.Core.Path.{◌≡◌, refl}
use mathlib.Core.Bool.{Bool, true, false, not, ◌&&◌, ◌||◌, or_assoc, or-false}
use mathlib.Core.List.{List, [], ◌∷◌, ◌++◌}
use lib.Dec.{eqb}
use borrow.Author.Tests.{eqb-true, not-true}
use Rattle.lexemes.proofs.Lists.{either}
use Rattle.ll1.proofs.Basics.{clash, both}
use Rattle.rows.specs.Codes.{member, expressions, is_expression}
use Rattle.rows.specs.Codes.{SUBTITLE, TEXT, LABEL, GOTO, CHECKBOX, NUMERIC, ONE_OF, SUPPRESS_IF, DISABLE_IF, GRAY_OUT_IF}
use Rattle.laid.specs.Statements.{item_codes}
use Rattle.screen.specs.Kinds.{items, hiding, greying, is_item, hides, greys}

-- the items of the grammar are those that have a byte, and the conditions
pub items_listed : item_codes ≡ items ++ (SUPPRESS_IF ∷ GRAY_OUT_IF ∷ DISABLE_IF ∷ [])
unfolding item_codes items
items_listed = refl

-- ---- by single tests

module _ (c : ℕ) where
  pub item_tests :
      (eqb c SUBTITLE || eqb c TEXT || eqb c LABEL || eqb c GOTO || eqb c CHECKBOX || eqb c NUMERIC || eqb c ONE_OF) ≡ is_item c
  unfolding is_item items member
  item_tests = simp (or_assoc, or-false)

  pub hiding_tests : (eqb c SUPPRESS_IF || eqb c DISABLE_IF) ≡ hides c
  unfolding hides hiding member
  hiding_tests = simp or-false

  pub greying_test : eqb c GRAY_OUT_IF ≡ greys c
  unfolding greys greying member
  greying_test = simp or-false

-- ---- no two kinds

-- no number of one list stands in the other
unfoldable apart : List ℕ → List ℕ → Bool
apart [] m = true
apart (x ∷ l) m = not (member x m) && apart l m

module _ (c : ℕ) where
  apart_member : (l m : List ℕ) → apart l m ≡ true → member c l ≡ true → member c m ≡ false
  unfolding apart member
  apart_member [] m t e = clash cc
  apart_member (x ∷ l) m t e =
      let u = both (not (member x m)) (apart l m) t in
      either (eqb c x)
      (λ same. rw (eqb-true c x same) (not-true (member x m) u.0))
      (λ other. apart_member l m u.1 (rw other at e))

  pub hides_only : hides c ≡ true → greys c ≡ false
  unfolding hides greys hiding greying apart member
  hides_only e = apart_member hiding greying refl e

  pub item_hides_not : is_item c ≡ true → hides c ≡ false
  unfolding is_item hides items hiding apart member
  item_hides_not e = apart_member items hiding refl e

  pub expression_no_item : is_expression c ≡ true → is_item c ≡ false
  unfolding is_expression is_item expressions items apart member
  expression_no_item e = apart_member expressions items refl e

  pub item_greys_not : is_item c ≡ true → greys c ≡ false
  unfolding is_item greys items greying apart member
  item_greys_not e = apart_member items greying refl e
