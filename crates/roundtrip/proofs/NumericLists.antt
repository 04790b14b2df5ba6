-- A numeric's list of words: those that its row sets, its size and its display. Each table finds its own words there, so that column 12 is read back.
-- Assumes nothing.
use mathlib.Core.Path.{◌≡◌, refl, ap, ◌∙◌}
use mathlib.Core.List.{List, [], ◌∷◌, ◌++◌, map-append}
use mathlib.Core.Bool.{Bool, true, false}
use Prim.Native.Nat.{ℕ, ◌+◌, ◌≤◌, ◌<◌}
use native.Mathlib.Omega.{arith}
use lib.Dec.{eqb, ltb}
use borrow.Author.Tests.{eqb-true, ltb-true}
use Rattle.rows.specs.Columns as column
use Rattle.rows.specs.Sizes.{NO_SIZE, UINT_DEC, size_and_display, size_of, display_of}
use Rattle.rows.proofs.SizeLaws.{size_of_lem, display_of_lem}
use Rattle.ll1.specs.ParseTable.{member}
use Rattle.ll1.specs.Test.{all}
use Rattle.ll1.proofs.Basics.{both}
use Rattle.grammar.specs.Parts.{when}
use Rattle.grammar.specs.Flags.{FlagWord, flag_words, size_words, display_words, classes_of, total, first_of, size_word, display_word}
use Rattle.grammar.proofs.FlagTotals.{foreign, none_of, PassesOver, none_before, none_after, total_passes, first_passes, first_tested, count, count_passes}
use Rattle.grammar.proofs.SizeWords.{set_tested, word_tested, classes_tested}
use Rattle.answers.specs.Text.{numeric_list}
use Rattle.roundtrip.proofs.Phrases.{cell, row_flags, numeric_flag_rules}
use Rattle.roundtrip.proofs.FlagLists.{known, Known}

-- the size and the display that words name
abbrev pub size_among : List FlagWord → ℕ
size_among ws = first_of size_words NO_SIZE (classes_of ws)

abbrev pub display_among : List FlagWord → ℕ
display_among ws = first_of display_words UINT_DEC (classes_of ws)

-- what holds of all size words holds of the word of a size, and so of displays
module _ (test : FlagWord → Bool) (v : ℕ) where
  size_tested : all test size_words ≡ true → test (size_word NO_SIZE) ≡ true → test (size_word v) ≡ true
  size_tested h g = word_tested test (size_word NO_SIZE) size_words v g h

  display_tested : all test display_words ≡ true → test (display_word UINT_DEC) ≡ true → test (display_word v) ≡ true
  display_tested h g = word_tested test (display_word UINT_DEC) display_words v g h

-- a word has none of the classes of a table
abbrev apart_from : List FlagWord → FlagWord → Bool
apart_from vs w = foreign vs w.class

module _ (row : List ℕ) where
  abbrev size : FlagWord
  size = size_word (size_of (cell column.SIZE row))

  abbrev display : FlagWord
  display = display_word (display_of (cell column.SIZE row))

  -- ---- they are words of a numeric's FL

  known_with : (ws : List FlagWord) → Known numeric_flag_rules ws → Known numeric_flag_rules (ws ++ (size ∷ display ∷ []))
  known_with [] h =
      rw (
        size_tested (known numeric_flag_rules) (size_of (cell column.SIZE row)) refl refl,
        display_tested (known numeric_flag_rules) (display_of (cell column.SIZE row)) refl refl,
      )
  known_with (w ∷ ws) h = let k = both (known numeric_flag_rules w) _ h in rw k.0 (known_with ws k.1)

  pub numeric_flags_known : Known numeric_flag_rules (numeric_list row)
  numeric_flags_known = known_with (row_flags row) (set_tested (known numeric_flag_rules) (cell column.FLAGS row) flag_words refl)

  -- ---- each table finds its own

  parts : classes_of (numeric_list row) ≡ classes_of (row_flags row) ++ (size.class ∷ display.class ∷ [])
  parts = map-append (λ w. w.class) (row_flags row) (size ∷ display ∷ [])

  no_flags : (vs : List FlagWord) → all (apart_from vs) flag_words ≡ true → none_of vs (classes_of (row_flags row)) ≡ true
  no_flags vs h = classes_tested (foreign vs) (row_flags row) (set_tested (apart_from vs) (cell column.FLAGS row) flag_words h)

  no_size : (vs : List FlagWord) → all (apart_from vs) size_words ≡ true → apart_from vs (size_word NO_SIZE) ≡ true → apart_from vs size ≡ true
  no_size vs = size_tested (apart_from vs) (size_of (cell column.SIZE row))

  no_display :
      (vs : List FlagWord) → all (apart_from vs) display_words ≡ true → apart_from vs (display_word UINT_DEC) ≡ true → apart_from vs display ≡ true
  no_display vs = display_tested (apart_from vs) (display_of (cell column.SIZE row))

  module _ {X : Type 0} (read : List ℕ → X) where
    of_flags : PassesOver flag_words read → read (classes_of (numeric_list row)) ≡ read (classes_of (row_flags row))
    of_flags over =
        ap read parts
        ∙ none_after flag_words read over (classes_of (row_flags row)) (size.class ∷ display.class ∷ [])
        (rw (no_size flag_words refl refl, no_display flag_words refl refl))

    of_size : PassesOver size_words read → read (classes_of (numeric_list row)) ≡ read (size.class ∷ [])
    of_size over =
        ap read parts ∙ none_before size_words read over (classes_of (row_flags row)) (size.class ∷ display.class ∷ []) (no_flags size_words refl)
        ∙ over (size.class ∷ []) display.class [] (no_display size_words refl refl)

    of_display : PassesOver display_words read → read (classes_of (numeric_list row)) ≡ read (display.class ∷ [])
    of_display over =
        ap read parts ∙ none_before display_words read over (classes_of (row_flags row)) (size.class ∷ display.class ∷ []) (no_flags display_words refl)
        ∙ over [] size.class (display.class ∷ []) (no_size display_words refl refl)

  -- the flags are those that the row sets
  pub numeric_total : total flag_words (classes_of (numeric_list row)) ≡ total flag_words (classes_of (row_flags row))
  numeric_total = of_flags (total flag_words) (total_passes flag_words)

  -- one size word and one display word at most
  at_most_one : (b : Bool) → when b 1 + 0 ≤ 1
  at_most_one true = omega arith
  at_most_one false = omega arith

  pub one_size : count size_words (classes_of (numeric_list row)) ≤ 1
  one_size = omega (arith, of_size (count size_words) (count_passes size_words), at_most_one (member size.class (classes_of size_words)))

  pub one_display : count display_words (classes_of (numeric_list row)) ≤ 1
  one_display =
      omega (arith, of_display (count display_words) (count_passes display_words), at_most_one (member display.class (classes_of display_words)))

-- ---- column 12

-- a size, and a display, is what its word names
abbrev size_again : ℕ → Bool
size_again v = eqb (size_among (size_word v ∷ [])) v

abbrev display_again : ℕ → Bool
display_again v = eqb (display_among (display_word v ∷ [])) v

-- a row that holds the size and display that some classes name
module _ (row ks : List ℕ) (holds : cell column.SIZE row ≡ size_and_display (first_of size_words NO_SIZE ks) (first_of display_words UINT_DEC ks)) where
  abbrev named_size : ℕ
  named_size = first_of size_words NO_SIZE ks

  abbrev named_display : ℕ
  named_display = first_of display_words UINT_DEC ks

  display_small : named_display < 4
  display_small = ltb-true named_display 4 (first_tested (λ n. ltb n 4) display_words UINT_DEC ks refl refl)

  pub size_again_lem : size_among (numeric_list row) ≡ named_size
  size_again_lem =
      of_size row (first_of size_words NO_SIZE) (first_passes size_words NO_SIZE)
      ∙ ap (λ n. size_among (size_word n ∷ [])) (ap size_of holds ∙ size_of_lem named_size named_display display_small)
      ∙ eqb-true _ named_size (first_tested size_again size_words NO_SIZE ks refl refl)

  pub display_again_lem : display_among (numeric_list row) ≡ named_display
  display_again_lem =
      of_display row (first_of display_words UINT_DEC) (first_passes display_words UINT_DEC)
      ∙ ap (λ n. display_among (display_word n ∷ [])) (ap display_of holds ∙ display_of_lem named_size named_display display_small)
      ∙ eqb-true _ named_display (first_tested display_again display_words UINT_DEC ks refl refl)
