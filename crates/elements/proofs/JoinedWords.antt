-- The words of FL that are kept, one after another: the flags, the size and the display that they name, the first word of a sort named before.
-- Assumes nothing.
use Prim.Native.Nat.{ℕ, ◌+◌, ◌*◌}
use mathlib.Core.Path.{◌≡◌, refl, sym, ap, ◌∙◌}
use mathlib.Core.Bool.{Bool, false, ◌||◌, and-false, or-false, or_assoc}
use mathlib.Core.List.{List, [], ◌∷◌, map}
use native.Mathlib.Omega.{arith}
use lib.Dec.{eqb}
use Rattle.lexemes.specs.Classes.{«|», «INTERACTIVE», READ_ONLY, RESET_REQUIRED}
use Rattle.std.specs.Prelude.{Option, None, Some}
use Rattle.std.specs.Option.{is_some, unwrap_or, option_or}
use Rattle.rows.specs.Marks.{marked}
use Rattle.rows.specs.Sizes.{NO_SIZE, UINT_DEC, size_and_display}
use Rattle.ll1.specs.Trees.{Token, token, Trees, leaves}
use Rattle.ll1.specs.ParseTable.{member}
use Rattle.grammar.specs.Parts.{mark, when}
use Rattle.grammar.specs.Flags.{FlagWord, flag_words, class_of, total, flags}
use Rattle.grammar.specs.Flags.{size_words, display_words, classes_of, value_or, first_of, size_in, display_in, seconds_after, seconds_in}
use Rattle.elements.specs.declared.flags.Words.{Words}
use Rattle.elements.specs.Kinds.{FLAG_LIST, NUMERIC_FLAGS}
use Rattle.elements.specs.Marks.{placed, first_mark}
use Rattle.elements.specs.Words.{no_words, choose, repeats, with_word, bits_of, list_entry, list_second}
use Rattle.elements.proofs.WordValues.{is_word, value_is, no_value}
use Rattle.elements.proofs.MarkLaws.{place_none, place_more, marked_placed, first_if}

-- the words w, and those among the tokens
abbrev pub joined : Words → List Token → Words
joined w [] = w
joined w (token k p ∷ ts) = joined (with_word w k (mark p)) ts

-- ---- flags

module _ (get : Words → Bool) (j : ℕ) (step : (w : Words) (k m : ℕ) → get (with_word w k m) ≡ get w || eqb k j) where
  flag_joined : (w : Words) (ts : List Token) → get (joined w ts) ≡ get w || member j (map class_of ts)
  flag_joined w [] = sym (or-false (get w))
  flag_joined w (token k p ∷ ts) =
      flag_joined (with_word w k (mark p)) ts
      ∙ (ap (λ b. b || member j (map class_of ts)) (step w k (mark p)) ∙ or_assoc (get w) (eqb k j) (member j (map class_of ts)))

-- the bits are the flags
bits_joined : (ts : List Token) → bits_of (joined no_words ts) ≡ total flag_words (map class_of ts)
bits_joined ts =
    rw (
      flag_joined (λ w. w.readonly) READ_ONLY (λ w k m. refl) no_words ts,
      flag_joined (λ w. w.interactive) «INTERACTIVE» (λ w k m. refl) no_words ts,
      flag_joined (λ w. w.reset) RESET_REQUIRED (λ w k m. refl) no_words ts,
    ) (omega arith)

-- ---- a size and a display: the first word of its sort

module _ (named : Option ℕ) (ws : List FlagWord) (k : ℕ) where
  choose_named : is_some (choose named ws k) ≡ is_some named || member k (classes_of ws)
  choose_named = by named
    where
      by : (o : Option ℕ) → is_some (choose o ws k) ≡ is_some o || member k (classes_of ws)
      by None = is_word ws k
      by (Some v) = refl

  -- a class that is no word of the sort
  choose_none : member k (classes_of ws) ≡ false → choose named ws k ≡ named
  choose_none h = by named
    where
      by : (o : Option ℕ) → choose o ws k ≡ o
      by None = no_value ws k h
      by (Some v) = refl

  -- the value that the words name, after others
  choose_value : (other : ℕ) → unwrap_or (choose named ws k) other ≡ unwrap_or named (value_or other ws k)
  choose_value other = by named
    where
      by : (o : Option ℕ) → unwrap_or (choose o ws k) other ≡ unwrap_or o (value_or other ws k)
      by None = value_is ws other k
      by (Some v) = refl

module _ (get : Words → Option ℕ) (ws : List FlagWord) (step : (w : Words) (k m : ℕ) → get (with_word w k m) ≡ choose (get w) ws k) (other : ℕ) where
  value_joined : (w : Words) (ts : List Token) → unwrap_or (get (joined w ts)) other ≡ unwrap_or (get w) (first_of ws other (map class_of ts))
  value_joined w [] = refl
  value_joined w (token k p ∷ ts) =
      let later = first_of ws other (map class_of ts) in
      value_joined (with_word w k (mark p)) ts ∙ (ap (λ o. unwrap_or o later) (step w k (mark p)) ∙ choose_value (get w) ws k later)

-- ---- the first word of a sort named before

second_joined : (w : Words) (ts : List Token) → (joined w ts).second ≡ option_or w.second (placed (first_mark (seconds_after (is_some w.size) (is_some w.display) ts)))
second_joined w [] = sym (place_none w.second)
second_joined w (token k p ∷ ts) =
    second_joined (with_word w k (mark p)) ts
    ∙ rw (choose_named w.size size_words k, choose_named w.display display_words k)
    (place_more w.second (when (repeats w k) (mark p)) (first_mark later) ∙ ap (λ m. option_or w.second (placed m)) (sym (first_if (repeats w k) p later)))
  where
    later : List ℕ
    later = seconds_after (is_some w.size || member k (classes_of size_words)) (is_some w.display || member k (classes_of display_words)) ts

-- ---- a `|` is no word

pub joined_bar : (w : Words) (p : ℕ) (ts : List Token) → joined w (token «|» p ∷ ts) ≡ joined w ts
joined_bar w p ts =
    ap (λ v. joined v ts)
    (rw (
      or-false w.readonly,
      or-false w.interactive,
      or-false w.reset,
      choose_none w.size size_words «|» refl,
      choose_none w.display display_words «|» refl,
      and-false (is_some w.size),
      and-false (is_some w.display),
      place_none w.second,
    ))

-- ---- what a list keeps and notes, by the tokens of its trees

module _ (c : Trees) where
  abbrev all : Words
  all = joined no_words (leaves c)

  pub question_entry : list_entry FLAG_LIST all ≡ flags c
  unfolding list_entry
  question_entry = bits_joined (leaves c)

  pub numeric_entry_lem : list_entry NUMERIC_FLAGS all ≡ flags c + 256 * size_and_display (size_in c) (display_in c)
  unfolding list_entry
  numeric_entry_lem =
      rw (
        bits_joined (leaves c),
        value_joined (λ w. w.size) size_words (λ w k m. refl) NO_SIZE no_words (leaves c),
        value_joined (λ w. w.display) display_words (λ w k m. refl) UINT_DEC no_words (leaves c),
      )

  pub question_second : list_second FLAG_LIST all ≡ 0
  unfolding list_second
  question_second = refl

  pub numeric_second : list_second NUMERIC_FLAGS all ≡ first_mark (seconds_in c)
  unfolding list_second
  numeric_second = ap marked (second_joined no_words (leaves c)) ∙ marked_placed (first_mark (seconds_in c))
