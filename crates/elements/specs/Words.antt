-- The flag words that stand in a list (document 01, FL), with the size and display that it names (document 02, W-204).
-- Assumes nothing.
use Rattle.std.specs.Prelude.{ℕ, ◌+◌, ◌*◌, Bool, false, cond, ◌&&◌, ◌||◌, List, [], ◌∷◌, eqb, Option, None, Some, is_some, unwrap_or}
use Rattle.std.specs.Option.{option_or}
use Rattle.lexemes.specs.Classes.{«INTERACTIVE», READ_ONLY, RESET_REQUIRED}
use Rattle.rows.specs.Marks.{marked}
use Rattle.rows.specs.Flags as flag
use Rattle.rows.specs.Sizes.{NO_SIZE, UINT_DEC, size_and_display}
use Rattle.ll1.specs.ParseTable.{member}
use Rattle.grammar.specs.Parts.{when}
use Rattle.grammar.specs.Flags.{FlagWord, size_words, display_words, classes_of}
use Rattle.elements.specs.declared.flags.Words.{Words}
use Rattle.elements.specs.Kinds.{NUMERIC_FLAGS}
use Rattle.elements.specs.Marks.{placed}

-- the value of the word of class k, where k is one of the words
unfoldable pub value_of : List FlagWord → ℕ → Option ℕ
value_of [] k = None
value_of (w ∷ ws) k = cond (eqb w.class k) (Some w.value) (value_of ws k)

-- without a word
abbrev pub no_words : Words
no_words =
    record {
      readonly = false;
      interactive = false;
      reset = false;
      size = None;
      display = None;
      second = None;
    }

-- with a word of class k, where ws are the words of a sort: the first of them stays
abbrev pub choose : Option ℕ → List FlagWord → ℕ → Option ℕ
choose named ws k = option_or named (value_of ws k)

-- a word of class k is the second of its sort
abbrev pub repeats : Words → ℕ → Bool
repeats w k = is_some w.size && member k (classes_of size_words) || is_some w.display && member k (classes_of display_words)

-- with a word of class k at the mark m; a repeated flag adds nothing
abbrev pub with_word : Words → ℕ → ℕ → Words
with_word w k m =
    record {
      readonly = w.readonly || eqb k READ_ONLY;
      interactive = w.interactive || eqb k «INTERACTIVE»;
      reset = w.reset || eqb k RESET_REQUIRED;
      size = choose w.size size_words k;
      display = choose w.display display_words k;
      second = option_or w.second (placed (when (repeats w k) m));
    }

-- READ_ONLY (1), INTERACTIVE (4), RESET_REQUIRED (16)
abbrev pub bits_of : Words → ℕ
bits_of w = when w.readonly flag.READ_ONLY + when w.interactive flag.INTERACTIVE + when w.reset flag.RESET_REQUIRED

-- what the words keep as the element e: the flags; of a numeric besides 256 times its size and display:
-- "absent means eight bytes and `DISPLAY_UINT_DEC`"
unfoldable pub list_entry : ℕ → Words → ℕ
list_entry e w = cond (eqb e NUMERIC_FLAGS) (bits_of w + 256 * size_and_display (unwrap_or w.size NO_SIZE) (unwrap_or w.display UINT_DEC)) (bits_of w)

-- the mark of a numeric's second size or display word, or 0
unfoldable pub list_second : ℕ → Words → ℕ
list_second e w = cond (eqb e NUMERIC_FLAGS) (marked w.second) 0
