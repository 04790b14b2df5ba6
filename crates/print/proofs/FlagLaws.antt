-- Flag words, one after another.
-- Assumes nothing.
use Prim.Native.Nat.{ℕ, zero, suc, ◌+◌, ◌≤◌, ◌<◌}
use native.Mathlib.Omega.{arith}
use native.Mathlib.Numerals.{add-one}
use mathlib.Core.Path.{◌≡◌, refl, sym, ap, ◌∙◌}
use mathlib.Core.Bool.{Bool, true, false, cond, ◌||◌, or-false, or_assoc}
use mathlib.Core.List.{List, [], ◌∷◌, ◌++◌, append_assoc}
use lib.ListN.{length, get_or, drop, drop_of_length-le}
use lib.Seq.{drop-cons}
use lib.Dec.{eqb}
use borrow.Author.Tests.{ne_eqb}
use Rattle.lexemes.specs.Classes.{«|», NUMERIC_SIZE_8, DISPLAY_UINT_DEC}
use Rattle.lexemes.specs.Lexemes.{lexemes, signs}
use Rattle.rows.specs.Flags as flag
use Rattle.rows.specs.Sizes.{NO_SIZE, INT_DEC, UINT_DEC, UINT_HEX, size_of, display_of}
use Rattle.grammar.specs.Flags.{FlagWord, flag_word, flag_words, set_in, size_word, display_word}
use Rattle.answers.specs.Text.{Word, words, lexeme, barred, flag_list, text_of}
use Rattle.spellings.proofs.Outputs.{text_append}
use Rattle.print.specs.declared.shown.TheConstants.{FLAG_WORDS}
use Rattle.print.specs.Phrase.{set_words, numeric_flags, after_bar, filled, any_flag}

-- a list of flag words, where any stands before it or none
abbrev pub list_from : Bool → List FlagWord → List Word
list_from true ws = barred ws
list_from false ws = flag_list ws

module _ (set : ℕ) where
  abbrev pub stands : FlagWord → Bool
  stands w = flag.is_set w.value set

  -- one word after another
  flags_next : (any : Bool) (w : FlagWord) (ws : List FlagWord)
      → list_from any (set_in set (w ∷ ws)) ≡ after_bar any (stands w) w.class ++ list_from (any || stands w) (set_in set ws)
  unfolding lexemes signs
  flags_next any w ws = by any (stands w) (set_in set ws)
    where
      by : (any there : Bool) (l : List FlagWord) → list_from any (cond there (w ∷ l) l) ≡ after_bar any there w.class ++ list_from (any || there) l
      by true true l = refl
      by true false l = refl
      by false true l = refl
      by false false l = refl

  -- some word is set
  abbrev pub any_set : List FlagWord → Bool
  any_set [] = false
  any_set (w ∷ ws) = stands w || any_set ws

  pub any_set_lem : (ws : List FlagWord) → any_set ws ≡ filled (set_in set ws)
  any_set_lem [] = refl
  any_set_lem (w ∷ ws) = by (stands w) (any_set_lem ws)
    where
      by : (there : Bool) → any_set ws ≡ filled (set_in set ws) → there || any_set ws ≡ filled (cond there (w ∷ set_in set ws) (set_in set ws))
      by true e = refl
      by false e = e

  module _ (ws : List FlagWord) where
    -- the text from a place of a table on
    abbrev pub text_from : Bool → ℕ → List ℕ
    text_from any i = text_of (list_from any (set_in set (drop i ws)))

    pub flags_step : (any : Bool) (i : ℕ) {w : FlagWord} {there : Bool} → i < length ws → w ≡ get_or ws i (flag_word 0 0) → there ≡ stands w
        → text_from any i ≡ text_of (after_bar any there w.class) ++ text_from (any || there) (i + 1)
    flags_step any i {w = w} h e f =
        rw (drop-cons ws i (flag_word 0 0) h, add-one i, ← e, f)
        (ap text_of (flags_next any w (drop (suc i) ws))
        ∙ text_append (after_bar any (stands w) w.class) (list_from (any || stands w) (set_in set (drop (suc i) ws))))

    pub flags_end : (any : Bool) (i : ℕ) → length ws ≤ i → text_from any i ≡ []
    unfolding text_of
    flags_end true i h = rw (drop_of_length-le ws h)
    flags_end false i h = rw (drop_of_length-le ws h)

pub any_flag_lem : (set : ℕ) → (flag.is_set flag.READ_ONLY set || flag.is_set flag.INTERACTIVE set) || flag.is_set flag.RESET_REQUIRED set ≡ any_flag set
any_flag_lem set =
    let a = flag.is_set flag.READ_ONLY set in
    let b = flag.is_set flag.INTERACTIVE set in
    let c = flag.is_set flag.RESET_REQUIRED set in
    or_assoc a b c ∙ ap (λ (x : Bool). a || (b || x)) (sym (or-false c)) ∙ any_set_lem set flag_words

-- some word from a place of a table on is set
module _ (set : ℕ) (ws : List FlagWord) where
  pub any_next : (i : ℕ) {w : FlagWord} {there : Bool} → i < length ws → w ≡ get_or ws i (flag_word 0 0) → there ≡ stands set w
      → any_set set (drop i ws) ≡ there || any_set set (drop (i + 1) ws)
  any_next i h e f = rw (drop-cons ws i (flag_word 0 0) h, add-one i, ← e, f)

  pub any_end : (i : ℕ) → length ws ≤ i → any_set set (drop i ws) ≡ false
  any_end i h = rw (drop_of_length-le ws h)

-- the words of the printer's table
pub table_word : (i : ℕ) (d : ℕ × ℕ) → i < 3 → flag_word (get_or FLAG_WORDS i d).0 (get_or FLAG_WORDS i d).1 ≡ get_or flag_words i (flag_word 0 0)
table_word zero d h = refl
table_word (suc zero) d h = refl
table_word (suc (suc zero)) d h = refl
table_word (suc (suc (suc i))) d h = absurd (omega arith)

-- ---- a numeric's size and display after its flags

-- two words after others
module _ (a b : FlagWord) where
  two_barred : (ws : List FlagWord) → barred ws ++ barred (a ∷ b ∷ []) ≡ barred (ws ++ (a ∷ b ∷ []))
  two_barred [] = refl
  two_barred (w ∷ ws) = ap (λ (l : List Word). words "|" ++ (lexeme w.class ++ l)) (two_barred ws)

  two_after : (ws : List FlagWord)
      → flag_list ws ++ cond (filled ws) (lexeme «|») [] ++ (lexeme a.class ++ (lexeme «|» ++ lexeme b.class)) ≡ flag_list (ws ++ (a ∷ b ∷ []))
  unfolding lexemes signs
  two_after [] = refl
  two_after (w ∷ ws) =
      append_assoc (flag_list (w ∷ ws)) (lexeme «|») (lexeme a.class ++ (lexeme «|» ++ lexeme b.class)) ∙ ap (◌++◌ (lexeme w.class)) (two_barred ws)

pub numeric_list_lem : (set n : ℕ) {any : Bool} {size display : ℕ}
    → any ≡ any_flag set → size ≡ (size_word (size_of n)).class → display ≡ (display_word (display_of n)).class
    → set_words set ++ cond any (lexeme «|») [] ++ (lexeme size ++ (lexeme «|» ++ lexeme display)) ≡ numeric_flags set n
unfolding set_words numeric_flags
numeric_list_lem set n a e f = rw (a, e, f) (two_after (size_word (size_of n)) (display_word (display_of n)) (set_in set flag_words))

-- the sizes and displays that no other word is of
pub other_size : (v : ℕ) → (((Unit {0}) × (v ≡ 1 → ⊥)) × (v ≡ 2 → ⊥)) × (v ≡ 4 → ⊥) → NUMERIC_SIZE_8 ≡ (size_word v).class
other_size v h = rw (ne_eqb 1 v (λ e. h.0.0.1 (sym e)), ne_eqb 2 v (λ e. h.0.1 (sym e)), ne_eqb 4 v (λ e. h.1 (sym e))) (same (eqb 8 v))
  where
    same : (b : Bool) → NUMERIC_SIZE_8 ≡ (cond b (flag_word NUMERIC_SIZE_8 8) (flag_word NUMERIC_SIZE_8 NO_SIZE)).class
    same true = refl
    same false = refl

pub other_display : (v : ℕ) → ((Unit {0}) × (v ≡ INT_DEC → ⊥)) × (v ≡ UINT_HEX → ⊥) → DISPLAY_UINT_DEC ≡ (display_word v).class
other_display v h = rw (ne_eqb INT_DEC v (λ e. h.0.1 (sym e)), ne_eqb UINT_HEX v (λ e. h.1 (sym e))) (same (eqb UINT_DEC v))
  where
    same : (b : Bool) → DISPLAY_UINT_DEC ≡ (cond b (flag_word DISPLAY_UINT_DEC UINT_DEC) (flag_word DISPLAY_UINT_DEC UINT_DEC)).class
    same true = refl
    same false = refl
