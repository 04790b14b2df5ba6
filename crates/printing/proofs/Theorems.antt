-- What is proved of printed words: they are read back as the tokens that they spell, and each token's value is found at its place.
-- Assumes nothing.
use mathlib.Core.Path.{◌≡◌, ◌∙◌}
use mathlib.Core.List.{List}
use mathlib.Core.Bool.{true}
use Prim.Native.Nat.{ℕ, ◌+◌, ◌-◌, ◌^◌, ◌≤◌, ◌<◌}
use native.Mathlib.Nat.{add-zero}
use native.Mathlib.Omega.{arith}
use lib.Dec.{eqb}
use lib.ListN.{length, drop}
use borrow.Author.Tests.{le-leb, lt-ltb}
use Rattle.std.specs.Prelude.{Some, None}
use Rattle.lexemes.specs.Classes.{NAME}
use Rattle.lexemes.specs.Words.{word, same_word}
use Rattle.lex.specs.Tokens.{first_bad, token_after_gap, token_at}
use Rattle.values.specs.Numbers.{fitted, value_at, digits_at}
use Rattle.lex.proofs.Specimens.{tok}
use Rattle.values.proofs.ValueLaws.{fitted_fits}
use Rattle.ll1.specs.Trees.{Token}
use Rattle.grammar.specs.Source.{source_tokens, number_at}
use Rattle.grammar.specs.Ranges.{between, digits, within, keeps}
use Rattle.answers.specs.Text.{Word, text_of}
use Rattle.printing.specs.Spelling.{hex_word, SpellsToken, a_hex, Spelled, placed, Stands, Standing}
use Rattle.printing.proofs.Digits.{hex_length}
use Rattle.printing.proofs.Runs.{gap_blank, word_is}
use Rattle.printing.proofs.Numbers.{same_names}
use Rattle.printing.proofs.TextTokens.{spells_reads, good_text, taken_tokens}
use Rattle.printing.proofs.TextPlaces.{stand_placed, in_word, word_numeral, name_is, stands_inside}

-- ---- the text of words that spell the tokens ts

module _ {ws : List Word} {ts : List Token} (spelled : Spelled ws ts) where
  pub none_bad : first_bad (text_of ws) ≡ None
  none_bad = good_text spelled

  -- each word is one token, at its place
  pub tokens_read : source_tokens (text_of ws) ≡ placed 0 ws ts
  tokens_read = taken_tokens spelled

  -- the words stand at the places of the text's tokens
  pub words_stand : Standing (text_of ws) ws (source_tokens (text_of ws)) ts
  words_stand = rw tokens_read (stand_placed spelled)

-- ---- the place p of a word of the class k and the value v

module _ {s : List ℕ} {p k v : ℕ} {w : Word} (stands : Stands s p w) (spells : SpellsToken w k v) where
  pub token_at_lem : token_at s p ≡ tok k p (p + length w)
  unfolding token_at token_after_gap
  token_at_lem =
      let r = spells_reads spells in
      rw (lt-ltb p (length s) (stands_inside stands), stands.here, r.starts stands.later (gap_blank w), add-zero)
      (r.is_token stands.later p (gap_blank w))

  -- a number or a name is the word that starts there
  pub word_at : NAME ≤ k → word (drop p s) ≡ w
  word_at l = rw stands.here (word_is w stands.later (in_word spells l) (gap_blank w))

  module _ (number : NAME ≤ k) where
    -- its value, however large; a rule's name counts as its number
    pub value_at_lem : value_at s p ≡ fitted v
    unfolding value_at
    value_at_lem = rw (word_at number, word_numeral spells number)

    pub value_fits_at : v < 2 ^ 64 → value_at s p ≡ Some v
    value_fits_at h = value_at_lem ∙ fitted_fits v h

    pub number_at_lem : v < 2 ^ 64 → number_at s p ≡ v
    unfolding number_at
    number_at_lem h = rw (value_fits_at h)

    pub digits_at_lem : digits_at s p ≡ length w - 2
    unfolding digits_at
    digits_at_lem = rw (word_at number)

    -- it keeps a range of values exactly where its value does
    pub keeps_value : (low high : ℕ) → keeps s (between low high) p ≡ within low high (fitted v)
    unfolding keeps
    keeps_value low high = rw value_at_lem

    pub keeps_between : (low high : ℕ) → low ≤ v → v ≤ high → high < 2 ^ 64 → keeps s (between low high) p ≡ true
    keeps_between low high a b h = keeps_value low high ∙ rw (fitted_fits v (omega arith), le-leb low v a, le-leb v high b)

-- a GUID part
module _ {s : List ℕ} {p : ℕ} (width v : ℕ) (stands : Stands s p (hex_word width v)) (some : 0 < width) where
  pub hex_digits_at : digits_at s p ≡ width
  hex_digits_at = digits_at_lem stands (a_hex width v some) (omega arith) ∙ omega (arith, hex_length width v)

  pub keeps_digits : (n : ℕ) → width ≤ n → keeps s (digits n) p ≡ true
  unfolding keeps
  keeps_digits n h = rw hex_digits_at (le-leb width n h)

-- two rule names are the same exactly where the rules' numbers are
pub names_at : {s : List ℕ} {p q k l m n : ℕ} {w u : Word} →
    Stands s p w → SpellsToken w k m → k ≡ NAME → Stands s q u → SpellsToken u l n → l ≡ NAME → same_word s p q ≡ eqb m n
unfolding same_word
names_at {m = m} {n = n} a x e b y f =
    rw (word_at a x (omega arith), word_at b y (omega arith), name_is x e, name_is y f) (same_names m n)
