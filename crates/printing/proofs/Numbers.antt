-- Numbers and rule names as printed: what the tokens' rules make of them.
-- Assumes nothing.
use mathlib.Core.Path.{◌≡◌, refl, ap, sym, ◌∙◌}
use mathlib.Core.List.{List, [], ◌∷◌}
use mathlib.Core.Bool.{Bool, true, false, ◌&&◌}
use Prim.Native.Nat.{ℕ, suc, ◌%◌, ◌^◌, ◌<◌}
use native.Mathlib.Numerals.{add-one}
use native.Mathlib.Omega.{arith}
use lib.Dec.{eqb, leb}
use lib.ListN.{length, get_or, drop}
use lib.Seq.{drop-drop}
use borrow.Author.Tests.{lt-ltb, le-leb, lt-leb, leb-true, eqb-true, eqb-false}
use Rattle.lexemes.specs.Bytes.{is_digit, is_hex_digit, is_word_byte}
use Rattle.lexemes.specs.Classes.{NAME, HEX, DECIMAL}
use Rattle.lexemes.specs.Lexemes.{reserved}
use Rattle.lexemes.specs.Words.{run, all, same, place_among, word}
use Rattle.values.specs.Numbers.{is_hex}
use Rattle.lex.specs.Tokens.{word_class}
use Rattle.values.specs.Numbers.{value_from, numeral, fitted, value_at}
use Rattle.lexemes.proofs.Lists.{either, and_true}
use Rattle.ll1.proofs.Basics.{clash}
use Rattle.lexemes.proofs.Equality.{same_refl, same_true}
use Rattle.answers.specs.Text.{hex_digits}
use Rattle.printing.specs.Spelling.{decimal_word, hex_word, name_word}
use Rattle.printing.proofs.Digits.{decimal_value, decimal_bytes, decimal_some, decimal_injective, hex_length, hex_bytes, hex_value}
use Rattle.printing.proofs.Runs.{Reads, not_byte, word_reads}

-- ---- bytes

-- digits and hex digits may stand in a word
digit_in_word : (b : ℕ) → is_digit b ≡ true → is_word_byte b ≡ true
digit_in_word b e = rw e

hex_digit_in_word : (b : ℕ) → is_hex_digit b ≡ true → is_word_byte b ≡ true
hex_digit_in_word b e =
    either (is_digit b)
    (λ d. rw d)
    (λ d.
    either (leb 65 b && leb b 70)
    (λ u.
    let both = and_true (leb 65 b) (leb b 70) u in
    rw (d, both.0, le-leb b 90 (omega (arith, leb-true b 70 both.1))))
    (λ u.
    let both = and_true (leb 97 b) (leb b 102) (rw (d, u) at e) in
    let low = leb-true 97 b both.0 in
    let high = leb-true b 102 both.1 in
    rw (d, le-leb 65 b (omega arith), lt-leb b 90 (omega arith), both.0, le-leb b 122 (omega arith))))

all_weaken : (p q : ℕ → Bool) → ((b : ℕ) → p b ≡ true → q b ≡ true) → (w : List ℕ) → all p w ≡ true → all q w ≡ true
unfolding all
all_weaken p q f [] h = refl
all_weaken p q f (b ∷ w) h = let both = and_true (p b) (all p w) h in rw (f b both.0) (all_weaken p q f w both.1)

-- ---- classes

decimal_class : (w : List ℕ) → 0 < length w → all is_digit w ≡ true → word_class w ≡ DECIMAL
unfolding word_class all
decimal_class [] some h = absurd (omega arith)
decimal_class (b ∷ w) some h = rw ((and_true (is_digit b) (all is_digit w) h).0, (and_true (is_digit b) (all is_digit w) h).1)

hex_class : (w : List ℕ) → 0 < length w → all is_hex_digit w ≡ true → word_class (48 ∷ 120 ∷ w) ≡ HEX
unfolding word_class is_hex all
hex_class w some h = rw (lt-ltb 2 (suc (suc (length w))) (omega arith), h)

-- no reserved word is R and a digit
name_class : (w : List ℕ) → 0 < length w → all is_digit w ≡ true → word_class (82 ∷ w) ≡ NAME
unfolding word_class place_among reserved same all
name_class [] some h = absurd (omega arith)
name_class (b ∷ w) some h = rw (not_byte is_digit b 69 (and_true (is_digit b) (all is_digit w) h).0 refl)

-- ---- tokens

module _ (v : ℕ) where
  pub decimal_in_word : all is_word_byte (decimal_word v) ≡ true
  decimal_in_word = all_weaken is_digit is_word_byte digit_in_word (decimal_word v) (decimal_bytes v)

  pub decimal_reads : Reads (decimal_word v) DECIMAL
  decimal_reads = word_reads (decimal_word v) DECIMAL (decimal_some v) decimal_in_word (decimal_class (decimal_word v) (decimal_some v) (decimal_bytes v)) (omega arith)

  pub name_in_word : all is_word_byte (name_word v) ≡ true
  unfolding all
  name_in_word = decimal_in_word

  pub name_reads : Reads (name_word v) NAME
  name_reads = word_reads (name_word v) NAME (omega arith) name_in_word (name_class (decimal_word v) (decimal_some v) (decimal_bytes v)) (omega arith)

module _ (width v : ℕ) where
  pub hex_in_word : all is_word_byte (hex_word width v) ≡ true
  unfolding all
  hex_in_word = all_weaken is_hex_digit is_word_byte hex_digit_in_word (hex_digits width v) (hex_bytes width v)

  pub hex_reads : 0 < width → Reads (hex_word width v) HEX
  hex_reads h =
      word_reads (hex_word width v) HEX (omega arith) hex_in_word (hex_class (hex_digits width v) (omega (arith, hex_length width v)) (hex_bytes width v)) (omega arith)

-- ---- values

-- no decimal number has `x` for its second byte
no_mark : (w : List ℕ) → all is_digit w ≡ true → eqb (get_or w 1 0) 120 ≡ false
unfolding all
no_mark [] h = refl
no_mark (a ∷ []) h = refl
no_mark (a ∷ b ∷ w) h = not_byte is_digit b 120 (and_true (is_digit b) (all is_digit w) (and_true (is_digit a) (all is_digit (b ∷ w)) h).1).0 refl

pub decimal_numeral : (v : ℕ) → numeral (decimal_word v) ≡ v
unfolding numeral
decimal_numeral v = rw (no_mark (decimal_word v) (decimal_bytes v)) (decimal_value v)

pub hex_numeral : (width v : ℕ) → numeral (hex_word width v) ≡ v % 16 ^ width
unfolding numeral
hex_numeral width v = hex_value width v

-- ---- names

-- a rule's name counts as its number: R is no digit, and adds nothing
no_mark_first : (w : List ℕ) → all is_digit w ≡ true → eqb (get_or w 0 0) 120 ≡ false
unfolding all
no_mark_first [] h = refl
no_mark_first (b ∷ w) h = not_byte is_digit b 120 (and_true (is_digit b) (all is_digit w) h).0 refl

pub name_numeral : (n : ℕ) → numeral (name_word n) ≡ n
unfolding numeral value_from
name_numeral n = rw (no_mark_first (decimal_word n) (decimal_bytes n)) (decimal_value n)

-- what comes after the first byte of a word
after_first : (l : List ℕ) (b : ℕ) (w : List ℕ) → word l ≡ b ∷ w → word (drop 1 l) ≡ w
unfolding run
after_first [] b w e = clash cc
after_first (x ∷ l) b w e = either (is_word_byte x) (λ y. let h : x ∷ word l ≡ b ∷ w = rw y at e in cc) (λ y. let h : [] ≡ b ∷ w = rw y at e in clash cc)

-- so the digits after the R of a rule's name have its value too
pub after_r : (t : List ℕ) (q n : ℕ) → word (drop q t) ≡ name_word n → value_at t (suc q) ≡ value_at t q
unfolding value_at
after_r t q n w =
    let next : drop (suc q) t ≡ drop 1 (drop q t) = rw add-one at (sym (drop-drop 1 q t)) in
    let digits : word (drop (suc q) t) ≡ decimal_word n = ap word next ∙ after_first (drop q t) 82 (decimal_word n) w in
    ap (λ x. fitted (numeral x)) digits ∙ ap fitted (decimal_numeral n ∙ sym (name_numeral n)) ∙ ap (λ x. fitted (numeral x)) (sym w)

pub same_names : (m n : ℕ) → same (name_word m) (name_word n) ≡ eqb m n
unfolding same
same_names m n =
    either (eqb m n)
    (λ e. rw (e, eqb-true m n e) (same_refl (decimal_word n)))
    (λ e.
    either (same (decimal_word m) (decimal_word n))
    (λ t. absurd (eqb-false m n e (decimal_injective m n (same_true (decimal_word m) (decimal_word n) t))))
    (λ t. rw (e, t)))
