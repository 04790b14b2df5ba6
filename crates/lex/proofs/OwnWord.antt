-- A token is the token at its own start, and its bytes are its own: the word that starts there, or its sign's text.
-- Assumes nothing.
use mathlib.Core.Path.{◌≡◌, sym, ap, ◌∙◌}
use mathlib.Core.Bool.{Bool, true, false, cond}
use mathlib.Core.List.{List, [], Memᴰ}
use Prim.Native.Nat.{ℕ, ◌+◌, ◌-◌, ◌≤◌, ◌<◌}
use native.Mathlib.Omega.{arith}
use lib.ListN.{length, get_or, take, drop, get_or-append}
use lib.Seq.{drop-drop, get_or-append-add}
use Rattle.lex.specs.declared.Token.{Token}
use Rattle.lexemes.specs.Bytes.{is_digit}
use Rattle.lexemes.specs.Classes.{SIGNS, NAME, HEX, BAD}
use Rattle.lexemes.specs.Lexemes.{signs, reserved, lexemes}
use Rattle.lexemes.specs.Words.{all, place_among, word}
use Rattle.lex.specs.Tokens.{gap, word_class, token_at}
use Rattle.values.specs.Numbers.{is_hex}
use Rattle.values.specs.Numbers.{numeral, fitted, value_at, digits_at}
use Rattle.lexemes.proofs.Lists.{either, either_less}
use Rattle.lex.proofs.Comments.{gap_stops}
use Rattle.lexemes.proofs.WordParts.{word_length, word_part}
use Rattle.lexemes.proofs.Equality.{place_at_lem, member_place, place_member}
use Rattle.lex.proofs.Cases.{token_end, token_from_lem}
use Rattle.lex.proofs.Progress.{past_end, start_is, from_start, shape}

-- the text of a word whose class is below NAME
reserved_text : (w : List ℕ) → word_class w < NAME → get_or lexemes (word_class w) [] ≡ w
unfolding word_class lexemes signs reserved
reserved_text w =
    either (is_digit (get_or w 0 0))
    (λ e. rw e (either (all is_digit w) (λ d. rw d (λ h. absurd (omega arith))) (λ d. rw d (no_number (is_hex w)))))
    (λ e. rw e (λ h. get_or-append-add signs reserved (place_among w reserved) [] ∙ place_at_lem w reserved (omega arith)))
  where
    no_number : (hex : Bool) → cond hex HEX BAD < NAME → get_or lexemes (cond hex HEX BAD) [] ≡ w
    no_number true h = absurd (omega arith)
    no_number false h = absurd (omega arith)

sign_text : (k : ℕ) → k < SIGNS → get_or lexemes k [] ≡ get_or signs k []
unfolding lexemes signs
sign_text k h = get_or-append signs reserved [] k h

-- a word that does not start with a digit is reserved exactly where it stands in the list
module _ (w : List ℕ) (no_digit : is_digit (get_or w 0 0) ≡ false) where
  class_place : word_class w ≡ SIGNS + place_among w reserved
  unfolding word_class
  class_place = rw no_digit

  pub class_reserved : word_class w < NAME → Memᴰ w reserved
  unfolding reserved
  class_reserved h = place_member w reserved (omega (arith, class_place))

  pub reserved_class : Memᴰ w reserved → word_class w < NAME
  unfolding reserved
  reserved_class m = omega (arith, class_place, member_place w reserved m)

-- ---- the token t at or after a place
module _ (s : List ℕ) (at : ℕ) where
  abbrev t : Token
  t = token_at s at

  no_gap : at < length s → gap false (drop t.start s) ≡ 0
  no_gap h = rw (start_is s at h) (rw drop-drop at (gap_stops false (drop at s)))

  pub own_start : token_at s t.start ≡ t
  own_start =
      either_less at (length s)
      (λ h.
      either_less t.start (length s)
      (λ l. token_from_lem s t.start t.start (omega (arith, no_gap h)) l ∙ sym (from_start s at))
      (λ l. past_end s t.start l ∙ token_end s at t.start (start_is s at h) l))
      (λ h. rw (past_end s at h) (past_end s (length s) (omega arith)))

  -- a word's or a number's bytes are the word that starts at its start, and its class is that word's
  module _ (is_word : SIGNS ≤ t.class) (some : t.class < BAD) where
    pub own_length : t.end ≡ t.start + length (word (drop t.start s))
    own_length = ((shape s at).worded is_word some).0

    pub own_word : take (t.end - t.start) (drop t.start s) ≡ word (drop t.start s)
    own_word = word_part s t.start t.end (omega (arith, own_length, word_length (drop t.start s)))

    pub own_class : t.class ≡ word_class (word (drop t.start s))
    own_class = ((shape s at).worded is_word some).1

    -- so that a number's value and the count of its digits are its own too
    pub own_value : value_at s t.start ≡ fitted (numeral (take (t.end - t.start) (drop t.start s)))
    unfolding value_at
    own_value = rw own_word

    pub own_digits : digits_at s t.start ≡ t.end - t.start - 2
    unfolding digits_at
    own_digits = omega (arith, own_length)

  -- a sign's or a reserved word's bytes are its text among the lexemes
  pub own_text : t.class < NAME → take (t.end - t.start) (drop t.start s) ≡ get_or lexemes t.class []
  own_text h =
      either_less t.class SIGNS
      (λ l. (shape s at).sign l ∙ sym (sign_text t.class l))
      (λ l.
      let is_class = own_class l (omega arith) in
      own_word l (omega arith) ∙ sym (ap (λ (k : ℕ). get_or lexemes k []) is_class ∙ reserved_text (word (drop t.start s)) (rw is_class at h)))
