-- What the token is that a text starts with: its class, its end, and which bytes it has.
-- Assumes nothing.
use mathlib.Core.Path.{◌≡◌, refl, ap}
use mathlib.Core.List.{List, [], ◌∷◌}
use Prim.Native.Nat.{ℕ, ◌+◌, ◌-◌, ◌≤◌, ◌<◌}
use native.Mathlib.Nat.{add-sub_cancel_left}
use native.Mathlib.Omega.{arith}
use lib.Dec.{eqb, ltb}
use lib.ListN.{length, get_or, take, length-take}
use borrow.Author.Tests.{eqb-false, ltb-true}
use Rattle.lex.specs.declared.Token.{Token}
use Rattle.lexemes.specs.Bytes.{is_digit, is_word_byte}
use Rattle.lexemes.specs.Classes.{SIGNS, BAD, END}
use Rattle.lexemes.specs.Lexemes.{signs, reserved}
use Rattle.lexemes.specs.Words.{all, place_among, word}
use Rattle.values.specs.Numbers.{is_hex}
use Rattle.lex.specs.Tokens.{empty, word_class, word_token, sign_class, sign_token, token_from}
use Rattle.lexemes.proofs.Lists.{either, take_own}
use Rattle.lexemes.proofs.Steps.{run_le}
use Rattle.lexemes.proofs.WordParts.{word_length, word_some}
use Rattle.lexemes.proofs.Equality.{place_at_lem, place_le}

-- the token t is read at the place i, where the source goes on with s
pub record Shape (s : List ℕ) (i : ℕ) (t : Token) : Type 0 where
  pub starts : t.start ≡ i
  pub known : t.class ≤ END
  pub bytes : t.class < BAD → (i < t.end) × (t.end ≤ i + length s)
  pub bad : t.class ≡ BAD → (t.end ≡ i) × (0 < length s)
  pub done : t.class ≡ END → (t.end ≡ i) × (length s ≡ 0)
  pub sign : t.class < SIGNS → take (t.end - i) s ≡ get_or signs t.class []
  pub worded : SIGNS ≤ t.class → t.class < BAD → (t.end ≡ i + length (word s)) × (t.class ≡ word_class (word s))

-- a token of the class k with the bytes w
some_shape : (s : List ℕ) (i k : ℕ) (w : List ℕ) → k < BAD → 0 < length w → length w ≤ length s →
    (k < SIGNS → take (length w) s ≡ get_or signs k []) → (SIGNS ≤ k → (w ≡ word s) × (k ≡ word_class (word s))) →
    Shape s i (record { class = k; start = i; end = i + length w })
some_shape s i k w small some fits is_sign is_word =
    record {
      starts = refl;
      known = omega arith;
      bytes = λ h. omega arith;
      bad = λ h. absurd (omega arith);
      done = λ h. absurd (omega arith);
      sign = λ h. rw add-sub_cancel_left (is_sign h);
      worded = λ h _. (ap (λ (w : List ℕ). i + length w) (is_word h).0, (is_word h).1);
    }

-- a token of the class k without bytes
empty_shape : (s : List ℕ) (i k : ℕ) → BAD ≤ k → k ≤ END → (k ≡ BAD → 0 < length s) → (k ≡ END → length s ≡ 0) → Shape s i (empty k i)
empty_shape s i k large known some none =
    record {
      starts = refl;
      known = known;
      bytes = λ h. absurd (omega arith);
      bad = λ h. (refl, some h);
      done = λ h. (refl, none h);
      sign = λ h. absurd (omega arith);
      worded = λ h h'. absurd (omega arith);
    }

bad_shape : (s : List ℕ) (i : ℕ) → 0 < length s → Shape s i (empty BAD i)
bad_shape s i h = empty_shape s i BAD (omega arith) (omega arith) (λ _. h) (λ e. absurd (omega arith))

word_class_range : (w : List ℕ) → (SIGNS ≤ word_class w) × (word_class w ≤ BAD)
unfolding word_class reserved
word_class_range w =
    either (is_digit (get_or w 0 0))
    (λ e.
    rw e (either (all is_digit w) (λ d. rw d (omega arith)) (λ d. rw d (either (is_hex w) (λ x. rw x (omega arith)) (λ x. rw x (omega arith))))))
    (λ e. rw e (omega (arith, place_le w reserved)))

word_shape : (s : List ℕ) (i : ℕ) → 0 < length (word s) → Shape s i (word_token (word s) i)
unfolding word_token
word_shape s i h =
    let k = word_class (word s) in
    let size = word_length s in
    let within = run_le is_word_byte s in
    let range = word_class_range (word s) in
    either (eqb k BAD)
    (λ e. rw e (bad_shape s i (omega arith)))
    (λ e.
    let small : k < BAD = omega (arith, eqb-false k BAD e) in
    rw e (some_shape s i k (word s) small h (omega arith) (λ l. absurd (omega arith)) (λ _. (refl, refl))))

-- the text of the sign k, which s starts with
record Text (s : List ℕ) (k : ℕ) : Type 0 where
  some : 0 < length (get_or signs k [])
  fits : length (get_or signs k []) ≤ length s
  here : take (length (get_or signs k [])) s ≡ get_or signs k []

text_of : (s : List ℕ) (n : ℕ) → 0 < n → 0 < length s → place_among (take n s) signs < SIGNS → Text s (place_among (take n s) signs)
unfolding signs
text_of s n pos h l =
    let is_text = place_at_lem (take n s) signs l in
    let size = length-take n s in
    record { some = rw is_text (omega arith); fits = rw is_text (omega arith); here = rw is_text (take_own n s) }

sign_text : (s : List ℕ) → 0 < length s → sign_class s < SIGNS → Text s (sign_class s)
unfolding sign_class
sign_text s h =
    either (ltb (place_among (take 2 s) signs) SIGNS)
    (λ e. rw e (λ l. text_of s 2 (omega arith) h l))
    (λ e. rw e (λ l. text_of s 1 (omega arith) h l))

sign_shape : (s : List ℕ) (i : ℕ) → 0 < length s → Shape s i (sign_token s i)
unfolding sign_token
sign_shape s i h =
    let k = sign_class s in
    either (ltb k SIGNS)
    (λ e.
    let small = ltb-true k SIGNS e in
    let text = sign_text s h small in
    rw e (some_shape s i k (get_or signs k []) (omega arith) text.some text.fits (λ _. text.here) (λ l. absurd (omega arith))))
    (λ e. rw e (bad_shape s i h))

pub from_shape : (s : List ℕ) (i : ℕ) → Shape s i (token_from s i)
unfolding token_from
from_shape [] i = empty_shape [] i END (omega arith) (omega arith) (λ e. absurd (omega arith)) (λ _. refl)
from_shape (b ∷ s) i = either (is_word_byte b) (λ e. rw e (word_shape (b ∷ s) i (word_some b s e))) (λ e. rw e (sign_shape (b ∷ s) i (omega arith)))
