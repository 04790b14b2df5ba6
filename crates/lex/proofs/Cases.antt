-- The token definitions, case by case, by the facts that the code's branches have.
-- Assumes nothing.
use mathlib.Core.Path.{◌≡◌, refl, sym, ap, ◌∙◌}
use mathlib.Core.Bool.{Bool, true, false, cond, ◌&&◌}
use mathlib.Core.List.{List, [], ◌∷◌}
use Prim.Native.Nat.{ℕ, zero, suc, ◌+◌, ◌-◌, ◌≤◌, ◌<◌}
use native.Mathlib.Nat.{add-zero, le_of_suc-le-suc}
use native.Mathlib.Omega.{arith}
use lib.Dec.{ltb}
use lib.ListN.{length, get_or, take, drop, length-drop}
use lib.Seq.{drop-drop, get_or-drop}
use borrow.Author.Tests.{eq-eqb, ne_eqb, lt-ltb, le-ltb}
use Rattle.lex.specs.declared.Token.{Token}
use Rattle.lexemes.specs.Bytes.{is_digit, is_word_byte}
use Rattle.lexemes.specs.Classes.{SIGNS, NAME, DECIMAL, BAD, END}
use Rattle.lexemes.specs.Lexemes.{signs, reserved}
use Rattle.lex.specs.Likely.{LikelyEnd}
use Rattle.lexemes.specs.Words.{run, all, same, place_among, word}
use Rattle.lex.specs.Tokens.{gap, empty, word_class, word_token, sign_class, sign_token, token_from, token_after_gap, token_at}
use Rattle.lexemes.proofs.Lists.{either_less, and_true, from_end, from_next}
use Rattle.lex.proofs.Comments.{gap_le}
use Rattle.lexemes.proofs.Missed.{byte_missed}
use Rattle.lexemes.proofs.Equality.{place_at_lem, place_le}
use Rattle.lexemes.proofs.Steps.{run_all, run_is, digits_run, digit_word}
use Rattle.lexemes.proofs.WordParts.{word_length, first_byte}

-- every byte of these texts belongs to a word
abbrev all_words : List (List ℕ) → Bool
all_words [] = true
all_words (v ∷ vs) = all is_word_byte v && all_words vs

word_bytes : (k : ℕ) (ws : List (List ℕ)) → all_words ws ≡ true → k < length ws → all is_word_byte (get_or ws k []) ≡ true
word_bytes k [] h l = absurd (omega arith)
word_bytes zero (v ∷ vs) h l = (and_true (all is_word_byte v) (all_words vs) h).0
word_bytes (suc k) (v ∷ vs) h l = word_bytes k vs (and_true (all is_word_byte v) (all_words vs) h).1 (le_of_suc-le-suc l)

-- a word of the class k
module _ (w : List ℕ) (at k : ℕ) (is_k : k ≡ word_class w) where
  pub word_bad : k ≡ BAD → empty BAD at ≡ word_token w at
  unfolding word_token
  word_bad b = rw (← is_k, eq-eqb k BAD b)

  pub word_good : (k ≡ BAD → ⊥) → (e : ℕ) → e ≡ at + length w → ◌≡◌ {A = Token} (record { class = k; start = at; end = e }) (word_token w at)
  unfolding word_token
  word_good b e is_e = rw (← is_k, ne_eqb k BAD b, is_e)

-- the number at a place that is all digits up to e
module _ (s : List ℕ) (at e : ℕ) (digit : is_digit (get_or s at 0) ≡ true) (is_e : e ≡ at + run is_digit (drop at s)) (ends : is_word_byte (get_or s e 0) ≡ false) where
  digits_word : run is_word_byte (drop at s) ≡ run is_digit (drop at s)
  digits_word = digits_run (drop at s) (rw (get_or-drop, ← is_e) ends)

  decimal_class : DECIMAL ≡ word_class (word (drop at s))
  unfolding word_class
  decimal_class =
      let first : is_digit (get_or (word (drop at s)) 0 0) ≡ true = rw (first_byte s at (digit_word (get_or s at 0) digit)) digit in
      rw (first, digits_word, run_all is_digit (drop at s))

  pub decimal_token : ◌≡◌ {A = Token} (record { class = DECIMAL; start = at; end = e }) (word_token (word (drop at s)) at)
  decimal_token =
      word_good (word (drop at s)) at DECIMAL decimal_class (λ bad. omega arith) e (omega (arith, word_length (drop at s), digits_word))

-- the word at a place, which starts with no digit, tried up to e
module _ (s : List ℕ) (at : ℕ) (start : is_word_byte (get_or s at 0) ≡ true) (no_digit : is_digit (get_or s at 0) ≡ false) where
  pub name_token : (k e : ℕ) → k ≡ SIGNS + place_among (word (drop at s)) reserved → e ≡ at + run is_word_byte (drop at s) →
      ◌≡◌ {A = Token} (record { class = k; start = at; end = e }) (word_token (word (drop at s)) at)
  unfolding word_class reserved
  name_token k e is_k is_e =
      let first : is_digit (get_or (word (drop at s)) 0 0) ≡ false = rw (first_byte s at start) no_digit in
      let is_class : k ≡ word_class (word (drop at s)) = rw first is_k in
      word_good (word (drop at s)) at k is_class (λ bad. omega (arith, place_le (word (drop at s)) reserved)) e (omega (arith, word_length (drop at s)))

  -- a reserved word before a byte of no word is the whole word
  module _ (k e : ℕ) (likely : LikelyEnd s at e) (is_k : k ≡ SIGNS + place_among (take (e - at) (drop at s)) reserved) (known : k < NAME) where
    known_run : run is_word_byte (drop at s) ≡ e - at
    unfolding reserved all
    known_run =
        let part = take (e - at) (drop at s) in
        let inside : place_among part reserved < length reserved = omega arith in
        let whole : all is_word_byte part ≡ true = rw (← place_at_lem part reserved inside) (word_bytes (place_among part reserved) reserved refl inside) in
        run_is is_word_byte (e - at) (drop at s) (omega (arith, length-drop at s, likely.after, likely.inside)) whole (rw (get_or-drop, past) likely.ends)
      where
        past : at + (e - at) ≡ e
        past = omega (arith, likely.after)

    pub known_token : ◌≡◌ {A = Token} (record { class = k; start = at; end = e }) (word_token (word (drop at s)) at)
    known_token = name_token k e (rw known_run is_k) (omega (arith, known_run, likely.after))

-- the sign that a list starts with, by its first two bytes and by its first; 0 is no sign's second byte
cond_same : {A : Type 0} (t : Bool) (x : A) → cond t x x ≡ x
cond_same true x = refl
cond_same false x = refl

sign_class_lem : (b : ℕ) (s : List ℕ) →
    sign_class (b ∷ s) ≡ cond (ltb (place_among (b ∷ get_or s 0 0 ∷ []) signs) SIGNS) (place_among (b ∷ get_or s 0 0 ∷ []) signs) (place_among (b ∷ []) signs)
unfolding sign_class signs same
sign_class_lem b [] = rw (byte_missed b (0 ∷ []) signs tt, cond_same)
sign_class_lem b (next ∷ s) = refl

-- no sign has this second byte
pub no_second : (b next : ℕ) → (next ≡ 61 → ⊥) → (next ≡ 60 → ⊥) → (next ≡ 62 → ⊥) → place_among (b ∷ next ∷ []) signs ≡ SIGNS
unfolding signs same
no_second b next e l g = byte_missed b (next ∷ []) signs (rw (ne_eqb next 61 e, ne_eqb next 60 l, ne_eqb next 62 g) tt)

-- no sign of two bytes starts with one of `{`, `}`, `(`, `)`, `,`, `;`, which are the first six signs
by_class : (k b next : ℕ) → k ≤ 5 → b ≡ get_or (get_or signs k []) 0 0 → place_among (b ∷ next ∷ []) signs ≡ SIGNS
unfolding signs same place_among
by_class zero b next h e = rw e
by_class (suc zero) b next h e = rw e
by_class (suc (suc zero)) b next h e = rw e
by_class (suc (suc (suc zero))) b next h e = rw e
by_class (suc (suc (suc (suc zero)))) b next h e = rw e
by_class (suc (suc (suc (suc (suc zero))))) b next h e = rw e
by_class (suc (suc (suc (suc (suc (suc k)))))) b next h e = absurd (omega arith)

pub no_first : (b next one : ℕ) → one ≡ place_among (b ∷ []) signs → one ≤ 5 → place_among (b ∷ next ∷ []) signs ≡ SIGNS
unfolding signs
no_first b next one is_one h =
    by_class one b next h (rw is_one (sym (ap (λ (v : List ℕ). get_or v 0 0) (place_at_lem (b ∷ []) signs (some one is_one h)))))
  where
    some : (k : ℕ) → k ≡ place_among (b ∷ []) signs → k ≤ 5 → place_among (b ∷ []) signs < length signs
    some k is_k h = omega arith

sign_size : (w : List ℕ) (k : ℕ) → k ≡ place_among w signs → k < SIGNS → length (get_or signs k []) ≡ length w
unfolding signs
sign_size w k is_k h = rw is_k (ap length (place_at_lem w signs (rw is_k at h)))

-- the class of the two bytes that stand at a place, of which the second is `next`
abbrev pub two_class : List ℕ → ℕ → ℕ → ℕ
two_class s at next = place_among (get_or s at 0 ∷ next ∷ []) signs

-- the sign at a place, where two bytes have the class `two` and one has the class `one`
module _ (s : List ℕ) (at two : ℕ) (inside : at < length s) (is_two : two ≡ two_class s at (get_or s (at + 1) 0)) where
  class_at : sign_class (drop at s) ≡ cond (ltb two SIGNS) two (place_among (get_or s at 0 ∷ []) signs)
  class_at = rw (from_next s at 0 inside, is_two) (rw (get_or-drop, add-zero) at (sign_class_lem (get_or s at 0) (drop (at + 1) s)))

  pub sign_two : two < SIGNS → ◌≡◌ {A = Token} (record { class = two; start = at; end = at + 2 }) (sign_token (drop at s) at)
  unfolding sign_token
  sign_two h = rw (class_at, lt-ltb two SIGNS h, lt-ltb two SIGNS h, sign_size _ two is_two h)

  module _ (one : ℕ) (none : SIGNS ≤ two) (is_one : one ≡ place_among (get_or s at 0 ∷ []) signs) where
    pub sign_one : one < SIGNS → ◌≡◌ {A = Token} (record { class = one; start = at; end = at + 1 }) (sign_token (drop at s) at)
    unfolding sign_token
    sign_one h = rw (class_at, le-ltb two SIGNS none, ← is_one, lt-ltb one SIGNS h, sign_size _ one is_one h)

    pub sign_bad : SIGNS ≤ one → empty BAD at ≡ sign_token (drop at s) at
    unfolding sign_token
    sign_bad h = rw (class_at, le-ltb two SIGNS none, ← is_one, le-ltb one SIGNS h)

-- the token at a place, where blanks and comments end at `start`
module _ (s : List ℕ) (at start : ℕ) (is_start : start ≡ at + gap false (drop at s)) where
  pub start_le : at ≤ length s → start ≤ length s
  start_le h = omega (arith, gap_le false (drop at s), length-drop at s)

  pub token_from_lem : at < length s → token_at s at ≡ token_from (drop start s) start
  unfolding token_at token_after_gap
  token_from_lem h = rw (lt-ltb at (length s) h, drop-drop, ← is_start)

  from_past : length s ≤ start → token_from (drop start s) start ≡ empty END start
  unfolding token_from
  from_past h = rw (from_end s start h)

  pub token_end : length s ≤ start → empty END (length s) ≡ token_at s at
  unfolding token_at
  token_end h =
      either_less at (length s)
      (λ l.
      let is_end : length s ≡ start = omega (arith, start_le (omega arith)) in
      ap (empty END) is_end ∙ sym (token_from_lem l ∙ from_past h))
      (λ l. rw (le-ltb at (length s) l))

-- the token that starts at a place
module _ (s : List ℕ) (at : ℕ) (inside : at < length s) where
  pub from_word : is_word_byte (get_or s at 0) ≡ true → word_token (word (drop at s)) at ≡ token_from (drop at s) at
  unfolding token_from
  from_word e = rw (from_next s at 0 inside, e)

  pub from_sign : is_word_byte (get_or s at 0) ≡ false → sign_token (drop at s) at ≡ token_from (drop at s) at
  unfolding token_from
  from_sign e = rw (from_next s at 0 inside, e)
