-- Every sign and reserved word with a blank after it is read as itself: a test of the table, by computation.
-- Assumes nothing.
use mathlib.Core.Path.{◌≡◌, refl, sym}
use mathlib.Core.List.{List, [], ◌∷◌, ◌++◌}
use mathlib.Core.Bool.{Bool, true, false, cond, not, ◌&&◌, false≢true}
use Prim.Native.Nat.{ℕ, zero, suc, ◌+◌, ◌<◌, ◌≤◌}
use native.Mathlib.Omega.{arith}
use lib.Dec.{eqb, ltb}
use lib.ListN.{length, get_or}
use borrow.Author.Tests.{eqb-true, lt-ltb, le-ltb}
use Rattle.lexemes.specs.Bytes.{is_word_byte}
use Rattle.lexemes.specs.Classes.{SIGNS, NAME}
use Rattle.lexemes.specs.Lexemes.{signs, reserved, lexemes}
use Rattle.lexemes.specs.Words.{all, same, place_among}
use Rattle.lex.specs.Tokens.{is_gap, gap, word_class, sign_class, sign_token, token_from}
use Rattle.values.specs.Numbers.{is_hex}
use Rattle.lexemes.proofs.Lists.{either_less, and_true}
use Rattle.lex.proofs.Specimens.{tok}
use Rattle.ll1.specs.Test.{all_at}
use Rattle.answers.specs.Text.{Word}
use Rattle.printing.proofs.Runs.{Blank, space, line, Reads, word_reads}

-- ---- the test

-- the sign of the class k, before the blank x
abbrev sign_test : ℕ → ℕ → Word → Bool
sign_test x k w =
    not (is_word_byte (get_or w 0 0)) && not (is_gap false (get_or w 0 0) (get_or (w ++ x ∷ []) 1 0)) && eqb (sign_class (w ++ x ∷ [])) k

abbrev word_test : ℕ → Word → Bool
word_test k w = all is_word_byte w && eqb (word_class w) k

abbrev lexeme_test : ℕ → Word → Bool
lexeme_test k [] = false
lexeme_test k (c ∷ v) =
    cond (ltb k SIGNS) (eqb (length (get_or signs k [])) (length (c ∷ v)) && sign_test 32 k (c ∷ v) && sign_test 10 k (c ∷ v)) (word_test k (c ∷ v))

-- every lexeme passes
lexemes_pass : all_at lexeme_test lexemes ≡ true
unfolding lexemes signs reserved all same place_among is_gap is_hex word_class sign_class
lexemes_pass = refl

pass_at : (p : ℕ → Word → Bool) (l : List Word) → all_at p l ≡ true → (k : ℕ) → k < length l → p k (get_or l k []) ≡ true
pass_at p [] h k l = absurd (omega arith)
pass_at p (w ∷ ws) h zero l = (and_true (p 0 w) _ h).0
pass_at p (w ∷ ws) h (suc k) l = pass_at (λ i. p (suc i)) ws (and_true (p 0 w) _ h).1 k (omega arith)

-- ---- what it tells

three : (a b c : Bool) → a && b && c ≡ true → (a ≡ true) × (b ≡ true) × (c ≡ true)
three a b c h = let first = and_true (a && b) c h in let both = and_true a b first.0 in (both.0, both.1, first.1)

not_true : (b : Bool) → not b ≡ true → b ≡ false
not_true true e = sym e
not_true false e = refl

-- only the byte after a sign matters
next_byte : (v : Word) (x : ℕ) (later : List ℕ) → get_or (v ++ x ∷ later) 0 0 ≡ get_or (v ++ x ∷ []) 0 0
next_byte [] x later = refl
next_byte (d ∷ v) x later = refl

sign_bytes : (c : ℕ) (v : Word) (x : ℕ) (later : List ℕ) → sign_class (c ∷ v ++ x ∷ later) ≡ sign_class (c ∷ v ++ x ∷ [])
unfolding sign_class
sign_bytes c [] x later = refl
sign_bytes c (d ∷ v) x later = refl

module _ (c : ℕ) (v : Word) (k : ℕ) where
  -- what the test of a sign says
  record Sign (x : ℕ) : Type 0 where
    no_word : is_word_byte c ≡ false
    no_gap : is_gap false c (get_or (v ++ x ∷ []) 0 0) ≡ false
    class : sign_class (c ∷ v ++ x ∷ []) ≡ k

  is_sign : (x : ℕ) → sign_test x k (c ∷ v) ≡ true → Sign x
  is_sign x t =
      let gap = is_gap false c (get_or (v ++ x ∷ []) 0 0) in
      let all = three (not (is_word_byte c)) (not gap) (eqb (sign_class (c ∷ v ++ x ∷ [])) k) t in
      record { no_word = not_true (is_word_byte c) all.0; no_gap = not_true gap all.1; class = eqb-true (sign_class (c ∷ v ++ x ∷ [])) k all.2 }

  by_blank : Sign 32 → Sign 10 → {x : ℕ} → Blank x → Sign x
  by_blank a b space = a
  by_blank a b line = b

  module _ (x : ℕ) (later : List ℕ) (sign : Sign x) where
    sign_starts : gap false (c ∷ v ++ x ∷ later) ≡ 0
    unfolding gap
    sign_starts = rw (next_byte v x later, sign.no_gap)

    sign_token_lem : (at : ℕ) → k < SIGNS → length (get_or signs k []) ≡ length (c ∷ v) → token_from (c ∷ v ++ x ∷ later) at ≡ tok k at (at + length (c ∷ v))
    unfolding token_from sign_token
    sign_token_lem at small size = rw (sign.no_word, sign_bytes c v x later, sign.class, lt-ltb k SIGNS small, size)

  sign_reads : k < SIGNS → length (get_or signs k []) ≡ length (c ∷ v) → Sign 32 → Sign 10 → Reads (c ∷ v) k
  sign_reads small size a b =
      record {
        good = omega arith;
        some = omega arith;
        starts = λ {x} later blank. sign_starts x later (by_blank a b blank);
        is_token = λ {x} later at blank. sign_token_lem x later (by_blank a b blank) at small size;
      }

sign_pass : (k : ℕ) (w : Word) → k < SIGNS → lexeme_test k w ≡ true → Reads w k
sign_pass k [] small t = absurd (false≢true t)
sign_pass k (c ∷ v) small t =
    let all = three (eqb (length (get_or signs k [])) (length (c ∷ v))) (sign_test 32 k (c ∷ v)) (sign_test 10 k (c ∷ v)) (rw (lt-ltb k SIGNS small) at t) in
    sign_reads c v k small (eqb-true (length (get_or signs k [])) (length (c ∷ v)) all.0) (is_sign c v k 32 all.1) (is_sign c v k 10 all.2)

word_pass : (k : ℕ) (w : Word) → SIGNS ≤ k → k < NAME → lexeme_test k w ≡ true → Reads w k
word_pass k [] large small t = absurd (false≢true t)
word_pass k (c ∷ v) large small t =
    let both = and_true (all is_word_byte (c ∷ v)) (eqb (word_class (c ∷ v)) k) (rw (le-ltb k SIGNS large) at t) in
    word_reads (c ∷ v) k (omega arith) both.0 (eqb-true (word_class (c ∷ v)) k both.1) (omega arith)

pub lexeme_reads : (k : ℕ) → k < NAME → Reads (get_or lexemes k []) k
unfolding lexemes signs reserved
lexeme_reads k h =
    let t = pass_at lexeme_test lexemes lexemes_pass k h in
    either_less k SIGNS (λ l. sign_pass k (get_or lexemes k []) l t) (λ l. word_pass k (get_or lexemes k []) l h t)
