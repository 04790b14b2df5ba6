-- A run of letters, digits and `_` with a blank after it is read as one word.
-- Assumes nothing.
use mathlib.Core.Path.{◌≡◌, refl, ap, sym, ◌∙◌}
use mathlib.Core.List.{List, [], ◌∷◌, ◌++◌}
use mathlib.Core.Bool.{Bool, true, false, false≢true}
use Prim.Native.Nat.{ℕ, ◌+◌, ◌<◌}
use native.Mathlib.Omega.{arith}
use lib.Dec.{eqb}
use lib.ListN.{length, get_or}
use lib.Seq.{take_at}
use borrow.Author.Tests.{ne_eqb}
use Rattle.lexemes.specs.Bytes.{is_word_byte}
use Rattle.lexemes.specs.Classes.{BAD}
use Rattle.lexemes.specs.Words.{run, all, same, word}
use Rattle.lex.specs.Tokens.{is_gap, gap, word_class, word_token, token_from}
use Rattle.lexemes.proofs.Lists.{either, and_true}
use Rattle.lex.proofs.Specimens.{tok}
use Rattle.answers.specs.Text.{Word, gap_after}

-- ---- what stands after a word

pub data Blank : ℕ → Type 0 where
  space : Blank 32
  line : Blank 10

pub gap_blank : (w : Word) → Blank (gap_after w)
gap_blank w = either (same w (59 ∷ [])) (λ e. rw e line) (λ e. rw e space)

blank_ends : {x : ℕ} → Blank x → is_word_byte x ≡ false
blank_ends space = refl
blank_ends line = refl

-- ---- tokens

-- w is read as a token of the class k, whatever follows a blank after it
pub record Reads (w : Word) (k : ℕ) : Type 0 where
  pub good : k < BAD
  pub some : 0 < length w
  pub starts : {x : ℕ} (later : List ℕ) → Blank x → gap false (w ++ x ∷ later) ≡ 0
  pub is_token : {x : ℕ} (later : List ℕ) (at : ℕ) → Blank x → token_from (w ++ x ∷ later) at ≡ tok k at (at + length w)

-- ---- words

-- a byte that passes a test is none that fails it
pub not_byte : (p : ℕ → Bool) (c k : ℕ) → p c ≡ true → p k ≡ false → eqb c k ≡ false
not_byte p c k h l = ne_eqb c k (λ e. false≢true (sym l ∙ sym (ap p e) ∙ h))

word_starts : (c next : ℕ) → is_word_byte c ≡ true → is_gap false c next ≡ false
unfolding is_gap
word_starts c next h =
    let never : (k : ℕ) → is_word_byte k ≡ false → eqb c k ≡ false = λ k l. not_byte is_word_byte c k h l in
    rw (never 32 refl, never 9 refl, never 13 refl, never 10 refl, never 47 refl)

run_ends : (w : Word) (x : ℕ) (later : List ℕ) → all is_word_byte w ≡ true → is_word_byte x ≡ false → run is_word_byte (w ++ x ∷ later) ≡ length w
unfolding run all
run_ends [] x later h l = rw l
run_ends (c ∷ w) x later h l = let both = and_true (is_word_byte c) (all is_word_byte w) h in rw (both.0, run_ends w x later both.1 l)

-- the word that bytes start with
pub word_is : (w : Word) {x : ℕ} (later : List ℕ) → all is_word_byte w ≡ true → Blank x → word (w ++ x ∷ later) ≡ w
word_is w {x} later h b = rw (run_ends w x later h (blank_ends b)) (take_at w (x ∷ later) (length w) refl)

word_token_lem : (w : Word) (k at : ℕ) → word_class w ≡ k → k < BAD → word_token w at ≡ tok k at (at + length w)
unfolding word_token
word_token_lem w k at e l = rw (e, ne_eqb k BAD (λ t. omega arith))

pub word_reads : (w : Word) (k : ℕ) → 0 < length w → all is_word_byte w ≡ true → word_class w ≡ k → k < BAD → Reads w k
unfolding gap token_from all
word_reads [] k z h e l = absurd (omega arith)
word_reads (c ∷ w) k z h e l =
    let first = (and_true (is_word_byte c) (all is_word_byte w) h).0 in
    record {
      good = l;
      some = z;
      starts = λ {x} later b. rw (word_starts c (get_or (w ++ x ∷ later) 0 0) first);
      is_token = λ later at b. rw first (ap (λ (v : Word). word_token v at) (word_is (c ∷ w) later h b) ∙ word_token_lem (c ∷ w) k at e l);
    }
