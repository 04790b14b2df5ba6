-- The tokens of a text of printed words: each word is read back as the token that it spells, and nothing is bad.
-- Assumes nothing.
use mathlib.Core.Path.{◌≡◌, refl, ap, ◌∙◌}
use mathlib.Core.List.{List, [], ◌∷◌, ◌++◌}
use mathlib.Core.Bool.{false}
use Prim.Native.Nat.{ℕ, zero, suc, ◌+◌, ◌-◌, ◌≤◌, ◌<◌}
use native.Mathlib.Omega.{arith}
use lib.ListN.{length, length-append}
use lib.Seq.{drop_at, drop-append-add}
use borrow.Author.Tests.{lt-ltb, ne_eqb}
use Rattle.lex.specs.declared.Token as lex
use Rattle.std.specs.Prelude.{None}
use Rattle.lexemes.specs.Classes.{BAD, END}
use Rattle.lex.specs.Tokens.{is_gap, in_comment, gap, token_from, token_after_gap, tokens_within, tokens_from, tokens, bad_among, first_bad}
use Rattle.lex.proofs.Specimens.{tok}
use Rattle.ll1.specs.Trees.{Token, token}
use Rattle.grammar.specs.Source.{grammar_tokens, source_tokens}
use Rattle.answers.specs.Text.{Word, gap_after, text_of}
use Rattle.printing.specs.Spelling.{SpellsToken, a_lexeme, a_decimal, a_hex, a_name, Spelled, spelled_none, spelled_next, placed}
use Rattle.printing.proofs.Runs.{Blank, space, line, gap_blank, Reads}
use Rattle.printing.proofs.Lexemes.{lexeme_reads}
use Rattle.printing.proofs.Numbers.{decimal_reads, hex_reads, name_reads}

pub spells_reads : {w : Word} {k v : ℕ} → SpellsToken w k v → Reads w k
spells_reads (a_lexeme k h) = lexeme_reads k h
spells_reads (a_decimal v) = decimal_reads v
spells_reads (a_hex width v h) = hex_reads width v h
spells_reads (a_name n) = name_reads n

-- ---- one token

-- what stands before a word: nothing, or one blank
data Before : List ℕ → Type 0 where
  no_gap : Before []
  one_blank : {x : ℕ} → Blank x → Before (x ∷ [])

blank_skipped : {x : ℕ} (s : List ℕ) → Blank x → gap false (x ∷ s) ≡ suc (gap false s)
unfolding gap is_gap in_comment
blank_skipped s space = refl
blank_skipped s line = refl

gap_skipped : {g : List ℕ} (s : List ℕ) → Before g → gap false s ≡ 0 → gap false (g ++ s) ≡ length g
gap_skipped s no_gap e = e
gap_skipped s (one_blank b) e = blank_skipped s b ∙ ap suc e

module _ {g : List ℕ} (before : Before g) (at n : ℕ) where
  module _ {w : Word} {k x : ℕ} (later : List ℕ) (r : Reads w k) (b : Blank x) where
    token_next : token_after_gap (g ++ (w ++ x ∷ later)) at ≡ tok k (at + length g) (at + length g + length w)
    unfolding token_after_gap
    token_next =
        rw (gap_skipped (w ++ x ∷ later) before (r.starts later b), drop_at g (w ++ x ∷ later) (length g) refl) (r.is_token later (at + length g) b)

    within_next : tokens_within (suc n) (g ++ (w ++ x ∷ later)) at ≡ tok k (at + length g) (at + length g + length w) ∷ tokens_within n (x ∷ later) (at + length g + length w)
    unfolding tokens_within
    within_next =
        let size : at + length g + length w - at ≡ length g + length w = omega arith in
        rw (token_next, lt-ltb k BAD r.good, size, drop-append-add g (w ++ x ∷ later) (length w), drop_at w (x ∷ later) (length w) refl)

within_end : {g : List ℕ} → Before g → (n at : ℕ) → tokens_within (suc n) (g ++ []) at ≡ tok END (at + length g) (at + length g) ∷ []
unfolding tokens_within token_after_gap token_from gap is_gap in_comment
within_end no_gap n at = refl
within_end (one_blank space) n at = refl
within_end (one_blank line) n at = refl

-- ---- all of them

-- the tokens l are all good, and the grammar takes ts of them
record Lexed (l : List lex.Token) (ts : List Token) : Type 0 where
  good : bad_among l ≡ None
  taken : grammar_tokens l ≡ ts

lexed_end : (p : ℕ) → Lexed (tok END p p ∷ []) []
unfolding bad_among grammar_tokens
lexed_end p = record { good = refl; taken = refl }

lexed_next : (k p e : ℕ) (l : List lex.Token) (ts : List Token) → k < BAD → Lexed l ts → Lexed (tok k p e ∷ l) (token k p ∷ ts)
unfolding bad_among grammar_tokens
lexed_next k p e l ts h more =
    record {
      good = rw (ne_eqb k BAD (λ e. omega arith)) more.good;
      taken = rw (ne_eqb k END (λ e. omega arith)) (ap (◌∷◌ (token k p)) more.taken);
    }

lexed_from : {ws : List Word} {ts : List Token} → Spelled ws ts → (n at : ℕ) {g : List ℕ} → Before g → length ws < n → Lexed (tokens_within n (g ++ text_of ws) at) (placed (at + length g) ws ts)
unfolding text_of placed
lexed_from sp zero at before l = absurd (omega arith)
lexed_from spelled_none (suc n) at {g} before l = rw (within_end before n at) (lexed_end (at + length g))
lexed_from (spelled_next {w = w} {k = k} {ws = ws} {ts = ts} s sp) (suc n) at {g} before l =
    let r = spells_reads s in
    let p = at + length g in
    rw (within_next before at n (text_of ws) r (gap_blank w))
    (lexed_next k p (p + length w) (tokens_within n (gap_after w ∷ text_of ws) (p + length w)) (placed (p + length w + 1) ws ts) r.good (lexed_from {ws = ws} sp n (p + length w) (one_blank (gap_blank w)) (omega arith)))

-- a blank follows each word, so that there are as many bytes as words, and more
words_few : (ws : List Word) → length ws ≤ length (text_of ws)
unfolding text_of
words_few [] = omega arith
words_few (w ∷ ws) = omega (arith, words_few ws, length-append w (gap_after w ∷ text_of ws))

lexed : {ws : List Word} {ts : List Token} → Spelled ws ts → Lexed (tokens (text_of ws)) (placed 0 ws ts)
unfolding tokens tokens_from
lexed {ws} {ts} sp = lexed_from sp (suc (length (text_of ws))) 0 no_gap (omega (arith, words_few ws))

-- ---- the laws

pub good_text : {ws : List Word} {ts : List Token} → Spelled ws ts → first_bad (text_of ws) ≡ None
unfolding first_bad
good_text sp = (lexed sp).good

pub taken_tokens : {ws : List Word} {ts : List Token} → Spelled ws ts → source_tokens (text_of ws) ≡ placed 0 ws ts
unfolding source_tokens
taken_tokens sp = (lexed sp).taken
