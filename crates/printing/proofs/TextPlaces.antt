-- Where the words of a text stand, and the word that starts at such a place.
-- Assumes nothing.
use mathlib.Core.Path.{◌≡◌, refl, ap, sym, ◌∙◌}
use mathlib.Core.List.{List, ◌∷◌, ◌++◌}
use mathlib.Core.Bool.{true}
use Prim.Native.Nat.{ℕ, ◌+◌, ◌≤◌, ◌<◌}
use native.Mathlib.Omega.{arith}
use lib.ListN.{length, drop, length-append}
use lib.Seq.{drop_at, drop-drop}
use Rattle.lexemes.specs.Bytes.{is_word_byte}
use Rattle.lexemes.specs.Classes.{NAME}
use Rattle.lexemes.specs.Words.{all}
use Rattle.values.specs.Numbers.{numeral}
use Rattle.lexemes.proofs.Lists.{either_less, from_end}
use Rattle.ll1.specs.Trees.{Token}
use Rattle.answers.specs.Text.{Word, gap_after, text_of}
use Rattle.printing.specs.Spelling.{name_word, SpellsToken, a_lexeme, a_decimal, a_hex, a_name, Spelled, spelled_none, spelled_next}
use Rattle.printing.specs.Spelling.{placed, Stands, Standing, standing_none, standing_next}
use Rattle.printing.proofs.Numbers.{decimal_in_word, hex_in_word, name_in_word, decimal_numeral, hex_numeral, name_numeral}

-- ---- places

standing_from : {ws : List Word} {ts : List Token} → Spelled ws ts → (s : List ℕ) (at : ℕ) → drop at s ≡ text_of ws → Standing s ws (placed at ws ts) ts
unfolding text_of placed
standing_from spelled_none s at e = standing_none
standing_from (spelled_next {w = w} {ws = ws} spells more) s at e =
    let rest : drop (at + length w + 1) s ≡ text_of ws =
    rw (← drop-drop 1 (at + length w) s, ← drop-drop (length w) at s, e, drop_at w (gap_after w ∷ text_of ws) (length w) refl) in
    standing_next (record { later = text_of ws; here = e }) spells (standing_from more s (at + length w + 1) rest)

pub stand_placed : {ws : List Word} {ts : List Token} → Spelled ws ts → Standing (text_of ws) ws (placed 0 ws ts) ts
stand_placed {ws} sp = standing_from sp (text_of ws) 0 refl

-- ---- the word at a place

pub in_word : {w : Word} {k v : ℕ} → SpellsToken w k v → NAME ≤ k → all is_word_byte w ≡ true
in_word (a_lexeme k h) l = absurd (omega arith)
in_word (a_decimal v) l = decimal_in_word v
in_word (a_hex width v h) l = hex_in_word width v
in_word (a_name n) l = name_in_word n

-- the value of a number, and of a rule's name
pub word_numeral : {w : Word} {k v : ℕ} → SpellsToken w k v → NAME ≤ k → numeral w ≡ v
word_numeral (a_lexeme k h) l = absurd (omega arith)
word_numeral (a_decimal v) l = decimal_numeral v
word_numeral (a_hex width v h) l = hex_numeral width v
word_numeral (a_name n) l = name_numeral n

pub name_is : {w : Word} {k n : ℕ} → SpellsToken w k n → k ≡ NAME → w ≡ name_word n
name_is (a_lexeme k h) e = absurd (omega arith)
name_is (a_decimal v) e = absurd (omega arith)
name_is (a_hex width v h) e = absurd (omega arith)
name_is (a_name n) e = refl

-- a word that stands in a text stands before its end
pub stands_inside : {s : List ℕ} {p : ℕ} {w : Word} → Stands s p w → p < length s
stands_inside {s} {p} {w} stands =
    either_less p (length s)
    (λ l. l)
    (λ l.
    let none : length (w ++ gap_after w ∷ stands.later) ≡ 0 = ap length (sym stands.here ∙ from_end s p l) in
    absurd (omega (arith, length-append w (gap_after w ∷ stands.later))))
