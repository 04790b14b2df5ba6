-- Printed words are read back: what the round trip uses of `printing`.
-- Assumes nothing.
use mathlib.Core.Path.{◌≡◌, refl}
use mathlib.Core.List.{List, [], ◌∷◌, map}
use Prim.Native.Nat.{ℕ, zero, suc, ◌^◌, ◌≤◌, ◌<◌}
use native.Mathlib.Nat.{mod-eq_of_lt}
use native.Mathlib.Omega.{arith}
use Rattle.lexemes.specs.Classes.{NAME, HEX, DECIMAL}
use Rattle.ll1.specs.Trees.{Token, token}
use Rattle.grammar.specs.Source.{source_tokens}
use Rattle.answers.specs.Text.{text_of}
use Rattle.printing.specs.Spelling.{a_lexeme, a_decimal, a_hex, a_name, Spelled, spelled_none, spelled_next, Stands, Standing, standing_none, standing_next}
use Rattle.printing.proofs.Theorems.{words_stand, word_at, value_fits_at, hex_digits_at}
use Rattle.formulas.specs.Shapes.{Lexed, sign, decimal, rule_name, hex, word, token_of, Valid, AllValid, none_valid, more_valid, Read, read_sign, read_decimal, read_rule, read_hex, Reads, reads_none, reads_more}

-- at most eight hex digits
hex_small : (w n : ℕ) → w ≤ 8 → n < 16 ^ w → n < 2 ^ 64
hex_small w n h l = by w h l
  where
    by : (w : ℕ) → w ≤ 8 → n < 16 ^ w → n < 2 ^ 64
    by zero h l = omega arith
    by (suc zero) h l = omega arith
    by (suc (suc zero)) h l = omega arith
    by (suc (suc (suc zero))) h l = omega arith
    by (suc (suc (suc (suc zero)))) h l = omega arith
    by (suc (suc (suc (suc (suc zero))))) h l = omega arith
    by (suc (suc (suc (suc (suc (suc zero)))))) h l = omega arith
    by (suc (suc (suc (suc (suc (suc (suc zero))))))) h l = omega arith
    by (suc (suc (suc (suc (suc (suc (suc (suc zero)))))))) h l = omega arith
    by (suc (suc (suc (suc (suc (suc (suc (suc (suc w))))))))) h l = absurd (omega arith)

-- ---- words and tokens

spelled : (ls : List Lexed) → AllValid ls → Spelled (map word ls) (map token_of ls)
spelled [] none_valid = spelled_none
spelled (sign k ∷ ls) (more_valid h v) = spelled_next (a_lexeme k h) (spelled ls v)
spelled (decimal n ∷ ls) (more_valid h v) = spelled_next (a_decimal n) (spelled ls v)
spelled (rule_name n ∷ ls) (more_valid h v) = spelled_next (a_name n) (spelled ls v)
spelled (hex w n ∷ ls) (more_valid h v) = spelled_next (rw (mod-eq_of_lt h.2) at (a_hex w n h.0)) (spelled ls v)

module _ (t : List ℕ) where
  read_one : (l : Lexed) (k p v : ℕ) → Valid l → token k v ≡ token_of l → Stands t p (word l) → Read t k p l
  read_one (sign j) k p v h e st = let q : k ≡ j = cc in rw q read_sign
  read_one (decimal n) k p v h e st = let q : k ≡ DECIMAL = cc in rw q (read_decimal (value_fits_at st (a_decimal n) (omega arith) h))
  read_one (rule_name n) k p v h e st =
      let q : k ≡ NAME = cc in
      rw q (read_rule (value_fits_at st (a_name n) (omega arith) h) (word_at st (a_name n) (omega arith)))
  read_one (hex w n) k p v h e st =
      let q : k ≡ HEX = cc in
      let small : n < 2 ^ 64 = hex_small w n h.1 h.2 in
      rw q (read_hex (value_fits_at st (rw (mod-eq_of_lt h.2) at (a_hex w n h.0)) (omega arith) small) (hex_digits_at w n st h.0))

  standing_reads : (ls : List Lexed) (ts us : List Token) → AllValid ls → us ≡ map token_of ls → Standing t (map word ls) ts us → Reads t ts ls
  standing_reads [] ts us none_valid e standing_none = reads_none
  standing_reads (l ∷ ls) ts us (more_valid h v) e (standing_next {k = k} {p = p} {v = n} st sp more) =
      reads_more (read_one l k p n h (cc) st) (standing_reads ls _ _ v (cc) more)

-- the text of valid words reads as they say
pub printed : (ls : List Lexed) → AllValid ls → Reads (text_of (map word ls)) (source_tokens (text_of (map word ls))) ls
printed ls v = standing_reads (text_of (map word ls)) ls _ _ v refl (words_stand (spelled ls v))
