-- The whole answer of reading and of the quick check, for every source and every table lent (document 01, Refusal numbers; document 02,
-- W-204).
-- Assumes nothing.
use Rattle.std.specs.Prelude.{ℕ, ◌+◌, ◌*◌, ◌/◌, ◌^◌, true, false, cond, List, [], ◌∷◌, eqb, ltb, length, replicate, Some, None}
use Rattle.std.proofs.Math.Option.{Option, none, some}
use Rattle.lex.specs.Tokens.{first_bad}
use Rattle.rows.specs.Columns.{ROW}
use Rattle.rows.specs.Rows.{laid}
use Rattle.ll1.specs.Trees.{Trees}
use Rattle.ll1.specs.Verdict.{Verdict, accepted, ends_early, refused}
use Rattle.grammar.specs.Reading.{verdict, derivation}
use Rattle.grammar.specs.Source.{source_tokens}
use Rattle.grammar.specs.Ranges.{out_of_range, second_words}
use Rattle.answers.specs.Stages.{finished}
use Rattle.answers.specs.Answer.{LONGEST, Answer, refuses, answer_of, drafts}

-- ---- stages 1 to 5 with 16, which a source alone decides

-- a refusal with its number and place, or the derivation
pub data Checked : Type 0 where
  refusal : ℕ → ℕ → Checked
  derived : Trees → Checked

-- 5: the first number outside its place
abbrev pub ranged : List ℕ → Trees → Checked
ranged s f = elim (out_of_range s f) [ [] ↦ derived f | p ∷ ps ↦ refusal 5 p ]

-- 16, "between stages 4 and 5": the first second size or display word
abbrev pub worded : List ℕ → Trees → Checked
worded s f = elim (second_words f) [ [] ↦ ranged s f | p ∷ ps ↦ refusal 16 p ]

-- 3 and 4; the source's length is the place where it ends early
abbrev pub parsed : List ℕ → Verdict → Option Trees → Checked
parsed s (refused n p) o = refusal n p
parsed s ends_early o = refusal 3 (length s)
parsed s accepted none = refusal 3 (length s)
parsed s accepted (some f) = worded s f

-- 1: source over 65,536 bytes; 2: bad token
unfoldable pub checked : List ℕ → Checked
checked s =
    elim (ltb LONGEST (length s)) [
      | true ↦ refusal 1 0
      | false ↦
          elim (first_bad s) [
            | Some p ↦ refusal 2 p
            | None ↦
                parsed s (verdict (source_tokens s)) (derivation (source_tokens s))
          ]
    ]

-- the quick check: refusal number times 2^32 plus place, or 0
unfoldable pub quick_check : List ℕ → ℕ
quick_check s = elim (checked s) [ refusal n p ↦ n * 2 ^ 32 + p | derived f ↦ 0 ]

-- ---- reading

-- reading the source s into a table of n numbers
unfoldable pub read_answer : List ℕ → ℕ → Answer
read_answer s n = elim (checked s) [ refusal k p ↦ refuses k p | derived f ↦ answer_of s (drafts s f) (n / ROW) ]

-- the finished rows of an accepted source
unfoldable pub rows_of : List ℕ → List (List ℕ)
rows_of s = elim (checked s) [ refusal k p ↦ [] | derived f ↦ finished s (drafts s f) ]

-- the table afterwards: the rows and then zeros, or all zeros
unfoldable pub read_table : List ℕ → ℕ → List ℕ
read_table s n = cond (eqb (read_answer s n).number 0) (laid (rows_of s) n) (replicate n 0)
