-- What a walk over a whole source promises: the refusal of stages 3 and 4 or the derivation, its draft rows in the table, its first second size or
-- display word and its first number out of range (document 01, Refusal numbers 3 to 5; document 02, W-204, refusal 16).
-- Assumes nothing.
use Rattle.std.specs.Prelude.{ℕ, ◌≤◌, ◌≡◌, cond, ◌≢◌, eqb, List, map, length, replicate, Result, Ok, Err}
use Rattle.lexemes.specs.Classes.{END}
use Rattle.rows.specs.Rows.{put}
use Rattle.rows.specs.Marks.{marked}
use Rattle.ll1.specs.Trees.{Trees}
use Rattle.ll1.specs.Verdict.{Verdict, accepted, ends_early, refused}
use Rattle.grammar.specs.Derivation.{Derives}
use Rattle.grammar.specs.Reading.{verdict}
use Rattle.grammar.specs.Source.{source_tokens}
use Rattle.answers.specs.Rows.{rules_in}
use Rattle.grammar.specs.Ranges.{out_of_range, second_words}
use Rattle.answers.specs.Drafts.{encoded}
use Rattle.answers.specs.Answer.{drafts}
use Rattle.refusals.specs.Numbers.{number_of}
use Rattle.elements.specs.declared.noted.Noted.{Noted}
use Rattle.elements.specs.Marks.{first_mark, nothing_noted}
use Rattle.walk.specs.Standing.{Standing}
use Rattle.walk.specs.declared.Totals.{Totals}
use Rattle.walk.specs.declared.Fault.{Fault}

-- what a walk ends with: the refusal's number and place, or 0 and 0; how many rows and rules there are, and the faults that are noted
pub record Outcome : Type 0 where
  pub no : ℕ
  pub place : ℕ
  pub rows : ℕ
  pub rules : ℕ
  pub noted : Noted

-- where it is refused, there is nothing
abbrev pub refusing : ℕ → ℕ → Outcome
refusing number place = record { no = number; place = place; rows = 0; rules = 0; noted = nothing_noted }

-- what it gives, in one record
abbrev pub outcome : Result Totals Fault → Outcome
outcome (Ok w) = record { no = 0; place = 0; rows = w.rows; rules = w.rules; noted = w.noted }
outcome (Err f) = refusing (number_of f.reason) f.place

-- the refusal's number that a verdict tells, 0 for none
abbrev pub refusal_number : Verdict → ℕ
refusal_number accepted = 0
refusal_number ends_early = 3
refusal_number (refused n p) = n

-- the refusal's place: "token, or source length"
abbrev pub refusal_place : List ℕ → Verdict → ℕ
refusal_place s accepted = 0
refusal_place s ends_early = length s
refusal_place s (refused n p) = p

-- the derivation of the source's tokens; its draft rows, written from row 0 on over the table t as far as whole rows fit
pub record WalkedWhole (s : List ℕ) (r : Outcome) (t t' : List ℕ) : Type 0 where
  pub accepts : verdict (source_tokens s) ≡ accepted
  pub tree : Trees
  pub derives : Derives (source_tokens s) tree
  pub table : t' ≡ put t 0 (map encoded (drafts s tree))
  pub rows : r.rows ≡ length (drafts s tree)
  pub rules : r.rules ≡ rules_in tree
  -- the marks, each a place plus one, of the first second word and of the first number out of its range, or 0
  pub second : marked r.noted.second ≡ first_mark (second_words tree)
  pub outside : marked r.noted.outside ≡ first_mark (out_of_range s tree)
  -- each row has a token of its own
  pub few : r.rows ≤ length s

-- the outcome r of a walk over the source s, where the table was t and is t'; where it is refused, there is nothing, and the table is all zeros
pub record Walks (s : List ℕ) (r : Outcome) (t t' : List ℕ) : Type 0 where
  pub number : r.no ≡ refusal_number (verdict (source_tokens s))
  pub place : r.place ≡ refusal_place s (verdict (source_tokens s))
  pub nothing : r.no ≢ 0 → (r.rows ≡ 0) × (r.rules ≡ 0) × (r.noted ≡ nothing_noted)
  pub zeros : r.no ≢ 0 → t' ≡ replicate (length t) 0
  pub derived : r.no ≡ 0 → WalkedWhole s r t t'

-- ---- what the end of a walk over a source of n bytes means

unfoldable pub ended : ℕ → Standing → Outcome
ended n st =
    cond (eqb st.no 0)
    (cond (eqb st.token.class END) (record { no = 0; place = 0; rows = st.rows; rules = st.rules; noted = st.noted }) (refusing 3 st.token.start))
    (cond (eqb st.token.class END) (refusing 3 n) (refusing st.no st.token.start))
