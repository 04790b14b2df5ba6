-- Number and values of each case of the answer (document 01, Refusal numbers; document 02, W-201), and what the table and the output then hold.
-- Assumes nothing.
use Rattle.std.specs.Prelude.{ℕ, ◌-◌, ◌≤◌, ◌≡◌, cond, List, ◌++◌, eqb, length, replicate, Result}
use Rattle.rows.specs.Codes as code
use Rattle.rows.specs.Table.{row_at}
use Rattle.numbers.specs.Numbers.{numbered, free_count}
use Rattle.ll1.specs.Trees.{Trees}
use Rattle.answers.specs.Stages.{own_numbers, finished}
use Rattle.answers.specs.Answer.{accepts, drafts}
use Rattle.answers.specs.Resolution.{resolved_into}
use Rattle.answers.specs.Text.{opening, text_of, resolved_text}
use Rattle.replies.specs.Replies.{Reply, accepting, answered, resolve_replied}
use Rattle.spellings.specs.Output.{MOST}
use Rattle.statements.specs.Statements.{closing}
use Rattle.laid.specs.Items.{Items}
use Rattle.laid.specs.Laid.{Stops, Laid}
use Rattle.read.specs.Answers as read
use Rattle.text.specs.declared.Resolved.{Resolved}
use Rattle.text.specs.declared.Refusal.{Refusal}
use Rattle.text.specs.declared.Refusal.TheVariants.{Reading, TooLong}
use Rattle.text.specs.ItemWords.{item_words}

abbrev pub resolved_told : Resolved → Reply
resolved_told a = accepting a.rows a.free a.bytes

abbrev pub refusal_told : Refusal → Reply
refusal_told (Reading r) = read.refusal_told r
refusal_told (TooLong need) = record { number = 13; place = 0; rows = need; free = 0; line = 0; column = 0; written = 0 }

abbrev pub told : Result Resolved Refusal → Reply
told = answered resolved_told refusal_told

-- the answer to a source that resolves, by its derivation
abbrev pub resolved_counts : List ℕ → Trees → Reply
resolved_counts s tree =
    let ds = drafts s tree in
    accepting (length ds) (free_count (numbered (own_numbers ds))) (length (resolved_text tree (finished s ds)))

-- the first `count` rows of the table t are a form set's, of which this is the text
pub record HasText (t : List ℕ) (count : ℕ) (text : List ℕ) : Type 0 where
  pub found : ℕ → List ℕ
  pub place : ℕ
  pub forms : Items
  pub end : ℕ
  pub row : row_at t 0 ≡ found place
  pub laid : Laid t count found 0 1 forms end
  pub stops : Stops t count 0 end
  pub is : text ≡ text_of (opening (found place) ++ (item_words found forms ++ closing code.FORM_SET))

-- the answer for so many finished rows in the table t, which is that of any source: it has no place. The table then is t' and the output, which was
-- o, is o'
pub record RowsPrinted (t : List ℕ) (count free : ℕ) (o : List ℕ) (r : Result Resolved Refusal) (t' o' : List ℕ) : Type 0 where
  pub answer : (text : List ℕ) → HasText t count text → length text ≤ MOST
      → (s : List ℕ) → told r ≡ resolve_replied s (resolved_into (length o) (length text) (accepts count free))
  pub table : (text : List ℕ) → HasText t count text → length text ≤ MOST → t' ≡ cond (eqb (told r).number 0) t (replicate (length t) 0)
  pub output : (text : List ℕ) → HasText t count text → length text ≤ MOST
      → o' ≡ cond (eqb (told r).number 0) (text ++ replicate (length o - length text) 0) (replicate (length o) 0)
