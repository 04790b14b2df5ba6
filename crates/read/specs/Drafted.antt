-- A table that holds sound drafts, and what it holds after stages 7 to 12, and 14.
-- Assumes nothing.
use Rattle.std.specs.Prelude.{ℕ, ◌≤◌, ◌/◌, ◌≡◌, cond, List, [], map, eqb, length, replicate}
use Rattle.numbers.specs.Numbers.{Holds}
use Rattle.rows.specs.Columns.{ROW}
use Rattle.rows.specs.Table.{whole_rows}
use Rattle.rows.specs.Rows.{rows_from, put}
use Rattle.answers.specs.Drafts.{encoded, drafts_from}
use Rattle.answers.specs.Stages.{repeated_names, unfound, own_numbers, finished}
use Rattle.answers.specs.Answer.{Answer, answer_past12, answer_of}
use Rattle.drafts.specs.Sound.{SoundRows}
use Rattle.names.specs.Names.{names_in, Indexes}

-- a source declares at most so many names: it has at most 65,536 bytes, and each name six of its tokens
abbrev pub NAMES : ℕ
NAMES = 10922

-- the first rows of the table t are drafts that passed stages 1 to 6
pub record Drafted (t : List ℕ) (count : ℕ) : Type 0 where
  pub sound : SoundRows (drafts_from t 0 count)
  pub room : count ≤ whole_rows t
  pub held : rows_from t 0 count ≡ map encoded (drafts_from t 0 count)
  pub few : names_in (drafts_from t 0 count) ≤ NAMES

-- no stage up to 12 refuses the drafts in the first rows of the table t; the index es is of their declared names by the source s, and the map ws has
-- their written question numbers
pub record Ready (s es ws t : List ℕ) (count : ℕ) : Type 0 where
  pub drafted : Drafted t count
  pub index : Indexes s (drafts_from t 0 count) es
  pub named : repeated_names s (drafts_from t 0 count) ≡ []
  pub found : unfound s (drafts_from t 0 count) ≡ []
  pub written : Holds ws (own_numbers (drafts_from t 0 count))

-- the table t, with so many drafts in its first rows, after an answer: these rows finished and the rest as it was, or all zeros where it refuses
abbrev pub table_for : Answer → List ℕ → List ℕ → ℕ → List ℕ
table_for a s t count = cond (eqb a.number 0) (put t 0 (finished s (drafts_from t 0 count))) (replicate (length t) 0)

-- after all stages
unfoldable pub table_after : List ℕ → List ℕ → ℕ → List ℕ
table_after s t count = table_for (answer_of s (drafts_from t 0 count) (length t / ROW)) s t count

-- of drafts that pass stages 7 to 12
unfoldable pub table_past12 : List ℕ → List ℕ → ℕ → List ℕ
table_past12 s t count = table_for (answer_past12 s (drafts_from t 0 count)) s t count
