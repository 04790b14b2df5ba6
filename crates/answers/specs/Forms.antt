-- Which form a row stands in, by the parents of rows: "A form's parent is 0, .. an expression row's the condition or rule, an item's or rule's the form
-- or condition round it" (document 01, Rows); and W-203 of document 02 over it.
-- Assumes nothing.
use Rattle.std.specs.Prelude.{ℕ, ◌<◌, ◌≡◌, true, ◌≢◌, List, [], length, get_or}
use Rattle.rows.specs.Codes as code
use Rattle.rows.specs.Columns as column
use Rattle.answers.specs.Rows.{Draft}
use Rattle.answers.specs.Stages.{is, place_of, rule_named, row_among, draft_rows}

-- a column of row i
abbrev pub column_of : List (List ℕ) → ℕ → ℕ → ℕ
column_of rows c i = get_or (get_or rows i []) c 0

-- "the form it stands in": row i stands in the form of the row `form`
pub data StandsIn (rows : List (List ℕ)) (form : ℕ) : ℕ → Type 0 where
  -- its parent is the form
  directly : {i : ℕ} → column_of rows column.PARENT i ≡ form → column_of rows column.CODE form ≡ code.FORM → StandsIn rows form i
  -- its parent is no form, and stands in the form
  within :
      {i : ℕ}
      → column_of rows column.CODE (column_of rows column.PARENT i) ≢ code.FORM
      → StandsIn rows form (column_of rows column.PARENT i) → StandsIn rows form i

-- ---- document 02's W-203

-- "find only a rule of the form it stands in, earlier or later": the ruleref in row i of the drafts, and a rule of its name, stand in one form
pub record SharesForm (s : List ℕ) (ds : List Draft) (i : ℕ) : Type 0 where
  pub rule : ℕ
  pub form : ℕ
  pub inside : rule < length ds
  pub names_it : rule_named s (place_of (row_among ds i).own_at) (row_among ds rule) ≡ true
  pub rule_stands : StandsIn (draft_rows ds) form rule
  pub reference_stands : StandsIn (draft_rows ds) form i

-- "A `ruleref` should find only a rule of the form it stands in": the ruleref in row i has the number of a rule of its own form
pub record OfItsForm (rows : List (List ℕ)) (i : ℕ) : Type 0 where
  pub rule : ℕ
  pub form : ℕ
  pub inside : rule < length rows
  pub is_rule : column_of rows column.CODE rule ≡ code.RULE
  pub number : column_of rows column.OWN rule ≡ column_of rows column.A i
  pub rule_stands : StandsIn rows form rule
  pub reference_stands : StandsIn rows form i

-- the rule of this number stands in the form
pub record RuleIn (rows : List (List ℕ)) (form number : ℕ) : Type 0 where
  pub row : ℕ
  pub inside : row < length rows
  pub is_rule : column_of rows column.CODE row ≡ code.RULE
  pub numbered : column_of rows column.OWN row ≡ number
  pub stands : StandsIn rows form row

-- "where the rule stands in another form": row i of the drafts is a ruleref, and the rule of its name stands in another form
pub record Stray (s : List ℕ) (ds : List Draft) (i : ℕ) : Type 0 where
  pub is_reference : is code.RULE_REF (row_among ds i) ≡ true
  pub rule : ℕ
  pub inside : rule < length ds
  pub names_it : rule_named s (place_of (row_among ds i).own_at) (row_among ds rule) ≡ true
  pub form : ℕ
  pub other : ℕ
  pub apart : form ≢ other
  pub reference_stands : StandsIn (draft_rows ds) form i
  pub rule_stands : StandsIn (draft_rows ds) other rule
