-- A source's draft rows beside its finished ones, and beside the draft rows of its resolved text (document 01, Rows and Resolved text).
-- Assumes nothing.
use Rattle.std.specs.Prelude.{◌≡◌, List, [], ◌∷◌, true, false, cond, ◌||◌, ℕ, suc, ◌<◌, ltb, length, set, drop}
use Rattle.lexemes.specs.Words as words
use Rattle.rows.specs.Codes as code
use Rattle.rows.specs.Columns as column
use Rattle.rows.specs.Cells.{without_places}
use Rattle.grammar.specs.Source.{number_at}
use Rattle.answers.specs.Rows.{Draft}
use Rattle.answers.specs.Stages.{cell, is, asks, place_of}
use Rattle.printing.specs.Spelling.{name_word}

-- two lists, pair by pair
pub data Pairs {A B : Type 0} (P : A → B → Type 0) : List A → List B → Type 0 where
  no_pairs : Pairs P [] []
  pair : {a : A} {b : B} {xs : List A} {ys : List B} → P a b → Pairs P xs ys → Pairs P (a ∷ xs) (b ∷ ys)

-- ---- a draft row and its finished row, which is found at its place: a question has got a number, a reference has found one

pub record Settled (look : ℕ → List ℕ) (d : Draft) : Type 0 where
  pub own : ℕ
  pub a : ℕ
  pub is_row : look (cell column.PLACE d) ≡ set (set d.row column.OWN own) column.A a
  pub whole : length d.row ≡ column.ROW
  pub own_same : asks d ≡ false → own ≡ cell column.OWN d
  pub own_range : asks d ≡ true → (0 < own) × (own < 65536)
  pub a_same : is code.QUESTION_REF d || is code.RULE_REF d ≡ false → a ≡ cell column.A d
  pub a_range : is code.QUESTION_REF d || is code.RULE_REF d ≡ true → (0 < a) × (a < 65536)

-- ---- a draft row of the text and the one of the source

module _ (t : List ℕ) where
  -- the number in the name of a ruleref: the digits after its `R`
  abbrev pub named : Draft → ℕ
  named d = number_at t (suc (place_of d.own_at))

  -- what the text's row becomes: only a ruleref is by name
  abbrev pub final : Draft → List ℕ
  final d = cond (is code.RULE_REF d) (set d.row column.A (named d)) d.row

  pub record Match (look : ℕ → List ℕ) (d' d : Draft) : Type 0 where
    pub whole : length d'.row ≡ column.ROW
    pub same : without_places (final d') ≡ without_places (look (cell column.PLACE d))
    pub code_same : cell column.CODE d' ≡ cell column.CODE d
    pub default : ltb 0 d'.default_at ≡ ltb 0 d.default_at
    -- a question writes its number and no name
    pub question : asks d' ≡ true → (ltb 0 d'.own_at ≡ true) × (cell column.NAME d' ≡ 0)
    -- a rule's name is R and its number, and so is the name in a ruleref
    pub rule : is code.RULE d' ≡ true → (ltb 0 (cell column.NAME d') ≡ true) × (words.word (drop (place_of (cell column.NAME d')) t) ≡ name_word (cell column.OWN d'))
    pub reference : is code.RULE_REF d' ≡ true → words.word (drop (place_of d'.own_at) t) ≡ name_word (named d')
