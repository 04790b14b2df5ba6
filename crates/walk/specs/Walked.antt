-- What the readers of a walk promise, each for the symbols that it reads.
-- Assumes nothing.
use Rattle.std.specs.Prelude.{ℕ, ◌+◌, ◌-◌, ◌≤◌, ◌≡◌, Bool, false, cond, List, [], ◌∷◌, ◌++◌, map, ◌≢◌, eqb, length}
use Rattle.lexemes.specs.Classes as class
use Rattle.lex.specs.declared.Token.{Token}
use Rattle.lex.specs.Tokens.{token_at}
use Rattle.rows.specs.Table.{with_row}
use Rattle.rows.specs.Rows.{put}
use Rattle.ll1.specs.Trees.{Trees, leaves, Symbol, Fits, Depth, depth}
use Rattle.ll1.specs.Machine.{Due, due_all}
use Rattle.grammar.specs.Rules.{<source>, <guid>, <item>, <item_or_rule>*, <item>*, <or>}
use Rattle.grammar.specs.Grammar.{rules}
use Rattle.grammar.specs.Notation.{t, r}
use Rattle.grammar.specs.Derivation.{too_deep, max_conditions, max_groups}
use Rattle.answers.specs.Rows.{Draft}
use Rattle.answers.specs.Drafts.{encoded}
use Rattle.phrases.specs.declared.Cursor.{Cursor}
use Rattle.phrases.specs.Stream.{stream, resume, Within}
use Rattle.phrases.specs.Passed.{Passed}
use Rattle.elements.specs.Marks.{faults, nothing_noted, noting}
use Rattle.elements.specs.Symbols.{symbols_of, title_and_help, EXPRESSION_CLOSE}
use Rattle.fields.specs.Words.{word_draft}
use Rattle.walk.specs.Standing.{Standing, cursor}
use Rattle.walk.specs.Meanings.{Meaning, Counted, Silent, Under, Opening, Rowed, OperandRows}

-- there is a token left for each row to come, and each rule has a row
pub record Room (s : List ℕ) (st : Standing) : Type 0 where
  pub within : Within s st.token
  pub rows : st.no ≡ 0 → st.rows + length (stream s st.token) ≤ length s + 1
  pub rules : st.no ≡ 0 → st.rules ≤ st.rows

-- ---- the contract of a reader

-- the trees of the symbols α, read from st to r; their rows, of the meaning M, from t to t'
pub record Tree (s : List ℕ) (α : List Symbol) (M : Meaning) (st r : Standing) (t t' : List ℕ) : Type 0 where
  pub before : st.no ≡ 0
  pub trees : Trees
  pub drafts : List Draft
  pub count : ℕ
  pub fits : Fits rules α trees
  pub reads : leaves trees ++ stream s r.token ≡ stream s st.token
  pub means : M st.rows st.rules trees drafts count
  pub table : t' ≡ put t st.rows (map encoded drafts)
  pub rows : r.rows ≡ st.rows + length drafts
  pub counted : r.rules ≡ st.rules + count
  pub noted : r.noted ≡ noting st.noted (faults s trees)

-- the verdict at r is that at st with the symbols α due before, at the depth d; and where there is no refusal, the trees
pub record Walked (s : List ℕ) (d : Depth) (α : List Symbol) (M : Meaning) (st r : Standing) (t t' : List ℕ) : Type 0 where
  pub verdict : (σ : List Due) → resume s (due_all d α ++ σ) st.no st.token ≡ resume s σ r.no r.token
  pub within : Within s st.token → Within s r.token
  pub got : r.no ≡ 0 → Tree s α M st r t t'

-- the same at every depth that is allowed
pub record Reads (s : List ℕ) (α : List Symbol) (M : Meaning) (st r : Standing) (t t' : List ℕ) : Type 0 where
  pub walked : (d : Depth) → too_deep d ≡ false → Walked s d α M st r t t'

-- symbols whose rows stand under a parent, at a depth and at every depth that is allowed
abbrev pub WalkedUnder : List ℕ → Depth → List Symbol → ℕ → Standing → Standing → List ℕ → List ℕ → Type 0
WalkedUnder s d α parent st st' t₀ t₁ = Walked s d α (Counted (Under s parent)) st st' t₀ t₁

abbrev pub ReadsUnder : List ℕ → List Symbol → ℕ → Standing → Standing → List ℕ → List ℕ → Type 0
ReadsUnder s α parent st st' t₀ t₁ = Reads s α (Counted (Under s parent)) st st' t₀ t₁

-- ---- phrases and words

-- a phrase with its row
abbrev pub ReadsRow : List ℕ → ℕ → ℕ → Standing → Standing → List ℕ → List ℕ → Type 0
ReadsRow s phrase parent st st' t₀ t₁ = Reads s (symbols_of phrase) (Counted (Rowed s parent)) st st' t₀ t₁

-- a phrase of the symbols α, with what was kept before and then
pub record TakesSymbols (s : List ℕ) (α : List Symbol) (st r : Standing) (l l' : List ℕ) : Type 0 where
  pub passed : Passed s α st.no st.token st.noted l (cursor r) l'
  pub same : r.no ≡ 0 → (r.rows ≡ st.rows) × (r.rules ≡ st.rules)

abbrev pub Takes : List ℕ → ℕ → Standing → Standing → List ℕ → List ℕ → Type 0
Takes s phrase st r l l' = TakesSymbols s (symbols_of phrase) st r l l'

-- a phrase that makes no row, whatever the table is
pub record Closes (s : List ℕ) (phrase : ℕ) (st r : Standing) : Type 0 where
  pub reads : (t : List ℕ) → Reads s (symbols_of phrase) (Counted Silent) st r t t

-- at the end of a phrase, with no row more
abbrev pub closed : Standing → Cursor → Standing
closed st c = record { no = c.no; token = c.token; rows = st.rows; rules = st.rules; noted = c.noted }

-- past the token
abbrev pub passed : List ℕ → Standing → Standing
passed s st = record { no = st.no; token = token_at s st.token.end; rows = st.rows; rules = st.rules; noted = st.noted }

-- refused at the token: No. 4
abbrev pub deep : Standing → Standing
deep st = record { no = 4; token = st.token; rows = st.rows; rules = st.rules; noted = st.noted }

-- with one row more
abbrev pub advanced : Standing → Standing
advanced st = record { no = 0; token = st.token; rows = st.rows + 1; rules = st.rules; noted = st.noted }

-- the row of the word k after what was read up to st
pub record WithRow (parent : ℕ) (k : Token) (st r : Standing) (t t' : List ℕ) : Type 0 where
  pub off : st.no ≢ 0 → (r ≡ st) × (t' ≡ t)
  pub on : st.no ≡ 0 → (r ≡ advanced st) × (t' ≡ with_row t st.rows (encoded (word_draft k.class parent k.start)))

-- ---- depths

-- the rule A, with `left` groups left to open
pub record Groups (s : List ℕ) (left A : ℕ) (M : Meaning) (st st' : Standing) (t t' : List ℕ) : Type 0 where
  pub walked : (c : ℕ) → c ≤ max_conditions → Walked s (depth c (max_groups - left)) (r A ∷ []) M st st' t t'

-- an operand of the rule A, with its rows
abbrev pub ReadsOperand : List ℕ → ℕ → ℕ → ℕ → Standing → Standing → List ℕ → List ℕ → Type 0
ReadsOperand s left A parent st st' t₀ t₁ = Groups s left A (Counted (OperandRows s parent)) st st' t₀ t₁

-- a form's items and rules, or the items of a condition
abbrev pub list_of : Bool → ℕ
list_of in_form = cond in_form <item_or_rule>* <item>*

-- a list's items, with `left` conditions left to open; where none is open, in a form, rules too
abbrev pub ReadsItems : List ℕ → ℕ → ℕ → Standing → Standing → List ℕ → List ℕ → Type 0
ReadsItems s left parent st st' t₀ t₁ =
    WalkedUnder s (depth (max_conditions - left) 0) (r (list_of (eqb left max_conditions)) ∷ []) parent st st' t₀ t₁

-- the alternative of an item that is a condition
abbrev pub condition_of : ℕ → ℕ
condition_of k = cond (eqb k class.«suppressif») 7 (cond (eqb k class.«grayoutif») 8 9)

-- a condition's word, its expression and `;`, at each depth of conditions that is allowed
pub record OpensCondition (s : List ℕ) (parent : ℕ) (st st' : Standing) (t₀ t₁ : List ℕ) : Type 0 where
  pub walked :
      (c : ℕ) → c ≤ max_conditions
      → Walked s (depth c 0) (t st.token.class ∷ r <or> ∷ symbols_of EXPRESSION_CLOSE) (Counted (Opening s <item> (condition_of st.token.class) parent)) st st' t₀ t₁

-- ---- the form set

-- where a walk starts
abbrev pub starting : Token → Standing
starting k = record { no = 0; token = k; rows = 0; rules = 0; noted = nothing_noted }

-- formset guid = GUID , title = STR , help = STR ,
abbrev pub set_open : List Symbol
set_open = t class.«formset» ∷ t class.«guid» ∷ t class.«=» ∷ r <guid> ∷ title_and_help

-- the opening of the form set, read from the source's first token on, with its row
pub record OpensSet (s : List ℕ) (st : Standing) (t₀ t₁ : List ℕ) : Type 0 where
  pub walked : Walked s (depth 0 0) set_open (Counted (Opening s <source> 0 0)) (starting (token_at s 0)) st t₀ t₁

-- the whole source; each row has a token of its own
pub record WalksSource (s : List ℕ) (st : Standing) (t₀ t₁ : List ℕ) : Type 0 where
  pub walked : WalkedUnder s (depth 0 0) (r <source> ∷ []) 0 (starting (token_at s 0)) st t₀ t₁
  pub few : st.no ≡ 0 → st.rows ≤ length s
