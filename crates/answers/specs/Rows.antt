-- The rows of a derivation as they are before numbers are given and references found, each with the places that later stages name
-- (document 01, Rows; document 02, W-204 and W-208). Assumes nothing.
use Rattle.std.specs.Prelude.{ℕ, suc, ◌+◌, ◌*◌, ◌%◌, ◌^◌, true, false, cond, List, [], ◌∷◌, ◌++◌, eqb, ltb, length, get_or}
use Rattle.rows.specs.Codes as code
use Rattle.rows.specs.Columns as column
use Rattle.rows.specs.Cells.{Entry, ◌≔◌, filled}
use Rattle.rows.specs.Flags as flag
use Rattle.rows.specs.Sizes.{size_and_display}
use Rattle.ll1.specs.Trees.{Trees, nil, leaf, node}
use Rattle.grammar.specs.Rules.{<rule>, <item>, <option>, <form>, <source>}
use Rattle.grammar.specs.Parts.{mark, when, child, chosen, written, place_at}
use Rattle.grammar.specs.Positions.{formset_guid, formset_title, formset_help, guid_first, guid_second, guid_third, guid_end, guid_end_braced, guid_end_bare}
use Rattle.grammar.specs.Positions.{eight_byte, str_number, form_number, form_title, rule_name, rule_expression}
use Rattle.grammar.specs.Positions.{subtitle_text, text_help, text_text, label_number, goto_form, goto_head, goto_flags, checkbox_head, checkbox_flags}
use Rattle.grammar.specs.Positions.{checkbox_default, numeric_head, numeric_flags, numeric_minimum, numeric_maximum, numeric_step, numeric_default}
use Rattle.grammar.specs.Positions.{oneof_head, oneof_flags, condition_expression}
use Rattle.grammar.specs.Positions.{default_value, step_value, option_text, option_value, option_flags, head_name, head_number, head_prompt, head_help}
use Rattle.grammar.specs.Positions.{name_word, questionid_number}
use Rattle.grammar.specs.Flags.{flags, size_in, display_in}
use Rattle.answers.specs.Expression.{Expression, number, constant, question_named, question_numbered, rule_named, negation, binary, constant_code}
use Rattle.answers.specs.Expression.{operator_code, expression}

-- A row, and the marks of what later stages name in it:
-- own_at    a form's number, a question's written number, what a reference names
-- limit_at  a goto's form number, a numeric's maximum, an option's value
-- default_at  a numeric's default, an option's word DEFAULT
pub record Draft : Type 0 where
  pub row : List ℕ
  pub own_at : ℕ
  pub limit_at : ℕ
  pub default_at : ℕ

-- a row of a code under its parent, its first token at a place, with what else it holds: "Unnamed fields are 0"
abbrev pub row_with : ℕ → ℕ → ℕ → List Entry → List ℕ
row_with code parent place entries = filled (column.CODE ≔ code ∷ column.PARENT ≔ parent ∷ column.PLACE ≔ place ∷ entries)

-- a row that names nothing
abbrev pub without_marks : List ℕ → Draft
without_marks r = record { row = r; own_at = 0; limit_at = 0; default_at = 0 }

-- "An absent step is now 1" (W-208); document 01 has 0 here
abbrev pub ABSENT_STEP : ℕ
ABSENT_STEP = 1

-- ---- what is counted

-- how many rules stand among the trees
abbrev pub rules_in : Trees → ℕ
rules_in nil = 0
rules_in (leaf t f) = rules_in f
rules_in (node A i c f) = when (eqb A <rule>) 1 + rules_in c + rules_in f

-- the value of the number at a place
module _ (number_at : ℕ → ℕ) where
  -- the n-th tree is a number: its place, its value
  abbrev pub numeral_at : ℕ → Trees → ℕ
  numeral_at n f = place_at 0 (child n f)

  abbrev pub value : ℕ → Trees → ℕ
  value n f = number_at (numeral_at n f)

  -- the n-th tree is a STR: STRING_TOKEN ( N )
  abbrev pub string : ℕ → Trees → ℕ
  string n f = value str_number (child n f)

  -- ---- HEAD: [name = NAME ,] [questionid = N ,] prompt = STR , help = STR

  abbrev pub name_mark : Trees → ℕ
  name_mark h = when (written head_name h) (mark (place_at name_word (child head_name h)))

  abbrev pub written_number : Trees → ℕ
  written_number h = when (written head_number h) (value questionid_number (child head_number h))

  abbrev pub written_mark : Trees → ℕ
  written_mark h = when (written head_number h) (mark (numeral_at questionid_number (child head_number h)))

  -- a question: its code, parent, place and HEAD, what else its row holds, and the marks of its limit and default
  abbrev pub question : ℕ → ℕ → ℕ → Trees → List Entry → ℕ → ℕ → Draft
  question code parent place h entries limit default =
      record {
        row =
            row_with code parent place (
            column.OWN ≔ written_number h
            ∷ column.FIRST ≔ string head_prompt h
            ∷ column.SECOND ≔ string head_help h
            ∷ column.NAME ≔ name_mark h
            ∷ entries);
        own_at = written_mark h;
        limit_at = limit;
        default_at = default;
      }

  -- ---- the statements, each row under its line of the grammar; c are the trees under it

  -- an item; `absent` is the step of a numeric that writes none
  abbrev pub item_by : ℕ → ℕ → ℕ → Trees → Draft
  item_by absent parent i c =
      let p = place_at 0 c in
      get_or (
      -- subtitle text = STR ;
      without_marks (row_with code.SUBTITLE parent p (column.FIRST ≔ string subtitle_text c ∷ []))
      -- text help = STR , text = STR ;
      ∷ without_marks (row_with code.TEXT parent p (column.FIRST ≔ string text_text c ∷ column.SECOND ≔ string text_help c ∷ []))
      -- label N ;
      ∷ without_marks (row_with code.LABEL parent p (column.OWN ≔ value label_number c ∷ []))
      -- goto N , HEAD [, flags = FL] ;
      ∷ question code.GOTO parent p (child goto_head c)
      (column.FLAGS ≔ flags (child goto_flags c)
      ∷ column.A ≔ value goto_form c
      ∷ [])
      (mark (numeral_at goto_form c)) 0
      -- checkbox HEAD , [flags = FL ,] [default = TRUE or FALSE ,] endcheckbox ;
      ∷ (let default = written checkbox_default c in
      question code.CHECKBOX parent p (child checkbox_head c)
      (column.FLAGS ≔ (flags (child checkbox_flags c) + when default flag.HAS_DEFAULT)
      ∷ column.D ≔ when default (when (eqb (chosen default_value (child checkbox_default c)) 0) 1)
      ∷ [])
      0 0)
      -- numeric HEAD , [flags = FL ,] minimum = N , maximum = N , [step = N ,] [default = N ,] endnumeric ; size and display are W-204's
      ∷ (let default = written numeric_default c in
      question code.NUMERIC parent p (child numeric_head c)
      (column.FLAGS ≔ (flags (child numeric_flags c) + when default flag.HAS_DEFAULT)
      ∷ column.A ≔ value numeric_minimum c
      ∷ column.B ≔ value numeric_maximum c
      ∷ column.C ≔ cond (written numeric_step c) (value step_value (child numeric_step c)) absent
      ∷ column.D ≔ when default (value default_value (child numeric_default c))
      ∷ column.SIZE ≔ size_and_display (size_in (child numeric_flags c)) (display_in (child numeric_flags c))
      ∷ [])
      (mark (numeral_at numeric_maximum c)) (when default (mark (numeral_at default_value (child numeric_default c)))))
      -- oneof HEAD , [flags = FL ,] option+ endoneof ;
      ∷ question code.ONE_OF parent p (child oneof_head c) (column.FLAGS ≔ flags (child oneof_flags c) ∷ []) 0 0
      -- suppressif, grayoutif or disableif, expression ; item* endif ;
      ∷ without_marks (row_with code.SUPPRESS_IF parent p [])
      ∷ without_marks (row_with code.GRAY_OUT_IF parent p [])
      ∷ without_marks (row_with code.DISABLE_IF parent p [])
      ∷ [])
      i (without_marks [])

  -- with W-208's step
  abbrev pub item : ℕ → ℕ → Trees → Draft
  item = item_by ABSENT_STEP

  -- option text = STR , value = N , flags = (N or DEFAULT) ;
  abbrev pub option : ℕ → Trees → Draft
  option parent c =
      let default = eqb (chosen option_flags c) 1 in
      record {
        row =
            row_with code.OPTION parent (place_at 0 c) (
            column.FIRST ≔ string option_text c
            ∷ column.FLAGS ≔ when default flag.OPTION_DEFAULT
            ∷ column.A ≔ value option_value c
            ∷ []);
        own_at = 0;
        limit_at = mark (numeral_at option_value c);
        default_at = when default (mark (place_at 0 (child option_flags c)));
      }

  -- rule NAME , expression endrule ; with n rules before it
  abbrev pub rule_draft : ℕ → ℕ → Trees → Draft
  rule_draft parent n c = without_marks (row_with code.RULE parent (place_at 0 c) (column.OWN ≔ suc n ∷ column.NAME ≔ mark (place_at rule_name c) ∷ []))

  -- form formid = N , title = STR ; (item or rule)* endform ;
  abbrev pub form : ℕ → Trees → Draft
  form parent c =
      record {
        row = row_with code.FORM parent (place_at 0 c) (column.OWN ≔ value form_number c ∷ column.FIRST ≔ string form_title c ∷ []);
        own_at = mark (numeral_at form_number c);
        limit_at = 0;
        default_at = 0;
      }

  -- the lowest bits of the n-th tree's value
  abbrev pub bits : ℕ → ℕ → Trees → ℕ
  bits width n f = value n f % 2 ^ width

  -- GUID: { H8 , H4 , H4 , { eight H2 with commas between } }, or the same without the inner braces. Its 32, 16 and 16 bits, first highest
  abbrev pub guid_high : Trees → ℕ
  guid_high g = bits 32 guid_first g * 2 ^ 32 + bits 16 guid_second g * 2 ^ 16 + bits 16 guid_third g

  abbrev pub guid_bytes : Trees → Trees
  guid_bytes g = let end = child guid_end g in elim (eqb (chosen guid_end g) 0) [ true ↦ child guid_end_braced end | false ↦ child guid_end_bare end ]

  -- its eight bytes, first highest
  abbrev pub guid_low : Trees → ℕ
  guid_low e =
      bits 8 (eight_byte 0) e * 2 ^ 56 + bits 8 (eight_byte 1) e * 2 ^ 48 + bits 8 (eight_byte 2) e * 2 ^ 40 + bits 8 (eight_byte 3) e * 2 ^ 32
      + bits 8 (eight_byte 4) e * 2 ^ 24 + bits 8 (eight_byte 5) e * 2 ^ 16 + bits 8 (eight_byte 6) e * 2 ^ 8 + bits 8 (eight_byte 7) e

  -- formset guid = GUID , title = STR , help = STR , form+ endformset ;
  abbrev pub form_set : Trees → Draft
  form_set c =
      let guid = child formset_guid c in
      without_marks (row_with code.FORM_SET 0 (place_at 0 c) (
      column.FIRST ≔ string formset_title c
      ∷ column.SECOND ≔ string formset_help c
      ∷ column.A ≔ guid_high guid
      ∷ column.B ≔ guid_low (guid_bytes guid)
      ∷ []))

  -- ---- expressions: operands before operator; a reference's number is found later, a written one stands already

  abbrev pub operand : ℕ → ℕ → ℕ → ℕ → ℕ → Draft
  operand parent code a place at = record { row = row_with code parent place (column.A ≔ a ∷ []); own_at = at; limit_at = 0; default_at = 0 }

  abbrev pub expression_rows : ℕ → Expression → List Draft
  expression_rows parent (number p) = operand parent code.NUMBER (number_at p) p 0 ∷ []
  expression_rows parent (constant c p) = operand parent (constant_code c) 0 p 0 ∷ []
  expression_rows parent (question_named p q) = operand parent code.QUESTION_REF 0 p (mark q) ∷ []
  expression_rows parent (question_numbered p q) = operand parent code.QUESTION_REF (number_at q) p (mark q) ∷ []
  expression_rows parent (rule_named p q) = operand parent code.RULE_REF 0 p (mark q) ∷ []
  expression_rows parent (negation p e) = expression_rows parent e ++ operand parent code.NOT 0 p 0 ∷ []
  expression_rows parent (binary o p l r) = expression_rows parent l ++ (expression_rows parent r ++ operand parent (operator_code o) 0 p 0 ∷ [])

  -- ---- rows of trees

  -- the rows of a tree of an alternative, from the trees under it
  abbrev pub Own : Type 0
  Own = ℕ → Trees → List Draft

  abbrev pub otherwise : ℕ → ℕ → Own → Own → Own
  otherwise A B f g i c = elim (eqb A B) [ true ↦ f i c | false ↦ g i c ]

  -- suppressif, grayoutif and disableif, the last three alternatives of an item, have an expression
  abbrev pub condition : ℕ → ℕ → Trees → List Draft
  condition at i c = elim (ltb 6 i) [ true ↦ expression_rows at (expression (child condition_expression c)) | false ↦ [] ]

  -- a tree's own rows, a condition's and a rule's with their expression: an absent step, the parent, the row's number, the rules before
  abbrev pub own_rows_by : ℕ → ℕ → ℕ → ℕ → ℕ → Own
  own_rows_by absent parent at n A =
      otherwise A <item> (λ i c. item_by absent parent i c ∷ condition at i c)
      (otherwise A <option> (λ i c. option parent c ∷ [])
      (otherwise A <rule> (λ i c. rule_draft parent n c ∷ expression_rows at (expression (child rule_expression c)))
      (otherwise A <form> (λ i c. form parent c ∷ [])
      (otherwise A <source> (λ i c. form_set c ∷ [])
      (λ i c. [])))))

  abbrev pub own_rows : ℕ → ℕ → ℕ → ℕ → Own
  own_rows = own_rows_by ABSENT_STEP

  -- what a tree's own rows make the parent of those in it
  abbrev pub parent_in : ℕ → ℕ → List Draft → ℕ
  parent_in parent at [] = parent
  parent_in parent at (d ∷ ds) = at

  -- the rows of trees beside one another: an absent step, the parent, the next row's number, the rules before
  abbrev pub drafts_by : ℕ → Trees → ℕ → ℕ → ℕ → List Draft
  drafts_by absent nil parent at n = []
  drafts_by absent (leaf t f) parent at n = drafts_by absent f parent at n
  drafts_by absent (node A i c f) parent at n =
      let own = own_rows_by absent parent at n A i c in
      let within = own ++ drafts_by absent c (parent_in parent at own) (at + length own) n in
      within ++ drafts_by absent f parent (at + length within) (n + rules_in (node A i c nil))

  abbrev pub drafts_of : Trees → ℕ → ℕ → ℕ → List Draft
  drafts_of = drafts_by ABSENT_STEP
