-- The row of each statement's phrase is the row that the derivation's tree has.
-- Assumes nothing.
use Prim.Native.Nat.{ℕ, suc, ◌/◌, ◌%◌}
use mathlib.Core.Path.{◌≡◌, refl, ◌∙◌}
use mathlib.Core.Bool.{Bool, true, false, cond}
use mathlib.Core.List.{List, [], ◌∷◌}
use native.Mathlib.Omega.{arith}
use lib.Dec.{eqb}
use borrow.Author.Tests.{ne_eqb}
use Rattle.lexemes.specs.Classes as class
use Rattle.lexemes.specs.Classes.{semicolon, comma}
use Rattle.rows.specs.Flags as flag
use Rattle.ll1.specs.Trees.{token, Trees, nil, leaf, node, Fits, fits_nil, fits_leaf, fits_node}
use Rattle.grammar.specs.Grammar.{rules}
use Rattle.grammar.specs.Rules.{<rule>, <item>, <option>, <form>, <str>, <large>, <head>, <flags>?, <goto_flags>?, <truth_default>?, <option_flags>}
use Rattle.grammar.specs.Source.{number_at}
use Rattle.grammar.specs.Positions.{item_numeric}
use Rattle.grammar.specs.Parts.{child, chosen, place_at}
use Rattle.answers.specs.Rows.{Draft, ABSENT_STEP}
use Rattle.grammar.specs.Parts.{mark, when}
use Rattle.grammar.specs.Flags.{flags}
use Rattle.grammar.proofs.FlagTotals.{flags_le}
use Rattle.elements.specs.Entries.{entries}
use Rattle.elements.specs.Symbols.{symbols_of, phrase_symbols, SUBTITLE, TEXT, LABEL, GOTO, CHECKBOX, NUMERIC, ONE_OF_OPEN, OPTION, FORM_OPEN}
use Rattle.fields.specs.Phrases.{marked_value, marked_step, set_if, phrase_draft}
use Rattle.walk.specs.Meanings.{◌⧺◌, rows_own, kept_of, phrase_row, Rowed, Opening}
use Rattle.walk.proofs.Kept.{id_keeps, small_keeps, large_keeps, str_keeps, head_keeps, flags_keeps}
use Rattle.walk.proofs.Kept.{goto_flags_keeps, truth_keeps, option_flags_keeps}
use Rattle.walk.proofs.Numerics.{NumericKept, numeric_keeps}

-- ---- entries that may be absent

value_there : (number_at_lem : ℕ → ℕ) (b : Bool) (p : ℕ) → marked_value number_at_lem (when b (mark p)) ≡ when b (number_at_lem p)
unfolding marked_value
value_there number_at_lem true p = refl
value_there number_at_lem false p = refl

-- an absent step is 1
step_there : (number_at_lem : ℕ → ℕ) (b : Bool) (p : ℕ) → marked_step number_at_lem (when b (mark p)) ≡ cond b (number_at_lem p) ABSENT_STEP
unfolding marked_value marked_step
step_there number_at_lem true p = rw (ne_eqb (suc p) 0 (λ e. omega arith))
step_there number_at_lem false p = refl

set_there : (b : Bool) (p bit : ℕ) → set_if (when b (mark p)) bit ≡ when b bit
unfolding set_if
set_there true p bit = rw (ne_eqb (suc p) 0 (λ e. omega arith))
set_there false p bit = refl

set_truth : (b c : Bool) (bit : ℕ) → set_if (when b (cond c 2 1)) bit ≡ when b bit
unfolding set_if
set_truth true true bit = refl
set_truth true false bit = refl
set_truth false c bit = refl

half_truth : (b c : Bool) → when b (cond c 2 1) / 2 ≡ when b (when c 1)
half_truth true true = refl
half_truth true false = refl
half_truth false c = refl

flags_low : (f : Trees) → flags f % 256 ≡ flags f
flags_low f = omega (arith, flags_le f)

-- ---- the statements

module _ (s : List ℕ) (parent at n : ℕ) where
  -- the phrase whose trees are f makes the own row of a tree of rule A with alternative i
  abbrev pub Makes : ℕ → ℕ → Trees → Type 0
  Makes A i f = (g : Trees) → phrase_row s parent f ∷ [] ≡ rows_own s parent at n A i (f ⧺ g)

  pub subtitle_row : {f : Trees} → Fits rules (symbols_of SUBTITLE) f → Makes <item> 0 f
  unfolding symbols_of phrase_symbols kept_of phrase_row phrase_draft marked_value rows_own ◌⧺◌ entries
  subtitle_row (fits_leaf (fits_leaf (fits_leaf (fits_node {i = i} {c = c} e h (fits_leaf {p = p} fits_nil))))) g =
      rw (str_keeps i _ c e h (leaf (token semicolon p) nil))

  pub text_row : {f : Trees} → Fits rules (symbols_of TEXT) f → Makes <item> 1 f
  unfolding symbols_of phrase_symbols kept_of phrase_row phrase_draft marked_value rows_own ◌⧺◌ entries
  text_row (fits_leaf (fits_leaf (fits_leaf (fits_node {i = i} {c = c} e h (fits_leaf {p = p₀} (fits_leaf {p = p₁} (fits_leaf {p = p₂} (fits_node {i = j} {c = d} e₁ h₁ (fits_leaf {p = p} fits_nil))))))))) g =
      let last = leaf (token semicolon p) nil in
      rw (str_keeps i _ c e h (leaf (token comma p₀) (leaf (token class.«text» p₁) (leaf (token class.«=» p₂) (node <str> j d last)))), str_keeps j _ d e₁ h₁ last)

  pub label_row : {f : Trees} → Fits rules (symbols_of LABEL) f → Makes <item> 2 f
  unfolding symbols_of phrase_symbols kept_of phrase_row phrase_draft marked_value rows_own ◌⧺◌ entries
  label_row (fits_leaf (fits_node {i = i} {c = c} e h (fits_leaf {p = p} fits_nil))) g = rw (small_keeps i _ c e h (leaf (token semicolon p) nil))

  -- a question's HEAD: the value of its written number
  abbrev numbered : Trees → Bool
  numbered c = eqb (chosen 1 c) 1

  own_number :
      (c : Trees)
      → marked_value (number_at s) (when (numbered c) (mark (place_at 0 (child 2 (child 1 c))))) ≡ when (numbered c) (number_at s (place_at 0 (child 2 (child 1 c))))
  own_number c = value_there (number_at s) (numbered c) (place_at 0 (child 2 (child 1 c)))

  pub goto_row : {f : Trees} → Fits rules (symbols_of GOTO) f → Makes <item> 3 f
  unfolding symbols_of phrase_symbols kept_of phrase_row phrase_draft marked_value rows_own ◌⧺◌ entries
  goto_row (fits_leaf (fits_node {i = i} {c = c} e h (fits_leaf {p = p₂} (fits_node {i = i₃} {c = c₃} e₃ h₃ (fits_node {i = i₄} {c = c₄} e₄ h₄ (fits_leaf {p = p} fits_nil)))))) g =
      let last = leaf (token semicolon p) nil in
      let more = node <goto_flags>? i₄ c₄ last in
      rw (id_keeps i _ c e h (leaf (token comma p₂) (node <head> i₃ c₃ more)), head_keeps (number_at s) i₃ _ c₃ e₃ h₃ more, goto_flags_keeps i₄ _ c₄ e₄ h₄ last, own_number c₃)

  pub checkbox_row : {f : Trees} → Fits rules (symbols_of CHECKBOX) f → Makes <item> 4 f
  unfolding symbols_of phrase_symbols kept_of phrase_row phrase_draft marked_value rows_own ◌⧺◌ entries
  checkbox_row (fits_leaf (fits_node {i = i₁} {c = c₁} e₁ h₁ (fits_leaf {p = p₂} (fits_node {i = i₃} {c = c₃} e₃ h₃ (fits_node {i = i₄} {c = c₄} e₄ h₄ (fits_leaf {p = p₅} (fits_leaf {p = p} fits_nil))))))) g =
      let last = leaf (token class.«endcheckbox» p₅) (leaf (token semicolon p) nil) in
      let more = node <truth_default>? i₄ c₄ last in
      rw (
        head_keeps (number_at s) i₁ _ c₁ e₁ h₁ (leaf (token comma p₂) (node <flags>? i₃ c₃ more)),
        flags_keeps i₃ _ c₃ e₃ h₃ more,
        truth_keeps i₄ _ c₄ e₄ h₄ last,
        own_number c₁,
        flags_low c₃,
        set_truth (eqb i₄ 1) (eqb (chosen 2 c₄) 0) flag.HAS_DEFAULT,
        half_truth (eqb i₄ 1) (eqb (chosen 2 c₄) 0),
      )

  pub numeric_row : {f : Trees} → Fits rules (symbols_of NUMERIC) f → Makes <item> item_numeric f
  unfolding symbols_of phrase_symbols kept_of phrase_row phrase_draft marked_value rows_own ◌⧺◌
  numeric_row h = by (numeric_keeps (number_at s) h) h
    where
      by : {f : Trees} → NumericKept (number_at s) f → Fits rules (symbols_of NUMERIC) f → Makes <item> item_numeric f
      by k
          (fits_leaf (fits_node {c = c₁} e₁ h₁ (fits_leaf (fits_node e₃ h₃ (fits_leaf (fits_leaf (fits_node e₆ h₆
          (fits_leaf (fits_leaf (fits_leaf (fits_node f₀ k₀ (fits_leaf (fits_node {i = j₂} {c = d₂} f₂ k₂ (fits_node {i = j₃} {c = d₃} f₃ k₃ (fits_leaf (fits_leaf fits_nil)))))))))))))))) g =
          rw (
            k.entries_are,
            k.holds.flags_are,
            k.holds.column_is,
            own_number c₁,
            set_there (eqb j₃ 1) (place_at 0 (child 2 d₃)) flag.HAS_DEFAULT,
            step_there (number_at s) (eqb j₂ 1) (place_at 0 (child 2 d₂)),
            value_there (number_at s) (eqb j₃ 1) (place_at 0 (child 2 d₃)),
          )

  pub one_of_row : {f : Trees} → Fits rules (symbols_of ONE_OF_OPEN) f → Makes <item> 6 f
  unfolding symbols_of phrase_symbols kept_of phrase_row phrase_draft marked_value rows_own ◌⧺◌ entries
  one_of_row (fits_leaf (fits_node {i = i₁} {c = c₁} e₁ h₁ (fits_leaf {p = p₂} (fits_node {i = i₃} {c = c₃} e₃ h₃ fits_nil)))) g =
      rw (head_keeps (number_at s) i₁ _ c₁ e₁ h₁ (leaf (token comma p₂) (node <flags>? i₃ c₃ nil)), flags_keeps i₃ _ c₃ e₃ h₃ nil, own_number c₁)

  pub option_row : {f : Trees} → Fits rules (symbols_of OPTION) f → Makes <option> 0 f
  unfolding symbols_of phrase_symbols kept_of phrase_row phrase_draft marked_value rows_own ◌⧺◌ entries
  option_row (fits_leaf (fits_leaf (fits_leaf (fits_node {i = i₃} {c = c₃} e₃ h₃ (fits_leaf {p = p₄} (fits_leaf {p = p₅} (fits_leaf {p = p₆} (fits_node {i = i₇} {c = c₇} e₇ h₇ (fits_leaf {p = p₈} (fits_leaf {p = p₉} (fits_leaf {p = q₀} (fits_node {i = j₁} {c = d₁} f₁ k₁ (fits_leaf {p = p} fits_nil))))))))))))) g =
      let last = leaf (token semicolon p) nil in
      let word = leaf (token comma p₈) (leaf (token class.«flags» p₉) (leaf (token class.«=» q₀) (node <option_flags> j₁ d₁ last))) in
      let value = leaf (token comma p₄) (leaf (token class.«value» p₅) (leaf (token class.«=» p₆) (node <large> i₇ c₇ word))) in
      rw (str_keeps i₃ _ c₃ e₃ h₃ value, large_keeps i₇ _ c₇ e₇ h₇ word, option_flags_keeps j₁ _ d₁ f₁ k₁ last, set_there (eqb j₁ 1) (place_at 0 d₁) flag.OPTION_DEFAULT)

  pub form_row : {f : Trees} → Fits rules (symbols_of FORM_OPEN) f → Makes <form> 0 f
  unfolding symbols_of phrase_symbols kept_of phrase_row phrase_draft marked_value rows_own ◌⧺◌ entries
  form_row (fits_leaf (fits_leaf (fits_leaf (fits_node {i = i₃} {c = c₃} e₃ h₃ (fits_leaf {p = p₄} (fits_leaf {p = p₅} (fits_leaf {p = p₆} (fits_node {i = i₇} {c = c₇} e₇ h₇ (fits_leaf {p = p} fits_nil))))))))) g =
      let last = leaf (token semicolon p) nil in
      rw (id_keeps i₃ _ c₃ e₃ h₃ (leaf (token comma p₄) (leaf (token class.«title» p₅) (leaf (token class.«=» p₆) (node <str> i₇ c₇ last)))), str_keeps i₇ _ c₇ e₇ h₇ last)

  pub makes_opening :
      {A i : ℕ} {f : Trees} {ds : List Draft} {k : ℕ}
      → eqb A <rule> ≡ false → Makes A i f → Rowed s parent at n f ds k → Opening s A i parent at n f ds k
  makes_opening b makes m = record { rows = λ g. m.row ∙ makes g; some = rw m.row (omega arith); rules = m.no_rules ∙ rw b }
