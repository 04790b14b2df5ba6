-- Statements with a row: a phrase with its row, and what stands under it.
-- Assumes nothing.
use Prim.Native.Nat.{ℕ}
use mathlib.Core.Path.{◌≡◌, refl}
use mathlib.Core.Bool.{true, false}
use mathlib.Core.List.{List, [], ◌∷◌, ◌++◌}
use mathlib.Core.Option.{none, some}
use mathlib.Core.Logic.{◌⊎◌, inl, ◌≢◌}
use lib.Dec.{eqb}
use Rattle.lexemes.specs.Classes as class
use Rattle.ll1.specs.Trees.{Trees, Symbol, alternative_of, Fits, Depth}
use Rattle.ll1.specs.ParseTable.{predict, nullable}
use Rattle.ll1.proofs.Lookups.{find_one}
use Rattle.grammar.specs.Grammar.{rules}
use Rattle.grammar.specs.Notation.{r, plain}
use Rattle.grammar.specs.Lookahead.{lookahead}
use Rattle.grammar.specs.Rules.{<rule>, <item>, <option>, <option>*, <form>, <item_or_rule>*}
use Rattle.grammar.specs.Derivation.{too_deep}
use Rattle.grammar.specs.Ranges.{range_of}
use Rattle.elements.specs.Symbols.{symbols_of, phrase_symbols, SUBTITLE, TEXT, LABEL, GOTO, CHECKBOX, ONE_OF_OPEN, ONE_OF_CLOSE, OPTION, FORM_OPEN, FORM_CLOSE}
use Rattle.walk.specs.Standing.{Standing}
use Rattle.walk.specs.Meanings.{Counted, Silent, Opening}
use Rattle.walk.specs.Walked.{Walked, Closes, WalkedUnder, ReadsUnder, ReadsRow}
use Rattle.walk.proofs.TreeLaws.{Faultless, faultless, quiet}
use Rattle.walk.proofs.Walks.{walked_then, counted_joins, walked_as, counted_as, walked_off, walked_nil, walked_node, counted_node, resume_enter}
use Rattle.walk.proofs.MeaningLaws.{silent_under, under_joins, Content, content_under, content_joins}
use Rattle.walk.proofs.Statements.{Makes, makes_opening, subtitle_row, text_row, label_row, goto_row, checkbox_row, one_of_row, option_row, form_row}

-- alternative i of rule A is the phrase p, which starts with a token of class k and makes its row, and then β
pub record Statement (p A i k : ℕ) (β : List Symbol) : Type 0 where
  pub tells : predict lookahead A k ≡ some i
  pub alternative : alternative_of rules A i ≡ some (plain (symbols_of p ++ β))
  pub present : nullable rules A ≡ false
  pub no_faults : Faultless A i
  pub no_rows : quiet (symbols_of p) ≡ true
  pub no_rule : eqb A <rule> ≡ false
  pub makes : (s : List ℕ) (parent at n : ℕ) (f : Trees) → Fits rules (symbols_of p) f → Makes s parent at n A i f

-- the token tells alternative i of rule A, or none
abbrev pub Told : ℕ → ℕ → ℕ → Type 0
Told A i k = (predict lookahead A k ≡ some i) ⊎ (predict lookahead A k ≡ none)

module _ {s : List ℕ} {d : Depth} {p A i k : ℕ} {β : List Symbol} {parent : ℕ} {st o r' : Standing} {t₀ t₁ t₂ : List ℕ} (is : Statement p A i k β) (told : Told A i st.token.class) (fine : too_deep d ≡ false) where
  pub statement_walked : ReadsRow s p parent st o t₀ t₁ → WalkedUnder s d β st.rows o r' t₁ t₂ → WalkedUnder s d (r A ∷ []) parent st r' t₀ t₂
  statement_walked w v =
      let opening : Walked s d (symbols_of p) (Counted (Opening s A i parent)) st o t₀ t₁ = walked_as (λ f ds k h m. counted_as (makes_opening s parent st.rows st.rules is.no_rule (is.makes s parent st.rows st.rules f h)) m) (w.walked d fine) in
      let content : Walked s d (symbols_of p ++ β) (Counted (Content s A i parent)) st r' t₀ t₂ = walked_then (counted_joins (content_joins s is.no_rows is.no_rule)) opening v in
      walked_node i is.alternative is.no_faults
      (λ σ. resume_enter s d A σ st.no st.token i (plain (symbols_of p ++ β)) is.present is.alternative told)
      (λ c ds k h m. counted_node (content_under s) m)
      content

-- ---- each statement

pub subtitle_is : Statement SUBTITLE <item> 0 class.«subtitle» []
unfolding rules lookahead symbols_of phrase_symbols range_of
subtitle_is =
    record {
      tells = refl;
      alternative = refl;
      present = refl;
      no_faults = faultless refl refl refl;
      no_rows = refl;
      no_rule = refl;
      makes = λ s parent at n f h. subtitle_row s parent at n h;
    }

pub text_is : Statement TEXT <item> 1 class.«text» []
unfolding rules lookahead symbols_of phrase_symbols range_of
text_is =
    record {
      tells = refl;
      alternative = refl;
      present = refl;
      no_faults = faultless refl refl refl;
      no_rows = refl;
      no_rule = refl;
      makes = λ s parent at n f h. text_row s parent at n h;
    }

pub label_is : Statement LABEL <item> 2 class.«label» []
unfolding rules lookahead symbols_of phrase_symbols range_of
label_is =
    record {
      tells = refl;
      alternative = refl;
      present = refl;
      no_faults = faultless refl refl refl;
      no_rows = refl;
      no_rule = refl;
      makes = λ s parent at n f h. label_row s parent at n h;
    }

pub goto_is : Statement GOTO <item> 3 class.«goto» []
unfolding rules lookahead symbols_of phrase_symbols range_of
goto_is =
    record {
      tells = refl;
      alternative = refl;
      present = refl;
      no_faults = faultless refl refl refl;
      no_rows = refl;
      no_rule = refl;
      makes = λ s parent at n f h. goto_row s parent at n h;
    }

pub checkbox_is : Statement CHECKBOX <item> 4 class.«checkbox» []
unfolding rules lookahead symbols_of phrase_symbols range_of
checkbox_is =
    record {
      tells = refl;
      alternative = refl;
      present = refl;
      no_faults = faultless refl refl refl;
      no_rows = refl;
      no_rule = refl;
      makes = λ s parent at n f h. checkbox_row s parent at n h;
    }

pub one_of_is : Statement ONE_OF_OPEN <item> 6 class.«oneof» (r <option> ∷ r <option>* ∷ symbols_of ONE_OF_CLOSE)
unfolding rules lookahead symbols_of phrase_symbols range_of
one_of_is =
    record {
      tells = refl;
      alternative = refl;
      present = refl;
      no_faults = faultless refl refl refl;
      no_rows = refl;
      no_rule = refl;
      makes = λ s parent at n f h. one_of_row s parent at n h;
    }

pub option_is : Statement OPTION <option> 0 class.«option» []
unfolding rules lookahead symbols_of phrase_symbols range_of
option_is =
    record {
      tells = refl;
      alternative = refl;
      present = refl;
      no_faults = faultless refl refl refl;
      no_rows = refl;
      no_rule = refl;
      makes = λ s parent at n f h. option_row s parent at n h;
    }

pub form_is : Statement FORM_OPEN <form> 0 class.«form» (r <item_or_rule>* ∷ symbols_of FORM_CLOSE)
unfolding rules lookahead symbols_of phrase_symbols range_of
form_is =
    record {
      tells = refl;
      alternative = refl;
      present = refl;
      no_faults = faultless refl refl refl;
      no_rows = refl;
      no_rule = refl;
      makes = λ s parent at n f h. form_row s parent at n h;
    }

-- nothing stands under it
pub flat_reads :
    {s : List ℕ} {p A i k : ℕ} {parent : ℕ} {st o : Standing} {t₀ t₁ : List ℕ}
    → Statement p A i k [] → Told A i st.token.class → ReadsRow s p parent st o t₀ t₁ → ReadsUnder s (r A ∷ []) parent st o t₀ t₁
flat_reads {s} {st = st} is told w =
    record { walked = λ d fine. statement_walked is told fine w (walked_as (λ f ds k h m. counted_as (silent_under s st.rows refl h) m) (walked_nil s d)) }

-- an item that its word tells
pub item_reads :
    {s : List ℕ} {p i k : ℕ} {parent : ℕ} {st o : Standing} {t₀ t₁ : List ℕ}
    → Statement p <item> i k [] → st.token.class ≡ k → ReadsRow s p parent st o t₀ t₁ → ReadsUnder s (r <item> ∷ []) parent st o t₀ t₁
item_reads is c w = flat_reads is (inl (rw c is.tells)) w

-- ---- rules of one alternative

pub option_told : (k : ℕ) → Told <option> 0 k
unfolding lookahead
option_told k = find_one (class.«option» ∷ []) k

pub form_told : (k : ℕ) → Told <form> 0 k
unfolding lookahead
form_told k = find_one (class.«form» ∷ []) k

-- a phrase without a row, after rows under which it stands
pub closes_under :
    {s : List ℕ} {p parent : ℕ} {d : Depth} {st r' : Standing} {t₀ : List ℕ}
    → quiet (symbols_of p) ≡ true → too_deep d ≡ false → Closes s p st r' → WalkedUnder s d (symbols_of p) parent st r' t₀ t₀
closes_under {s} {parent = parent} {d = d} {t₀ = t₀} q o w = walked_as (λ f ds k h m. counted_as (silent_under s parent q h) m) ((w.reads t₀).walked d o)

-- a refusal is handed on
pub closes_off : {s : List ℕ} (p : ℕ) {st : Standing} → st.no ≢ 0 → Closes s p st st
closes_off p h = record { reads = λ t. record { walked = λ d o. walked_off (symbols_of p) (Counted Silent) h } }

-- ---- a oneof and a form, from their opening to their end

pub one_of_reads :
    {s : List ℕ} {parent : ℕ} {st o a r' : Standing} {t₀ t₁ t₂ : List ℕ}
    → st.token.class ≡ class.«oneof» → ReadsRow s ONE_OF_OPEN parent st o t₀ t₁ → ReadsUnder s (r <option> ∷ r <option>* ∷ []) st.rows o a t₁ t₂
    → Closes s ONE_OF_CLOSE a r' → ReadsUnder s (r <item> ∷ []) parent st r' t₀ t₂
unfolding symbols_of phrase_symbols
one_of_reads {s} {o = o} {r' = r'} {t₁ = t₁} {t₂ = t₂} c w v u =
    record {
      walked = λ d fine.
          statement_walked one_of_is (inl (rw c one_of_is.tells)) fine w (walked_then (counted_joins (under_joins s)) (v.walked d fine) (closes_under refl fine u));
    }

pub form_walked :
    {s : List ℕ} {d : Depth} {parent : ℕ} {st o a r' : Standing} {t₀ t₁ t₂ : List ℕ}
    → too_deep d ≡ false → ReadsRow s FORM_OPEN parent st o t₀ t₁ → WalkedUnder s d (r <item_or_rule>* ∷ []) st.rows o a t₁ t₂ → Closes s FORM_CLOSE a r'
    → WalkedUnder s d (r <form> ∷ []) parent st r' t₀ t₂
unfolding symbols_of phrase_symbols
form_walked {s} {st = st} fine w v u = statement_walked form_is (form_told st.token.class) fine w (walked_then (counted_joins (under_joins s)) v (closes_under refl fine u))
