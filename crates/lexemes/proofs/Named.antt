-- Each class that has a name of its own is the place of its text among the lexemes.
-- Assumes nothing.
use mathlib.Core.Path.{◌≡◌, refl}
use mathlib.Core.List.{List, [], ◌∷◌, map}
use Prim.Native.Nat.{ℕ}
use Prim.Native.String.{String}
use lib.ListN.{length}
use Rattle.lexemes.specs.Classes as class
use Rattle.lexemes.specs.Lexemes.{bytes, signs, reserved, lexemes}
use Rattle.lexemes.specs.Words.{same, place_among}

-- every sign and reserved word, with its class by name
pub named : List (String × ℕ)
named =
    ("{", class.open_brace) ∷ ("}", class.close_brace) ∷ ("(", class.open_paren) ∷ (")", class.close_paren) ∷
    (",", class.comma) ∷ (";", class.semicolon) ∷ ("=", class.«=») ∷ ("|", class.«|») ∷ ("&", class.«&») ∷
    ("==", class.«==») ∷ ("!=", class.«!=») ∷ ("<", class.«<») ∷ ("<=", class.«<=») ∷ (">", class.«>») ∷ (">=", class.«>=») ∷
    ("<<", class.«<<») ∷ (">>", class.«>>») ∷ ("+", class.«+») ∷ ("-", class.«-») ∷ ("*", class.«*») ∷ ("/", class.«/») ∷
    ("%", class.«%») ∷ ("AND", class.«AND») ∷ ("DEFAULT", class.«DEFAULT») ∷ ("DISPLAY_INT_DEC", class.DISPLAY_INT_DEC) ∷
    ("DISPLAY_UINT_DEC", class.DISPLAY_UINT_DEC) ∷ ("DISPLAY_UINT_HEX", class.DISPLAY_UINT_HEX) ∷ ("FALSE", class.«FALSE») ∷
    ("INTERACTIVE", class.«INTERACTIVE») ∷ ("NOT", class.«NOT») ∷ ("NUMERIC_SIZE_1", class.NUMERIC_SIZE_1) ∷
    ("NUMERIC_SIZE_2", class.NUMERIC_SIZE_2) ∷ ("NUMERIC_SIZE_4", class.NUMERIC_SIZE_4) ∷
    ("NUMERIC_SIZE_8", class.NUMERIC_SIZE_8) ∷ ("ONE", class.«ONE») ∷ ("ONES", class.«ONES») ∷ ("OR", class.«OR») ∷
    ("READ_ONLY", class.READ_ONLY) ∷ ("RESET_REQUIRED", class.RESET_REQUIRED) ∷
    ("STRING_TOKEN", class.STRING_TOKEN) ∷ ("TRUE", class.«TRUE») ∷ ("UNDEFINED", class.«UNDEFINED») ∷
    ("ZERO", class.«ZERO») ∷ ("checkbox", class.«checkbox») ∷ ("default", class.«default») ∷
    ("disableif", class.«disableif») ∷ ("endcheckbox", class.«endcheckbox») ∷ ("endform", class.«endform») ∷
    ("endformset", class.«endformset») ∷ ("endif", class.«endif») ∷ ("endnumeric", class.«endnumeric») ∷
    ("endoneof", class.«endoneof») ∷ ("endrule", class.«endrule») ∷ ("flags", class.«flags») ∷ ("form", class.«form») ∷
    ("formid", class.«formid») ∷ ("formset", class.«formset») ∷ ("goto", class.«goto») ∷ ("grayoutif", class.«grayoutif») ∷
    ("guid", class.«guid») ∷ ("help", class.«help») ∷ ("label", class.«label») ∷ ("maximum", class.«maximum») ∷
    ("minimum", class.«minimum») ∷ ("name", class.«name») ∷ ("numeric", class.«numeric») ∷ ("oneof", class.«oneof») ∷
    ("option", class.«option») ∷ ("prompt", class.«prompt») ∷ ("questionid", class.«questionid») ∷
    ("questionref", class.«questionref») ∷ ("rule", class.«rule») ∷ ("ruleref", class.«ruleref») ∷ ("step", class.«step») ∷
    ("subtitle", class.«subtitle») ∷ ("suppressif", class.«suppressif») ∷ ("text", class.«text») ∷ ("title", class.«title») ∷
    ("value", class.«value») ∷ []

-- a named class is the place of its text
pub classes_named : map (λ (p : String × ℕ). place_among (bytes p.0) lexemes) named ≡ map (λ (p : String × ℕ). p.1) named
unfolding named signs reserved lexemes same place_among
classes_named = refl

-- no sign or reserved word is left out
pub all_named : map (λ (p : String × ℕ). bytes p.0) named ≡ lexemes
unfolding named signs reserved lexemes
all_named = refl

-- NAME comes after the last of them, and the first reserved word after the last sign
pub counted : (length lexemes ≡ class.NAME) × (length signs ≡ class.SIGNS)
unfolding signs reserved lexemes
counted = (refl, refl)
