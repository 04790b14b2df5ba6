-- The signs, each listed once, and after them the reserved words (document 01, Tokens and Grammar).
-- Assumes nothing.
use Rattle.std.specs.Prelude.{ℕ, List, [], ◌∷◌, ◌++◌, map}
use Prim.Native.String.{String}
-- the reserved words are those of the printed list
pub use Rattle.wordlist.specs.Words.{bytes, reserved_texts}
unfoldable pub use Rattle.wordlist.specs.Words.{reserved}

-- the signs, in document 01's order
abbrev pub sign_texts : List String
sign_texts =
    "{" ∷ "}" ∷ "(" ∷ ")" ∷ "," ∷ ";" ∷ "=" ∷ "|" ∷ "&" ∷ "==" ∷ "!=" ∷ "<" ∷ "<=" ∷ ">" ∷ ">=" ∷ "<<" ∷ ">>" ∷ "+" ∷ "-" ∷ "*" ∷ "/" ∷ "%" ∷ []

unfoldable pub signs : List (List ℕ)
signs = map bytes sign_texts

-- a sign's or a reserved word's class is its place here
unfoldable pub lexemes : List (List ℕ)
lexemes = signs ++ reserved
