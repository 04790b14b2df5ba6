-- The operators of expressions, level by level.
-- Assumes nothing.
use Rattle.std.specs.Prelude.{List, [], ◌∷◌, ℕ, get_or}
use Rattle.lexemes.specs.Classes.{«OR», «AND», «|», «&», «==», «!=», «<», «<=», «>», «>=», «<<», «>>», «+», «-», «*», «/», «%»}

-- "loosest level first: `OR`; `AND`; `|`; `&`; `==` `!=`; `<` `<=` `>` `>=`; `<<` `>>`; `+` `-`; `*` `/` `%`" (document 01, Grammar)
unfoldable pub levels : List (List ℕ)
levels =
    («OR» ∷ [])
    ∷ («AND» ∷ [])
    ∷ («|» ∷ [])
    ∷ («&» ∷ [])
    ∷ («==» ∷ «!=» ∷ [])
    ∷ («<» ∷ «<=» ∷ «>» ∷ «>=» ∷ [])
    ∷ («<<» ∷ «>>» ∷ [])
    ∷ («+» ∷ «-» ∷ [])
    ∷ («*» ∷ «/» ∷ «%» ∷ [])
    ∷ []

-- the operators of level n, from 0 on
abbrev pub operators_of : ℕ → List ℕ
operators_of n = get_or levels n []
