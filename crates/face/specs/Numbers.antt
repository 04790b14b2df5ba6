-- The numbers of a token in lent memory (document 02, W-201).
-- Assumes nothing.
use Rattle.std.specs.Prelude.{ℕ, cond, List, [], ◌∷◌, ltb}
use Rattle.lexemes.specs.Classes.{BAD}
use Rattle.viewer.specs.declared.Seen.{Seen}

-- 1 where no further token comes: at a bad token and at the end
abbrev pub is_last : ℕ → ℕ
is_last class = cond (ltb class BAD) 0 1

-- class, start, end, line and column of a token, the place at which to go on, and whether it is the last
abbrev pub token_numbers : Seen → List ℕ
token_numbers v =
    let t = v.token.token in
    t.class ∷ t.start ∷ t.end ∷ v.token.line ∷ v.token.column ∷ v.at ∷ is_last t.class ∷ []
