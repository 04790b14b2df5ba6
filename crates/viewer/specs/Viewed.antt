-- What the viewer's token reader gives: the token at a place with its line and column, the place after it, and the tokens in their order
-- (document 01, The shape of some places; document 02, W-201).
-- Assumes nothing.
use Rattle.std.specs.Prelude.{ℕ, zero, suc, cond, List, ltb}
use Rattle.std.specs.Borrow.{Bor}
use Rattle.lex.specs.declared.Token.{Token}
use Rattle.lexemes.specs.Classes.{BAD}
use Rattle.lex.specs.Tokens.{token_at}
use Rattle.positions.specs.declared.Position.{Position}
use Rattle.positions.specs.Positions.{line_at, column_at, position_from}
use Rattle.viewer.specs.declared.Positioned.{Positioned}
use Rattle.viewer.specs.declared.Seen.{Seen}
use Rattle.viewer.specs.declared.Reader.{Reader}

-- ---- the tokens of a source in their order

-- past a token t that is neither bad nor the end; else the place stays
unfoldable pub place_past : Token → ℕ → ℕ
place_past t at = cond (ltb t.class BAD) t.end at

unfoldable pub place_after : List ℕ → ℕ → ℕ
place_after s at = place_past (token_at s at) at

-- the place after n tokens
unfoldable pub place_of_nth : List ℕ → ℕ → ℕ
place_of_nth s zero = 0
place_of_nth s (suc n) = place_after s (place_of_nth s n)

-- the tokens of a source, counted from 0; a bad token and the end repeat
unfoldable pub nth_token : List ℕ → ℕ → Token
nth_token s n = token_at s (place_of_nth s n)

-- ---- with lines and columns

-- a token with the line and column of its start
unfoldable pub positioned : List ℕ → Token → Positioned
positioned s t = record { token = t; line = line_at s t.start; column = column_at s t.start }

-- what there is to see at a place: the token, and the place after it
unfoldable pub seen_at : List ℕ → ℕ → Seen
seen_at s at =
    let next = place_after s at in
    record { token = positioned s (token_at s at); at = next; line = line_at s next; column = column_at s next }

-- the same from a place `at` that is said to have some line and column: these are counted on from, whatever they are, and wrap at 2^64
unfoldable pub seen_from : List ℕ → ℕ → ℕ → ℕ → Seen
seen_from s at line column =
    let t = token_at s at in
    let next = place_after s at in
    let said : Position = record { line = line; column = column } in
    let first = position_from said s at t.start in
    let past = position_from said s at next in
    record { token = record { token = t; line = first.line; column = first.column }; at = next; line = past.line; column = past.column }

-- ---- the same of a reader

abbrev pub seen_by : Reader → Seen
seen_by r = seen_from r.src.now r.at r.line r.column

abbrev pub moved_to : Reader → Seen → Reader
moved_to r v = record { src = r.src; at = v.at; line = v.line; column = v.column }

-- past the token that it stands before
abbrev pub moved_on : Reader → Reader
moved_on r = moved_to r (seen_by r)

-- as `new` makes it
abbrev pub started : Bor (List ℕ) → Reader
started src = record { src = src; at = 0; line = 1; column = 1 }

-- at a place, with that place's own line and column
unfoldable pub standing : Bor (List ℕ) → ℕ → Reader
standing src at = record { src = src; at = at; line = line_at src.now at; column = column_at src.now at }

-- a reader that went on n times
unfoldable pub after_nth : ℕ → Reader → Reader
after_nth zero r = r
after_nth (suc n) r = moved_on (after_nth n r)
