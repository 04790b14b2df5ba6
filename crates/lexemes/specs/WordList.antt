-- W-205 of a word's class, in document 02's words.
-- Assumes nothing.
use Rattle.std.specs.Prelude.{ℕ, ◌<◌, ◌↔◌}
use mathlib.Core.List.{List, Memᴰ}
use Rattle.lexemes.specs.Classes.{NAME}
use Rattle.lexemes.specs.Lexemes.{reserved}

-- "a word is reserved exactly when it stands there": the classes of reserved words come before NAME
abbrev pub Recognised : List ℕ → ℕ → Type 0
Recognised w class = class < NAME ↔ Memᴰ w reserved
