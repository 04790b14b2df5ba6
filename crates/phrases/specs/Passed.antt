-- What reading a phrase that spells symbols of the grammar gives.
-- Assumes nothing.
use Rattle.std.specs.Prelude.{ℕ, ◌≤◌, ◌≡◌, false, List, [], ◌∷◌, ◌++◌, length}
use Rattle.lex.specs.declared.Token.{Token}
use Rattle.ll1.specs.Trees.{Trees, leaves, Symbol, Fits, Depth}
use Rattle.ll1.specs.Machine.{Due, due_all}
use Rattle.grammar.specs.Grammar.{rules}
use Rattle.grammar.specs.Derivation.{too_deep}
use Rattle.phrases.specs.declared.Cursor.{Cursor}
use Rattle.phrases.specs.Stream.{stream, resume, Within}
use Rattle.elements.specs.declared.noted.Noted.{Noted}
use Rattle.elements.specs.Marks.{faults, noting}
use Rattle.elements.specs.Entries.{KEPT, entries}

-- what was kept, with the entries in its first places, as far as there is room
unfoldable pub written : List ℕ → List ℕ → List ℕ
written [] es = []
written (x ∷ l) [] = x ∷ l
written (x ∷ l) (e ∷ es) = e ∷ written l es

module _ (s : List ℕ) (α : List Symbol) (n : ℕ) (t : Token) (was : Noted) (l : List ℕ) (r : Cursor) (l' : List ℕ) where
  -- the trees that were read
  pub record Phrase : Type 0 where
    pub trees : Trees
    pub before : n ≡ 0
    pub fits : Fits rules α trees
    pub reads : leaves trees ++ stream s r.token ≡ stream s t
    pub kept : l' ≡ written l (entries trees)
    pub few : length (entries trees) ≤ KEPT
    pub noted_are : r.noted ≡ noting was (faults s trees)

  -- from the refusal or 0, the token, the faults noted and what was kept to the result and what is kept then:
  -- the verdict is as if the symbols α were due before; and where there is no refusal, the trees
  pub record Passed : Type 0 where
    pub verdict : (σ : List Due) (d : Depth) → too_deep d ≡ false → resume s (due_all d α ++ σ) n t ≡ resume s σ r.no r.token
    pub got : r.no ≡ 0 → Phrase
    pub within : Within s t → Within s r.token
