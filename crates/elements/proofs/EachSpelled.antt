-- The elements of every phrase spell its symbols, with room for what they keep.
-- Assumes nothing.
use Prim.Native.Nat.{ℕ, zero, suc, ◌≤◌}
use mathlib.Core.Path.{◌≡◌, refl}
use mathlib.Core.Bool.{Bool, true, false, ◌&&◌}
use mathlib.Core.List.{List, [], ◌∷◌}
use lib.ListN.{get_or}
use Rattle.ll1.specs.Trees.{Symbol}
use Rattle.ll1.proofs.Basics.{clash, both}
use Rattle.elements.specs.Entries.{KEPT}
use Rattle.elements.specs.Symbols.{phrase_symbols, symbols_of, phrase_elements, elements_of}
use Rattle.elements.proofs.Spelling.{widths, Spells}
use Rattle.elements.proofs.Spelled.{spells?, spelled, has_room}

-- the test of one phrase after another
abbrev each? : List (List Symbol) → List (List ℕ) → Bool
each? [] [] = true
each? [] (p ∷ ps) = false
each? (α ∷ αs) [] = false
each? (α ∷ αs) (p ∷ ps) = spells? α p && each? αs ps

each : (αs : List (List Symbol)) (ps : List (List ℕ)) → each? αs ps ≡ true → (k : ℕ) → spells? (get_or αs k []) (get_or ps k []) ≡ true
each [] [] h k = refl
each [] (p ∷ ps) h k = clash cc
each (α ∷ αs) [] h k = clash cc
each (α ∷ αs) (p ∷ ps) h zero = (both (spells? α p) (each? αs ps) h).0
each (α ∷ αs) (p ∷ ps) h (suc k) = each αs ps (both (spells? α p) (each? αs ps) h).1 k

test : (k : ℕ) → spells? (symbols_of k) (elements_of k) ≡ true
unfolding phrase_symbols symbols_of phrase_elements elements_of
test = each phrase_symbols phrase_elements refl

pub phrase_spelled : (k : ℕ) → Spells (symbols_of k) (elements_of k) []
phrase_spelled k = spelled (symbols_of k) (elements_of k) (test k)

pub phrase_has_room : (k : ℕ) → widths (elements_of k) ≤ KEPT
phrase_has_room k = has_room (symbols_of k) (elements_of k) (test k)
