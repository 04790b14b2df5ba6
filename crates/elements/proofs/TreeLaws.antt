-- What a tree of a rule keeps, and its faults.
-- Assumes nothing.
use Prim.Native.Nat.{ℕ}
use mathlib.Core.Path.{◌≡◌, refl}
use mathlib.Core.List.{List, [], ◌∷◌, ◌++◌}
use Rattle.ll1.specs.Trees.{Trees, node, Symbol, Fits, fits_leaf, fits_node}
use Rattle.grammar.specs.Grammar.{rules}
use Rattle.grammar.specs.Ranges.{gathered}
use Rattle.elements.specs.Entries.{node_entries, entries}
use Rattle.elements.specs.Marks.{faults_here, faults}

-- a tree that is not empty keeps what its rule says
pub entries_node : (A i : ℕ) {x : Symbol} {β : List Symbol} {c : Trees} (f : Trees) → Fits rules (x ∷ β) c → entries (node A i c f) ≡ node_entries A i c (entries c) ++ entries f
unfolding entries
entries_node A i f (fits_leaf h) = refl
entries_node A i f (fits_node e h₁ h₂) = refl

-- the faults of a tree stand after those under it
pub faults_of : (s : List ℕ) (A i : ℕ) (c f : Trees) → faults s (node A i c f) ≡ faults s c ++ (faults_here s A i c ++ faults s f)
unfolding faults gathered
faults_of s A i c f = refl

-- a tree without faults of its own
pub faults_node : (s : List ℕ) (A i : ℕ) (c f : Trees) → faults_here s A i c ≡ [] → faults s (node A i c f) ≡ faults s c ++ faults s f
faults_node s A i c f e = rw (faults_of s A i c f, e)
