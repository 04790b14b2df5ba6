-- The faults that reading goes on after, and the marks of the first of each sort.
-- Assumes nothing.
use Rattle.std.specs.Prelude.{ℕ, zero, suc, cond, List, [], ◌∷◌, ◌++◌, map, eqb, Option, None, Some}
use Rattle.std.specs.Option.{option_or}
use Rattle.ll1.specs.Trees.{Trees}
use Rattle.grammar.specs.Parts.{mark}
use Rattle.grammar.specs.Ranges.{gathered, out_of_range_here, seconds_here}
use Rattle.elements.specs.declared.noted.Noted.{Noted}

-- ---- faults

-- a second size or display word at a place (No. 16), and a number outside its place (No. 5)
pub data Fault : Type 0 where
  second : ℕ → Fault
  outside : ℕ → Fault

-- those of trees, in source order
unfoldable pub faults_here : List ℕ → ℕ → ℕ → Trees → List Fault
faults_here s A i c = map second (seconds_here A i c) ++ map outside (out_of_range_here s A i c)

unfoldable pub faults : List ℕ → Trees → List Fault
faults s f = gathered (faults_here s) f

-- ---- marks

-- a mark that there is already, or another
unfoldable pub mark_or : ℕ → ℕ → ℕ
mark_or m other = cond (eqb m 0) other m

-- the mark of the first of some places, or 0
abbrev pub first_mark : List ℕ → ℕ
first_mark [] = 0
first_mark (p ∷ ps) = mark p

-- the place that a mark tells
abbrev pub placed : ℕ → Option ℕ
placed zero = None
placed (suc p) = Some p

-- nothing noted
abbrev pub nothing_noted : Noted
nothing_noted = record { second = None; outside = None }

-- with a mark, or 0 for none, unless there is a place already
abbrev pub with_second : Noted → ℕ → Noted
with_second n m = record { second = option_or n.second (placed m); outside = n.outside }

abbrev pub with_outside : Noted → ℕ → Noted
with_outside n m = record { second = n.second; outside = option_or n.outside (placed m) }

abbrev pub with_fault : Noted → Fault → Noted
with_fault n (second p) = with_second n (mark p)
with_fault n (outside p) = with_outside n (mark p)

-- with the faults, of which the first of each sort is noted unless there is one
unfoldable pub noting : Noted → List Fault → Noted
noting n [] = n
noting n (x ∷ l) = noting (with_fault n x) l
