-- The laws of a row by its columns: its cells make it, and without its places it has all others.
use Prim.Native.Nat.{ℕ, zero, suc}
use mathlib.Core.Path.{◌≡◌, refl, sym, ap, ◌∙◌}
use mathlib.Core.Bool.{Bool, true, false, beq, ◌&&◌, ◌||◌}
use mathlib.Mathlib.Data.Bool.Basic.{or-eq-false-eq-eq-false-and-eq-false}
use mathlib.Core.List.{List, [], ◌∷◌}
use lib.Dec.{eqb}
use lib.ListN.{length, get_or, set, replicate, length-set}
use lib.Seq.{get_or-set_other}
use borrow.Author.Tests.{eqb-false}
use Rattle.rows.specs.Columns.{ROW, NAME, PLACE}
use Rattle.rows.specs.Cells.{without_places}

-- ---- the cells of a row

-- n cells from cell c on
abbrev pub cells_from : List ℕ → ℕ → ℕ → List ℕ
cells_from r c zero = []
cells_from r c (suc n) = get_or r c 0 ∷ cells_from r (suc c) n

cells_past : (x : ℕ) (r : List ℕ) (c n : ℕ) → cells_from (x ∷ r) (suc c) n ≡ cells_from r c n
cells_past x r c zero = refl
cells_past x r c (suc n) = ap (λ (l : List ℕ). get_or r c 0 ∷ l) (cells_past x r (suc c) n)

all_cells : (r : List ℕ) → cells_from r 0 (length r) ≡ r
all_cells [] = refl
all_cells (x ∷ r) = ap (λ (l : List ℕ). x ∷ l) (cells_past x r 0 (length r) ∙ all_cells r)

-- a row is its cells: a fact that computes on these holds of every row
pub row_cells : (r : List ℕ) → length r ≡ ROW → r ≡ cells_from r 0 ROW
row_cells r e = sym (all_cells r) ∙ ap (cells_from r 0) e

-- ---- a row without its places

-- the two columns of places
abbrev pub is_place : ℕ → Bool
is_place c = eqb c NAME || eqb c PLACE

-- computed: of a row of ones, the columns that become 0 are these two
abbrev only_places : ℕ → Bool
only_places zero = true
only_places (suc c) = beq (eqb (get_or (without_places (replicate ROW 1)) c 0) 0) (is_place c) && only_places c

only_places_lem : only_places ROW ≡ true
only_places_lem = refl

pub length_without_places : (r : List ℕ) → length (without_places r) ≡ length r
length_without_places r = length-set (set r NAME 0) PLACE 0 ∙ length-set r NAME 0

-- the other columns stay
pub beside_places : (r : List ℕ) (c : ℕ) → is_place c ≡ false → get_or (without_places r) c 0 ≡ get_or r c 0
beside_places r c h =
    let e = (or-eq-false-eq-eq-false-and-eq-false (eqb c NAME) (eqb c PLACE)).0 h in
    get_or-set_other (set r NAME 0) PLACE c 0 0 (eqb-false c PLACE e.1) ∙ get_or-set_other r NAME c 0 0 (eqb-false c NAME e.0)

-- so rows that are the same without their places agree in every other column
pub same_besides : (r q : List ℕ) → without_places r ≡ without_places q → (c : ℕ) → is_place c ≡ false → get_or r c 0 ≡ get_or q c 0
same_besides r q e c h = sym (beside_places r c h) ∙ ap (λ (l : List ℕ). get_or l c 0) e ∙ beside_places q c h
