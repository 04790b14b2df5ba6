-- Rows that are the same but for their places have the same steps between rules.
-- Assumes nothing.
use Prim.Native.Nat.{ℕ}
use mathlib.Core.Path.{◌≡◌, sym, ap, ◌∙◌}
use mathlib.Core.Logic.{◌≢◌}
use mathlib.Core.List.{List, [], ◌∷◌, map}
use native.Mathlib.Omega.{arith}
use lib.ListN.{get_or, set}
use lib.Seq.{get_or-set_other}
use Rattle.rows.specs.Columns as column
use Rattle.rows.specs.Cells.{without_places}
use Rattle.rule_steps.specs.Steps.{rule_steps}
use Rattle.rule_steps.proofs.Same.{SameCells, SameRows, no_rows, add_row, steps_same}

-- a column that holds no place
kept : (r : List ℕ) (c : ℕ) → c ≢ column.NAME → c ≢ column.PLACE → get_or (without_places r) c 0 ≡ get_or r c 0
kept r c n p = get_or-set_other (set r column.NAME 0) column.PLACE c 0 0 p ∙ get_or-set_other r column.NAME c 0 0 n

same_cells : (r q : List ℕ) → without_places r ≡ without_places q → SameCells r q
same_cells r q e =
    record {
      code = same column.CODE (λ z. omega arith) (λ z. omega arith);
      parent = same column.PARENT (λ z. omega arith) (λ z. omega arith);
      own = same column.OWN (λ z. omega arith) (λ z. omega arith);
      a = same column.A (λ z. omega arith) (λ z. omega arith);
    }
  where
    same : (c : ℕ) → c ≢ column.NAME → c ≢ column.PLACE → get_or r c 0 ≡ get_or q c 0
    same c n p = sym (kept r c n p) ∙ ap (λ (x : List ℕ). get_or x c 0) e ∙ kept q c n p

same_rows : (rs qs : List (List ℕ)) → map without_places rs ≡ map without_places qs → SameRows rs qs
same_rows [] [] e = no_rows
same_rows (r ∷ rs) (q ∷ qs) e =
    let first : without_places r ≡ without_places q = cc in
    let later : map without_places rs ≡ map without_places qs = cc in
    add_row (same_cells r q first) (same_rows rs qs later)
same_rows [] (q ∷ qs) e = absurd (let z : ◌≡◌ {A = ℕ} 0 1 = cc in omega arith)
same_rows (r ∷ rs) [] e = absurd (let z : ◌≡◌ {A = ℕ} 0 1 = cc in omega arith)

pub steps_besides : (rs qs : List (List ℕ)) → map without_places rs ≡ map without_places qs → rule_steps rs ≡ rule_steps qs
steps_besides rs qs e = steps_same (same_rows rs qs e)
