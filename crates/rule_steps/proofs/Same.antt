-- The steps of rows depend on four of their columns alone.
use Prim.Native.Nat.{ℕ, zero, suc}
use mathlib.Core.Path.{◌≡◌, refl, ap₂}
use mathlib.Core.List.{List, [], ◌∷◌, ◌++◌}
use lib.ListN.{get_or}
use Rattle.rows.specs.Columns as column
use Rattle.rule_steps.specs.Steps.{rule_round, step_in, steps_among, rule_steps}

-- two rows that are the same in these columns
pub record SameCells (r q : List ℕ) : Type 0 where
  pub code : get_or r column.CODE 0 ≡ get_or q column.CODE 0
  pub parent : get_or r column.PARENT 0 ≡ get_or q column.PARENT 0
  pub own : get_or r column.OWN 0 ≡ get_or q column.OWN 0
  pub a : get_or r column.A 0 ≡ get_or q column.A 0

-- row by row
pub data SameRows : List (List ℕ) → List (List ℕ) → Type 0 where
  no_rows : SameRows [] []
  add_row : {r q : List ℕ} {rs qs : List (List ℕ)} → SameCells r q → SameRows rs qs → SameRows (r ∷ rs) (q ∷ qs)

row_same : {rs qs : List (List ℕ)} → SameRows rs qs → (i : ℕ) → SameCells (get_or rs i []) (get_or qs i [])
row_same no_rows i = record { code = refl; parent = refl; own = refl; a = refl }
row_same (add_row c h) zero = c
row_same (add_row c h) (suc i) = row_same h i

module _ {rows rows' : List (List ℕ)} (all : SameRows rows rows') where
  pub round_same : {r q : List ℕ} → SameCells r q → rule_round rows r ≡ rule_round rows' q
  unfolding rule_round
  round_same {r} {q} c =
      let parent = row_same all (get_or q column.PARENT 0) in
      rw (c.code, c.parent, parent.code, parent.own)

  step_same : {r q : List ℕ} → SameCells r q → step_in rows r ≡ step_in rows' q
  unfolding step_in
  step_same c = rw (round_same c, c.a)

  among_same : {rs qs : List (List ℕ)} → SameRows rs qs → steps_among rows rs ≡ steps_among rows' qs
  unfolding steps_among
  among_same no_rows = refl
  among_same (add_row c h) = ap₂ ◌++◌ (step_same c) (among_same h)

  pub steps_same : rule_steps rows ≡ rule_steps rows'
  steps_same = among_same all
