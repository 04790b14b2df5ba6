-- A derivation has at most as many rows as leaves: each row has a leaf of its own.
-- Assumes nothing.
use mathlib.Core.Path.{◌≡◌, refl, ap}
use mathlib.Core.List.{List, [], ◌∷◌}
use Prim.Native.Nat.{ℕ, suc, ◌≤◌}
use native.Mathlib.Omega.{arith}
use lib.ListN.{length, length-map}
use Rattle.rows.specs.Columns as column
use Rattle.ll1.specs.Trees.{Token, token, Trees, leaves, Symbol, Fits}
use Rattle.grammar.specs.Grammar.{rules}
use Rattle.answers.specs.Rows.{drafts_of}
use Rattle.answers.specs.Stages.{cell}
use Rattle.grammar.specs.Places.{places_of, total}
use Rattle.answers.specs.RowPlaces.{tree_places}
use Rattle.grammar.proofs.Totals.{load_total}
use Rattle.answers.proofs.StatementPlaces.{tree_places_lem}
use Rattle.answers.proofs.RowWeight.{rows_light}

-- where each place weighs 1, places weigh as many as they are
count_total : (ps : List ℕ) → total (λ p. 1) ps ≡ length ps
count_total [] = refl
count_total (p ∷ ps) = omega (arith, count_total ps)

count_places : (ts : List Token) → length (places_of ts) ≡ length ts
count_places [] = refl
count_places (token k p ∷ ts) = ap suc (count_places ts)

pub rows_few : {σ : List Symbol} {f : Trees} (value : ℕ → ℕ) → Fits rules σ f → (parent at n : ℕ) → length (drafts_of value f parent at n) ≤ length (leaves f)
rows_few {f = f} value r parent at n =
    let ds = drafts_of value f parent at n in
    let all = ap length (tree_places_lem value r parent at n) in
    omega (arith, length-map ds (cell column.PLACE), all, count_total (tree_places f), rows_light (λ p. 1) r, load_total (λ p. 1) f, count_total (places_of (leaves f)), count_places (leaves f))
