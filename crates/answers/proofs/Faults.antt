-- Where a stage finds no fault, no row has one.
-- Assumes nothing.
use mathlib.Core.Path.{◌≡◌, refl}
use mathlib.Core.List.{List, [], ◌∷◌, ◌++◌}
use mathlib.Core.Bool.{Bool, true, false}
use Prim.Native.Nat.{ℕ, zero, suc, ◌<◌}
use native.Mathlib.Omega.{arith}
use lib.ListN.{length}
use Rattle.ll1.proofs.Basics.{clash, append_empty}
use Rattle.answers.specs.Rows.{Draft}
use Rattle.answers.specs.Stages.{fault_if, faults_after, row_among}

-- a fault's test
pub no_fault_lem : (b : Bool) (m : ℕ) → fault_if b m ≡ [] → b ≡ false
no_fault_lem true m e = clash cc
no_fault_lem false m e = refl

-- ---- of a stage whose faults each row tells by itself

module _ (f : Draft → List ℕ) where
  -- the first row, and the others
  pub clean_first :
      (d : Draft) (ds before : List Draft)
      → faults_after (λ b e. f e) before (d ∷ ds) ≡ [] → (f d ≡ []) × (faults_after (λ b e. f e) (d ∷ before) ds ≡ [])
  unfolding faults_after
  clean_first d ds before e = append_empty (f d) _ e

  -- each row
  pub clean_at : (ds before : List Draft) → faults_after (λ b e. f e) before ds ≡ [] → (i : ℕ) → i < length ds → f (row_among ds i) ≡ []
  clean_at [] before e i h = absurd (omega arith)
  clean_at (d ∷ ds) before e zero h = (clean_first d ds before e).0
  clean_at (d ∷ ds) before e (suc i) h = clean_at ds (d ∷ before) (clean_first d ds before e).1 i (omega arith)

  -- and the first fault is that of a row before which there is none
  pub fault_first :
      (ds before : List Draft) (i : ℕ) → i < length ds → ((j : ℕ) → j < i → f (row_among ds j) ≡ [])
      → {m : ℕ} {ms : List ℕ} → f (row_among ds i) ≡ m ∷ ms → (rest : List ℕ) × (faults_after (λ b e. f e) before ds ≡ m ∷ rest)
  unfolding faults_after
  fault_first [] before i h none e = absurd (omega arith)
  fault_first (d ∷ ds) before zero h none {ms = ms} e = (ms ++ faults_after (λ b e. f e) (d ∷ before) ds, rw e)
  fault_first (d ∷ ds) before (suc i) h none e =
      let later = fault_first ds (d ∷ before) i (omega arith) (λ j l. none (suc j) (omega arith)) e in
      (later.0, rw (none 0 (omega arith)) later.1)
