-- When a stage finds no fault: none in each row, and so none in rows that are like rows without one.
-- Assumes nothing.
use mathlib.Core.Path.{◌≡◌, refl}
use mathlib.Core.List.{List, [], ◌∷◌, ◌++◌}
use mathlib.Core.Bool.{Bool, true, false, not, ◌&&◌}
use Prim.Native.Nat.{ℕ}
use Rattle.ll1.proofs.Basics.{clash, append_empty}
use Rattle.answers.specs.Rows.{Draft}
use Rattle.answers.specs.Stages.{fault_if, faults_after}
use Rattle.answers.proofs.Faults.{no_fault_lem}
use Rattle.sound.proofs.Lists.{All, none, more}
use Rattle.again.specs.Matches.{Pairs, no_pairs, pair}

-- two faults
pub no_faults : (a b : Bool) (m n : ℕ) → fault_if a m ++ fault_if b n ≡ [] → (a ≡ false) × (b ≡ false)
no_faults a b m n e = let t = append_empty (fault_if a m) (fault_if b n) e in (no_fault_lem a m t.0, no_fault_lem b n t.1)

pub faults_none : {a b : Bool} (m n : ℕ) → a ≡ false → b ≡ false → fault_if a m ++ fault_if b n ≡ []
faults_none m n e f = rw (e, f)

-- a test with a condition
pub passed : (a b : Bool) → a && not b ≡ false → a ≡ true → b ≡ true
passed true true e h = refl
passed true false e h = clash cc
passed false b e h = clash cc

-- ---- all rows

module _ (f : List Draft → Draft → List ℕ) where
  -- where each row by itself tells its faults
  pub each_clean : ((before : List Draft) (d : Draft) → f before d ≡ f [] d) → {ds : List Draft} (before : List Draft) → faults_after f before ds ≡ [] → All (λ d. f [] d ≡ []) ds
  unfolding faults_after
  each_clean h {ds = []} before e = none
  each_clean h {ds = d ∷ ds} before e =
      let t = append_empty (f before d) _ e in
      more {x = d} (rw (← h before d) t.0) (each_clean h (d ∷ before) t.1)

  pub clean_each : ((before : List Draft) (d : Draft) → f before d ≡ f [] d) → {ds : List Draft} (before : List Draft) → All (λ d. f [] d ≡ []) ds → faults_after f before ds ≡ []
  unfolding faults_after
  clean_each h before none = refl
  clean_each h before (more {x = d} e r) = rw (h before d, e) (clean_each h (d ∷ before) r)

  -- rows that are like others
  pub clean_like :
      {P : Draft → Draft → Type 0}
      → ((before' before : List Draft) (d' d : Draft) → Pairs P before' before → P d' d → f before d ≡ [] → f before' d' ≡ [])
      → {before' before ds' ds : List Draft} → Pairs P before' before → Pairs P ds' ds → faults_after f before ds ≡ [] → faults_after f before' ds' ≡ []
  unfolding faults_after
  clean_like h b no_pairs e = refl
  clean_like h {before' = before'} {before = before} b (pair {a = d'} {b = d} p r) e =
      let t = append_empty (f before d) _ e in
      rw (h before' before d' d b p t.0) (clean_like h (pair p b) r t.1)
