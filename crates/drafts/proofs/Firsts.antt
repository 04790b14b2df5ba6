-- The first of the marks at fault, put together from those of parts of the rows.
use Prim.Native.Nat.{ℕ, ◌<◌}
use mathlib.Core.Path.{◌≡◌, refl}
use mathlib.Core.Bool.{Bool, true, false, cond}
use mathlib.Core.List.{List, [], ◌∷◌, ◌++◌}
use native.Mathlib.Omega.{arith}
use borrow.Author.Tests.{ne_eqb}
use lib.Dec.{eqb}
use Rattle.answers.specs.Rows.{Draft}
use Rattle.answers.specs.Stages.{place_of, fault_if, faults_after}
use Rattle.answers.specs.Answer.{Answer, stage, refuses}
use Rattle.drafts.specs.Faults.{first_fault}
use Rattle.drafts.specs.Sound.{SoundRow, AllSound, no_rows, add_row, First, none, some}

-- a mark, or where there is none another
abbrev pub or_else : ℕ → ℕ → ℕ
or_else m n = cond (eqb m 0) n m

pub first_append : {m n : ℕ} {l k : List ℕ} → First m l → First n k → First (or_else m n) (l ++ k)
first_append none f = f
first_append {n = n} (some {m = m} h) f = rw (ne_eqb m 0 (λ e. omega arith)) (some h)

pub first_if : (b : Bool) {m : ℕ} → (b ≡ true → 0 < m) → First (cond b m 0) (fault_if b m)
first_if true h = some (h refl)
first_if false h = none

pub first_cond : (b : Bool) {m n : ℕ} {l : List ℕ} → (b ≡ true → 0 < m) → First n l → First (cond b m n) (fault_if b m ++ l)
first_cond true h f = some (h refl)
first_cond false h f = f

pub first_is : {m n : ℕ} {l : List ℕ} → m ≡ n → First n l → First m l
first_is e f = rw e f

pub first_none : {m : ℕ} {l : List ℕ} → First m l → m ≡ 0 → l ≡ []
first_none none e = refl
first_none (some h) e = absurd (omega arith)

-- a stage's answer by the first mark
pub stage_first : {m : ℕ} {l : List ℕ} → First m l → (n : ℕ) (later : Answer) → stage n l later ≡ cond (eqb m 0) later (refuses n (place_of m))
stage_first none n later = refl
stage_first (some {m = m} h) n later = rw (ne_eqb m 0 (λ e. omega arith))

-- a stage that looks at each row by itself
pub first_each : (fault : Draft → List Draft → ℕ) (faults : List Draft → Draft → List ℕ)
    → ((before : List Draft) (d : Draft) (ds : List Draft) → SoundRow d → First (fault d ds) (faults before d))
    → {ds : List Draft} → AllSound ds → (before : List Draft) → First (first_fault fault ds) (faults_after faults before ds)
unfolding first_fault faults_after
first_each fault faults h no_rows before = none
first_each fault faults h (add_row {d = d} {ds = ds} s r) before = first_append (h before d ds s) (first_each fault faults h r (d ∷ before))
