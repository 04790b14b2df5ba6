-- The rows of a table as drafts: their cells, and a run of them from either end.
use Prim.Native.Nat.{ℕ, zero, suc, ◌+◌, ◌-◌, ◌≤◌, ◌<◌}
use mathlib.Core.Path.{◌≡◌, refl, sym, ap, ◌∙◌}
use mathlib.Core.Logic.{◌≢◌}
use mathlib.Core.Bool.{Bool, true, false, ◌||◌}
use mathlib.Core.List.{List, [], ◌∷◌, ◌++◌}
use native.Mathlib.Nat.{add-zero}
use native.Mathlib.Omega.{arith}
use borrow.Author.Tests.{ltb-true, lt-ltb}
use lib.Dec.{ltb}
use lib.ListN.{get_or, set}
use lib.Seq.{get_or-set_other}
use Rattle.rows.specs.Columns as column
use Rattle.rows.specs.Draft.{low_of, mark_of}
use Rattle.rows.specs.Marks.{marked}
use Rattle.rows.specs.Table.{cell_at}
use Rattle.std.specs.Prelude.{Option, Some, None}
use Rattle.std.specs.Option.{is_some}
use Rattle.answers.specs.Rows.{Draft}
use Rattle.answers.specs.Stages.{cell}
use Rattle.answers.specs.Drafts.{decoded, drafts_from}
use Rattle.drafts.specs.Faults.{draft_at}

-- ---- cells

-- a column whose cells hold no mark
abbrev pub unmarked : ℕ → Bool
unmarked c = ltb c column.FIRST || ltb column.FLAGS c

pub out_of_marked : (c : ℕ) → unmarked c ≡ true → column.FIRST ≤ c → c ≤ column.FLAGS → ⊥
out_of_marked c e h k = go (ltb c column.FIRST) refl e
  where
    go : (b : Bool) → ltb c column.FIRST ≡ b → (b || ltb column.FLAGS c) ≡ true → ⊥
    go true b f = omega (arith, ltb-true c column.FIRST b)
    go false b f = omega (arith, ltb-true column.FLAGS c f)

pub cell_decoded : (r : List ℕ) (c : ℕ) → unmarked c ≡ true → get_or r c 0 ≡ cell c (decoded r)
unfolding decoded
cell_decoded r c e =
    let u = set r column.FIRST (low_of (get_or r column.FIRST 0)) in
    let v = set u column.SECOND (low_of (get_or r column.SECOND 0)) in
    let other : (k : ℕ) → column.FIRST ≤ k → k ≤ column.FLAGS → c ≢ k = λ k h l f. out_of_marked c e (omega arith) (omega arith) in
    sym (get_or-set_other v column.FLAGS c (low_of (get_or r column.FLAGS 0)) 0 (other column.FLAGS (omega arith) (omega arith))
    ∙ get_or-set_other u column.SECOND c (low_of (get_or r column.SECOND 0)) 0 (other column.SECOND (omega arith) (omega arith))
    ∙ get_or-set_other r column.FIRST c (low_of (get_or r column.FIRST 0)) 0 (other column.FIRST (omega arith) (omega arith)))

module _ (t : List ℕ) (i : ℕ) where
  -- what code reads in an unmarked column
  pub cell_read : (c : ℕ) → unmarked c ≡ true → {v : ℕ} → v ≡ cell_at t i c → v ≡ cell c (draft_at t i)
  cell_read c e r = r ∙ cell_decoded _ c e

  -- the marks
  pub own_read : mark_of (cell_at t i column.FIRST) ≡ (draft_at t i).own_at
  unfolding decoded
  own_read = refl

  pub limit_read : mark_of (cell_at t i column.SECOND) ≡ (draft_at t i).limit_at
  unfolding decoded
  limit_read = refl

  pub default_read : mark_of (cell_at t i column.FLAGS) ≡ (draft_at t i).default_at
  unfolding decoded
  default_read = refl

-- a mark that is there
pub marked_some : (place : Option ℕ) → is_some place ≡ ltb 0 (marked place)
marked_some None = refl
marked_some (Some p) = sym (lt-ltb 0 (p + 1) (omega arith))

-- ---- runs of rows, as a loop over the rows below n has them

module _ (t : List ℕ) where
  pub drafts_start : (n : ℕ) → drafts_from t 0 n ≡ drafts_from t 0 (n - 0)
  drafts_start n = let e : n - 0 ≡ n = omega arith in rw e

  pub drafts_next : (i n : ℕ) → i < n → drafts_from t i (n - i) ≡ draft_at t i ∷ drafts_from t (i + 1) (n - (i + 1))
  unfolding drafts_from
  drafts_next i n h = let e : n - i ≡ suc (n - (i + 1)) = omega arith in rw e

  pub drafts_end : (i n : ℕ) → n ≤ i → drafts_from t i (n - i) ≡ []
  unfolding drafts_from
  drafts_end i n h = let e : n - i ≡ 0 = omega arith in rw e

  -- one row more at the end
  drafts_snoc : (n i : ℕ) → drafts_from t i (n + 1) ≡ drafts_from t i n ++ (draft_at t (i + n) ∷ [])
  unfolding drafts_from
  drafts_snoc zero i = rw (add-zero i)
  drafts_snoc (suc n) i =
      let e : i + suc n ≡ i + 1 + n = omega arith in
      let f : suc n + 1 ≡ suc (n + 1) = omega arith in
      rw (e, f) (ap (λ (ds : List Draft). draft_at t i ∷ ds) (drafts_snoc n (i + 1)))

  pub drafts_last : (i n : ℕ) → i ≤ n → drafts_from t i (n + 1 - i) ≡ drafts_from t i (n - i) ++ (draft_at t n ∷ [])
  drafts_last i n h =
      let e : n + 1 - i ≡ n - i + 1 = omega arith in
      let f : n ≡ i + (n - i) = omega arith in
      rw (e, drafts_snoc (n - i) i, ← f)
