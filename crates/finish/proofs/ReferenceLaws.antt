-- Writing the numbers that references find, as the code does it.
use Prim.Native.Nat.{ℕ, ◌+◌, ◌-◌, ◌≤◌, ◌<◌}
use mathlib.Core.Path.{◌≡◌, refl, sym, ap, ◌∙◌}
use mathlib.Core.Bool.{Bool, true, false, cond, ◌||◌}
use mathlib.Core.List.{List, map}
use native.Mathlib.Omega.{arith}
use borrow.Author.Tests.{eq-eqb, ne_eqb}
use lib.Dec.{eqb}
use lib.ListN.{length, get_or, set, length-set}
use Rattle.rows.specs.Codes as code
use Rattle.rows.specs.Columns as column
use Rattle.rows.specs.Table.{row_at, with_row, with_cell, cell_at}
use Rattle.rows.specs.Rows.{rows_from, put}
use Rattle.rows.proofs.RowLaws.{with_own_row}
use Rattle.rows.proofs.CellLaws.{cell_beside}
use Rattle.answers.specs.Drafts.{decoded}
use Rattle.names.specs.Names.{find_in}
use Rattle.finish.specs.Finish.{is_reference_row, number_found, resolved, table_numbered, table_resolved, table_settled}
use Rattle.finish.proofs.RowLoops.{Mapping, mapping_start, mapping_next, mapping_end}

-- ---- the number that a row finds

module _ (s es t : List ℕ) (i : ℕ) {n : ℕ} (e : n ≡ cell_at t i column.A) where
  pub number_written : (n ≡ 0 → ⊥) → n ≡ number_found s es t (row_at t i)
  unfolding number_found
  number_written z = rw (← e, ne_eqb n 0 z)

  module _ (z : n ≡ 0) {k m : ℕ} (c : k ≡ cell_at t i column.CODE) (f : m ≡ (decoded (row_at t i)).own_at) where
    pub number_none : 0 ≡ find_in s es m (eqb k code.RULE_REF) → 0 ≡ number_found s es t (row_at t i)
    unfolding number_found
    number_none g = rw (← e, eq-eqb n 0 z, ← c, ← f, ← g)

    pub number_named : (at : ℕ) → at + 1 ≡ find_in s es m (eqb k code.RULE_REF) → {o : ℕ} → o ≡ cell_at t at column.OWN → o ≡ number_found s es t (row_at t i)
    unfolding number_found
    number_named at g h = let q : at + 1 - 1 ≡ at = omega arith in rw (← e, eq-eqb n 0 z, ← c, ← f, ← g, ne_eqb (at + 1) 0 (λ y. omega arith), q) h

-- it is told by the own numbers of the table
same_number : (s es t t₀ r : List ℕ) → ((k : ℕ) → cell_at t k column.OWN ≡ cell_at t₀ k column.OWN) → number_found s es t r ≡ number_found s es t₀ r
unfolding number_found
same_number s es t t₀ r h = let at = find_in s es (decoded r).own_at (eqb (get_or r column.CODE 0) code.RULE_REF) in rw (h (at - 1))

pub length_resolved : (s es t r : List ℕ) → length r ≡ column.ROW → length (resolved s es t r) ≡ column.ROW
unfolding resolved
length_resolved s es t r l = go (is_reference_row r)
  where
    go : (b : Bool) → length (cond b (set r column.A (number_found s es t r)) r) ≡ column.ROW
    go true = length-set r column.A (number_found s es t r) ∙ l
    go false = l

-- ---- the loop of `resolve_references`: the rows before row i are done, and no own number is changed

pub record Resolving (s es t₀ : List ℕ) (n : ℕ) (t : List ℕ) (i : ℕ) : Type 0 where
  pub rows : Mapping (resolved s es t₀) t₀ n t i
  pub owns : (k : ℕ) → cell_at t k column.OWN ≡ cell_at t₀ k column.OWN

pub resolving_start : (s es t : List ℕ) (n : ℕ) → Resolving s es t n t 0
resolving_start s es t n = record { rows = mapping_start (resolved s es t) t n; owns = λ k. refl }

module _ {s es t₀ t : List ℕ} {n i : ℕ} (v : Resolving s es t₀ n t i) where
  pub resolving_end : n ≤ i → t ≡ put t₀ 0 (map (resolved s es t₀) (rows_from t₀ 0 n))
  resolving_end h = mapping_end v.rows h

  module _ (h : i < n) {k : ℕ} (c : k ≡ cell_at t i column.CODE) where
    -- the row by its test
    by_test : {b : Bool} → (eqb k code.QUESTION_REF || eqb k code.RULE_REF) ≡ b
        → resolved s es t₀ (row_at t i) ≡ cond b (set (row_at t i) column.A (number_found s es t (row_at t i))) (row_at t i)
    unfolding resolved
    by_test {b} y = rw (← c, y, same_number s es t t₀ (row_at t i) v.owns)

    pub resolving_next : (eqb k code.QUESTION_REF || eqb k code.RULE_REF) ≡ true → {m : ℕ} {t' : List ℕ} → m ≡ number_found s es t (row_at t i) → t' ≡ with_cell t i column.A m
        → Resolving s es t₀ n t' (i + 1)
    unfolding with_cell
    resolving_next y {m} {t'} e f =
        record {
          rows = mapping_next v.rows (length_resolved s es t₀) h (f ∙ rw (by_test y, e));
          owns = λ j. ap (λ (u : List ℕ). cell_at u j column.OWN) f ∙ cell_beside t i column.A m j column.OWN (λ d. omega arith) ∙ v.owns j;
        }

    pub resolving_other : (eqb k code.QUESTION_REF || eqb k code.RULE_REF) ≡ false → Resolving s es t₀ n t (i + 1)
    resolving_other y =
        record { rows = mapping_next v.rows (length_resolved s es t₀) h (sym (ap (with_row t i) (by_test y) ∙ with_own_row t i)); owns = v.owns }

-- ---- `settle`: numbering, and then this

pub settles : (s es ws t : List ℕ) (n : ℕ) {t₁ t₂ : List ℕ} → t₁ ≡ table_numbered ws t n → t₂ ≡ table_resolved s es t₁ n → t₂ ≡ table_settled s es ws t n
unfolding table_settled
settles s es ws t n one two = two ∙ ap (λ (u : List ℕ). table_resolved s es u n) one
