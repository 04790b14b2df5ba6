-- Numbering the questions of a table, as the code does it.
use Prim.Native.Nat.{ℕ, ◌+◌, ◌-◌, ◌≤◌, ◌<◌}
use mathlib.Core.Path.{◌≡◌, refl, sym, ap, ◌∙◌}
use mathlib.Core.Bool.{Bool, true, false, ◌&&◌}
use mathlib.Core.List.{List, [], ◌∷◌}
use native.Mathlib.Omega.{arith}
use borrow.Author.Tests.{eqb-true, eqb-false}
use lib.Dec.{eqb}
use lib.ListN.{length, get_or, set, length-set}
use lib.Seq.{set-get_or}
use Rattle.numbers.specs.Numbers.{number_limit, with_used, first_free, given, given_map}
use Rattle.numbers.proofs.Ranges.{and_yes}
use Rattle.numbers.proofs.Giving.{map_end, given_kept, map_kept, given_next, map_next, given_none, map_none}
use Rattle.rows.specs.Codes.{is_question}
use Rattle.rows.specs.Columns as column
use Rattle.rows.specs.Table.{row_at, with_row, with_cell, cell_at}
use Rattle.rows.specs.Rows.{rows_from, put}
use Rattle.rows.proofs.RowLaws.{length_row, length_with_row, with_own_row}
use Rattle.rows.proofs.RunLaws.{rows_next, rows_end, put_own}
use Rattle.finish.specs.Finish.{is_question_row, owns_in, with_owns}
use Rattle.finish.proofs.RowLoops.{put_none, put_cons, rows_after}

-- ---- the first row

module _ (r : List ℕ) (rs : List (List ℕ)) where
  pub owns_question : is_question_row r ≡ true → owns_in (r ∷ rs) ≡ get_or r column.OWN 0 ∷ owns_in rs
  unfolding owns_in
  owns_question e = rw e

  pub owns_other : is_question_row r ≡ false → owns_in (r ∷ rs) ≡ owns_in rs
  unfolding owns_in
  owns_other e = rw e

  pub with_question : (n : ℕ) (ns : List ℕ) → is_question_row r ≡ true → with_owns (n ∷ ns) (r ∷ rs) ≡ set r column.OWN n ∷ with_owns ns rs
  unfolding with_owns
  with_question n ns e = rw e

  pub with_other : (ns : List ℕ) → is_question_row r ≡ false → with_owns ns (r ∷ rs) ≡ r ∷ with_owns ns rs
  unfolding with_owns
  with_other ns e = rw e

owns_none : owns_in [] ≡ []
unfolding owns_in
owns_none = refl

with_none : (ns : List ℕ) → with_owns ns [] ≡ []
unfolding with_owns
with_none ns = refl

-- each question with its own number
with_same : (rs : List (List ℕ)) → with_owns (owns_in rs) rs ≡ rs
with_same [] = with_none (owns_in [])
with_same (r ∷ rs) = go (is_question_row r) refl (with_same rs)
  where
    go : (b : Bool) → is_question_row r ≡ b → with_owns (owns_in rs) rs ≡ rs → with_owns (owns_in (r ∷ rs)) (r ∷ rs) ≡ r ∷ rs
    go true e h = rw (owns_question r rs e, with_question r rs (get_or r column.OWN 0) (owns_in rs) e, set-get_or r column.OWN 0, h)
    go false e h = rw (owns_other r rs e, with_other r rs (owns_in rs) e, h)

-- ---- the loop of `number_rows`: numbering the rows from i on comes to the same table and map

pub record Numbering (ws₀ t₀ : List ℕ) (n : ℕ) (ws t : List ℕ) (at i : ℕ) : Type 0 where
  pub inside : i ≤ n
  pub long : length t ≡ length t₀
  pub table : put t₀ 0 (with_owns (given ws₀ 1 (owns_in (rows_from t₀ 0 n))) (rows_from t₀ 0 n)) ≡ put t i (with_owns (given ws at (owns_in (rows_from t i (n - i)))) (rows_from t i (n - i)))
  pub map : given_map ws₀ 1 (owns_in (rows_from t₀ 0 n)) ≡ given_map ws at (owns_in (rows_from t i (n - i)))

pub numbering_start : (ws t : List ℕ) (n : ℕ) → Numbering ws t n ws t 1 0
numbering_start ws t n = let e : n - 0 ≡ n = omega arith in record { inside = omega arith; long = refl; table = rw e; map = rw e }

module _ {ws₀ t₀ ws t : List ℕ} {n at i : ℕ} (v : Numbering ws₀ t₀ n ws t at i) where
  -- the final table and map
  abbrev Answer : Type 0
  Answer = (t ≡ put t₀ 0 (with_owns (given ws₀ 1 (owns_in (rows_from t₀ 0 n))) (rows_from t₀ 0 n))) × (ws ≡ given_map ws₀ 1 (owns_in (rows_from t₀ 0 n)))

  pub numbering_end : n ≤ i → Answer
  numbering_end h = (
    sym (v.table ∙ rw (rows_end t i n h, with_none (given ws at (owns_in []))) (put_none t i)),
    sym (v.map ∙ rw (rows_end t i n h, owns_none) (map_end ws at)),
  )

  -- no number is left
  pub numbering_none : {m : ℕ} → m ≡ first_free ws at → number_limit ≤ m → Answer
  numbering_none e h =
      let rs = rows_from t i (n - i) in (
        sym (v.table ∙ rw (given_none ws at (owns_in rs) e h, with_same rs) (put_own t i (n - i))),
        sym (v.map ∙ map_none ws at (owns_in rs) e h),
      )

  module _ (h : i < n) {k q : ℕ} (e : k ≡ cell_at t i column.CODE) (f : q ≡ cell_at t i column.OWN) {b : Bool} (g : b ≡ is_question k) where
    abbrev rest : List (List ℕ)
    rest = rows_from t (i + 1) (n - (i + 1))

    question : b ≡ is_question_row (row_at t i)
    question = g ∙ ap is_question e

    -- a question that has a number, or another row
    pub numbering_kept : (b && eqb q 0) ≡ false → Numbering ws₀ t₀ n ws t at (i + 1)
    numbering_kept y = go b refl y
      where
        go : (c : Bool) → b ≡ c → (c && eqb q 0) ≡ false → Numbering ws₀ t₀ n ws t at (i + 1)
        go true d z =
            let own : ℕ = cell_at t i column.OWN in
            let yes : is_question_row (row_at t i) ≡ true = sym question ∙ d in
            let some : own ≡ 0 → ⊥ = λ p. eqb-false q 0 z (f ∙ p) in
            record {
              inside = omega arith;
              long = v.long;
              table = v.table
                  ∙ rw (rows_next t i n h, owns_question (row_at t i) rest yes, given_kept ws at (owns_in rest) some, with_question (row_at t i) rest own (given ws at (owns_in rest)) yes, set-get_or (row_at t i) column.OWN 0)
                  (put_cons t i (row_at t i) (with_owns (given ws at (owns_in rest)) rest) ∙ rw (with_own_row t i));
              map = v.map ∙ rw (rows_next t i n h, owns_question (row_at t i) rest yes) (map_kept ws at (owns_in rest) some);
            }
        go false d z =
            let other : is_question_row (row_at t i) ≡ false = sym question ∙ d in
            record {
              inside = omega arith;
              long = v.long;
              table = v.table
                  ∙ rw (rows_next t i n h, owns_other (row_at t i) rest other, with_other (row_at t i) rest (given ws at (owns_in rest)) other)
                  (put_cons t i (row_at t i) (with_owns (given ws at (owns_in rest)) rest) ∙ rw (with_own_row t i));
              map = v.map ∙ rw (rows_next t i n h, owns_other (row_at t i) rest other);
            }

    -- a question that has none gets the number m
    pub numbering_given : (b && eqb q 0) ≡ true → {m : ℕ} {t' ws' : List ℕ} → m ≡ first_free ws at → m < number_limit → t' ≡ with_cell t i column.OWN m → ws' ≡ with_used ws m
        → Numbering ws₀ t₀ n ws' t' (m + 1) (i + 1)
    unfolding with_cell
    numbering_given y {m} {t'} {ws'} free l c d =
        let both = and_yes b (eqb q 0) y in
        let yes : is_question_row (row_at t i) ≡ true = sym question ∙ both.0 in
        let none : cell_at t i column.OWN ≡ 0 = sym f ∙ eqb-true q 0 both.1 in
        let r : List ℕ = set (row_at t i) column.OWN m in
        let wide : length r ≡ column.ROW = length-set (row_at t i) column.OWN m ∙ length_row t i in
        let after : List (List ℕ) = rows_from (with_row t i r) (i + 1) (n - (i + 1)) in
        let split : rows_from t i (n - i) ≡ row_at t i ∷ after = rows_after t i n r wide h in
        rw (c, d)
        record {
          inside = omega arith;
          long = length_with_row t i r wide ∙ v.long;
          table = v.table
              ∙ rw (split, owns_question (row_at t i) after yes, given_next ws at (owns_in after) none free l, with_question (row_at t i) after m (given (with_used ws m) (m + 1) (owns_in after)) yes)
              (put_cons t i r (with_owns (given (with_used ws m) (m + 1) (owns_in after)) after));
          map = v.map ∙ rw (split, owns_question (row_at t i) after yes) (map_next ws at (owns_in after) none free l);
        }
