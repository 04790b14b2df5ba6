-- The numbers of questions by kind: of one row, and as the loop goes on.
use Prim.Native.Nat.{ℕ, suc, ◌+◌, ◌-◌, ◌≤◌, ◌<◌}
use mathlib.Core.Path.{◌≡◌, refl, sym, ap, ◌∙◌}
use mathlib.Core.Bool.{Bool, true, false, cond}
use mathlib.Core.List.{List, [], ◌∷◌, ◌++◌}
use native.Mathlib.Omega.{arith}
use Rattle.numbers.specs.Numbers.{empty_map, used, borne, with_used, with_all_used}
use Rattle.numbers.proofs.Maps.{holds_empty, holds_all}
use Rattle.rows.specs.Columns as column
use Rattle.rows.specs.Table.{cell_at}
use Rattle.rows.specs.Rows.{rows_from}
use Rattle.question_kinds.specs.Kinds.{own_in, owns_in, own_at, table_owns}

pub used_append : (words l m : List ℕ) → with_all_used words (l ++ m) ≡ with_all_used (with_all_used words l) m
unfolding with_all_used
used_append words [] m = refl
used_append words (n ∷ l) m = used_append (with_used words n) l m

-- the kinds of rows that a test holds of
module _ (test : ℕ → Bool) where
  -- a row, by what the code reads of it
  pub row_marked :
      (words t : List ℕ) (i : ℕ) {k own : ℕ} {wanted : Bool} {now : List ℕ}
      → k ≡ cell_at t i column.CODE → own ≡ cell_at t i column.OWN → wanted ≡ test k → now ≡ cond wanted (with_used words own) words
      → now ≡ with_all_used words (own_at test t i)
  unfolding own_in with_all_used
  row_marked words t i {k} {own} {wanted} {now} e f g h =
      h ∙ rw (g, e, f) (go (test (cell_at t i column.CODE)))
    where
      go : (b : Bool) → cond b (with_used words (cell_at t i column.OWN)) words ≡ with_all_used words (cond b (cell_at t i column.OWN ∷ []) [])
      go true = refl
      go false = refl

  -- ---- the loop: the rows from i to before n

  module _ (t : List ℕ) (n : ℕ) where
    abbrev left : ℕ → List ℕ
    left i = owns_in test (rows_from t i (n - i))

    pub record Marking (words₀ words : List ℕ) (i : ℕ) : Type 0 where
      pub same : with_all_used words (left i) ≡ with_all_used words₀ (table_owns test t n)

    pub marking_start : (words : List ℕ) → Marking words words 0
    marking_start words =
        let e : n - 0 ≡ n = omega arith in
        record { same = ap (λ (m : ℕ). with_all_used words (owns_in test (rows_from t 0 m))) e }

    module _ {words₀ words : List ℕ} {i : ℕ} (v : Marking words₀ words i) where
      left_next : i < n → left i ≡ own_at test t i ++ left (i + 1)
      unfolding rows_from owns_in
      left_next h = let e : n - i ≡ suc (n - (i + 1)) = omega arith in ap (λ (m : ℕ). owns_in test (rows_from t i m)) e

      left_end : n ≤ i → left i ≡ []
      unfolding rows_from owns_in
      left_end h = let e : n - i ≡ 0 = omega arith in ap (λ (m : ℕ). owns_in test (rows_from t i m)) e

      pub marking_next : {words' : List ℕ} → i < n → words' ≡ with_all_used words (own_at test t i) → Marking words₀ words' (i + 1)
      marking_next {words'} h e =
          record {
            same =
                ap (λ (w : List ℕ). with_all_used w (left (i + 1))) e
                ∙ sym (used_append words (own_at test t i) (left (i + 1)))
                ∙ sym (ap (with_all_used words) (left_next h))
                ∙ v.same;
          }

      pub marking_end : n ≤ i → words ≡ with_all_used words₀ (table_owns test t n)
      unfolding with_all_used
      marking_end h = sym (ap (with_all_used words) (left_end h)) ∙ v.same

-- ---- what the map then holds

-- a map that was empty has a number exactly where it is the own number, from 1 up, of a row of these kinds
pub kinds_held : (test : ℕ → Bool) (t : List ℕ) (n k : ℕ) → used (with_all_used empty_map (table_owns test t n)) k ≡ borne (table_owns test t n) k
kinds_held test t n k = (holds_all {ws = empty_map} {l = []} (table_owns test t n) holds_empty).same k
