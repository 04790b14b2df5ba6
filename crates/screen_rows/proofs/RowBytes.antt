-- What both passes leave of each row, and of rows beside one another.
-- Assumes nothing.
use Prim.Native.Nat.{ℕ, zero, suc, ◌+◌, ◌≤◌, ◌<◌}
use mathlib.Core.Path.{◌≡◌, refl, ap, ap₂, ◌∙◌}
use mathlib.Core.Bool.{true, cond}
use mathlib.Core.List.{List, [], ◌∷◌, ◌++◌}
use native.Mathlib.Decide.{ℕ_discrete}
use native.Mathlib.Omega.{arith}
use lib.Bits.{bit_or}
use lib.ListN.{length, get_or, drop, replicate, length-append, drop_of_length-le, get_or-append}
use lib.Seq.{drop-cons, get_or_at}
use Rattle.rows.specs.Codes.{is_expression}
use Rattle.rows.specs.Columns as column
use Rattle.rows.specs.Table.{cell_at}
use Rattle.operators.specs.declared.Scalar.{Scalar}
use Rattle.screen.specs.Kinds.{is_item}
use Rattle.screen.proofs.KindLaws.{expression_no_item}
use Rattle.screen_rows.specs.Passes.{own_flags, flags_in, all_flags, items_only}

module _ (t : List ℕ) (value : ℕ → Scalar) where
  -- ---- the flags in a row

  abbrev pub flags_at : ℕ → ℕ
  flags_at i = flags_in t value (all_flags t value i) i

  length_all : (n : ℕ) → length (all_flags t value n) ≡ n
  unfolding all_flags
  length_all zero = refl
  length_all (suc n) = omega (arith, length-append (all_flags t value n) (flags_at n ∷ []), length_all n)

  flags_among : (n i : ℕ) → i < n → get_or (all_flags t value n) i 0 ≡ flags_at i
  unfolding all_flags
  flags_among zero i h = absurd (omega arith)
  flags_among (suc n) i h =
      elim (ℕ_discrete i n) [
        | yes e ↦ rw e (get_or_at (all_flags t value n) (flags_at n) [] 0 n (length_all n))
        | no d ↦
            get_or-append (all_flags t value n) (flags_at n ∷ []) 0 i (omega (arith, length_all n)) ∙ flags_among n i (omega arith)
      ]

  -- those in the row that it stands in, and its own
  pub flags_at_lem :
      (i parent : ℕ) → cell_at t i column.PARENT ≡ parent → parent < i
      → flags_at i ≡ bit_or (flags_at parent) (own_flags (cell_at t i column.CODE) (value i))
  unfolding flags_in
  flags_at_lem i parent e h =
      ap (λ (b : ℕ). bit_or b (own_flags (cell_at t i column.CODE) (value i))) (ap (λ (n : ℕ). get_or (all_flags t value i) n 0) e ∙ flags_among i parent h)

  -- ---- what is left of the rows from i on

  module _ (count : ℕ) where
    unfoldable pub rest : ℕ → List ℕ
    rest i = items_only t i (drop i (all_flags t value count))

    pub rest_all : rest 0 ≡ items_only t 0 (all_flags t value count)
    unfolding rest
    rest_all = refl

    pub rest_next : (i : ℕ) → i < count → rest i ≡ cond (is_item (cell_at t i column.CODE)) (flags_at i) 0 ∷ rest (suc i)
    unfolding rest items_only
    rest_next i h =
        let l : List ℕ = all_flags t value count in
        ap (items_only t i) (drop-cons l i 0 (omega (arith, length_all count)))
        ∙ ap (λ (b : ℕ). cond (is_item (cell_at t i column.CODE)) b 0 ∷ items_only t (suc i) (drop (suc i) l)) (flags_among count i h)

    pub rest_none : rest count ≡ []
    unfolding rest items_only
    rest_none = ap (items_only t count) (drop_of_length-le (all_flags t value count) {i = count} (omega (arith, length_all count)))

    -- rows of expressions have 0
    pub rest_expressions :
        (n i j : ℕ) → j ≡ i + n → j ≤ count → ((k : ℕ) → i ≤ k → k < j → is_expression (cell_at t k column.CODE) ≡ true)
        → rest i ≡ replicate n 0 ++ rest j
    rest_expressions zero i j e h parts = let z : i ≡ j = omega arith in rw z
    rest_expressions (suc n) i j e h parts =
        rest_next i (omega arith)
        ∙ ap₂ (λ (b : ℕ) (l : List ℕ). b ∷ l)
        (rw (expression_no_item (cell_at t i column.CODE) (parts i (omega arith) (omega arith))))
        (rest_expressions n (suc i) j (omega arith) h (λ k a b. parts k (omega arith) b))
