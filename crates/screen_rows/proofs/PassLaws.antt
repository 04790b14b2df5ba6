-- The two passes over the rows, as the loops go on.
-- Assumes nothing.
use Prim.Native.Nat.{ℕ, suc, ◌+◌, ◌≤◌, ◌<◌}
use mathlib.Core.Path.{◌≡◌, refl, sym, ap, ap₂, ◌∙◌}
use mathlib.Core.Bool.{true, false, cond}
use mathlib.Core.List.{List, [], ◌∷◌, ◌++◌, append_assoc, append-nil}
use native.Mathlib.Numerals.{add-one}
use native.Mathlib.Omega.{arith}
use lib.ListN.{length, get_or, set, take, drop, length-set}
use lib.Seq.{take_all, take-suc-set, drop-cons, drop-set-lt, drop-length}
use Rattle.rows.specs.Columns as column
use Rattle.rows.specs.Table.{cell_at}
use Rattle.operators.specs.declared.Scalar.{Scalar}
use Rattle.screen.specs.Kinds.{is_item}
use Rattle.screen_rows.specs.Passes.{flags_in, all_flags, items_only}

-- ---- the first pass: the bytes of the rows passed are the flags in them

-- `value` gives the value of the expression that follows a row, by the count of rows
module _ (t : List ℕ) (value : ℕ → ℕ → Scalar) where
  pub record Flagging (out₀ out : List ℕ) (row : ℕ) : Type 0 where
    pub inside : row ≤ length out₀
    pub size : length out ≡ length out₀
    pub same : take row out ≡ all_flags t (value (length out₀)) row

  pub flagging_start : (out : List ℕ) → Flagging out out 0
  unfolding all_flags
  flagging_start out = record { inside = omega arith; size = refl; same = refl }

  module _ {out₀ out : List ℕ} {row : ℕ} (f : Flagging out₀ out row) where
    pub flagging_next :
        {flags : ℕ} → row < length out₀ → flags ≡ flags_in t (value (length out)) (take row out) row → Flagging out₀ (set out row flags) (row + 1)
    unfolding all_flags
    flagging_next {flags} h e =
        record {
          inside = omega arith;
          size = length-set out row flags ∙ f.size;
          same =
              rw (add-one, take-suc-set out row flags (omega (arith, f.size)), f.same)
              (ap (λ (b : ℕ). all_flags t (value (length out₀)) row ++ (b ∷ []))
              (e ∙ ap₂ (λ (n : ℕ) (l : List ℕ). flags_in t (value n) l row) f.size f.same));
        }

    pub flagging_end : length out₀ ≤ row → out ≡ all_flags t (value (length out₀)) (length out₀)
    flagging_end h =
        let z : row ≡ length out₀ = omega (arith, f.inside) in
        sym (take_all row out (omega (arith, f.size))) ∙ f.same ∙ ap (all_flags t (value (length out₀))) z

-- ---- the second pass: what is left of the rows is still to be kept or not

module _ (t : List ℕ) where
  pub record Keeping (out₀ out : List ℕ) (row : ℕ) : Type 0 where
    pub inside : row ≤ length out₀
    pub size : length out ≡ length out₀
    pub same : take row out ++ items_only t row (drop row out) ≡ items_only t 0 out₀

  pub keeping_start : (out : List ℕ) → Keeping out out 0
  keeping_start out = record { inside = omega arith; size = refl; same = refl }

  module _ {out₀ out : List ℕ} {row : ℕ} (k : Keeping out₀ out row) where
    pub keeping_next :
        {byte : ℕ} → row < length out₀ → byte ≡ cond (is_item (cell_at t row column.CODE)) (get_or out row 0) 0 → Keeping out₀ (set out row byte) (row + 1)
    unfolding items_only
    keeping_next {byte} h e =
        let l : row < length out = omega (arith, k.size) in
        let rest : items_only t row (drop row out) ≡ byte ∷ items_only t (suc row) (drop (suc row) out) =
        ap (items_only t row) (drop-cons out row 0 l) ∙ ap (λ (b : ℕ). b ∷ items_only t (suc row) (drop (suc row) out)) (sym e) in
        record {
          inside = omega arith;
          size = length-set out row byte ∙ k.size;
          same =
              rw (add-one, take-suc-set out row byte l, drop-set-lt (suc row) out row byte (omega arith))
              (append_assoc (take row out) (byte ∷ []) (items_only t (suc row) (drop (suc row) out))
              ∙ ap (λ (z : List ℕ). take row out ++ z) (sym rest)
              ∙ k.same);
        }

    -- a row that is no item's, and one that is
    pub keeping_none : row < length out₀ → false ≡ is_item (cell_at t row column.CODE) → Keeping out₀ (set out row 0) (row + 1)
    keeping_none h e = keeping_next h (rw (sym e) refl)

    pub keeping_item : row < length out₀ → true ≡ is_item (cell_at t row column.CODE) → Keeping out₀ (set out row (get_or out row 0)) (row + 1)
    keeping_item h e = keeping_next h (rw (sym e) refl)

    pub keeping_end : length out₀ ≤ row → out ≡ items_only t 0 out₀
    unfolding items_only
    keeping_end h =
        let z : row ≡ length out = omega (arith, k.inside, k.size) in
        sym (append-nil out)
        ∙ ap₂ (λ (x y : List ℕ). x ++ y) (sym (take_all row out (omega arith))) (ap (items_only t row) (sym (ap (λ (n : ℕ). drop n out) z ∙ drop-length out)))
        ∙ k.same
