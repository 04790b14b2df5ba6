-- The flags in a row, by the code's tests.
-- Assumes nothing.
use Prim.Native.Nat.{ℕ, ◌≤◌, ◌<◌}
use mathlib.Core.Path.{◌≡◌, refl, sym, ap, ap₂, ◌∙◌}
use mathlib.Core.Bool.{Bool, true, false, not, and-false}
use mathlib.Core.List.{List}
use lib.Bits.{bit_or, or_zero_r}
use lib.ListN.{length, get_or, take, get_or-eq_default}
use lib.Seq.{get_or-take, length-take-le}
use borrow.Author.Tests.{not-true, not-false}
use Rattle.rows.specs.Columns as column
use Rattle.rows.specs.Table.{cell_at}
use Rattle.operators.specs.declared.Scalar.{Scalar}
use Rattle.screen.specs.Kinds.{hides, greys, is_true}
use Rattle.screen.proofs.KindLaws.{hides_only}
use Rattle.screen_rows.specs.Passes.{own_flags, flags_in}

-- ---- what a condition does itself, by what the code's calls give

module _ (code : ℕ) (v : Scalar) where
  pub flags_false : {holds : Bool} → holds ≡ is_true v → not holds ≡ true → 0 ≡ own_flags code v
  flags_false t e = rw (sym t ∙ not-true _ e, and-false (hides code), and-false (greys code))

  module _ {holds hiding : Bool} (t : holds ≡ is_true v) (e : not holds ≡ false) (h : hiding ≡ hides code) where
    pub flags_greying : hiding ≡ false → {greying : Bool} → greying ≡ greys code → greying ≡ true → 2 ≡ own_flags code v
    flags_greying d g k = rw (sym t ∙ not-false _ e, sym h ∙ d, sym g ∙ k)

  pub flags_hiding : true ≡ is_true v → true ≡ hides code → 1 ≡ own_flags code v
  flags_hiding t h = rw (sym t, sym h, hides_only code (sym h)) refl

  pub flags_none : hides code ≡ false → greys code ≡ false → 0 ≡ own_flags code v
  flags_none h g = rw (h, g)

-- ---- the byte of a row before this one

module _ (l : List ℕ) (row parent : ℕ) where
  pub before_in : parent < row → get_or l parent 0 ≡ get_or (take row l) parent 0
  before_in h = sym (get_or-take row l parent 0 h)

  pub before_out : row ≤ length l → row ≤ parent → 0 ≡ get_or (take row l) parent 0
  before_out h p = sym (get_or-eq_default (take row l) 0 (rw (length-take-le row l h) p))

-- ---- the flags in a row, by what the code's calls give

module _ (t : List ℕ) (value : ℕ → Scalar) (before : List ℕ) (i : ℕ) {code parent flags : ℕ}
    (c : code ≡ cell_at t i column.CODE) (p : parent ≡ cell_at t i column.PARENT) (f : flags ≡ get_or before parent 0) where
  outer : flags ≡ get_or before (cell_at t i column.PARENT) 0
  outer = f ∙ ap (λ (n : ℕ). get_or before n 0) p

  pub flags_plain : false ≡ hides code → false ≡ greys code → flags ≡ flags_in t value before i
  unfolding flags_in
  flags_plain h g =
      let around : ℕ = get_or before (cell_at t i column.PARENT) 0 in
      outer
      ∙ sym (or_zero_r around)
      ∙ ap (bit_or around) (flags_none code (value i) (sym h) (sym g) ∙ ap (λ (k : ℕ). own_flags k (value i)) c)

  pub flags_condition : {v : Scalar} {own : ℕ} → v ≡ value i → own ≡ own_flags code v → bit_or flags own ≡ flags_in t value before i
  unfolding flags_in
  flags_condition e o = ap₂ bit_or outer (o ∙ ap₂ own_flags c e)
