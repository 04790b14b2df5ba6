-- Where statements stand in a screen; and the bytes of a statement row by row: its own, those of its expression, of what stands in it, and of what
-- comes after it.
-- Assumes nothing.
use Prim.Native.Nat.{ℕ, zero, suc, ◌+◌, ◌-◌, ◌≤◌, ◌<◌}
use mathlib.Core.Path.{◌≡◌, refl, sym, ap, ◌∙◌}
use mathlib.Core.Bool.{Bool, cond, ◌&&◌, ◌||◌}
use mathlib.Core.List.{List, ◌++◌}
use mathlib.Core.Option.{Option}
use native.Mathlib.Omega.{arith}
use lib.ListN.{length, get_or, replicate, length-append, length-replicate, get_or-replicate, get_or-append}
use lib.Seq.{get_or-append-add}
use Rattle.lexemes.proofs.Lists.{either_less}
use Rattle.ll1.proofs.Basics.{not_true}
use Rattle.operators.specs.declared.Scalar.{Scalar}
use Rattle.formulas.specs.Formula.{Formula}
use Rattle.screen.specs.Kinds.{is_item, hides, greys, is_true, byte}
use Rattle.screen.specs.Screen.{Screen, done, statement}
use Rattle.screen.specs.Bytes.{expression_rows, value_of, bytes}
use Rattle.screen.specs.Round.{own_rows, size, Stands, first, in_it, after_it, ItemAt}

-- ---- where statements stand

-- one is the first, or stands in the first, or comes after it
pub stands_cases :
    {code k row : ℕ} {e f : Option Formula} {inner within later : Screen} {P : Type 0}
    → Stands code e inner row (statement k f within later)
    → (row ≡ 0 → code ≡ k → e ≡ f → inner ≡ within → P)
    → ((at : ℕ) → Stands code e inner at within → row ≡ own_rows f + at → P)
    → ((at : ℕ) → Stands code e inner at later → row ≡ own_rows f + (size within + at) → P)
    → P
stands_cases first one two three = one refl refl refl refl
stands_cases (in_it st q) one two three = two _ st q
stands_cases (after_it st q) one two three = three _ st q

-- its rows and those of what stands in it are among those of the screen
pub stands_inside : {code : ℕ} {e : Option Formula} {inner : Screen} {row : ℕ} {s : Screen} → Stands code e inner row s → row + (own_rows e + size inner) ≤ size s
unfolding size
stands_inside first = omega arith
stands_inside (in_it st q) = omega (arith, stands_inside st)
stands_inside (after_it st q) = omega (arith, stands_inside st)

-- an item in the first statement, and one after it
module _ {k row at : ℕ} {f : Option Formula} {within later : Screen} where
  pub in_item : row ≡ own_rows f + at → ItemAt at within → ItemAt row (statement k f within later)
  in_item q i = record { code = i.code; expression = i.expression; inner = i.inner; stands = in_it i.stands q; item = i.item }

  pub after_item : row ≡ own_rows f + (size within + at) → ItemAt at later → ItemAt row (statement k f within later)
  after_item q i = record { code = i.code; expression = i.expression; inner = i.inner; stands = after_it i.stands q; item = i.item }

-- ---- the bytes

module _ (questions rules : ℕ → Scalar) where
  -- "one byte a row"
  pub length_bytes : (s : Screen) (hidden grey : Bool) → length (bytes questions rules hidden grey s) ≡ size s
  unfolding bytes size
  length_bytes done h g = refl
  length_bytes (statement k e within later) h g = simp (length-append, length-replicate, length_bytes within, length_bytes later) (omega arith)

  module _ (h g : Bool) (k : ℕ) (e : Option Formula) (within later : Screen) where
    abbrev holds : Bool
    holds = is_true (value_of questions rules e)

    abbrev zeros : List ℕ
    zeros = replicate (expression_rows e) 0

    abbrev inner : List ℕ
    inner = bytes questions rules (h || hides k && holds) (g || greys k && holds) within

    abbrev after : List ℕ
    after = bytes questions rules h g later

    abbrev pub byte_at : ℕ → ℕ
    byte_at row = get_or (bytes questions rules h g (statement k e within later)) row 0

    pub own_byte : byte_at 0 ≡ cond (is_item k) (byte h g) 0
    unfolding bytes
    own_byte = refl

    pub expression_byte : (row : ℕ) → 0 < row → row < own_rows e → byte_at row ≡ 0
    unfolding bytes
    expression_byte zero l h = absurd (omega arith)
    expression_byte (suc r) l h =
        get_or-append zeros _ 0 r (omega (arith, length-replicate {A = ℕ} (expression_rows e) 0))
        ∙ get_or-replicate (expression_rows e) r 0 0 (omega arith)

    -- past its own rows
    past : (r : ℕ) → byte_at (own_rows e + r) ≡ get_or (inner ++ after) r 0
    unfolding bytes
    past r =
        let n : length zeros ≡ expression_rows e = length-replicate (expression_rows e) 0 in
        let z : own_rows e + r ≡ suc (length zeros + r) = omega arith in
        rw z (get_or-append-add zeros (inner ++ after) r 0)

    inner_size : length inner ≡ size within
    inner_size = length_bytes within (h || hides k && holds) (g || greys k && holds)

    pub inner_byte : (row at : ℕ) → row ≡ own_rows e + at → at < size within → byte_at row ≡ get_or inner at 0
    inner_byte row at q l = ap byte_at q ∙ past at ∙ get_or-append inner after 0 at (omega (arith, inner_size))

    pub later_byte : (row at : ℕ) → row ≡ own_rows e + (size within + at) → byte_at row ≡ get_or after at 0
    later_byte row at q =
        ap byte_at q
        ∙ past (size within + at)
        ∙ ap (λ (n : ℕ). get_or (inner ++ after) (n + at) 0) (sym inner_size)
        ∙ get_or-append-add inner after at 0

  -- ---- 0 of the rows of an expression, and of all rows where no item stands

  pub expression_zero :
      {code : ℕ} {e : Option Formula} {inner : Screen} {at row : ℕ} {s : Screen} → Stands code e inner at s → at < row → row < at + own_rows e
      → (h g : Bool) → get_or (bytes questions rules h g s) row 0 ≡ 0
  expression_zero {row = row} (first {later = later}) l m h g = expression_byte h g _ _ _ later row l (omega arith)
  expression_zero {row = row} (in_it {k = k} {f = f} {within = within} {later = later} st q) l m h g =
      inner_byte h g k f within later row (row - own_rows f) (omega arith) (omega (arith, stands_inside st))
      ∙ expression_zero st (omega arith) (omega arith) _ _
  expression_zero {row = row} (after_it {k = k} {f = f} {within = within} {later = later} st q) l m h g =
      later_byte h g k f within later row (row - (own_rows f + size within)) (omega arith)
      ∙ expression_zero st (omega arith) (omega arith) h g

  pub others_zero : (s : Screen) (row : ℕ) → (ItemAt row s → ⊥) → (h g : Bool) → get_or (bytes questions rules h g s) row 0 ≡ 0
  unfolding bytes
  others_zero done row no_item h g = refl
  others_zero (statement k f within later) zero no_item h g =
      rw (not_true (is_item k) (λ e. no_item (record { code = k; expression = f; inner = within; stands = first; item = e })))
  others_zero (statement k f within later) (suc r) no_item h g =
      either_less (suc r) (own_rows f)
      (λ l. expression_byte h g k f within later (suc r) (omega arith) l)
      (λ l. either_less (suc r) (own_rows f + size within)
      (λ m.
      let at : ℕ = suc r - own_rows f in
      let q : suc r ≡ own_rows f + at = omega arith in
      inner_byte h g k f within later (suc r) at q (omega arith)
      ∙ others_zero within at (λ i. no_item (in_item q i)) _ _)
      (λ m.
      let at : ℕ = suc r - (own_rows f + size within) in
      let q : suc r ≡ own_rows f + (size within + at) = omega arith in
      later_byte h g k f within later (suc r) at q
      ∙ others_zero later at (λ i. no_item (after_item q i)) h g))
