-- The rows of a screen are those of the table in which its statements are laid.
-- Assumes nothing.
use Prim.Native.Nat.{ℕ, zero, suc, ◌+◌, ◌-◌, ◌<◌}
use mathlib.Core.Path.{◌≡◌, sym, ap, ◌∙◌}
use mathlib.Core.Bool.{true, true≢false}
use mathlib.Core.List.{List}
use mathlib.Core.Option.{Option, some}
use native.Mathlib.Omega.{arith}
use lib.ListN.{get_or}
use Rattle.lexemes.proofs.Lists.{either_less}
use Rattle.rows.specs.Columns as column
use Rattle.rows.specs.Table.{row_at, cell_at}
use Rattle.ll1.proofs.Basics.{clash}
use Rattle.formulas.specs.Formula.{Formula, formula}
use Rattle.laid.specs.Items.{Inner, Items}
use Rattle.laid.specs.Laid.{Stretch, Inside, inside_plain, inside_expressed, Laid, laid_done, laid_item}
use Rattle.evaluate.specs.Spells.{Spells, spells_number, spells_constant, spells_question, spells_rule, spells_not, spells_binary}
use Rattle.evaluate.proofs.Theorems.{spelled}
use Rattle.screen.specs.Kinds.{is_item}
use Rattle.screen.specs.Screen.{Screen, expression_of, screen_of}
use Rattle.screen.specs.Bytes.{formula_rows, expression_rows}
use Rattle.screen.specs.Round.{size, Stands, first, ItemAt}
use Rattle.screen_rows.specs.StatementRow.{ExpressionAfter, StatementRow}
use Rattle.screen.proofs.KindLaws.{expression_no_item}
use Rattle.screen.proofs.RowLaws.{stands_cases, in_item, after_item}

-- rows that spell an expression are as many as it has
rows_spelled : {t : List ℕ} {i j : ℕ} {e : Formula} → Spells t i e j → j ≡ i + formula_rows e
unfolding formula_rows
rows_spelled (spells_number k a) = omega arith
rows_spelled (spells_constant c k) = omega arith
rows_spelled (spells_question k a) = omega arith
rows_spelled (spells_rule k a) = omega arith
rows_spelled (spells_not s k) = omega (arith, rows_spelled s)
rows_spelled (spells_binary o s u k) = omega (arith, rows_spelled s, rows_spelled u)

module _ (t : List ℕ) (count : ℕ) (found : ℕ → List ℕ) where
  pub inside_rows : {i j : ℕ} {x : Inner} → Inside t count found i x j → j ≡ i + expression_rows (expression_of found x)
  inside_rows inside_plain = omega arith
  inside_rows (inside_expressed spans) = rows_spelled (spelled spans)

  -- there are as many
  pub laid_size : {parent i m : ℕ} {s : Items} → Laid t count found parent i s m → m ≡ i + size (screen_of found s)
  unfolding screen_of size
  laid_size laid_done = omega arith
  laid_size (laid_item row par room stretch inside a stops b) = omega (arith, inside_rows inside, laid_size a, laid_size b)

  -- a statement of the screen has its row in the table
  own_row :
      {i j p : ℕ} {x : Inner} → row_at t i ≡ found p → i < count → Stretch t count (suc i) j → Inside t count found (suc i) x j
      → StatementRow t count i (get_or (found p) column.CODE 0) (expression_of found x)
  own_row {i} {j} row room stretch inside =
      record { inside = room; code_is = ap (λ (r : List ℕ). get_or r column.CODE 0) row; expression = after inside stretch }
    where
      after :
          {i j : ℕ} {x : Inner} → Inside t count found (suc i) x j → Stretch t count (suc i) j
          → (e : Formula) → expression_of found x ≡ some e → ExpressionAfter t count i e
      after inside_plain s e q = clash cc
      after {j = j} (inside_expressed {e = y} spans) s e q =
          let same : formula found y ≡ e = cc in
          record { end = j; stretch = s; spells = rw same at (spelled spans) }

  pub stands_laid :
      {parent i m : ℕ} {s : Items} → Laid t count found parent i s m
      → {code at row : ℕ} {e : Option Formula} {inner : Screen} → Stands code e inner at (screen_of found s) → row ≡ i + at → StatementRow t count row code e
  unfolding screen_of
  stands_laid laid_done st w = elim st [ ]
  stands_laid {i = i} (laid_item row par room stretch inside a stops b) {row = n} st w =
      stands_cases st
      (λ z c e x. let here : n ≡ i = omega arith in rw (here, c, e) (own_row row room stretch inside))
      (λ at u q. stands_laid a u (omega (arith, inside_rows inside)))
      (λ at u q. stands_laid b u (omega (arith, inside_rows inside, laid_size a)))

  -- and a row of the table that is an item's is that of an item of the screen
  pub item_laid :
      {parent i m : ℕ} {s : Items} → Laid t count found parent i s m
      → (row : ℕ) → i + row < m → is_item (cell_at t (i + row) column.CODE) ≡ true → ItemAt row (screen_of found s)
  unfolding screen_of
  item_laid laid_done row h item = absurd (omega arith)
  item_laid {i = i} (laid_item r par room stretch inside a stops b) zero h item =
      let w : i + 0 ≡ i = omega arith in
      record { code = _; expression = _; inner = _; stands = first; item = rw (w, r) at item }
  item_laid {i = i} (laid_item {j = j} {k = k} r par room stretch inside a stops b) (suc n) h item =
      let row : ℕ = i + suc n in
      either_less row j
      (λ l. absurd (true≢false (sym item ∙ expression_no_item (cell_at t row column.CODE) (stretch.within row (omega arith) l))))
      (λ l. either_less row k
      (λ m.
      let w : row ≡ j + (row - j) = omega arith in
      in_item (omega (arith, inside_rows inside)) (item_laid a (row - j) (omega arith) (rw w at item)))
      (λ m.
      let w : row ≡ k + (row - k) = omega arith in
      after_item (omega (arith, inside_rows inside, laid_size a)) (item_laid b (row - k) (omega arith) (rw w at item))))
