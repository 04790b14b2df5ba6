-- The rule that a ruleref finds, among drafts with and without the questions' numbers, and the number that its finished row has of it (document 02, W-203).
-- Assumes nothing.
use Prim.Native.Nat.{ℕ, suc, ◌<◌}
use native.Mathlib.Omega.{arith}
use mathlib.Core.Path.{◌≡◌, refl, sym, ap, ap₂, ◌∙◌}
use mathlib.Core.Logic.{◌≢◌}
use mathlib.Core.Bool.{Bool, true, not, cond, ◌&&◌, or-true}
use mathlib.Core.List.{List, [], ◌∷◌}
use lib.Dec.{eqb, ltb}
use lib.ListN.{length, get_or, set, length-map, length-set}
use lib.Seq.{get_or-set_same, get_or-set_other}
use borrow.Author.Tests.{eqb-true, eq-eqb, not-false}
use Rattle.lexemes.proofs.Lists.{either, and_true}
use Rattle.numbers.specs.Numbers.{numbered}
use Rattle.rows.specs.Codes as code
use Rattle.rows.specs.Columns as column
use Rattle.rows.specs.Rows.{AreRows}
use Rattle.rows.proofs.FlatLaws.{length_of_row}
use Rattle.ll1.proofs.Basics.{clash, append_empty}
use Rattle.answers.specs.Rows.{Draft, without_marks}
use Rattle.answers.specs.Stages.{cell, is, asks, writes, place_of, any, fault_if, declares, row_among, form_round, rule_named, finds, refers, in_vain, unfound}
use Rattle.answers.specs.Stages.{own_numbers, with_cell, with_numbers, numbered_rows, own_of_first, finished}
use Rattle.answers.proofs.Faults.{no_fault_lem, clean_at}
use Rattle.answers.proofs.Settling.{other_column, numbers_leave, found_row, finished_numbered}
use Rattle.answers.proofs.FoundRows.{map_at, finished_count}
use Rattle.answers.proofs.RuleNames.{same_any}
use Rattle.answers.proofs.Forms.{round_same}

module _ (s : List ℕ) where
  -- ---- what a row finds

  -- a rule of the name and the form that the row tells
  abbrev pub of_form : ℕ → ℕ → Draft → Bool
  of_form p form e = rule_named s p e && eqb (cell column.PARENT e) form

  pub finds_rule_lem : (ds : List Draft) (d : Draft) → is code.RULE_REF d ≡ true → finds s ds d ≡ of_form (place_of d.own_at) (form_round ds d)
  finds_rule_lem ds d r =
      let by : Bool → Draft → Bool =
      λ b e.
      cond b (of_form (place_of d.own_at) (form_round ds d) e)
      (cond (ltb 0 (cell column.A d)) (writes e && eqb (cell column.OWN e) (cell column.A d)) (asks e && declares s (place_of d.own_at) e)) in
      ap by r

  -- where a row names nothing in vain, a reference finds something
  pub finds_some : (ds : List Draft) (d : Draft) → in_vain s ds d ≡ [] → refers s d ≡ true → any (finds s ds d) ds ≡ true
  finds_some ds d e y =
      let forms : Bool = any (λ e. is code.FORM e && eqb (cell column.OWN e) (cell column.A d)) ds in
      let none = (append_empty (fault_if (is code.GOTO d && not forms) d.limit_at) _ e).1 in
      not-false (any (finds s ds d) ds) (sym (ap (λ (b : Bool). b && not (any (finds s ds d) ds)) y) ∙ no_fault_lem _ d.own_at none)

  -- ---- numbering leaves the names, codes and parents, and so what is found

  -- a cell that it leaves
  left : (c : ℕ) → c ≢ column.OWN → (d : Draft) (v : ℕ) → cell c (with_cell column.OWN v d) ≡ cell c d
  left c h d v = other_column d v c h

  pub rule_numbered : (p : ℕ) (d : Draft) (v : ℕ) → rule_named s p (with_cell column.OWN v d) ≡ rule_named s p d
  rule_numbered p d v = rw (left column.CODE (λ q. omega arith) d v, left column.NAME (λ q. omega arith) d v)

  module _ (ns : List ℕ) (ds : List Draft) where
    pub round_numbered : (d : Draft) → form_round (with_numbers ns ds) d ≡ form_round ds d
    round_numbered d =
        round_same (with_numbers ns ds) ds
        (numbers_leave (cell column.CODE) (left column.CODE (λ q. omega arith)) ns ds)
        (numbers_leave (cell column.PARENT) (left column.PARENT (λ q. omega arith)) ns ds)
        d d refl

    pub finds_rules : (d : Draft) → is code.RULE_REF d ≡ true → any (finds s (with_numbers ns ds) d) (with_numbers ns ds) ≡ any (finds s ds d) ds
    finds_rules d r =
        let p = place_of d.own_at in
        let f = form_round ds d in
        let alike : (e : Draft) (v : ℕ) → of_form p f (with_cell column.OWN v e) ≡ of_form p f e =
        λ e v. rw (rule_numbered p e v, left column.PARENT (λ q. omega arith) e v) in
        rw (finds_rule_lem (with_numbers ns ds) d r, finds_rule_lem ds d r, round_numbered d)
        (same_any (of_form p f) (with_numbers ns ds) ds (numbers_leave (of_form p f) alike ns ds))

  -- ---- the own number that is found

  -- that of the first row that passes a test is a row's that does
  pub first_own :
      (p : Draft → Bool) (ds : List Draft)
      → any p ds ≡ true → (j : ℕ) × (j < length ds) × (p (row_among ds j) ≡ true) × (own_of_first s p ds ≡ cell column.OWN (row_among ds j))
  unfolding any own_of_first
  first_own p [] h = clash cc
  first_own p (d ∷ ds) h =
      either (p d)
      (λ e. (0, omega arith, e, rw e))
      (λ e. let u = first_own p ds (rw e at h) in (suc u.0, omega (arith, u.1), u.2, rw e u.3))

  -- ---- the finished rows

  module _ (ds : List Draft) where
    abbrev ns : List Draft
    ns = numbered_rows ds

    -- the i-th row, and the draft that it is made of
    abbrev row : ℕ → List ℕ
    row i = get_or (finished s ds) i []

    numbered_count : length ns ≡ length ds
    unfolding numbered_rows
    numbered_count =
        sym (length-map ns (λ d. d.own_at))
        ∙ ap length (numbers_leave (λ d. d.own_at) (λ d v. refl) (numbered (own_numbers ds)) ds)
        ∙ length-map ds (λ d. d.own_at)

    -- the number that a reference finds
    abbrev look : Draft → ℕ
    look d = own_of_first s (finds s ns d) ns

    row_is : (i : ℕ) → i < length ds → row i ≡ found_row s look (row_among ns i)
    row_is i h =
        ap (λ (rs : List (List ℕ)). get_or rs i []) (finished_numbered s ds)
        ∙ map_at (found_row s look) ns i (without_marks []) [] (omega (arith, numbered_count))

    -- what numbering leaves, of the i-th draft
    same_at :
        {X : Type 0} (f : Draft → X) → ((d : Draft) (v : ℕ) → f (with_cell column.OWN v d) ≡ f d)
        → (i : ℕ) → i < length ds → f (row_among ns i) ≡ f (row_among ds i)
    unfolding numbered_rows
    same_at f own i h =
        let none : Draft = without_marks [] in
        sym (map_at f ns i none (f none) (omega (arith, numbered_count)))
        ∙ ap (λ l. get_or l i (f none)) (numbers_leave f own (numbered (own_numbers ds)) ds)
        ∙ map_at f ds i none (f none) h

    -- the other columns stay
    found_cell : (c : ℕ) → c ≢ column.A → (d : Draft) → get_or (found_row s look d) c 0 ≡ cell c d
    found_cell c h d = either (refers s d) (λ e. rw e (get_or-set_other d.row column.A c (look d) 0 h)) (λ e. rw e)

    cell_is : (c : ℕ) → c ≢ column.A → (i : ℕ) → i < length ds → get_or (row i) c 0 ≡ cell c (row_among ns i)
    cell_is c h i l = ap (λ (r : List ℕ). get_or r c 0) (row_is i l) ∙ found_cell c h (row_among ns i)

    -- and a ruleref's holds what it finds
    found_own :
        (d : Draft) → is code.RULE_REF d ≡ true → length (found_row s look d) ≡ column.ROW → get_or (found_row s look d) column.A 0 ≡ look d
    found_own d r whole =
        let refer : refers s d ≡ true = rw (r, or-true (is code.QUESTION_REF d)) in
        let size : length (set d.row column.A (look d)) ≡ column.ROW = rw refer at whole in
        rw refer (get_or-set_same d.row column.A (look d) 0 (omega (arith, size, length-set d.row column.A (look d))))

    -- the form that it stands in stays
    form_at : (i : ℕ) → i < length ds → form_round ds (row_among ns i) ≡ form_round ds (row_among ds i)
    form_at i h = round_same ds ds refl refl (row_among ns i) (row_among ds i) (same_at (cell column.PARENT) (left column.PARENT (λ q. omega arith)) i h)

    -- 11 passed: a ruleref finds a rule, among the numbered drafts too
    numbered_found : unfound s ds ≡ [] → (i : ℕ) → i < length ds → is code.RULE_REF (row_among ns i) ≡ true → any (finds s ns (row_among ns i)) ns ≡ true
    unfolding numbered_rows unfound
    numbered_found e i h r =
        let d = row_among ns i in
        let d₀ = row_among ds i in
        let code_same : cell column.CODE d ≡ cell column.CODE d₀ = same_at (cell column.CODE) (left column.CODE (λ q. omega arith)) i h in
        let mark : place_of d.own_at ≡ place_of d₀.own_at = ap place_of (same_at (λ d. d.own_at) (λ d v. refl) i h) in
        let r₀ : is code.RULE_REF d₀ ≡ true = rw (← code_same) r in
        let found = finds_some ds d₀ (clean_at (in_vain s ds) ds [] e i h) (rw r₀ (or-true (is code.QUESTION_REF d₀))) in
        finds_rules (numbered (own_numbers ds)) ds d r
        ∙ ap (λ (q : Draft → Bool). any q ds) (finds_rule_lem ds d r)
        ∙ ap₂ (λ (p f : ℕ). any (of_form p f) ds) mark (form_at i h)
        ∙ ap (λ (q : Draft → Bool). any q ds) (sym (finds_rule_lem ds d₀ r₀))
        ∙ found

    -- every ruleref has found a rule, of the form that it stands in
    pub record FoundRule (i : ℕ) : Type 0 where
      pub at : ℕ
      pub inside : at < length ds
      pub code_is : get_or (row at) column.CODE 0 ≡ code.RULE
      pub own_is : get_or (row at) column.OWN 0 ≡ get_or (row i) column.A 0
      pub parent_is : cell column.PARENT (row_among ds at) ≡ form_round ds (row_among ds i)

    pub found_rule :
        unfound s ds ≡ [] → AreRows (finished s ds)
        → (i : ℕ) → i < length ds → get_or (row i) column.CODE 0 ≡ code.RULE_REF → FoundRule i
    unfolding numbered_rows
    found_rule e whole i h c =
        let d = row_among ns i in
        let r : is code.RULE_REF d ≡ true = eq-eqb (cell column.CODE d) code.RULE_REF (sym (cell_is column.CODE (λ q. omega arith) i h) ∙ c) in
        let size : length (found_row s look d) ≡ column.ROW = ap length (sym (row_is i h)) ∙ length_of_row i whole (omega (arith, finished_count s ds)) in
        let u = first_own (finds s ns d) ns (numbered_found e i h r) in
        let j = u.0 in
        let inside : j < length ds = omega (arith, u.1, numbered_count) in
        let found = ap (λ (p : Draft → Bool). p (row_among ns j)) (sym (finds_rule_lem ns d r)) ∙ u.2 in
        let both = and_true (rule_named s (place_of d.own_at) (row_among ns j)) _ found in
        record {
          at = j;
          inside = inside;
          code_is = cell_is column.CODE (λ q. omega arith) j inside ∙ eqb-true _ code.RULE (and_true (is code.RULE (row_among ns j)) _ both.0).0;
          own_is =
              cell_is column.OWN (λ q. omega arith) j inside
              ∙ sym u.3
              ∙ sym (found_own d r size)
              ∙ ap (λ (r : List ℕ). get_or r column.A 0) (sym (row_is i h));
          parent_is =
              sym (same_at (cell column.PARENT) (left column.PARENT (λ q. omega arith)) j inside)
              ∙ eqb-true _ (form_round ns d) both.1
              ∙ round_numbered (numbered (own_numbers ds)) ds d
              ∙ form_at i h;
        }
