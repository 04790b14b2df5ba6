-- The text's draft rows are like the source's, cell by cell: what stages 7, 10 and 12 go by is the same.
-- Assumes nothing.
use mathlib.Core.Path.{◌≡◌, refl, ap, sym, ◌∙◌}
use mathlib.Core.List.{List}
use mathlib.Core.Bool.{true, false, ◌||◌}
use Prim.Native.Nat.{ℕ}
use native.Mathlib.Omega.{arith}
use lib.Dec.{eqb, ltb}
use lib.ListN.{get_or, set, length-set}
use lib.Seq.{get_or-set_same, get_or-set_other, set-get_or}
use Rattle.lexemes.proofs.Lists.{either}
use Rattle.numbers.proofs.Ranges.{or_no}
use Rattle.rows.specs.Codes as code
use Rattle.rows.specs.Codes.{is_question}
use Rattle.rows.specs.Columns as column
use Rattle.rows.proofs.ColumnLaws.{is_place, same_besides}
use Rattle.answers.specs.Rows.{Draft}
use Rattle.answers.specs.Stages.{cell, is, asks}
use Rattle.drafts.proofs.RowTests.{other_code}
use Rattle.again.specs.Matches.{Settled, named, final, Match}
use Rattle.again.proofs.NumberedDrafts.{other_asks}

-- ---- cells

module _ (t : List ℕ) (look : ℕ → List ℕ) {d' d : Draft} (m : Match t look d' d) where
  -- but the places
  final_cell : (c : ℕ) → is_place c ≡ false → get_or (final t d') c 0 ≡ get_or (look (cell column.PLACE d)) c 0
  final_cell c h = same_besides (final t d') (look (cell column.PLACE d)) m.same c h

  -- nor a ruleref's number
  pub same_cell : (c : ℕ) → is_place c ≡ false → (c ≡ column.A → ⊥) → cell c d' ≡ get_or (look (cell column.PLACE d)) c 0
  same_cell c h n =
      either (is code.RULE_REF d')
      (λ e. sym (get_or-set_other d'.row column.A c (named t d') 0 n) ∙ (rw e at (final_cell c h)))
      (λ e. rw e at (final_cell c h))

  pub same_number : is code.RULE_REF d' ≡ false → cell column.A d' ≡ get_or (look (cell column.PLACE d)) column.A 0
  same_number e = rw e at (final_cell column.A refl)

  pub rule_number_lem : is code.RULE_REF d' ≡ true → named t d' ≡ get_or (look (cell column.PLACE d)) column.A 0
  rule_number_lem e = sym (get_or-set_same d'.row column.A (named t d') 0 (omega (arith, m.whole))) ∙ (rw e at (final_cell column.A refl))

-- the rows agree in what is neither a question's number nor what a reference has found
pub record Like (d' d : Draft) : Type 0 where
  pub code_same : cell column.CODE d' ≡ cell column.CODE d
  pub parent_same : cell column.PARENT d' ≡ cell column.PARENT d
  pub own_same : asks d ≡ false → cell column.OWN d' ≡ cell column.OWN d
  pub a_same : is code.QUESTION_REF d || is code.RULE_REF d ≡ false → cell column.A d' ≡ cell column.A d
  pub b_same : cell column.B d' ≡ cell column.B d
  pub d_same : cell column.D d' ≡ cell column.D d
  pub size_same : cell column.SIZE d' ≡ cell column.SIZE d
  pub default_same : ltb 0 d'.default_at ≡ ltb 0 d.default_at

-- ---- a finished row

module _ (look : ℕ → List ℕ) {d : Draft} (v : Settled look d) where
  -- the number that it has got
  pub own_cell : get_or (look (cell column.PLACE d)) column.OWN 0 ≡ v.own
  own_cell =
      ap (λ r. get_or r column.OWN 0) v.is_row ∙ get_or-set_other (set d.row column.OWN v.own) column.A column.OWN v.a 0 (λ e. omega arith)
      ∙ get_or-set_same d.row column.OWN v.own 0 (omega (arith, v.whole))

  -- the number that it has found
  a_cell : get_or (look (cell column.PLACE d)) column.A 0 ≡ v.a
  a_cell =
      ap (λ r. get_or r column.A 0) v.is_row
      ∙ get_or-set_same (set d.row column.OWN v.own) column.A v.a 0 (omega (arith, length-set d.row column.OWN v.own, v.whole))

  -- the other cells are the draft's
  draft_cell : (c : ℕ) → (c ≡ column.OWN → ⊥) → (c ≡ column.A → ⊥) → get_or (look (cell column.PLACE d)) c 0 ≡ cell c d
  draft_cell c n m =
      ap (λ r. get_or r c 0) v.is_row ∙ get_or-set_other (set d.row column.OWN v.own) column.A c v.a 0 m ∙ get_or-set_other d.row column.OWN c v.own 0 n

  -- what refers to nothing keeps all but its own number
  pub numbered_row : is code.QUESTION_REF d || is code.RULE_REF d ≡ false → look (cell column.PLACE d) ≡ set d.row column.OWN v.own
  numbered_row r =
      let q = set d.row column.OWN v.own in
      v.is_row ∙ ap (set q column.A) (v.a_same r ∙ sym (get_or-set_other d.row column.OWN column.A v.own 0 (λ e. omega arith))) ∙ set-get_or q column.A 0

  -- and this too where it asks nothing
  pub draft_row : asks d ≡ false → is code.QUESTION_REF d || is code.RULE_REF d ≡ false → look (cell column.PLACE d) ≡ d.row
  draft_row q r = numbered_row r ∙ ap (set d.row column.OWN) (v.own_same q) ∙ set-get_or d.row column.OWN 0

pub like : (t : List ℕ) (look : ℕ → List ℕ) {d' d : Draft} → Match t look d' d → Settled look d → Like d' d
like t look {d'} {d} m v =
    record {
      code_same = m.code_same;
      parent_same = same_cell t look m column.PARENT refl (λ e. omega arith) ∙ draft_cell look v column.PARENT (λ e. omega arith) (λ e. omega arith);
      own_same = λ q. same_cell t look m column.OWN refl (λ e. omega arith) ∙ own_cell look v ∙ v.own_same q;
      a_same = λ r. same_number t look m (rw m.code_same (or_no (is code.QUESTION_REF d) (is code.RULE_REF d) r).1) ∙ a_cell look v ∙ v.a_same r;
      b_same = same_cell t look m column.B refl (λ e. omega arith) ∙ draft_cell look v column.B (λ e. omega arith) (λ e. omega arith);
      d_same = same_cell t look m column.D refl (λ e. omega arith) ∙ draft_cell look v column.D (λ e. omega arith) (λ e. omega arith);
      size_same = same_cell t look m column.SIZE refl (λ e. omega arith) ∙ draft_cell look v column.SIZE (λ e. omega arith) (λ e. omega arith);
      default_same = m.default;
    }

-- ---- codes that are neither a question's nor a reference's

module _ {d' d : Draft} (l : Like d' d) where
  pub is_same : (k : ℕ) → is k d' ≡ is k d
  is_same k = rw l.code_same

  pub own_of : (k : ℕ) → is_question k ≡ false → is k d ≡ true → cell column.OWN d' ≡ cell column.OWN d
  own_of k h e = l.own_same (other_asks k h d e)

  pub a_of : (k : ℕ) → eqb k code.QUESTION_REF ≡ false → eqb k code.RULE_REF ≡ false → is k d ≡ true → cell column.A d' ≡ cell column.A d
  a_of k f g e = l.a_same (rw (other_code d k code.QUESTION_REF e f, other_code d k code.RULE_REF e g))
