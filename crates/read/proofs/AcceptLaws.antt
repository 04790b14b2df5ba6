-- From drafts that pass stages 7 to 12 to 14, or to the finished rows and the free count.
-- Assumes nothing.
use Prim.Native.Nat.{ℕ, zero, suc, ◌+◌, ◌-◌, ◌≤◌}
use native.Mathlib.Omega.{arith}
use mathlib.Core.Path.{◌≡◌, refl, sym, ap, ◌∙◌}
use mathlib.Core.Bool.{cond, or-true}
use lib.Dec.{eqb}
use mathlib.Core.Logic.{◌≢◌}
use mathlib.Core.List.{List, [], ◌∷◌, map}
use lib.ListN.{length}
use borrow.Author.Tests.{eq-eqb, ne_eqb}
use Rattle.numbers.specs.Numbers.{numbered, free_count, used_count, given_map}
use Rattle.rows.specs.Codes as code
use Rattle.rows.specs.Columns as column
use Rattle.rows.specs.Table.{cleared}
use Rattle.rows.specs.Rows.{rows_from, put}
use Rattle.rows.proofs.ClearLaws.{cleared_whole}
use Rattle.answers.specs.Rows.{Draft}
use Rattle.answers.specs.Stages.{cell, is, place_of, own_numbers, settled, circular_references}
use Rattle.answers.specs.Drafts.{drafts_from}
use Rattle.answers.specs.Answer.{Answer, refuses, accepts, answer_past12}
use Rattle.answers.proofs.Settling.{settled_column, settled_own_marks, settled_count}
use Rattle.drafts.specs.Sound.{AllSound, no_rows, add_row, First}
use Rattle.drafts.proofs.CodingLaws.{drafts_held}
use Rattle.drafts.proofs.Firsts.{stage_first}
use Rattle.circle_stage.specs.Circular.{circle_fault, first_by}
use Rattle.circle_stage.proofs.Theorems.{Marked, none_marked, add_marked, circle_first}
use Rattle.finish.specs.Finish.{owns_in, stripped, table_settled, DraftsIn}
use Rattle.finish.proofs.Finished.{settled_in, settled_long, finished_table, free_finished}
use Rattle.read.specs.Drafted.{Ready, table_past12}

pub length_drafts : (t : List ℕ) (i n : ℕ) → length (drafts_from t i n) ≡ n
unfolding drafts_from
length_drafts t i zero = refl
length_drafts t i (suc n) = ap suc (length_drafts t (i + 1) n)

drafts_in : {t : List ℕ} {ds : List Draft} {n : ℕ} → DraftsIn t ds → length ds ≡ n → drafts_from t 0 n ≡ ds
drafts_in {t} d e = rw (← e) (drafts_held d.fit t 0 d.held)

-- ---- the marks of names in rulerefs

-- drafts with the codes and marks of sound ones
marked :
    {ds : List Draft} → AllSound ds → (es : List Draft)
    → map (cell column.CODE) es ≡ map (cell column.CODE) ds → map (λ d. d.own_at) es ≡ map (λ d. d.own_at) ds → Marked es
marked no_rows [] c m = none_marked
marked no_rows (e ∷ es) c m = absurd (let z : ◌≡◌ {A = ℕ} 0 1 = cc in omega arith)
marked (add_row v r) [] c m = absurd (let z : ◌≡◌ {A = ℕ} 0 1 = cc in omega arith)
marked (add_row {d = d} {ds = ds} v r) (e ∷ es) c m =
    let code_same : cell column.CODE e ≡ cell column.CODE d = cc in
    let mark_same : e.own_at ≡ d.own_at = cc in
    let codes : map (cell column.CODE) es ≡ map (cell column.CODE) ds = cc in
    let marks : map (λ d. d.own_at) es ≡ map (λ d. d.own_at) ds = cc in
    add_marked {d = e} (λ h. rw mark_same (v.reference (rw (rw code_same at h) (or-true (is code.QUESTION_REF d))))) (marked r es codes marks)

module _ {s es ws t : List ℕ} {count : ℕ} (pre : Ready s es ws t count) where
  abbrev ds : List Draft
  ds = drafts_from t 0 count

  many : length ds ≡ count
  many = length_drafts t 0 count

  abbrev acceptance : Answer
  acceptance = accepts (length ds) (free_count (numbered (own_numbers ds)))

  -- ---- the ones in the map and the free numbers are all that there are

  counted : {ws' : List ℕ} → ws' ≡ given_map ws 1 (owns_in (rows_from t 0 count)) → used_count ws' + free_count (numbered (own_numbers ds)) ≡ 65535
  counted {ws'} e =
      free_finished pre.drafted.sound s pre.named pre.found pre.index pre.written t
      (rw many pre.drafted.room) (rw many pre.drafted.held)
      {ws₁ = ws'} (rw many e)

  pub used_few : {ws' : List ℕ} → ws' ≡ given_map ws 1 (owns_in (rows_from t 0 count)) → {n : ℕ} → n ≡ used_count ws' → n ≤ 65535
  used_few e u = omega (arith, counted e)

  -- ---- after `settle`

  module _ {t₁ : List ℕ} (one : t₁ ≡ table_settled s es ws t count) where
    -- the first rows are the settled drafts
    settled_held : DraftsIn t₁ (settled s ds)
    settled_held =
        settled_in pre.drafted.sound s pre.named pre.found pre.index pre.written t
        (rw many pre.drafted.room) (rw many pre.drafted.held)
        {t₂ = t₁} (rw many one)

    drafts_are : drafts_from t₁ 0 count ≡ settled s ds
    drafts_are = drafts_in settled_held (settled_count s ds ∙ many)

    long : length t₁ ≡ length t
    long =
        settled_long pre.drafted.sound s pre.named pre.found pre.index pre.written t
        (rw many pre.drafted.room) (rw many pre.drafted.held)
        {t₂ = t₁} (rw many one)

    -- ---- 14, by the mark that the stage answers

    module _ {m : ℕ} (by-14 : m ≡ first_by circle_fault (drafts_from t₁ 0 count)) where
      first_circle : First m (circular_references (settled s ds))
      first_circle =
          rw (by-14, drafts_are)
          (circle_first
          (marked pre.drafted.sound.each (settled s ds) (settled_column s ds column.CODE (λ z. omega arith) (λ z. omega arith)) (settled_own_marks s ds)))

      answer_is : answer_past12 s ds ≡ cond (eqb m 0) acceptance (refuses 14 (place_of m))
      answer_is = stage_first first_circle 14 acceptance

      module _ (place : ℕ) (h : m ≡ place + 1) where
        pub circle_answer : refuses 14 place ≡ answer_past12 s ds
        circle_answer =
            let at : m - 1 ≡ place = omega (arith, h) in
            sym (answer_is ∙ rw (ne_eqb m 0 (λ z. omega (arith, h)), at))

        pub circle_table : {u : List ℕ} → u ≡ cleared t₁ 0 → u ≡ table_past12 s t count
        unfolding table_past12
        circle_table e = e ∙ rw (← circle_answer) (cleared_whole t₁ ∙ rw long)

      module _ (z : m ≡ 0) where
        free_is : answer_past12 s ds ≡ acceptance
        free_is = answer_is ∙ rw (eq-eqb m 0 z)

        -- after `strip` the finished rows
        pub table_accepted : {t₂ : List ℕ} → t₂ ≡ put t₁ 0 (map stripped (rows_from t₁ 0 count)) → t₂ ≡ table_past12 s t count
        unfolding table_past12
        table_accepted {t₂} two =
            finished_table pre.drafted.sound s pre.named pre.found pre.index pre.written t
            (rw many pre.drafted.room) (rw many pre.drafted.held)
            {t₂ = t₁} (rw many one) {t₃ = t₂} (rw many two)
            ∙ rw free_is

        pub free_accepted :
            {ws' : List ℕ} → ws' ≡ given_map ws 1 (owns_in (rows_from t 0 count)) → {n : ℕ} → n ≡ used_count ws'
            → accepts count (65535 - n) ≡ answer_past12 s ds
        free_accepted e {n} u =
            let f : 65535 - n ≡ free_count (numbered (own_numbers ds)) = omega (arith, counted e) in
            sym (free_is ∙ rw (many, ← f))
