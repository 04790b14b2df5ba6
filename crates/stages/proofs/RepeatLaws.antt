-- Stages 7 and 8 as the code does them.
use Prim.Native.Nat.{ℕ, ◌+◌, ◌-◌, ◌≤◌, ◌<◌}
use mathlib.Core.Path.{◌≡◌, refl, sym, ap, ◌∙◌}
use mathlib.Core.Bool.{Bool, true, false}
use mathlib.Core.List.{List, [], ◌∷◌}
use native.Mathlib.Omega.{arith}
use borrow.Author.Tests.{eq-eqb, ne_eqb}
use Rattle.numbers.specs.Numbers.{used, with_used}
use Rattle.rows.specs.Codes as code
use Rattle.rows.specs.Codes.{is_question}
use Rattle.rows.specs.Columns as column
use Rattle.answers.specs.Rows.{Draft}
use Rattle.answers.specs.Stages.{cell}
use Rattle.answers.specs.Drafts.{drafts_from}
use Rattle.drafts.specs.Faults.{draft_at}
use Rattle.stages.specs.Repeats.{form_number, written_number, repeated_mark, map_after}
use Rattle.drafts.proofs.DraftLaws.{drafts_start, drafts_next, drafts_end}

-- ---- the number of a row, by its code k

module _ (d : Draft) {k : ℕ} (e : k ≡ cell column.CODE d) where
  pub number_form : {n : ℕ} → n ≡ cell column.OWN d → k ≡ code.FORM → n ≡ form_number d
  number_form g h = rw (← e, ← g, eq-eqb k code.FORM h)

  pub number_no_form : (k ≡ code.FORM → ⊥) → 0 ≡ form_number d
  number_no_form h = rw (← e, ne_eqb k code.FORM h)

  module _ {q : Bool} (h : q ≡ is_question k) where
    pub number_question : {n : ℕ} → n ≡ cell column.OWN d → q ≡ true → n ≡ written_number d
    number_question g y = rw (← e, ← g, ← h, y)

    pub number_no_question : q ≡ false → 0 ≡ written_number d
    number_no_question y = rw (← e, ← h, y)

-- ---- the first row

module _ (number : Draft → ℕ) (ws : List ℕ) where
  repeated_none : repeated_mark number ws [] ≡ 0
  unfolding repeated_mark
  repeated_none = refl

  map_none : map_after number ws [] ≡ ws
  unfolding map_after
  map_none = refl

  module _ (d : Draft) (ds : List Draft) where
    repeated_here : used ws (number d) ≡ true → repeated_mark number ws (d ∷ ds) ≡ d.own_at
    unfolding repeated_mark
    repeated_here e = rw e

    map_here : used ws (number d) ≡ true → map_after number ws (d ∷ ds) ≡ ws
    unfolding map_after
    map_here e = rw e

    repeated_later : used ws (number d) ≡ false → repeated_mark number ws (d ∷ ds) ≡ repeated_mark number (with_used ws (number d)) ds
    unfolding repeated_mark
    repeated_later e = rw e

    map_later : used ws (number d) ≡ false → map_after number ws (d ∷ ds) ≡ map_after number (with_used ws (number d)) ds
    unfolding map_after
    map_later e = rw e

-- ---- the loop of `repeated`: from row i on with the map so far it comes to the same mark and map

pub record Repeating (number : Draft → ℕ) (ws₀ t : List ℕ) (n : ℕ) (ws : List ℕ) (i : ℕ) : Type 0 where
  pub inside : i ≤ n
  pub mark : repeated_mark number ws₀ (drafts_from t 0 n) ≡ repeated_mark number ws (drafts_from t i (n - i))
  pub map : map_after number ws₀ (drafts_from t 0 n) ≡ map_after number ws (drafts_from t i (n - i))

pub repeating_start : (number : Draft → ℕ) (ws t : List ℕ) (n : ℕ) → Repeating number ws t n ws 0
repeating_start number ws t n =
    record { inside = omega arith; mark = ap (repeated_mark number ws) (drafts_start t n); map = ap (map_after number ws) (drafts_start t n) }

module _ {number : Draft → ℕ} {ws₀ t ws : List ℕ} {n i : ℕ} (v : Repeating number ws₀ t n ws i) where
  abbrev Answer : ℕ → List ℕ → Type 0
  Answer m words = (m ≡ repeated_mark number ws₀ (drafts_from t 0 n)) × (words ≡ map_after number ws₀ (drafts_from t 0 n))

  pub repeating_end : n ≤ i → Answer 0 ws
  repeating_end h = (
    sym (v.mark ∙ ap (repeated_mark number ws) (drafts_end t i n h) ∙ repeated_none number ws),
    sym (v.map ∙ ap (map_after number ws) (drafts_end t i n h) ∙ map_none number ws),
  )

  module _ (h : i < n) {k : ℕ} (e : k ≡ number (draft_at t i)) {b : Bool} (f : b ≡ used ws k) where
    abbrev after : List Draft
    after = drafts_from t (i + 1) (n - (i + 1))

    test : used ws (number (draft_at t i)) ≡ b
    test = sym (f ∙ ap (used ws) e)

    pub repeating_found : {m : ℕ} → m ≡ (draft_at t i).own_at → b ≡ true → Answer m ws
    repeating_found g y = (
      g ∙ sym (v.mark ∙ ap (repeated_mark number ws) (drafts_next t i n h) ∙ repeated_here number ws (draft_at t i) after (test ∙ y)),
      sym (v.map ∙ ap (map_after number ws) (drafts_next t i n h) ∙ map_here number ws (draft_at t i) after (test ∙ y)),
    )

    pub repeating_next : {ws' : List ℕ} → ws' ≡ with_used ws k → b ≡ false → Repeating number ws₀ t n ws' (i + 1)
    repeating_next g y =
        rw (g, e)
        record {
          inside = omega arith;
          mark = v.mark ∙ ap (repeated_mark number ws) (drafts_next t i n h) ∙ repeated_later number ws (draft_at t i) after (test ∙ y);
          map = v.map ∙ ap (map_after number ws) (drafts_next t i n h) ∙ map_later number ws (draft_at t i) after (test ∙ y);
        }
