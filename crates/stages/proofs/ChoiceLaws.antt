-- Stage 12 as the code does it: limits, a oneof's options, and a row.
use Prim.Native.Nat.{ℕ, zero, suc, ◌+◌, ◌-◌, ◌≤◌, ◌<◌}
use mathlib.Core.Path.{◌≡◌, refl, sym, ap, ◌∙◌}
use mathlib.Core.Bool.{Bool, true, false, cond, ◌&&◌, ◌||◌}
use mathlib.Core.List.{List, [], ◌∷◌}
use native.Mathlib.Omega.{arith}
use borrow.Author.Tests.{lt-ltb, le-ltb, eq-eqb, ne_eqb}
use lib.Dec.{eqb}
use lib.ListN.{length}
use Rattle.rows.specs.Codes as code
use Rattle.rows.specs.Columns as column
use Rattle.rows.specs.Draft.{mark_of}
use Rattle.rows.specs.Table.{whole_rows}
use Rattle.answers.specs.Rows.{Draft}
use Rattle.answers.specs.Stages.{cell, is, any, below}
use Rattle.answers.specs.Drafts.{drafts_from}
use Rattle.drafts.specs.Faults.{draft_at}
use Rattle.stages.specs.Choices.{limits_fault, leading, is_default, option_fault, choice_fault}
use Rattle.rows.proofs.RowLaws.{inside_or_not}
use Rattle.rows.proofs.CellLaws.{cell_outside}
use Rattle.drafts.proofs.DraftLaws.{limit_read, default_read, drafts_next, drafts_end, drafts_last}
use Rattle.drafts.proofs.RowTests.{any_cons, any_snoc}

-- ---- a numeric's limits

module _ (d : Draft) {least most : ℕ} (a : least ≡ cell column.A d) (b : most ≡ cell column.B d) where
  -- by the answers of `below`: c that they are crossed, u and o that the default is under or over them
  module _ {c : Bool} (crossed : c ≡ below d most least) where
    pub limits_crossed : c ≡ true → d.limit_at ≡ limits_fault d
    unfolding limits_fault
    limits_crossed y = rw (← a, ← b, ← crossed, y)

    module _ (n : c ≡ false) {x : ℕ} (e : x ≡ cell column.D d) {u o : Bool} (under : u ≡ below d x least) (over : o ≡ below d most x) where
      by_default : cond (u || o) d.default_at 0 ≡ limits_fault d
      unfolding limits_fault
      by_default = rw (← a, ← b, ← e, ← crossed, n, ← under, ← over)

      pub default_outside : (u || o) ≡ true → d.default_at ≡ limits_fault d
      default_outside y = rw y at by_default

      pub default_within : (u || o) ≡ false → 0 ≡ limits_fault d
      default_within y = rw y at by_default

-- ---- the options at the start of rows

pub leading_none : leading [] ≡ []
unfolding leading
leading_none = refl

module _ (d : Draft) (ds : List Draft) where
  pub leading_option : is code.OPTION d ≡ true → leading (d ∷ ds) ≡ d ∷ leading ds
  unfolding leading
  leading_option e = rw e

  pub leading_other : is code.OPTION d ≡ false → leading (d ∷ ds) ≡ []
  unfolding leading
  leading_other e = rw e

-- the loop of `options_end`: as many options stand from row i on as from the first row on, less those passed
pub record Passing (t : List ℕ) (first n i : ℕ) : Type 0 where
  pub on : first ≤ i
  pub same : first + length (leading (drafts_from t first (n - first))) ≡ i + length (leading (drafts_from t i (n - i)))

pub passing_start : (t : List ℕ) (first n : ℕ) → Passing t first n first
passing_start t first n = record { on = omega arith; same = refl }

module _ {t : List ℕ} {first n i : ℕ} (v : Passing t first n i) where
  stop : leading (drafts_from t i (n - i)) ≡ [] → i ≡ first + length (leading (drafts_from t first (n - first)))
  stop e = sym (v.same ∙ rw e (omega arith))

  pub passing_end : n ≤ i → i ≡ first + length (leading (drafts_from t first (n - first)))
  passing_end h = stop (rw (drafts_end t i n h) leading_none)

  module _ (h : i < n) where
    pub passing_other : (cell column.CODE (draft_at t i) ≡ code.OPTION → ⊥) → i ≡ first + length (leading (drafts_from t first (n - first)))
    passing_other f = stop (rw (drafts_next t i n h) (leading_other (draft_at t i) _ (ne_eqb _ _ f)))

    pub passing_option : cell column.CODE (draft_at t i) ≡ code.OPTION → Passing t first n (i + 1)
    passing_option e =
        let more = drafts_from t (i + 1) (n - (i + 1)) in
        let l : leading (drafts_from t i (n - i)) ≡ draft_at t i ∷ leading more =
        rw (drafts_next t i n h) (leading_option (draft_at t i) more (eq-eqb _ _ e)) in
        record { on = omega (arith, v.on); same = v.same ∙ omega (arith, ap length l) }

-- the rows up to the end are the options
leading_run : (t : List ℕ) (m i : ℕ) → drafts_from t i (length (leading (drafts_from t i m))) ≡ leading (drafts_from t i m)
unfolding drafts_from leading
leading_run t zero i = refl
leading_run t (suc m) i = go (is code.OPTION (draft_at t i)) (leading_run t m (i + 1))
  where
    go : (b : Bool) → drafts_from t (i + 1) (length (leading (drafts_from t (i + 1) m))) ≡ leading (drafts_from t (i + 1) m)
        → drafts_from t i (length (cond b (draft_at t i ∷ leading (drafts_from t (i + 1) m)) [])) ≡ cond b (draft_at t i ∷ leading (drafts_from t (i + 1) m)) []
    go true h = ap (λ (ds : List Draft). draft_at t i ∷ ds) h
    go false h = refl

pub options_run : (t : List ℕ) (first n e : ℕ) → e ≡ first + length (leading (drafts_from t first (n - first)))
    → drafts_from t first (e - first) ≡ leading (drafts_from t first (n - first))
options_run t first n e h =
    let f : e - first ≡ length (leading (drafts_from t first (n - first))) = omega arith in
    rw f (leading_run t (n - first) first)

-- ---- an option marked DEFAULT, by its mark m

module _ (d : Draft) {m : ℕ} (e : m ≡ d.default_at) where
  pub is_default_lem : (m ≡ 0 → ⊥) → is_default d ≡ true
  is_default_lem h = lt-ltb 0 d.default_at (omega (arith, h))

  pub no_default : m ≡ 0 → is_default d ≡ false
  no_default h = le-ltb 0 d.default_at (omega arith)

-- ---- a fault of an option

pub option_none : (before : List Draft) → option_fault before [] ≡ 0
unfolding option_fault
option_none before = refl

-- a row past the whole ones has no marks
module _ (t : List ℕ) (i : ℕ) (h : whole_rows t ≤ i) where
  limit_past : (draft_at t i).limit_at ≡ 0
  limit_past = sym (limit_read t i) ∙ ap mark_of (cell_outside t i column.SECOND h)

  default_past : (draft_at t i).default_at ≡ 0
  default_past = sym (default_read t i) ∙ ap mark_of (cell_outside t i column.FLAGS h)

abbrev pub same_value : Draft → Draft → Bool
same_value d e = eqb (cell column.A e) (cell column.A d)

-- by the values as the code reads them
pub same_value_lem : (d e : Draft) {v w : ℕ} → v ≡ cell column.A d → w ≡ cell column.A e → w ≡ v → same_value d e ≡ true
same_value_lem d e f g h = eq-eqb _ _ (sym g ∙ h ∙ f)

pub other_value : (d e : Draft) {v w : ℕ} → v ≡ cell column.A d → w ≡ cell column.A e → (w ≡ v → ⊥) → same_value d e ≡ false
other_value d e f g h = ne_eqb _ _ (λ k. h (g ∙ k ∙ sym f))

module _ (before : List Draft) (d : Draft) (ds : List Draft) where
  pub option_value_lem : any (same_value d) before ≡ true → option_fault before (d ∷ ds) ≡ d.limit_at
  unfolding option_fault
  option_value_lem e = rw e

  module _ (e : any (same_value d) before ≡ false) where
    pub option_default : (is_default d && any is_default before) ≡ true → option_fault before (d ∷ ds) ≡ d.default_at
    unfolding option_fault
    option_default f = rw (e, f)

    pub option_good : (is_default d && any is_default before) ≡ false → option_fault before (d ∷ ds) ≡ option_fault (d ∷ before) ds
    unfolding option_fault
    option_good f = rw (e, f)

  -- an option without marks
  option_unmarked : d.limit_at ≡ 0 → d.default_at ≡ 0 → option_fault (d ∷ before) ds ≡ 0 → option_fault before (d ∷ ds) ≡ 0
  option_unmarked l m later = go (any (same_value d) before) refl
    where
      go : (b : Bool) → any (same_value d) before ≡ b → option_fault before (d ∷ ds) ≡ 0
      go true e = option_value_lem e ∙ l
      go false e = option_good e (rw (no_default d (sym m) refl) refl) ∙ later

-- past the whole rows none is at fault
option_past : (t : List ℕ) (m i : ℕ) (before : List Draft) → whole_rows t ≤ i → option_fault before (drafts_from t i m) ≡ 0
unfolding drafts_from
option_past t zero i before h = option_none before
option_past t (suc m) i before h =
    let d = draft_at t i in
    option_unmarked before d (drafts_from t (i + 1) m) (limit_past t i h) (default_past t i h) (option_past t m (i + 1) (d ∷ before) (omega (arith, h)))

-- the outer loop of `bad_option`: the options before row i are without fault, and the others have the same first fault as all
pub record Choosing (t : List ℕ) (first n i : ℕ) : Type 0 where
  pub on : first ≤ i
  pub before : List Draft
  pub seen : (p : Draft → Bool) → any p before ≡ any p (drafts_from t first (i - first))
  pub same : option_fault [] (drafts_from t first (n - first)) ≡ option_fault before (drafts_from t i (n - i))

pub choosing_start : (t : List ℕ) (first n : ℕ) → Choosing t first n first
choosing_start t first n = record { on = omega arith; before = []; seen = λ p. sym (ap (any p) (drafts_end t first first (omega arith))); same = refl }

module _ {t : List ℕ} {first n i : ℕ} (v : Choosing t first n i) where
  pub choosing_end : n ≤ i → 0 ≡ option_fault [] (drafts_from t first (n - first))
  choosing_end h = sym (v.same ∙ rw (drafts_end t i n h) (option_none v.before))

  -- at the end, or past the whole rows
  pub choosing_stop : (i < whole_rows t → n ≤ i) → 0 ≡ option_fault [] (drafts_from t first (n - first))
  choosing_stop f = inside_or_not t i (λ h. choosing_end (f h)) (λ h. sym (v.same ∙ option_past t (n - i) i v.before h))

  module _ (h : i < n) where
    at_row : option_fault [] (drafts_from t first (n - first)) ≡ option_fault v.before (draft_at t i ∷ drafts_from t (i + 1) (n - (i + 1)))
    at_row = v.same ∙ ap (option_fault v.before) (drafts_next t i n h)

    pub choosing_value : any (same_value (draft_at t i)) (drafts_from t first (i - first)) ≡ true → (draft_at t i).limit_at ≡ option_fault [] (drafts_from t first (n - first))
    choosing_value e = sym (at_row ∙ option_value_lem v.before (draft_at t i) _ (v.seen (same_value (draft_at t i)) ∙ e))

    module _ (e : any (same_value (draft_at t i)) (drafts_from t first (i - first)) ≡ false) {b : Bool}
        (f : b ≡ (is_default (draft_at t i) && any is_default (drafts_from t first (i - first)))) where
      pub choosing_default : b ≡ true → (draft_at t i).default_at ≡ option_fault [] (drafts_from t first (n - first))
      choosing_default y =
          sym (at_row ∙ option_default v.before (draft_at t i) _ (v.seen (same_value (draft_at t i)) ∙ e) (rw (v.seen is_default) (sym f ∙ y)))

      pub choosing_next : b ≡ false → Choosing t first n (i + 1)
      choosing_next y =
          record {
            on = omega (arith, v.on);
            before = draft_at t i ∷ v.before;
            seen = λ p.
                any_cons p (draft_at t i) v.before
                ∙ rw (v.seen p) (sym (ap (any p) (drafts_last t first i v.on) ∙ any_snoc p (draft_at t i) (drafts_from t first (i - first))));
            same = at_row ∙ option_good v.before (draft_at t i) _ (v.seen (same_value (draft_at t i)) ∙ e) (rw (v.seen is_default) (sym f ∙ y));
          }

-- ---- a row

module _ (d : Draft) (ds : List Draft) where
  pub choice_numeric : cell column.CODE d ≡ code.NUMERIC → limits_fault d ≡ choice_fault d ds
  unfolding choice_fault
  choice_numeric e = rw e

  pub choice_one_of : cell column.CODE d ≡ code.ONE_OF → option_fault [] (leading ds) ≡ choice_fault d ds
  unfolding choice_fault
  choice_one_of e = rw e

  pub choice_other : (cell column.CODE d ≡ code.NUMERIC → ⊥) → (cell column.CODE d ≡ code.ONE_OF → ⊥) → 0 ≡ choice_fault d ds
  unfolding choice_fault
  choice_other f g = rw (ne_eqb (cell column.CODE d) code.NUMERIC f, ne_eqb (cell column.CODE d) code.ONE_OF g)
