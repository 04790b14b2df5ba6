-- The passes one after the other: sound drafts that no stage refuses become grammar's settled drafts, and then its finished rows; and the map
-- counts the free numbers.
use Prim.Native.Nat.{ℕ, suc, ◌+◌, ◌≤◌, ◌<◌}
use mathlib.Core.Path.{◌≡◌, refl, sym, ap, ap₂, ◌∙◌}
use mathlib.Core.Bool.{Bool, true, false, cond, or-true, true≢false}
use mathlib.Core.List.{List, [], ◌∷◌, map}
use native.Mathlib.Omega.{arith}
use borrow.Author.Tests.{eqb-true}
use lib.ListN.{length, get_or, drop, length-set, length-map}
use lib.Seq.{get_or-set_other}
use Rattle.numbers.specs.Numbers.{numbered, free_count, used_count, given_map, Holds}
use Rattle.numbers.proofs.Giving.{given_numbered, map_numbered}
use Rattle.numbers.proofs.Maps.{free_count_lem}
use Rattle.numbers.proofs.Numbering.{numbering}
use Rattle.rows.specs.Codes as code
use Rattle.rows.specs.Codes.{is_question, questions, member}
use Rattle.rows.specs.Columns as column
use Rattle.rows.specs.Table.{whole_rows}
use Rattle.rows.specs.Rows.{AreRows, rows_from, put}
use Rattle.rows.proofs.FlatLaws.{are_rows_map}
use Rattle.rows.proofs.RunLaws.{length_put, rows_put, put_twice}
use Rattle.answers.specs.Rows.{Draft}
use Rattle.answers.specs.Stages.{cell, is, asks, writes, any, place_of, faults_after, repeated_names, rule_named, finds, refers, in_vain, unfound}
use Rattle.answers.specs.Stages.{own_numbers, with_cell, with_numbers, numbered_rows, own_of_first, with_references, settled, finished}
use Rattle.answers.specs.Drafts.{encoded, drafts_from}
use Rattle.answers.proofs.Settling.{other_column, numbers_leave, settled_count}
use Rattle.answers.proofs.RuleNames.{Once, same_once, named_once}
use Rattle.answers.proofs.FoundRules.{rule_numbered, finds_some, finds_rules}
use Rattle.answers.proofs.Faults.{clean_first}
use Rattle.drafts.specs.Fits.{FitsCells, AllFit, none_fit, add_fit}
use Rattle.drafts.specs.Sound.{SoundRow, AllSound, no_rows, add_row, SoundRows}
use Rattle.names.specs.Names.{find_in, declares_mark, first_row, Indexes}
use Rattle.drafts.proofs.CodingLaws.{decoded_encoded, sound_fits, sound_fit, are_encoded, drafts_held}
use Rattle.drafts.proofs.RowTests.{any_same}
use Rattle.stages.proofs.RepeatFaults.{bears}
use Rattle.finish.specs.Finish.{owns_in, stripped, resolved, table_numbered, table_settled, DraftsIn}
use Rattle.finish.proofs.RowLoops.{length_stripped}
use Rattle.finish.proofs.ReferenceLaws.{length_resolved}
use Rattle.finish.proofs.NumberedRows.{owns_encoded, with_encoded, fit_with, first_with, declares_with, writes_with, fits_with}
use Rattle.finish.proofs.FoundNumbers.{Owns, Refers, owns_held, row_settled, finds_numbered}

-- ---- the references of the numbered drafts

-- a question is no reference
asks_not : (k : ℕ) → is_question k ≡ false → (d : Draft) → is k d ≡ true → asks d ≡ false
asks_not k e d y = ap is_question (eqb-true (cell column.CODE d) k y) ∙ e

question_ref_not : is_question code.QUESTION_REF ≡ false
unfolding is_question questions member
question_ref_not = refl

rule_ref_not : is_question code.RULE_REF ≡ false
unfolding is_question questions member
rule_ref_not = refl

-- ---- stage 11 passed: every reference finds something

pub data AllRefer (s : List ℕ) (ns : List Draft) : List Draft → Type 0 where
  no_references : AllRefer s ns []
  add_reference : {d : Draft} {ds : List Draft} → Refers s ns d → AllRefer s ns ds → AllRefer s ns (d ∷ ds)

-- ---- all references found

found_encoded : (s es t : List ℕ) (ns : List Draft)
    (index : (m : ℕ) (rule : Bool) → 0 < m → find_in s es m rule ≡ first_row (declares_mark s m rule) 0 ns) (owns : Owns t 0 ns)
    → {ds : List Draft} → AllRefer s ns ds
    → map (resolved s es t) (map encoded ds) ≡ map encoded (map (λ d. cond (refers s d) (with_cell column.A (own_of_first s (finds s ns d) ns) d) d) ds)
found_encoded s es t ns index owns no_references = refl
found_encoded s es t ns index owns (add_reference v r) = rw (row_settled s es t ns index owns v, found_encoded s es t ns index owns r)

-- rows with them fit
fits_found : (d : Draft) (v : ℕ) → FitsCells d → FitsCells (with_cell column.A v d)
fits_found d v f =
    let beside : (c : ℕ) → (c ≡ column.A → ⊥) → cell c (with_cell column.A v d) ≡ cell c d = λ c h. get_or-set_other d.row column.A c v 0 h in
    omega (
      arith,
      f,
      length-set d.row column.A v,
      beside column.FIRST (λ e. omega arith),
      beside column.SECOND (λ e. omega arith),
      beside column.FLAGS (λ e. omega arith),
    )

fit_found : (b : Draft → Bool) (look : Draft → ℕ) {ds : List Draft} → AllFit ds → AllFit (map (λ d. cond (b d) (with_cell column.A (look d) d) d) ds)
fit_found b look none_fit = none_fit
fit_found b look (add_fit {d = d} f r) = add_fit (go (b d)) (fit_found b look r)
  where
    go : (y : Bool) → FitsCells (cond y (with_cell column.A (look d) d) d)
    go true = fits_found d (look d) f
    go false = f

module _ (s : List ℕ) (all ns : List Draft) (written : (k : ℕ) → any (bears writes k) ns ≡ any (bears writes k) all)
    (once : (p : ℕ) → Once (rule_named s p) ns) (rules : (d : Draft) → is code.RULE_REF d ≡ true → any (finds s ns d) ns ≡ any (finds s all d) all) where
  -- a question that got a number
  question_refers : {d : Draft} → SoundRow d → asks d ≡ true → (v : ℕ) → Refers s ns (with_cell column.OWN v d)
  question_refers {d} u q v =
      let same : cell column.CODE (with_cell column.OWN v d) ≡ cell column.CODE d = other_column d v column.CODE (λ e. omega arith) in
      let question_ref : is code.QUESTION_REF (with_cell column.OWN v d) ≡ false = rw same (not_code code.QUESTION_REF question_ref_not) in
      let rule_ref : is code.RULE_REF (with_cell column.OWN v d) ≡ false = rw same (not_code code.RULE_REF rule_ref_not) in
      let none : refers s (with_cell column.OWN v d) ≡ false = rw (question_ref, rule_ref) in
      record {
        fits = fits_with d v (sound_fits u);
        rule_name = λ y. absurd (true≢false (sym y ∙ rule_ref));
        named = λ y. absurd (true≢false (sym y ∙ none));
        numbered = λ y. absurd (true≢false (sym y ∙ none));
        once = λ y. absurd (true≢false (sym y ∙ rule_ref));
        found = λ y. absurd (true≢false (sym y ∙ rule_ref));
      }
    where
      not_code : (k : ℕ) → is_question k ≡ false → is k d ≡ false
      not_code k e = go (is k d) refl
        where
          go : (b : Bool) → is k d ≡ b → b ≡ false
          go true y = absurd (true≢false (sym q ∙ asks_not k e d y))
          go false y = refl

  -- a row that is none, and finds what it names
  other_refers : {d : Draft} → SoundRow d → (refers s d ≡ true → any (finds s all d) all ≡ true) → Refers s ns d
  other_refers {d} u f =
      record {
        fits = sound_fits u;
        rule_name = u.rule_name;
        named = u.reference;
        numbered = λ y z. written (cell column.A d) ∙ any_same (bears writes (cell column.A d)) (finds s all d) (finds_numbered s all d (no_rule z (is code.RULE_REF d) refl) z) all ∙ f y;
        once = λ y. once (place_of d.own_at);
        found = λ y. rules d y ∙ f (rw y (or-true (is code.QUESTION_REF d)));
      }
    where
      no_rule : (cell column.A d ≡ 0 → ⊥) → (b : Bool) → is code.RULE_REF d ≡ b → is code.RULE_REF d ≡ false
      no_rule z true r = absurd (z (u.rule_name r))
      no_rule z false r = r

  all_refer : {ds : List Draft} → AllSound ds → (own : List ℕ) (before : List Draft) → faults_after (λ b e. in_vain s all e) before ds ≡ [] → AllRefer s ns (with_numbers own ds)
  unfolding with_numbers faults_after
  all_refer no_rows own before e = no_references
  all_refer (add_row {d = d} {ds = ds} u r) own before e =
      let f = clean_first (in_vain s all) d ds before e in
      go (asks d) refl (finds_some s all d f.0) (all_refer r own (d ∷ before) f.1) (all_refer r (drop 1 own) (d ∷ before) f.1)
    where
      go : (b : Bool) → asks d ≡ b → (refers s d ≡ true → any (finds s all d) all ≡ true) → AllRefer s ns (with_numbers own ds) → AllRefer s ns (with_numbers (drop 1 own) ds)
          → AllRefer s ns (cond b (with_cell column.OWN (get_or own 0 0) d ∷ with_numbers (drop 1 own) ds) (d ∷ with_numbers own ds))
      go true q f x y = add_reference (question_refers u q (get_or own 0 0)) y
      go false q f x y = add_reference (other_refers u f) x

-- ---- passes over a table that starts with rows

length_with : (ds : List Draft) (own : List ℕ) → length (with_numbers own ds) ≡ length ds
unfolding with_numbers
length_with [] own = refl
length_with (d ∷ ds) own = go (asks d) (length_with ds own) (length_with ds (drop 1 own))
  where
    go : (b : Bool) → length (with_numbers own ds) ≡ length ds → length (with_numbers (drop 1 own) ds) ≡ length ds
        → length (cond b (with_cell column.OWN (get_or own 0 0) d ∷ with_numbers (drop 1 own) ds) (d ∷ with_numbers own ds)) ≡ suc (length ds)
    go true x y = ap suc y
    go false x y = ap suc x

module _ (t : List ℕ) {rs : List (List ℕ)} (w : AreRows rs) (h : length rs ≤ whole_rows t) {u : List ℕ} (e : u ≡ put t 0 rs) where
  rows_held : rows_from u 0 (length rs) ≡ rs
  rows_held = rw e (rows_put w t 0 (omega arith))

  -- one that changes every row
  passed : (f : List ℕ → List ℕ) → ((r : List ℕ) → length r ≡ column.ROW → length (f r) ≡ column.ROW)
      → {u' : List ℕ} → u' ≡ put u 0 (map f (rows_from u 0 (length rs))) → u' ≡ put t 0 (map f rs)
  passed f keeps g = g ∙ rw (rows_held, e) (put_twice w (are_rows_map f keeps w) (sym (length-map rs f)) t h)

-- ---- a table that starts with drafts

stripped_rows : {ds : List Draft} → AllFit ds → map stripped (map encoded ds) ≡ map (λ d. d.row) ds
stripped_rows none_fit = refl
stripped_rows (add_fit f r) = ap₂ ◌∷◌ (ap (λ (d : Draft). d.row) (decoded_encoded f)) (stripped_rows r)

module _ {t : List ℕ} {ds : List Draft} (v : DraftsIn t ds) where
  pub drafts_in : drafts_from t 0 (length ds) ≡ ds
  drafts_in = drafts_held v.fit t 0 v.held

-- ---- all passes

-- the drafts with their numbers
abbrev with_theirs : List Draft → List Draft
with_theirs ds = with_numbers (numbered (own_numbers ds)) ds

module _ {ds : List Draft} (v : SoundRows ds) (s : List ℕ) (names : repeated_names s ds ≡ []) (found : unfound s ds ≡ [])
    {es : List ℕ} (index : Indexes s ds es) {ws : List ℕ} (holds : Holds ws (own_numbers ds))
    (t : List ℕ) (room : length ds ≤ whole_rows t) (held : rows_from t 0 (length ds) ≡ map encoded ds) where
  fit : AllFit (with_theirs ds)
  fit = fit_with (sound_fit v.each) (numbered (own_numbers ds))

  many : length (map encoded (with_theirs ds)) ≡ length ds
  many = length-map (with_theirs ds) encoded ∙ length_with ds (numbered (own_numbers ds))

  fewer : length (map encoded (with_theirs ds)) ≤ whole_rows t
  fewer = rw many room

  -- after `number_rows`
  abbrev t₁ : List ℕ
  t₁ = table_numbered ws t (length ds)

  table_numbered_lem : t₁ ≡ put t 0 (map encoded (with_theirs ds))
  table_numbered_lem =
      rw (held, owns_encoded (sound_fit v.each), given_numbered holds)
      (ap (put t 0) (with_encoded (sound_fit v.each) (numbered (own_numbers ds))))

  rows_numbered : rows_from t₁ 0 (length (with_theirs ds)) ≡ map encoded (with_theirs ds)
  rows_numbered = rw (← length-map (with_theirs ds) encoded) (rows_held t (are_encoded fit) fewer table_numbered_lem)

  -- rules keep their names
  named : (p : ℕ) → Once (rule_named s p) (with_theirs ds)
  named p =
      same_once (rule_named s p) ds (with_theirs ds) (sym (numbers_leave (rule_named s p) (rule_numbered s p) (numbered (own_numbers ds)) ds))
      (named_once s p ds names)

  -- after `resolve_references`
  cells_settled : map (resolved s es t₁) (map encoded (with_theirs ds)) ≡ map encoded (settled s ds)
  unfolding settled with_references numbered_rows unfound
  cells_settled =
      let own : List ℕ = numbered (own_numbers ds) in
      found_encoded s es t₁ (with_theirs ds)
      (λ m rule h. index.finds m rule h ∙ sym (first_with (declares_mark s m rule) (λ d x. declares_with d x s m rule) ds own 0))
      (owns_held fit t₁ 0 rows_numbered)
      (all_refer s ds (with_theirs ds) (writes_with v.each own (numbering (own_numbers ds)).stands) named (finds_rules s own ds) v.each own [] found)

  fit_settled : AllFit (settled s ds)
  unfolding settled with_references numbered_rows
  fit_settled = fit_found (refers s) (λ d. own_of_first s (finds s (with_theirs ds) d) (with_theirs ds)) fit

  all_settled : length (map encoded (settled s ds)) ≡ length ds
  all_settled = length-map (settled s ds) encoded ∙ settled_count s ds

  -- after `settle`
  module _ {t₂ : List ℕ} (two : t₂ ≡ table_settled s es ws t (length ds)) where
    pub table_settled_lem : t₂ ≡ put t 0 (map encoded (settled s ds))
    unfolding table_settled
    table_settled_lem = passed t (are_encoded fit) fewer table_numbered_lem (resolved s es t₁) (length_resolved s es t₁) (rw many two) ∙ ap (put t 0) cells_settled

    pub settled_long : length t₂ ≡ length t
    settled_long = rw table_settled_lem (length_put (are_encoded fit_settled) t 0)

    -- its first rows are the settled drafts
    pub settled_in : DraftsIn t₂ (settled s ds)
    settled_in =
        record {
          fit = fit_settled;
          room = rw (settled_count s ds) (omega (arith, settled_long, room));
          held = rw (← length-map (settled s ds) encoded) (rows_held t (are_encoded fit_settled) (rw all_settled room) table_settled_lem);
        }

    -- after `strip`
    pub finished_table : {t₃ : List ℕ} → t₃ ≡ put t₂ 0 (map stripped (rows_from t₂ 0 (length ds))) → t₃ ≡ put t 0 (finished s ds)
    unfolding finished
    finished_table three =
        passed t (are_encoded fit_settled) (rw all_settled room) table_settled_lem stripped length_stripped (rw all_settled three)
        ∙ ap (put t 0) (stripped_rows fit_settled)

  -- the numbers that the map leaves free
  pub free_finished : {ws₁ : List ℕ} → ws₁ ≡ given_map ws 1 (owns_in (rows_from t 0 (length ds))) → used_count ws₁ + free_count (numbered (own_numbers ds)) ≡ 65535
  free_finished e = free_count_lem (rw (e, held, owns_encoded (sound_fit v.each)) (map_numbered holds))
