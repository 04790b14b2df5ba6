-- Every draft row of an accepted source is settled: its finished row is found at its place, a question has got a number, a reference has found one.
-- Assumes nothing.
use mathlib.Core.Path.{◌≡◌, refl, ap, sym, ◌∙◌}
use mathlib.Core.List.{List, []}
use mathlib.Core.Bool.{true, false, cond, ◌&&◌, or-true, true≢false}
use Prim.Native.Nat.{ℕ, ◌≤◌, ◌<◌}
use native.Mathlib.Omega.{arith}
use lib.Dec.{eqb, ltb}
use lib.ListN.{length, get_or, set}
use lib.Seq.{get_or-set_same, set-get_or}
use borrow.Author.Tests.{ltb-false}
use Rattle.lexemes.proofs.Lists.{either, and_true}
use Rattle.numbers.specs.Numbers.{is_number, mem, numbered}
use Rattle.numbers.proofs.FreeNumbers.{number_range}
use Rattle.numbers.proofs.Numbering.{Own}
use Rattle.rows.specs.Codes as code
use Rattle.rows.specs.Columns as column
use Rattle.ll1.specs.Trees.{Trees}
use Rattle.answers.specs.Rows.{Draft}
use Rattle.grammar.specs.Parts.{mark}
use Rattle.answers.specs.Stages.{cell, is, asks, any, fault_if, rules_over_limit, unfound}
use Rattle.answers.specs.Stages.{own_numbers, with_cell, numbered_rows, form_round, finds, refers, own_of_first, finished}
use Rattle.answers.specs.Answer.{LONGEST, drafts}
use Rattle.answers.specs.Text.{row_first_at}
use Rattle.answers.specs.Demand3 as Demand3
use Rattle.drafts.specs.Sound.{SoundRow, SoundRows}
use Rattle.sound.proofs.Lists.{All}
use Rattle.sound.proofs.DraftsSound.{drafts_sound}
use Rattle.answers.proofs.RowPlaces.{rows_by_place}
use Rattle.answers.proofs.Settling.{other_column, finished_numbered}
use Rattle.again.specs.Matches.{Pairs, Settled}
use Rattle.again.specs.RuleNumbers.{owns_of, rule_numbers, rule_of}
use Rattle.again.proofs.Lists.{all_then, all_with, sound_each, pairs_first, pairs_alike, firsts}
use Rattle.answers.proofs.Faults.{no_fault_lem}
use Rattle.again.proofs.Faults.{no_faults, passed, each_clean}
use Rattle.again.proofs.Owns.{owns_each, owns_wider}
use Rattle.again.proofs.RuleNumbers.{from_above, rules_count}
use Rattle.again.proofs.Questions.{own_numbers_lem}
use Rattle.again.proofs.NumberedDrafts.{asks_other, question_ref_not, rule_ref_not, Bears, got, kept, ws, all_bear, finds_question_lem, finds_rule_lem}

-- ---- one row

-- a question is no reference
no_reference : (s : List ℕ) (d : Draft) → asks d ≡ true → refers s d ≡ false
no_reference s d q = rw (asks_other code.QUESTION_REF question_ref_not d q, asks_other code.RULE_REF rule_ref_not d q)

-- the finished row of a numbered draft, where its reference finds the number n
abbrev finish : List ℕ → Draft → ℕ → List ℕ
finish s e n = cond (refers s e) (set e.row column.A n) e.row

module _ (s : List ℕ) (look : ℕ → List ℕ) {d : Draft} (u : SoundRow d) where
  settled_question : (v n : ℕ) → asks d ≡ true → is_number v ≡ true → look (cell column.PLACE d) ≡ finish s (with_cell column.OWN v d) n → Settled look d
  settled_question v n q h e =
      let code_same : cell column.CODE (with_cell column.OWN v d) ≡ cell column.CODE d = other_column d v column.CODE (λ z. omega arith) in
      let none : refers s (with_cell column.OWN v d) ≡ false = no_reference s (with_cell column.OWN v d) (rw code_same q) in
      record {
        own = v;
        a = cell column.A (with_cell column.OWN v d);
        is_row = e ∙ rw none (sym (set-get_or (set d.row column.OWN v) column.A 0));
        whole = u.whole;
        own_same = λ z. absurd (true≢false (sym q ∙ z));
        own_range = λ z. number_range v h;
        a_same = λ z. other_column d v column.A (λ z. omega arith);
        a_range = λ z. absurd (true≢false (sym z ∙ no_reference s d q));
      }

  -- a row that keeps its own number
  own_kept : d.row ≡ set d.row column.OWN (cell column.OWN d)
  own_kept = sym (set-get_or d.row column.OWN 0)

  settled_other : (n : ℕ) → asks d ≡ false → (refers s d ≡ true → (0 < n) × (n < 65536)) → look (cell column.PLACE d) ≡ finish s d n → Settled look d
  settled_other n q h e =
      either (refers s d)
      (λ r.
      record {
        own = cell column.OWN d;
        a = n;
        is_row = e ∙ rw r (ap (λ q. set q column.A n) own_kept);
        whole = u.whole;
        own_same = λ z. refl;
        own_range = λ z. absurd (true≢false (sym z ∙ q));
        a_same = λ z. absurd (true≢false (sym r ∙ z));
        a_range = h;
      })
      (λ r.
      record {
        own = cell column.OWN d;
        a = cell column.A d;
        is_row = e ∙ rw r (sym (set-get_or d.row column.A 0) ∙ ap (λ q. set q column.A (cell column.A d)) own_kept);
        whole = u.whole;
        own_same = λ z. refl;
        own_range = λ z. absurd (true≢false (sym z ∙ q));
        a_same = λ z. refl;
        a_range = λ z. absurd (true≢false (sym z ∙ r));
      })

-- ---- what stages 10 and 11 tell of each row

-- "a 256th rule" there is none
pub rules_below : (ds : List Draft) → rules_over_limit ds ≡ [] → All (λ d. is code.RULE d ≡ true → cell column.OWN d < 256) ds
unfolding rules_over_limit
rules_below ds e = all_then few (each_clean _ (λ before d. refl) [] e)
  where
    few : (d : Draft) → fault_if (is code.RULE d && ltb 255 (cell column.OWN d)) (mark (cell column.PLACE d)) ≡ [] → is code.RULE d ≡ true → cell column.OWN d < 256
    few d h r = let t : ltb 255 (cell column.OWN d) ≡ false = rw r at (no_fault_lem (is code.RULE d && ltb 255 (cell column.OWN d)) _ h) in omega (arith, ltb-false 255 (cell column.OWN d) t)

rules_few : (ds : List Draft) → rules_over_limit ds ≡ [] → (k : ℕ) → mem k (rule_numbers ds) ≡ true → k < 256
rules_few ds e = owns_each (is code.RULE) (λ k. k < 256) (rules_below ds e)

-- each goto and each reference finds something
pub record Finds (s : List ℕ) (ds : List Draft) (d : Draft) : Type 0 where
  pub form : is code.GOTO d ≡ true → any (λ e. is code.FORM e && eqb (cell column.OWN e) (cell column.A d)) ds ≡ true
  pub target : refers s d ≡ true → any (finds s ds d) ds ≡ true

pub all_find : (s : List ℕ) (ds : List Draft) → unfound s ds ≡ [] → All (Finds s ds) ds
unfolding unfound
all_find s ds e = all_then (λ d h. let t = no_faults _ _ d.limit_at d.own_at h in record { form = passed _ _ t.0; target = passed _ _ t.1 }) (each_clean _ (λ before d. refl) [] e)

-- ---- an accepted source

-- the number that a reference has found is a question's, or that of a rule of the form that it stands in
pub record Resolved (look : ℕ → List ℕ) (ds : List Draft) (d : Draft) : Type 0 where
  pub question : is code.QUESTION_REF d ≡ true → mem (get_or (look (cell column.PLACE d)) column.A 0) (numbered (own_numbers ds)) ≡ true
  pub rule : is code.RULE_REF d ≡ true → mem (get_or (look (cell column.PLACE d)) column.A 0) (owns_of (rule_of (form_round ds d)) ds) ≡ true

module _ (s : List ℕ) (tree : Trees) (sound : Demand3.Sound s tree) (short : length s ≤ LONGEST) where
  abbrev ds : List Draft
  ds = drafts s tree

  abbrev look : ℕ → List ℕ
  look = row_first_at (finished s (drafts s tree))

  pub sound_rows : SoundRows ds
  sound_rows = drafts_sound s tree short sound.derives sound.ranges

  pub own : Own (numbered (own_numbers ds))
  own = own_numbers_lem s tree sound.derives short sound_rows.each sound.questions

  -- each draft with its number, and its finished row
  number : Draft → ℕ
  number e = own_of_first s (finds s (ws s sound_rows.each own) e) (ws s sound_rows.each own)

  rows : Pairs (λ d e. Bears d e × (look (cell column.PLACE d) ≡ finish s e (number e))) ds (ws s sound_rows.each own)
  unfolding number numbered_rows
  rows = pairs_alike (all_bear s sound_rows.each own) (rows_by_place s tree sound.derives ∙ finished_numbered s ds)

  module _ {d : Draft} (u : SoundRow d) (f : Finds s ds d) where
    found_question : is code.QUESTION_REF d ≡ true → mem (number d) (numbered (own_numbers ds)) ≡ true
    unfolding number
    found_question e = finds_question_lem s sound_rows.each own d (f.target (rw e)) e

    found_rule : is code.RULE_REF d ≡ true → mem (number d) (owns_of (rule_of (form_round ds d)) ds) ≡ true
    unfolding number
    found_rule e = finds_rule_lem s sound_rows.each own d (f.target (rw e (or-true (is code.QUESTION_REF d)))) e

    range : refers s d ≡ true → (0 < number d) × (number d < 65536)
    range r =
        either (is code.QUESTION_REF d)
        (λ e. number_range (number d) (own.within (number d) (found_question e)))
        (λ e.
        let m = owns_wider (rule_of (form_round ds d)) (is code.RULE) (λ x h. (and_true (is code.RULE x) _ h).0) ds (number d) (found_rule (rw e at r)) in
        (from_above (rules_count s tree sound.derives) (number d) m, omega (arith, rules_few ds sound.limit (number d) m)))

    row_settled : (e : Draft) → Bears d e → look (cell column.PLACE d) ≡ finish s e (number e) → Settled look d
    row_settled e (got v q n) h = settled_question s look u v (number e) q n h
    row_settled e (kept q) h = settled_other s look u (number d) q range h

    -- what is found at a reference's place
    held : refers s d ≡ true → look (cell column.PLACE d) ≡ finish s d (number d) → get_or (look (cell column.PLACE d)) column.A 0 ≡ number d
    held r h = ap (λ x. get_or x column.A 0) h ∙ rw r (get_or-set_same d.row column.A (number d) 0 (omega (arith, u.whole)))

    row_resolved : (e : Draft) → Bears d e → look (cell column.PLACE d) ≡ finish s e (number e) → Resolved look ds d
    row_resolved e (got v q n) h =
        record {
          question = λ r. absurd (true≢false (sym r ∙ asks_other code.QUESTION_REF question_ref_not d q));
          rule = λ r. absurd (true≢false (sym r ∙ asks_other code.RULE_REF rule_ref_not d q));
        }
    row_resolved e (kept q) h =
        record {
          question = λ r. rw (held (rw r) h) (found_question r);
          rule = λ r. rw (held (rw r (or-true (is code.QUESTION_REF d))) h) (found_rule r);
        }

  facts : All (λ d. SoundRow d × Finds s ds d) ds
  facts = all_with (λ d u f. (u, f)) (sound_each sound_rows.each) (all_find s ds sound.references)

  pub settled : All (Settled look) ds
  settled = firsts (λ d e h. h) (pairs_first (λ d e p f. row_settled f.0 f.1 e p.0 p.1) rows facts)

  pub resolved : All (Resolved look ds) ds
  resolved = firsts (λ d e h. h) (pairs_first (λ d e p f. row_resolved f.0 f.1 e p.0 p.1) rows facts)
