-- The drafts of an accepted source with the questions' numbers, and what its references find among them.
-- Assumes nothing.
use mathlib.Core.Path.{◌≡◌, refl, ap, sym, ◌∙◌}
use mathlib.Core.List.{List, [], ◌∷◌}
use mathlib.Core.Bool.{Bool, true, false, ◌&&◌, true≢false}
use Prim.Native.Nat.{ℕ, suc}
use native.Mathlib.Omega.{arith}
use lib.Dec.{eqb, ltb}
use lib.ListN.{length, get_or, drop}
use lib.Seq.{get_or-set_same}
use borrow.Author.Tests.{eq-eqb, eqb-true}
use Rattle.lexemes.proofs.Lists.{either, and_true}
use Rattle.numbers.specs.Numbers.{is_number, mem, numbered}
use Rattle.numbers.proofs.Numbering.{Own, numbering}
use Rattle.rows.specs.Codes as code
use Rattle.rows.specs.Codes.{is_question, questions, member}
use Rattle.rows.specs.Columns as column
use Rattle.ll1.proofs.Basics.{or_right}
use Rattle.answers.specs.Rows.{Draft}
use Rattle.answers.specs.Stages.{cell, is, asks, writes, any, place_of, own_numbers, with_cell, with_numbers, declares, form_round, rule_named, finds, own_of_first}
use Rattle.answers.proofs.FoundRules.{round_numbered, finds_rules}
use Rattle.drafts.specs.Sound.{SoundRow, AllSound}
use Rattle.drafts.proofs.RowTests.{any_same, other_code}
use Rattle.stages.proofs.RepeatFaults.{bears}
use Rattle.answers.proofs.Settling.{other_column}
use Rattle.finish.proofs.NumberedRows.{writes_with}
use Rattle.sound.proofs.Lists.{All, none, more}
use Rattle.again.specs.Matches.{Pairs, no_pairs, pair}
use Rattle.again.specs.RuleNumbers.{owns_of, rule_of}
use Rattle.again.proofs.Lists.{sound_each, any_pairs}
use Rattle.again.proofs.Owns.{owns_questions, owns_like, first_owns}

-- ---- codes

-- a question's code is no other
pub asks_other : (k : ℕ) → is_question k ≡ false → (d : Draft) → asks d ≡ true → is k d ≡ false
asks_other k h d e = either (is k d) (λ y. absurd (true≢false (sym e ∙ ap is_question (eqb-true (cell column.CODE d) k y) ∙ h))) (λ y. y)

-- and a row of a code that is no question's is no question
pub other_asks : (k : ℕ) → is_question k ≡ false → (d : Draft) → is k d ≡ true → asks d ≡ false
other_asks k h d e = ap is_question (eqb-true (cell column.CODE d) k e) ∙ h

pub form_not : is_question code.FORM ≡ false
unfolding is_question questions member
form_not = refl

pub rule_not : is_question code.RULE ≡ false
unfolding is_question questions member
rule_not = refl

pub question_ref_not : is_question code.QUESTION_REF ≡ false
unfolding is_question questions member
question_ref_not = refl

pub rule_ref_not : is_question code.RULE_REF ≡ false
unfolding is_question questions member
rule_ref_not = refl

-- ---- rows with numbers

-- a question has got a number of 1 to 65,535; any other row is as it was
pub data Bears (d : Draft) : Draft → Type 0 where
  got : (v : ℕ) → asks d ≡ true → is_number v ≡ true → Bears d (with_cell column.OWN v d)
  kept : asks d ≡ false → Bears d d

-- the numbers of a list, given to the questions in order
data Gives : List ℕ → List Draft → List Draft → Type 0 where
  gives_none : Gives [] [] []
  to_question : {v : ℕ} {d : Draft} {ns : List ℕ} {ds es : List Draft} → asks d ≡ true → is_number v ≡ true → Gives ns ds es → Gives (v ∷ ns) (d ∷ ds) (with_cell column.OWN v d ∷ es)
  past_other : {d : Draft} {ns : List ℕ} {ds es : List Draft} → asks d ≡ false → Gives ns ds es → Gives ns (d ∷ ds) (d ∷ es)

gives : (ds : List Draft) (ns : List ℕ) → length ns ≡ length (own_numbers ds) → ((k : ℕ) → mem k ns ≡ true → is_number k ≡ true) → Gives ns ds (with_numbers ns ds)
unfolding with_numbers own_numbers mem
gives [] [] l h = gives_none
gives [] (v ∷ ns) l h = absurd (omega arith)
gives (d ∷ ds) ns l h =
    either (asks d)
    (λ e. rw e (question e (gives ds) ns (rw e at l) h))
    (λ e. rw e (past_other e (gives ds ns (rw e at l) h)))
  where
    question :
        asks d ≡ true
        → ((ns : List ℕ) → length ns ≡ length (own_numbers ds) → ((k : ℕ) → mem k ns ≡ true → is_number k ≡ true) → Gives ns ds (with_numbers ns ds))
        → (ns : List ℕ) → length ns ≡ suc (length (own_numbers ds)) → ((k : ℕ) → mem k ns ≡ true → is_number k ≡ true)
        → Gives ns (d ∷ ds) (with_cell column.OWN (get_or ns 0 0) d ∷ with_numbers (drop 1 ns) ds)
    question e rest [] l h = absurd (omega arith)
    question e rest (v ∷ ns) l h =
        to_question e (h v (rw (eq-eqb v v refl))) (rest ns (omega arith) (λ k m. h k (or_right (eqb k v) (mem k ns) m)))

gives_bears : {ns : List ℕ} {ds es : List Draft} → Gives ns ds es → Pairs Bears ds es
gives_bears gives_none = no_pairs
gives_bears (to_question {v = v} e n g) = pair (got v e n) (gives_bears g)
gives_bears (past_other e g) = pair (kept e) (gives_bears g)

-- what the questions have then
gives_numbers : {ns : List ℕ} {ds es : List Draft} → All SoundRow ds → Gives ns ds es → own_numbers es ≡ ns
unfolding own_numbers
gives_numbers none gives_none = refl
gives_numbers (more u r) (to_question {v = v} {d = d} e n g) =
    rw (other_column d v column.CODE (λ q. omega arith), e, gives_numbers r g, get_or-set_same d.row column.OWN v 0 (omega (arith, u.whole)))
gives_numbers (more u r) (past_other e g) = rw (e, gives_numbers r g)

-- ---- what references find

-- a test that no number changes
module _ (s : List ℕ) (m : ℕ) where
  abbrev named : (Draft → Bool) → Draft → Bool
  named sort e = sort e && declares s (place_of m) e

  named_same : (sort : Draft → Bool) → ((d : Draft) (v : ℕ) → sort (with_cell column.OWN v d) ≡ sort d) → (d e : Draft) → Bears d e → named sort d ≡ named sort e
  named_same sort h d e (got v q n) = rw (h d v, other_column d v column.NAME (λ z. omega arith))
  named_same sort h d e (kept q) = refl

module _ (s : List ℕ) {ds : List Draft} (each : AllSound ds) (own : Own (numbered (own_numbers ds))) where
  -- the numbers, and the rows with them
  abbrev ns : List ℕ
  ns = numbered (own_numbers ds)

  abbrev pub ws : List Draft
  ws = with_numbers (numbered (own_numbers ds)) ds

  all_given : Gives ns ds ws
  all_given = gives ds ns (numbering (own_numbers ds)).long own.within

  pub all_bear : Pairs Bears ds ws
  all_bear = gives_bears all_given

  sort_asks : (d : Draft) (v : ℕ) → asks (with_cell column.OWN v d) ≡ asks d
  sort_asks d v = rw (other_column d v column.CODE (λ z. omega arith))

  -- a reference finds among them what it finds among the drafts
  finds_with : (d : Draft) → any (finds s ws d) ws ≡ any (finds s ds d) ds
  finds_with d =
      either (is code.RULE_REF d)
      (λ e. finds_rules s ns ds d e)
      (λ e.
      either (ltb 0 (cell column.A d))
      (λ l. go (bears writes (cell column.A d)) (λ x. rw (e, l)) (λ x. rw (e, l)) (writes_with each ns (numbering (own_numbers ds)).stands (cell column.A d)))
      (λ l. go (named s d.own_at asks) (λ x. rw (e, l)) (λ x. rw (e, l)) (sym (any_pairs _ _ (named_same s d.own_at asks sort_asks) all_bear))))
    where
      go :
          (p : Draft → Bool) → ((x : Draft) → finds s ws d x ≡ p x) → ((x : Draft) → finds s ds d x ≡ p x) → any p ws ≡ any p ds
          → any (finds s ws d) ws ≡ any (finds s ds d) ds
      go p h k e = any_same (finds s ws d) p h ws ∙ e ∙ sym (any_same (finds s ds d) p k ds)

  module _ (d : Draft) (found : any (finds s ds d) ds ≡ true) where
    among : any (finds s ws d) ws ≡ true
    among = finds_with d ∙ found

    -- a questionref finds the number of a question
    pub finds_question_lem : is code.QUESTION_REF d ≡ true → mem (own_of_first s (finds s ws d) ws) ns ≡ true
    finds_question_lem e =
        let asked = first_owns s (finds s ws d) asks (λ x h. asking x (other_code d code.QUESTION_REF code.RULE_REF e refl) h) ws among in
        rw (owns_questions ws, gives_numbers (sound_each each) all_given) at asked
      where
        asking : (x : Draft) → is code.RULE_REF d ≡ false → finds s ws d x ≡ true → asks x ≡ true
        asking x r h =
            either (ltb 0 (cell column.A d))
            (λ l. (and_true (asks x) (ltb 0 x.own_at) (and_true (writes x) _ (rw (r, l) at h)).0).0)
            (λ l. (and_true (asks x) _ (rw (r, l) at h)).0)

    -- a ruleref that of a rule of the form that it stands in
    pub finds_rule_lem : is code.RULE_REF d ≡ true → mem (own_of_first s (finds s ws d) ws) (owns_of (rule_of (form_round ds d)) ds) ≡ true
    finds_rule_lem e =
        let f = form_round ds d in
        let ruled = first_owns s (finds s ws d) (rule_of f) ruling ws among in
        rw (← owns_like {P = Bears} (rule_of f) (rule_of f) (same_rule f) (same_own f) all_bear) at ruled
      where
        ruling : (x : Draft) → finds s ws d x ≡ true → rule_of (form_round ds d) x ≡ true
        ruling x h =
            let both = and_true (rule_named s (place_of d.own_at) x) _ (rw e at h) in
            rw ((and_true (is code.RULE x) _ both.0).0, ← round_numbered s ns ds d) both.1

        same_rule : (f : ℕ) (x y : Draft) → Bears x y → rule_of f x ≡ rule_of f y
        same_rule f x y (got v q n) = rw (other_column x v column.CODE (λ z. omega arith), other_column x v column.PARENT (λ z. omega arith))
        same_rule f x y (kept q) = refl

        same_own : (f : ℕ) (x y : Draft) → Bears x y → rule_of f y ≡ true → cell column.OWN x ≡ cell column.OWN y
        same_own f x y (got v q n) h =
            let rule = (and_true (is code.RULE x) _ (same_rule f x y (got v q n) ∙ h)).0 in
            absurd (true≢false (sym rule ∙ asks_other code.RULE rule_not x q))
        same_own f x y (kept q) h = refl
