-- Demand 2: the text of a source that resolves is read again to the same rows, and resolves to itself; it writes every step (document 02, W-208). The
-- terms are those of `specs/Demand2`.
-- Assumes nothing.
use mathlib.Core.Path.{◌≡◌, refl, ap, ap₂, sym, ◌∙◌, subst}
use mathlib.Core.List.{List, [], ◌∷◌, map}
use mathlib.Core.Bool.{true, false}
use mathlib.Core.Logic.{◌↔◌}
use Prim.Native.Nat.{ℕ, ◌/◌, ◌≤◌}
use native.Mathlib.Omega.{arith}
use lib.Dec.{eqb, ltb}
use lib.ListN.{length}
use borrow.Author.Tests.{eq-eqb, eqb-true, eqb-false, le-ltb, ltb-false}
use Rattle.lexemes.proofs.Lists.{either}
use Rattle.numbers.specs.Numbers.{numbered, free_count}
use Rattle.rows.specs.Columns as column
use Rattle.rows.specs.Columns.{ROW}
use Rattle.ll1.specs.Trees.{Trees}
use Rattle.grammar.specs.Derivation.{Derives}
use Rattle.grammar.specs.Source.{source_tokens}
use Rattle.answers.specs.Rows.{Draft}
use Rattle.answers.specs.Stages.{cell, own_numbers, finished}
use Rattle.answers.specs.Answer.{LONGEST, accepts, drafts}
use Rattle.answers.specs.WholeAnswer.{derived, checked, read_answer, rows_of, read_table}
use Rattle.answers.specs.Text.{text_of, row_first_at, resolved_text}
use Rattle.answers.specs.Resolution.{text_of_source, room, resolved_into, resolution, resolved_table, resolved_output}
use Rattle.answers.specs.Demand3.{Sound, PassesAll}
use Rattle.answers.specs.MissingStep.{writes_steps}
use Rattle.answers.proofs.Answers.{sound_passes, passes_grammatical, passes_room, passes_sound, passes_derived, passes_rows, passes_text, accepted_answer}
use Rattle.answers.proofs.Demand3.{one_derivation_of_source, accepts_passing, table_rows, table_past_rows}
use Rattle.sound.proofs.Lists.{All, none, more}
use Rattle.answers.proofs.RowPlaces.{rows_by_place}
use Rattle.again.specs.Matches.{final, Match, Pairs, no_pairs, pair}
use Rattle.roundtrip.proofs.Canon.{Found, pairs_length}
use Rattle.again.proofs.Lists.{all_with}
use Rattle.again.proofs.Theorems.{settled, rules_below, free_again, finished_again, sound_again}
use Rattle.roundtrip.specs.Demand2.{besides_places, ReadsAgain, SameTables}
use Rattle.roundtrip.proofs.Trip.{text_from, Trip, trip}

-- the finished row whose first token stands at a place
abbrev pub looked : List ℕ → Trees → ℕ → List ℕ
looked s tree = row_first_at (finished s (drafts s tree))

-- ---- lists

same_all : (f g : Draft → List ℕ) (ds : List Draft) → map f ds ≡ map g ds → All (λ d. f d ≡ g d) ds
same_all f g [] e = none
same_all f g (d ∷ ds) e = let h : f d ≡ g d = cc in let k : map f ds ≡ map g ds = cc in more h (same_all f g ds k)

-- rows that match are the same but their places
same_but_places :
    {t : List ℕ} {look : ℕ → List ℕ} {ds' ds : List Draft}
    → Pairs (Match t look) ds' ds → besides_places (map (final t) ds') ≡ besides_places (map (λ d. look (cell column.PLACE d)) ds)
same_but_places no_pairs = refl
same_but_places (pair m p) = ap₂ (λ x y. x ∷ y) m.same (same_but_places p)

-- ---- a source that resolves

pub record Resolved (s : List ℕ) (n m : ℕ) : Type 0 where
  pub tree : Trees
  pub passes : PassesAll s n tree
  pub short : length s ≤ LONGEST
  pub sound : Sound s tree
  pub rows_fit : length (drafts s tree) ≤ n / ROW
  pub text_fits : length (text_of_source s) ≤ room m
  pub is_tree : checked s ≡ derived tree
  pub answer : read_answer s n ≡ accepts (length (drafts s tree)) (free_count (numbered (own_numbers (drafts s tree))))
  pub resolves : resolution s n m ≡ resolved_into m (length (text_of_source s)) (read_answer s n)

passed :
    {s : List ℕ} {n m : ℕ} {tree : Trees}
    → PassesAll s n tree → length (text_of_source s) ≤ room m → resolution s n m ≡ resolved_into m (length (text_of_source s)) (read_answer s n)
    → Resolved s n m
passed {s} {n} {m} {tree} p l r =
    record {
      tree = tree;
      passes = p;
      short = (passes_grammatical p).short;
      sound = passes_sound p;
      rows_fit = passes_room p;
      text_fits = l;
      is_tree = passes_derived p;
      answer = accepted_answer s n tree p;
      resolves = r;
    }

pub resolved : (s : List ℕ) (n m : ℕ) → (resolution s n m).number ≡ 0 → Resolved s n m
unfolding resolution
resolved s n m h = either (eqb (read_answer s n).number 0) accepted refused
  where
    refused : eqb (read_answer s n).number 0 ≡ false → Resolved s n m
    refused e = absurd (eqb-false (read_answer s n).number 0 e (rw (e, resolution) at h))

    accepted : eqb (read_answer s n).number 0 ≡ true → Resolved s n m
    accepted e =
        let r : resolution s n m ≡ resolved_into m (length (text_of_source s)) (read_answer s n) = rw (e, resolution) in
        let w = (accepts_passing s n).0 (eqb-true (read_answer s n).number 0 e) in
        either (ltb (room m) (length (text_of_source s)))
        (λ z. let q : ◌≡◌ {A = ℕ} 13 0 = rw (r, z, resolved_into) at h in absurd (omega arith))
        (λ z. passed w.1 (ltb-false (room m) (length (text_of_source s)) z) r)

-- a source resolves exactly when it is no longer than 65,536 bytes, has a derivation whose depths, ranges, 255-rule limit, uniqueness, reference and
-- choice rules hold and of whose rules none reaches itself (W-202), its rows are no more than the whole rows lent, and its text no longer than the
-- bytes lent and than 65,536
pub resolves_with_room :
    (s : List ℕ) (n m : ℕ)
    → ((resolution s n m).number ≡ 0)
    ↔ ((tree : Trees) × Sound s tree × (length s ≤ LONGEST) × (length (drafts s tree) ≤ n / ROW)
    × (length (resolved_text tree (finished s (drafts s tree))) ≤ room m))
unfolding resolution
resolves_with_room s n m = (
  λ h. let r = resolved s n m h in (r.tree, r.sound, r.short, r.rows_fit, rw (passes_text r.passes) at r.text_fits),
  λ f. found f.0 (sound_passes f.1 f.2 f.3) f.4,
)
  where
    found : (tree : Trees) → PassesAll s n tree → length (resolved_text tree (finished s (drafts s tree))) ≤ room m → (resolution s n m).number ≡ 0
    found tree p h =
        let short : length (text_of_source s) ≤ room m = rw (passes_text p) h in
        let number : (read_answer s n).number ≡ 0 = ap (λ a. a.number) (accepted_answer s n tree p) in
        let e : resolution s n m ≡ resolved_into m (length (text_of_source s)) (read_answer s n) = rw (number, resolution) in
        ap (λ a. a.number) e ∙ rw (le-ltb (room m) (length (text_of_source s)) short, resolved_into)

-- ---- the round trip

module _ (s : List ℕ) (n m : ℕ) (r : Resolved s n m) where
  abbrev tree : Trees
  tree = r.tree

  abbrev look : ℕ → List ℕ
  look = looked s tree

  abbrev t : List ℕ
  t = text_from look tree

  rows_of_lem : rows_of s ≡ finished s (drafts s tree)
  rows_of_lem = passes_rows r.passes

  the_trip : Trip s look tree
  the_trip = trip s look tree r.short r.sound.derives r.sound.depths r.sound.ranges (all_with (λ d z l. (z, l)) (settled s tree r.sound r.short) (rules_below s tree r.sound r.short))

  abbrev tree' : Trees
  tree' = the_trip.tree'

  -- the text is that of the trip
  text_is : text_of_source s ≡ t
  unfolding resolved_text
  text_is = passes_text r.passes ∙ sym the_trip.same_text

  short' : length t ≤ LONGEST
  short' = omega (arith, ap length text_is, r.text_fits)

  sound' : Sound t tree'
  sound' = sound_again s tree r.sound r.short t tree' short' the_trip.derives the_trip.depths the_trip.no_second the_trip.kept_ranges the_trip.rows

  finished' : finished t (drafts t tree') ≡ map (final t) (drafts t tree')
  finished' = finished_again s tree r.sound r.short t the_trip.rows

  count : length (drafts t tree') ≡ length (drafts s tree)
  count = pairs_length the_trip.rows

  passes' : PassesAll t n tree'
  passes' = sound_passes sound' short' (omega (arith, count, r.rows_fit))

  answer' : read_answer t n ≡ read_answer s n
  answer' = accepted_answer t n tree' passes' ∙ ap₂ accepts count (free_again s tree r.sound r.short t the_trip.rows) ∙ sym r.answer

  rows_of' : rows_of t ≡ finished t (drafts t tree')
  rows_of' = passes_rows passes'

  rows' : besides_places (rows_of t) ≡ besides_places (rows_of s)
  rows' =
      ap besides_places (rows_of' ∙ finished') ∙ same_but_places the_trip.rows
      ∙ ap besides_places (rows_by_place s tree r.sound.derives ∙ sym rows_of_lem)

  found' : All (Found t (looked t tree')) (drafts t tree')
  found' = same_all (λ d. looked t tree' (cell column.PLACE d)) (final t) (drafts t tree') (rows_by_place t tree' the_trip.derives ∙ finished')

  text' : text_of_source t ≡ t
  unfolding resolved_text
  text' = passes_text passes' ∙ (ap text_of (the_trip.again (looked t tree') found') ∙ sym the_trip.same_text)

  resolution' : resolution t n m ≡ resolution s n m
  unfolding resolution
  resolution' =
      let number : (read_answer t n).number ≡ 0 = ap (λ a. a.number) (answer' ∙ r.answer) in
      let e : resolution t n m ≡ resolved_into m (length (text_of_source t)) (read_answer t n) = rw (number, resolution) in
      e ∙ ap₂ (λ k a. resolved_into m k a) (ap length (text' ∙ sym text_is)) answer' ∙ sym r.resolves

  again : ReadsAgain text_of_source s n
  again =
      let e = sym text_is in
      record {
        same_answer = subst (λ x. read_answer x n ≡ read_answer s n) e answer';
        same_rows = subst (λ x. besides_places (rows_of x) ≡ besides_places (rows_of s)) e rows';
        same_text = subst (λ x. text_of_source x ≡ x) e text';
      }

  steps_written : (tree : Trees) → Derives (source_tokens (text_of_source s)) tree → writes_steps tree ≡ true
  steps_written f d =
      let g : Derives (source_tokens t) f = subst (λ x. Derives (source_tokens x) f) text_is d in
      subst (λ x. writes_steps x ≡ true) (one_derivation_of_source t tree' f the_trip.derives g) the_trip.steps_written

  same_resolution : resolution (text_of_source s) n m ≡ resolution s n m
  same_resolution = subst (λ x. resolution x n m ≡ resolution s n m) (sym text_is) resolution'

-- a source that resolves through a table of n numbers into m bytes: demand 2 holds of its text
module _ (s : List ℕ) (n m : ℕ) (h : (resolution s n m).number ≡ 0) where
  reads : (read_answer s n).number ≡ 0
  reads = ap (λ a. a.number) (resolved s n m h).answer

  pub reads_again : ReadsAgain text_of_source s n
  reads_again = again s n m (resolved s n m h)

  -- the text "writes every step" (W-208)
  pub writes_steps_lem : (tree : Trees) → Derives (source_tokens (text_of_source s)) tree → writes_steps tree ≡ true
  writes_steps_lem = steps_written s n m (resolved s n m h)

  -- and resolving it ends with the same answer, table lent and output lent being as large
  pub resolves_again : resolution (text_of_source s) n m ≡ resolution s n m
  resolves_again = same_resolution s n m (resolved s n m h)

  -- and the same output
  pub same_output : resolved_output (text_of_source s) n m ≡ resolved_output s n m
  unfolding resolved_output
  same_output = rw (resolves_again, reads_again.same_text)

  -- the table of a source that resolves is the one that reading leaves
  pub resolved_table_lem : resolved_table s n m ≡ read_table s n
  unfolding resolved_table read_table
  resolved_table_lem = rw (eq-eqb (resolution s n m).number 0 h, eq-eqb (read_answer s n).number 0 reads)

  -- reading the text leaves the same rows in its table, but the places
  pub same_tables : SameTables n (read_answer s n).rows (read_table (text_of_source s) n) (read_table s n)
  same_tables =
      let w = reads_again in
      let again : (read_answer (text_of_source s) n).number ≡ 0 = ap (λ a. a.number) w.same_answer ∙ reads in
      record {
        same_rows =
            ap besides_places (rw w.same_answer at (table_rows (text_of_source s) n again))
            ∙ (w.same_rows ∙ ap besides_places (sym (table_rows s n reads)));
        zeros = rw w.same_answer at (table_past_rows (text_of_source s) n again);
        zeros' = table_past_rows s n reads;
      }
