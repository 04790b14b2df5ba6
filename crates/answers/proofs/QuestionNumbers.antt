-- The finished rows give the questions the numbers of `numbered`, in source order.
-- Assumes nothing.
use mathlib.Core.Path.{◌≡◌, refl, sym, ap, ◌∙◌}
use mathlib.Core.List.{List, [], ◌∷◌, map}
use mathlib.Core.Bool.{Bool, true, false, not, cond, ◌&&◌, ◌||◌}
use Prim.Native.Nat.{ℕ, zero, suc, ◌+◌, ◌-◌, ◌≤◌, ◌<◌}
use native.Mathlib.Nat.{zero-add}
use native.Mathlib.Omega.{arith}
use lib.Dec.{eqb, ltb}
use lib.ListN.{length, get_or, set, take}
use lib.Seq.{get_or-set_same, get_or-set_other}
use borrow.Author.Tests.{ne_eqb, lt-ltb, not-true}
use Rattle.lexemes.proofs.Lists.{either}
use Rattle.numbers.specs.Numbers.{number_limit, is_number, picked, free_from, mem, borne, free_numbers, free_count, unwritten, numbered}
use Rattle.numbers.proofs.Ranges.{and_yes, one, pick_no, count_none, count_next, count_add, pick_index}
use Rattle.numbers.proofs.FreeNumbers.{number_range, free_exactly}
use Rattle.numbers.proofs.Lists.{mem_get_or, unwritten_before}
use Rattle.numbers.proofs.Numbering.{Numbering, numbering, enough_free}
use Rattle.rows.specs.Codes as code
use Rattle.rows.specs.Codes.{member, questions, is_question}
use Rattle.rows.specs.Columns as column
use Rattle.rows.specs.Columns.{ROW}
use Rattle.ll1.specs.Trees.{Trees, nonterminal, Fits, fits_node}
use Rattle.ll1.proofs.Basics.{clash}
use Rattle.grammar.specs.Rules.{<source>}
use Rattle.grammar.specs.Grammar.{rules}
use Rattle.answers.specs.Rows.{Draft, form_set, drafts_of}
use Rattle.answers.specs.Stages.{cell, asks, refers, finds, own_of_first, own_numbers, with_cell, with_numbers, numbered_rows, finished}
use Rattle.answers.specs.Demand3.{question_numbers, unwritten_below, GetsSmallest}
use Rattle.answers.proofs.Settling.{found_row, finished_numbered}
use Rattle.answers.proofs.RowShape.{Wide, no_wide, add_wide}

-- a question is no reference
no_reference : (k : ℕ) → is_question k ≡ true → eqb k code.QUESTION_REF || eqb k code.RULE_REF ≡ false
unfolding is_question member questions
no_reference k h =
    rw (ne_eqb k code.QUESTION_REF (λ e. let n : false ≡ true = rw e at h in clash cc), ne_eqb k code.RULE_REF (λ e. let n : false ≡ true = rw e at h in clash cc))

module _ (r : List ℕ) (rs : List (List ℕ)) where
  first_question : is_question (get_or r column.CODE 0) ≡ true → question_numbers (r ∷ rs) ≡ get_or r column.OWN 0 ∷ question_numbers rs
  unfolding question_numbers
  first_question e = rw e

  first_other : is_question (get_or r column.CODE 0) ≡ false → question_numbers (r ∷ rs) ≡ question_numbers rs
  unfolding question_numbers
  first_other e = rw e

module _ (s : List ℕ) (look : Draft → ℕ) where
  found_code : (d : Draft) → get_or (found_row s look d) column.CODE 0 ≡ cell column.CODE d
  found_code d = either (refers s d) (λ e. rw e (get_or-set_other d.row column.A column.CODE (look d) 0 (λ q. omega arith))) (λ e. rw e)

  module _ (d : Draft) (ds : List Draft)
      (given : (ns : List ℕ) → length ns ≡ length (own_numbers ds) → question_numbers (map (found_row s look) (with_numbers ns ds)) ≡ ns) where
    given_question : (ns : List ℕ) → length d.row ≡ ROW → asks d ≡ true → length ns ≡ length (own_numbers (d ∷ ds))
        → question_numbers (map (found_row s look) (with_numbers ns (d ∷ ds))) ≡ ns
    unfolding with_numbers own_numbers
    given_question [] l e h = let n : 0 ≡ suc (length (own_numbers ds)) = rw e at h in absurd (omega arith)
    given_question (m ∷ ns) l e h =
        let n : suc (length ns) ≡ suc (length (own_numbers ds)) = rw e at h in
        let d' = with_cell column.OWN m d in
        let same : cell column.CODE d' ≡ cell column.CODE d = get_or-set_other d.row column.OWN column.CODE m 0 (λ q. omega arith) in
        let asks' : asks d' ≡ true = rw same e in
        let row' : found_row s look d' ≡ set d.row column.OWN m = rw (no_reference (cell column.CODE d') asks') in
        let own' : get_or (found_row s look d') column.OWN 0 ≡ m = rw row' (get_or-set_same d.row column.OWN m 0 (omega arith)) in
        rw e (first_question (found_row s look d') _ (rw (found_code d') asks') ∙ rw (own', given ns (omega arith)))

    given_other : (ns : List ℕ) → asks d ≡ false → length ns ≡ length (own_numbers (d ∷ ds))
        → question_numbers (map (found_row s look) (with_numbers ns (d ∷ ds))) ≡ ns
    unfolding with_numbers own_numbers
    given_other ns e h = rw e (first_other (found_row s look d) _ (rw (found_code d) e) ∙ given ns (rw e at h))

  given : (ns : List ℕ) {ds : List Draft} → Wide ds → length ns ≡ length (own_numbers ds) → question_numbers (map (found_row s look) (with_numbers ns ds)) ≡ ns
  unfolding question_numbers with_numbers own_numbers
  given [] no_wide h = refl
  given (m ∷ ns) no_wide h = absurd (omega arith)
  given ns (add_wide {d = d} {ds = ds} l w) h =
      either (asks d) (λ e. given_question d ds (λ k q. given k w q) ns l e h) (λ e. given_other d ds (λ k q. given k w q) ns e h)

pub question_numbers_lem : (s : List ℕ) (ds : List Draft) → Wide ds → question_numbers (finished s ds) ≡ numbered (own_numbers ds)
unfolding numbered_rows
question_numbers_lem s ds w =
    ap question_numbers (finished_numbered s ds)
    ∙ given s (λ d. own_of_first s (finds s (numbered_rows ds) d) (numbered_rows ds)) (numbered (own_numbers ds)) w (numbering (own_numbers ds)).long

-- ---- there are numbers enough: the first row, the form set's, is no question

own_few : (ds : List Draft) → length (own_numbers ds) ≤ length ds
unfolding own_numbers
own_few [] = omega arith
own_few (d ∷ ds) = either (asks d) (λ e. rw e (omega (arith, own_few ds))) (λ e. rw e (omega (arith, own_few ds)))

after_other : (d : Draft) (ds : List Draft) → asks d ≡ false → length (own_numbers (d ∷ ds)) < length (d ∷ ds)
unfolding own_numbers
after_other d ds e = rw e (omega (arith, own_few ds))

pub questions_few : {f : Trees} (value : ℕ → ℕ) → Fits rules (nonterminal <source> ∷ []) f → length (own_numbers (drafts_of value f 0 0 0)) < length (drafts_of value f 0 0 0)
unfolding is_question questions member
questions_few value (fits_node {c = c} e r₁ r₂) = after_other (form_set value c) _ refl

-- ---- the i-th without a number gets the i-th smallest that none writes

-- where 3 and 4 are written, three numbers below 6 are not: 1, 2 and 5
unwritten_below_six : unwritten_below (3 ∷ 0 ∷ 4 ∷ []) 6 ≡ 3
unfolding unwritten_below mem
unwritten_below_six = refl

module _ (l : List ℕ) where
  -- no question writes the number k
  abbrev is_free : ℕ → Bool
  is_free k = is_number k && not (borne l k)

  free_test : (k : ℕ) → k < number_limit → (ltb 0 k && not (mem k l)) ≡ is_free k
  free_test k h = rw (lt-ltb k number_limit h) (go (ltb 0 k))
    where
      go : (b : Bool) → (b && not (mem k l)) ≡ (b && true && not (b && true && mem k l))
      go true = refl
      go false = refl

  one_more : (b : Bool) (n : ℕ) → cond b (suc n) n ≡ n + one b
  one_more true n = omega arith
  one_more false n = omega arith

  below_picked : (n : ℕ) → n ≤ number_limit → unwritten_below l n ≡ length (picked is_free 0 n)
  unfolding unwritten_below
  below_picked zero h = sym (count_none is_free 0)
  below_picked (suc n) h =
      let more : unwritten_below l (suc n) ≡ unwritten_below l n + one (is_free n) = rw (free_test n (omega arith)) (one_more (is_free n) (unwritten_below l n)) in
      let e : n + 1 ≡ suc n = omega arith in
      let counts : length (picked is_free 0 (suc n)) ≡ length (picked is_free 0 n) + length (picked is_free n 1) =
      rw (zero-add n, e) at (count_add is_free n 1 0) in
      omega (arith, more, counts, count_next is_free n 0, count_none is_free (n + 1), below_picked n (omega arith))

  -- of the free numbers, the one with i before it has i below it
  below_free : (k i : ℕ) → is_number k ≡ true → i < free_count l → k ≡ get_or (free_numbers l) i 0 → unwritten_below l k ≡ i
  unfolding free_from
  below_free k i number h e =
      let range = number_range k number in
      let m : k ≡ suc (k - 1) = omega arith in
      let from_1 : length (picked is_free 0 k) ≡ length (picked is_free 1 (k - 1)) =
      ap (λ (c : ℕ). length (picked is_free 0 c)) m ∙ ap length (pick_no is_free 0 (k - 1) refl) in
      let index : length (picked is_free 1 (k - 1)) ≡ i = rw (← e) at (pick_index is_free 65535 1 i h) in
      below_picked k (omega arith) ∙ (from_1 ∙ index)

module _ (l n : List ℕ) (few : length l ≤ 65535) (v : Numbering l n) where
  module _ (j : ℕ) (h : j < length l) (z : get_or l j 0 ≡ 0) where
    abbrev i : ℕ
    i = unwritten (take j l)

    there : i < free_count l
    there = omega (arith, unwritten_before l j h z, enough_free l few)

    number : (is_number (get_or n j 0) ≡ true) × (mem (get_or n j 0) l ≡ false)
    number =
        let k = get_or (free_numbers l) i 0 in
        let e = and_yes (is_number k) (not (mem k l)) (sym (free_exactly l k) ∙ mem_get_or (free_numbers l) i there) in
        rw (v.gets j h z) (e.0, not-true (mem k l) e.1)

    below : unwritten_below l (get_or n j 0) ≡ i
    below = below_free l (get_or n j 0) i number.0 there (v.gets j h z)

  pub gets_smallest : GetsSmallest l n
  gets_smallest =
      record {
        each = v.long;
        stays = v.stands;
        from_1 = λ j h z. (number_range (get_or n j 0) (number j h z).0).0;
        to_65535 = λ j h z. omega (arith, (number_range (get_or n j 0) (number j h z).0).1);
        free = λ j h z. (number j h z).1;
        i_th = below;
      }
