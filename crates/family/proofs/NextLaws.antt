-- One source of a family: with as many rows as it has bytes it is read as with all that are left, and its rows stand behind those before.
-- Assumes nothing.
use Prim.Native.Nat.{ℕ, ◌+◌, ◌-◌, ◌*◌, ◌/◌, ◌≤◌, min}
use native.Mathlib.Omega.{arith}
use native.Mathlib.Decide.{ℕ_discrete}
use mathlib.Core.Path.{◌≡◌, refl, sym, ap, ◌∙◌}
use mathlib.Core.Logic.{◌≢◌}
use mathlib.Core.List.{List, [], ◌++◌, flatten}
use lib.ListN.{length, length-replicate}
use borrow.Author.Tests.{eq-eqb, ne_eqb, le-ltb}
use borrow.Rule.Slice.PartMut.{mid_of, put_mid}
use Rattle.lexemes.proofs.Lists.{either_less}
use Rattle.rows.specs.Columns.{ROW}
use Rattle.rows.specs.Table.{whole_rows}
use Rattle.rows.specs.Rows.{AreRows, no_rows, rows_from, laid}
use Rattle.rows.proofs.FlatLaws.{flatten_append, length_flatten}
use Rattle.rows.proofs.RunLaws.{are_rows_from, length_rows_from, put_fits}
use Rattle.rows.proofs.LaidLaws.{laid_none}
use Rattle.answers.specs.Rows.{Draft}
use Rattle.answers.specs.Answer.{Answer, answer_of, drafts}
use Rattle.answers.specs.WholeAnswer.{Checked, refusal, derived, checked, read_answer, rows_of, read_table}
use Rattle.answers.proofs.Demand3.{rows_few, table_rows}
use Rattle.replies.specs.Replies.{Reply, read_replied, read_reply}
use Rattle.read.specs.Over.{read_over}
use Rattle.read.proofs.AcceptedRows.{derived_derives, accepted_rows}
use Rattle.family.specs.Family.{rows_with, rows_taken}
use Rattle.family.specs.Steps.{Free}
use Rattle.family.proofs.PaddedLaws.{zeros, drop_zeros, padded, mid_padded, put_padded}

-- ---- no more rows than bytes

-- more whole rows than rows change no answer
roomy : (s : List ℕ) (ds : List Draft) (a b : ℕ) → length ds ≤ a → length ds ≤ b → answer_of s ds a ≡ answer_of s ds b
unfolding answer_of
roomy s ds a b h k = rw (answer_of, le-ltb a (length ds) h, le-ltb b (length ds) k)

module _ (s : List ℕ) (left : ℕ) {k : ℕ} (smaller : k ≡ min (length s) left) where
  enough_for : (c : Checked) → checked s ≡ c → read_answer s (k * ROW) ≡ read_answer s (left * ROW)
  unfolding read_answer
  enough_for (refusal n p) e = rw (e, read_answer)
  enough_for (derived tree) e =
      let few = rows_few s tree (derived_derives s tree e) in
      let whole : k * ROW / ROW ≡ k = omega arith in
      let all : left * ROW / ROW ≡ left = omega arith in
      rw (e, read_answer, whole, all)
      (either_less (length s) left
      (λ more. roomy s (drafts s tree) k left (omega arith) (omega arith))
      (λ fewer. let same : k ≡ left = omega arith in ap (answer_of s (drafts s tree)) same))

  pub enough : read_answer s (k * ROW) ≡ read_answer s (left * ROW)
  enough = enough_for (checked s) refl

-- nor do numbers of no whole row
answer_for : (s : List ℕ) (c : Checked) → checked s ≡ c → (n left : ℕ) → n / ROW ≡ left → read_answer s n ≡ read_answer s (left * ROW)
unfolding read_answer
answer_for s (refusal k p) e n left h = rw (e, read_answer)
answer_for s (derived tree) e n left h = let all : left * ROW / ROW ≡ left = omega arith in rw (e, read_answer, all, h)

pub answer_by_rows : (s : List ℕ) (n left : ℕ) → n / ROW ≡ left → read_answer s n ≡ read_answer s (left * ROW)
answer_by_rows s = answer_for s (checked s) refl

-- ---- the rows of a source that is accepted, and none of a refused one

module _ (s : List ℕ) (left : ℕ) where
  abbrev answer : Answer
  answer = read_answer s (left * ROW)

  accepted_are : answer.number ≡ 0 → rows_with s left ≡ rows_of s
  unfolding rows_with
  accepted_are e = rw (eq-eqb answer.number 0 e)

  refused_none : answer.number ≢ 0 → rows_with s left ≡ []
  unfolding rows_with
  refused_none h = rw (ne_eqb answer.number 0 h)

  -- by either
  by_answer : (P : List (List ℕ) → Type 0) → (answer.number ≡ 0 → P (rows_of s)) → (answer.number ≢ 0 → P []) → P (rows_with s left)
  by_answer P yes-0 no-0 = by (ℕ_discrete answer.number 0)
    where
      by : Dec (answer.number ≡ 0) → P (rows_with s left)
      by (yes e) = rw (accepted_are e) (yes-0 e)
      by (no h) = rw (refused_none h) (no-0 h)

  -- they are rows
  pub are_rows : AreRows (rows_with s left)
  are_rows = by_answer AreRows (λ e. (accepted_rows s (left * ROW) e).whole) (λ h. no_rows)

  -- no more than k, where k rows give the same answer
  pub few_within : (k : ℕ) → read_answer s (k * ROW) ≡ answer → length (rows_with s left) ≤ k
  few_within k e = by_answer (λ rs. length rs ≤ k) (λ z. omega (arith, (accepted_rows s (k * ROW) (rw e z)).room)) (λ h. omega arith)

  pub few_rows : length (rows_with s left) ≤ left
  few_rows = few_within left refl

  -- as many as its answer takes
  pub rows_taken_lem : rows_taken (read_reply s (left * ROW)) ≡ length (rows_with s left)
  rows_taken_lem =
      by_answer (λ rs. rows_taken (read_reply s (left * ROW)) ≡ length rs)
      (λ e. rw (eq-eqb answer.number 0 e) (accepted_rows s (left * ROW) e).counted)
      (λ h. rw (ne_eqb answer.number 0 h))

  -- they stand in the table that reading leaves, with as many whole rows
  pub table_by_rows : (n : ℕ) → n / ROW ≡ left → rows_from (read_table s n) 0 (length (rows_with s left)) ≡ rows_with s left
  unfolding rows_from
  table_by_rows n h =
      by_answer (λ rs. rows_from (read_table s n) 0 (length rs) ≡ rs)
      (λ e.
      let accepted : (read_answer s n).number ≡ 0 = rw (answer_by_rows s n left h) e in
      rw (← (accepted_rows s n accepted).counted) (table_rows s n accepted))
      (λ no_rows_left. refl)

  -- read over so many zeros as there are in k rows
  pub over_zeros :
      (k : ℕ) → read_answer s (k * ROW) ≡ answer → read_over s (zeros (k * ROW)) ≡ laid (rows_with s left) (k * ROW)
  unfolding read_over laid
  over_zeros k e =
      let lent : List ℕ = zeros (k * ROW) in
      let size = length-replicate {A = ℕ} (k * ROW) 0 in
      by_answer (λ rs. read_over s lent ≡ laid rs (k * ROW))
      (λ z.
      let w = accepted_rows s (k * ROW) (rw e z) in
      let flat = length_flatten w.whole in
      let first = put_fits w.whole lent (rw size w.room) in
      rw (size, e, eq-eqb answer.number 0 z)
      (first ∙ ap (λ (l : List ℕ). flatten (rows_of s) ++ l) (drop_zeros (length (rows_of s) * ROW) (k * ROW) (omega (arith, w.room)) ∙ rw flat)))
      (λ h. rw (size, e, ne_eqb answer.number 0 h) (sym (laid_none (k * ROW))))

-- ---- a source read behind the rows of a table

module _ (s : List ℕ) {t : List ℕ} {rows : ℕ} (f : Free t rows) {k : ℕ} (smaller : k ≡ min (length s) (whole_rows t - rows)) where
  abbrev before : List (List ℕ)
  before = rows_from t 0 rows

  abbrev left : ℕ
  left = whole_rows t - rows

  size : length (flatten before) ≡ rows * ROW
  size = length_flatten (are_rows_from t 0 rows) ∙ ap (λ (m : ℕ). m * ROW) (length_rows_from t 0 rows)

  fits : length (flatten before) + k * ROW ≤ length t
  fits = omega (arith, size, f.room)

  -- the part that is lent
  abbrev lent : List ℕ
  lent = mid_of (rows * ROW) (rows * ROW + k * ROW - rows * ROW) t

  count : rows * ROW + k * ROW - rows * ROW ≡ k * ROW
  count = omega arith

  held : t ≡ padded (flatten before) (length t)
  unfolding laid
  held = f.held

  lent_zeros : lent ≡ zeros (k * ROW)
  lent_zeros =
      ap (λ (m : ℕ). mid_of (rows * ROW) m t) count
      ∙ ap (λ (m : ℕ). mid_of m (k * ROW) t) (sym size)
      ∙ ap (mid_of (length (flatten before)) (k * ROW)) held
      ∙ mid_padded (flatten before) (k * ROW) (length t) fits

  lent_size : length lent ≡ k * ROW
  lent_size = ap length lent_zeros ∙ length-replicate {A = ℕ} (k * ROW) 0

  pub next_reply : {r : Reply} → r ≡ read_reply s (length lent) → r ≡ read_reply s (left * ROW)
  next_reply e = e ∙ ap (read_reply s) lent_size ∙ ap (read_replied s) (enough s left smaller)

  -- how many rows it takes
  pub next_count : {r : Reply} → r ≡ read_reply s (length lent) → {n : ℕ} → n ≡ rows_taken r → n ≡ length (rows_with s left)
  next_count e f = f ∙ ap rows_taken (next_reply e) ∙ rows_taken_lem s left

  pub next_table :
      {u : List ℕ} → u ≡ read_over s lent
      → put_mid (rows * ROW) (rows * ROW + k * ROW - rows * ROW) t u ≡ laid (before ++ rows_with s left) (length t)
  unfolding laid
  next_table {u} e =
      let rs = rows_with s left in
      let laid_part : u ≡ padded (flatten rs) (k * ROW) = e ∙ ap (read_over s) lent_zeros ∙ over_zeros s left k (enough s left smaller) in
      let few : length (flatten rs) ≤ k * ROW = omega (arith, length_flatten (are_rows s left), few_within s left k (enough s left smaller)) in
      rw (count, ← size, laid_part)
      (ap (λ (l : List ℕ). put_mid (length (flatten before)) (k * ROW) l (padded (flatten rs) (k * ROW))) held
      ∙ put_padded (flatten before) (k * ROW) (length t) fits (flatten rs) few
      ∙ ap (λ (l : List ℕ). padded l (length t)) (sym (flatten_append before rs)))
