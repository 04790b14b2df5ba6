-- What reading and the quick check answer, and what the table holds, after each end of the stages.
-- Assumes nothing.
use Prim.Native.Nat.{ℕ, ◌+◌, ◌*◌, ◌/◌, ◌%◌, ◌≤◌, ◌<◌, ◌^◌}
use native.Mathlib.Omega.{arith}
use mathlib.Core.Path.{◌≡◌, sym, ap, subst, ◌∙◌}
use mathlib.Core.Logic.{◌≢◌}
use mathlib.Core.List.{List, map}
use lib.ListN.{length, replicate, length-map}
use borrow.Author.Tests.{eq-eqb, ne_eqb, lt-ltb}
use Rattle.std.specs.Prelude.{Result, Ok, Err}
use Rattle.refusals.specs.Numbers.{number_of}
use Rattle.refusals.proofs.Bounds.{number_bounds}
use Rattle.rows.specs.Columns.{ROW}
use Rattle.rows.specs.Table.{whole_rows, cleared}
use Rattle.rows.specs.Rows.{rows_from, put}
use Rattle.rows.proofs.ClearLaws.{cleared_whole}
use Rattle.rows.proofs.RunLaws.{length_put, rows_put, put_twice}
use Rattle.rows.proofs.LaidLaws.{put_cleared}
use Rattle.answers.specs.Rows.{Draft}
use Rattle.answers.specs.Drafts.{encoded, drafts_from}
use Rattle.answers.specs.Answer.{Answer, refuses, needs, answer_of, drafts}
use Rattle.answers.specs.WholeAnswer.{Checked, refusal, checked, quick_check, read_answer, rows_of, read_table}
use Rattle.answers.specs.Stages.{finished}
use Rattle.answers.proofs.FoundRows.{finished_count}
use Rattle.answers.proofs.Checks.{Decided, stopped, passed, decided, early_bounds}
use Rattle.drafts.specs.Fits.{AllFit}
use Rattle.drafts.proofs.CodingLaws.{sound_fit, are_encoded, drafts_held}
use Rattle.replies.specs.Replies.{accepting, read_reply}
use Rattle.replies.proofs.Laws.{accepting_only}
use Rattle.walk.specs.declared.Fault.{Fault}
use Rattle.read.specs.Answers.{refused}
use Rattle.read.specs.Surveyed.{SurveyedWhole, Surveyed}
use Rattle.read.specs.Drafted.{Drafted, table_after}
use Rattle.read.specs.Over.{read_over}
use Rattle.read.proofs.AcceptedRows.{derived_rows, accepted_rows}

-- ---- a refusal of stages 1 to 5

-- the answer, and the table u then, which was t
abbrev Read : List ℕ → List ℕ → Answer → List ℕ → Type 0
Read s t a u = (a ≡ read_answer s (length t)) × (u ≡ read_over s t)

-- a survey that refuses, and one that passes
pub survey_refused : (s t t' : List ℕ) {r : Result ℕ Fault} (f : Fault) → Surveyed s r t t' → r ≡ Err f → Surveyed s (Err f) t t'
survey_refused s t t' f v e = subst (λ r. Surveyed s r t t') e v

pub survey_passed : (s t t' : List ℕ) {r : Result ℕ Fault} {count : ℕ} → Surveyed s r t t' → r ≡ Ok count → SurveyedWhole s count t t'
survey_passed s t t' v e = subst (λ r. Surveyed s r t t') e v

refused_table : (s t : List ℕ) {a : Answer} → a ≡ read_answer s (length t) → a.number ≢ 0 → {u : List ℕ} → u ≡ replicate (length t) 0 → u ≡ read_over s t
unfolding read_over
refused_table s t e h f = f ∙ rw (← e, ne_eqb _ 0 h)

refusal_read : (s : List ℕ) (n k p : ℕ) → checked s ≡ refusal k p → refuses k p ≡ read_answer s n
unfolding read_answer
refusal_read s n k p e = sym (rw (e, read_answer))

pub refused_read : (s t : List ℕ) {t' : List ℕ} (f : Fault) → Surveyed s (Err f) t t' → Read s t (refused f) t'
refused_read s t f v =
    let e = refusal_read s (length t) (number_of f.reason) f.place v.0 in
    (e, refused_table s t e (λ z. omega (arith, number_bounds f.reason)) v.1)

-- ---- stages 1 to 5 passed

module _ {s t t' : List ℕ} {count : ℕ} (v : SurveyedWhole s count t t') where
  abbrev ds : List Draft
  ds = drafts s v.tree

  fit : AllFit ds
  fit = sound_fit v.sound.each

  all : length (map encoded ds) ≡ count
  all = length-map ds encoded ∙ sym v.many

  long : length t' ≡ length t
  long = rw v.table (length_put (are_encoded fit) t 0)

  answer_is : read_answer s (length t) ≡ answer_of s ds (length t' / ROW)
  unfolding read_answer
  answer_is = rw (v.is, read_answer, long)

  module _ {whole : ℕ} (w : whole ≡ whole_rows t') where
    -- 6: more rows than whole rows lent
    pub short_read : whole < count → {u : List ℕ} → u ≡ cleared t' 0 → Read s t (needs count) u
    unfolding answer_of
    short_read h f =
        let less : whole_rows t' < length ds = omega (arith, v.many) in
        let e : needs count ≡ read_answer s (length t) = sym (answer_is ∙ rw (lt-ltb (length t' / ROW) (length ds) less, answer_of, v.many)) in
        (e, refused_table s t {a = needs count} e (λ z. omega arith) (f ∙ (cleared_whole t' ∙ rw long)))

    module _ (room : count ≤ whole) where
      held : rows_from t' 0 count ≡ map encoded ds
      held = rw (← all, v.table) (rows_put (are_encoded fit) t 0 (omega (arith, all, long)))

      same : drafts_from t' 0 count ≡ ds
      same = rw v.many (drafts_held fit t' 0 (rw (← v.many) held))

      -- the table holds the drafts
      pub drafted : Drafted t' count
      drafted = record { sound = rw same v.sound; room = omega arith; held = held ∙ rw same; few = rw same v.few }

      -- the finished rows over the drafts are those over what was there before
      over : put t' 0 (finished s ds) ≡ put t 0 (finished s ds)
      over =
          let few : length (map encoded ds) ≤ whole_rows t = omega (arith, all, long) in
          rw v.table (put_twice (are_encoded fit) (derived_rows s v.tree v.is) (all ∙ v.many ∙ sym (finished_count s ds)) t few)

      -- and what the later stages answer is the answer
      pub finished_read :
          {a : Answer} {u : List ℕ} → (a ≡ answer_of s (drafts_from t' 0 count) (length t' / ROW)) × (u ≡ table_after s t' count) → Read s t a u
      unfolding read_over rows_of table_after
      finished_read f = (f.0 ∙ rw (same, answer_is), f.1 ∙ rw (same, answer_is, v.is, rows_of, long, over))

-- ---- the whole table

module _ (s t : List ℕ) {u : List ℕ} (over : u ≡ read_over s t) where
  -- an accepted source's rows, with 0 past them
  pub accepted_table :
      {rows free : ℕ} → accepting rows free 0 ≡ read_reply s (length t) → {u' : List ℕ} → u' ≡ cleared u (rows * ROW) → u' ≡ read_table s (length t)
  unfolding read_over read_table
  accepted_table {rows} e f =
      let answer = accepting_only s e in
      let accepted : (read_answer s (length t)).number ≡ 0 = ap (λ (a : Answer). a.number) (sym answer) in
      let w = accepted_rows s (length t) accepted in
      let count : rows ≡ length (rows_of s) = ap (λ (a : Answer). a.rows) answer ∙ w.counted in
      let is_0 = eq-eqb (read_answer s (length t)).number 0 accepted in
      let first : u ≡ put t 0 (rows_of s) = over ∙ rw is_0 in
      f ∙ rw (is_0, first, count) (put_cleared w.whole t w.room)

  -- zeros of a refused one
  pub unaccepted_table : (read_answer s (length t)).number ≢ 0 → u ≡ read_table s (length t)
  unfolding read_over read_table
  unaccepted_table h = let no = ne_eqb (read_answer s (length t)).number 0 h in over ∙ rw no

-- ---- the quick check

quick_refusal : (s : List ℕ) (k p : ℕ) → checked s ≡ refusal k p → k * 2 ^ 32 + p % 2 ^ 32 ≡ quick_check s
unfolding quick_check
quick_refusal s k p e = by (decided s) e ∙ sym (rw (e, quick_check))
  where
    by : {c : Checked} → Decided s c → c ≡ refusal k p → k * 2 ^ 32 + p % 2 ^ 32 ≡ k * 2 ^ 32 + p
    by (stopped j q h b r) g = let i : j ≡ k = cc in let o : q ≡ p = cc in omega (arith, early_bounds j h)
    by (passed g w o) g' = absurd (let z : ◌≡◌ {A = ℕ} 0 1 = cc in omega arith)

pub quick_refused : (s : List ℕ) (f : Fault) {n : ℕ} → checked s ≡ refusal (number_of f.reason) f.place → n ≡ number_of f.reason → n * 2 ^ 32 + f.place % 2 ^ 32 ≡ quick_check s
quick_refused s f e n = rw n (quick_refusal s (number_of f.reason) f.place e)

pub quick_passed : {s t t' : List ℕ} {count : ℕ} → SurveyedWhole s count t t' → 0 ≡ quick_check s
unfolding quick_check
quick_passed v = sym (rw (v.is, quick_check))
