-- The whole call: 17, or all sources read.
-- Assumes nothing.
use Prim.Native.Nat.{ℕ}
use mathlib.Core.Path.{◌≡◌, sym, ap, ◌∙◌}
use mathlib.Core.Bool.{Bool, true, false}
use mathlib.Core.List.{List}
use lib.ListN.{length}
use Rattle.rows.specs.Table.{cleared}
use Rattle.rows.proofs.ClearLaws.{length_cleared, cleared_whole}
use Rattle.replies.specs.Replies.{Reply, accepting}
use Rattle.family.specs.Family.{is_bad, not_read, readings, family_reply, family_table, family_answers}
use Rattle.family.specs.Steps.{Blank, Written}
use Rattle.family.proofs.BadLaws.{good_ends, enough_answers}
use Rattle.family.proofs.PaddedLaws.{zeros}

-- the answer, the table and the answers
abbrev pub ReadsFamily : List ℕ → List ℕ → ℕ → ℕ → Reply → List ℕ → List ℕ → Type 0
ReadsFamily buffer ends n m r t a =
    (r ≡ family_reply buffer ends n m) × ((t ≡ family_table buffer ends n m) × (a ≡ family_answers buffer ends n m))

module _ (buffer ends t a : List ℕ) {u b : List ℕ} (clear_table : u ≡ cleared t 0) (clear_answers : b ≡ cleared a 0)
    {bad : Bool} (told : bad ≡ is_bad buffer ends (length b)) where
  zero_table : u ≡ zeros (length t)
  zero_table = clear_table ∙ cleared_whole t

  zero_answers : b ≡ zeros (length a)
  zero_answers = clear_answers ∙ cleared_whole a

  table_long : length u ≡ length t
  table_long = ap length clear_table ∙ length_cleared t 0

  answers_long : length b ≡ length a
  answers_long = ap length clear_answers ∙ length_cleared a 0

  bad_is : is_bad buffer ends (length a) ≡ bad
  bad_is = ap (is_bad buffer ends) (sym answers_long) ∙ sym told

  -- 17
  pub not_read_lem : bad ≡ true → ReadsFamily buffer ends (length t) (length a) not_read u b
  unfolding family_reply family_table family_answers
  not_read_lem e = let is = bad_is ∙ e in (rw is, (zero_table ∙ rw is, zero_answers ∙ rw is))

  module _ (e : bad ≡ false) where
    is_good_lem : is_bad buffer ends (length a) ≡ false
    is_good_lem = bad_is ∙ e

    pub blank : Blank buffer ends u b
    blank =
        record {
          good = good_ends buffer ends (length a) is_good_lem;
          enough = rw answers_long (enough_answers buffer ends (length a) is_good_lem);
          table = zero_table ∙ ap zeros (sym table_long);
          answers = zero_answers ∙ ap zeros (sym answers_long);
        }

    pub all_read :
        {rows : ℕ} {u' b' : List ℕ} → Written (readings buffer ends (length u)) (length u) (length b) rows u' b'
        → ReadsFamily buffer ends (length t) (length a) (accepting rows 0 0) u' b'
    unfolding family_reply family_table family_answers
    all_read w =
        let v = rw (table_long, answers_long) at w in
        (rw is_good_lem (ap (λ (k : ℕ). accepting k 0 0) v.counted), (v.table ∙ rw is_good_lem, v.answers ∙ rw is_good_lem))
