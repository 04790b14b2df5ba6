-- Stages 7 to 12, and 14, and what comes of the table, by an index of the declared names.
-- Assumes nothing.
use Prim.Native.Nat.{ℕ, ◌+◌, ◌/◌, ◌≤◌}
use native.Mathlib.Omega.{arith}
use mathlib.Core.Path.{◌≡◌, sym, ◌∙◌}
use mathlib.Core.List.{List}
use lib.ListN.{length, replicate, length-replicate, get_or-replicate}
use borrow.Author.Tests.{eq-eqb, ne_eqb, le-ltb}
use Rattle.numbers.specs.Numbers.{empty_map}
use Rattle.std.specs.Prelude.{Result, Ok, Err, ⊤}
use Rattle.refusals.specs.Numbers.{number_of}
use Rattle.refusals.proofs.Bounds.{number_bounds}
use Rattle.rows.specs.Columns.{ROW}
use Rattle.rows.specs.Table.{cleared}
use Rattle.rows.proofs.ClearLaws.{cleared_whole}
use Rattle.answers.specs.Rows.{Draft}
use Rattle.answers.specs.Drafts.{drafts_from}
use Rattle.answers.specs.Answer.{Answer, answer_past12, answer_of}
use Rattle.names.specs.Names.{BUCKETS, names_in, indexed, Indexes}
use Rattle.names.proofs.NameFaults.{index_made}
use Rattle.walk.specs.declared.Fault.{Fault}
use Rattle.read.specs.Answers.{refused}
use Rattle.read.specs.Faults.{first_fault_of, written_after}
use Rattle.read.specs.Drafted.{NAMES, Drafted, Ready, table_after, table_past12}
use Rattle.read.proofs.FaultLaws.{answered, stages_answer, stages_passed}
use Rattle.read.proofs.AcceptLaws.{length_drafts}

module _ {s xs t : List ℕ} {count : ℕ} (pre : Drafted t count) (index : Indexes s (drafts_from t 0 count) xs)
    {ws : List ℕ} (none : ws ≡ empty_map) {r : Result ⊤ Fault} (by : r ≡ first_fault_of s xs ws (drafts_from t 0 count)) where
  abbrev ds : List Draft
  ds = drafts_from t 0 count

  many : length ds ≡ count
  many = length_drafts t 0 count

  fault_is : r ≡ first_fault_of s xs empty_map ds
  fault_is = by ∙ rw none

  answer_is : answer_of s ds (length t / ROW) ≡ answered r (answer_past12 s ds)
  unfolding answer_of
  answer_is = rw (le-ltb (length t / ROW) (length ds) (rw many pre.room), answer_of, fault_is) (sym (stages_answer pre.sound index (answer_past12 s ds)))

  -- ---- a stage refuses

  module _ {f : Fault} (h : r ≡ Err f) where
    pub refused_answer : refused f ≡ answer_of s ds (length t / ROW)
    refused_answer = sym (answer_is ∙ rw h)

    pub refused_table : {u : List ℕ} → u ≡ cleared t 0 → u ≡ table_after s t count
    unfolding table_after
    refused_table e = e ∙ rw (← refused_answer, ne_eqb (number_of f.reason) 0 (λ z. omega (arith, number_bounds f.reason))) (cleared_whole t)

  -- ---- none does

  module _ (z : r ≡ Ok tt) where
    pub ready : {ws' : List ℕ} → ws' ≡ written_after ws ds → Ready s xs ws' t count
    unfolding written_after
    ready e =
        let p = stages_passed pre.sound index (rw (← fault_is) z) in
        record { drafted = pre; index = index; named = p.named; found = p.found; written = rw (e, none, eq-eqb _ 0 p.forms) p.holds }

    past_12 : answer_past12 s ds ≡ answer_of s ds (length t / ROW)
    past_12 = sym (answer_is ∙ rw z)

    pub answer_past_12 : {a : Answer} → a ≡ answer_past12 s ds → a ≡ answer_of s ds (length t / ROW)
    answer_past_12 e = e ∙ past_12

    pub table_past_12 : {u : List ℕ} → u ≡ table_past12 s t count → u ≡ table_after s t count
    unfolding table_after table_past12
    table_past_12 e = e ∙ rw (← past_12)

-- ---- the index

module _ {s t : List ℕ} {count : ℕ} (pre : Drafted t count) (n : ℕ) {ys : List ℕ} (made : ys ≡ indexed s 0 (drafts_from t 0 count) (replicate n 0)) where
  -- where there is room for the names
  pub index_few : BUCKETS + names_in (drafts_from t 0 count) ≤ n → Indexes s (drafts_from t 0 count) ys
  index_few h = index_made pre.sound s (replicate n 0) (λ b l. get_or-replicate {A = ℕ} n b 0 0 (omega arith)) (rw (length-replicate {A = ℕ} n 0) h) made

  -- where there is room for as many as there can be
  pub index_most : BUCKETS + NAMES ≤ n → Indexes s (drafts_from t 0 count) ys
  index_most h = index_few (omega (arith, pre.few))
