-- The rows and words of several sources, and the sources of a buffer.
-- Assumes nothing.
use Prim.Native.Nat.{ℕ, zero, suc, ◌-◌, ◌*◌, ◌<◌}
use native.Mathlib.Omega.{arith}
use mathlib.Core.Path.{◌≡◌, refl, sym, ap, ◌∙◌}
use mathlib.Core.List.{List, [], ◌∷◌, ◌++◌, append_assoc}
use lib.ListN.{length, get_or}
use lib.Seq.{slice}
use Rattle.rows.specs.Rows.{AreRows, no_rows}
use Rattle.rows.proofs.FlatLaws.{are_rows_append}
use Rattle.family.specs.Family.{WORDS, Member, sources_from, rows_with, members, all_rows, all_words, six_words}
use Rattle.family.proofs.NextLaws.{are_rows}

pub all_rows_append : (ms ns : List Member) → all_rows (ms ++ ns) ≡ all_rows ms ++ all_rows ns
unfolding all_rows
all_rows_append [] ns = refl
all_rows_append (m ∷ ms) ns = ap (λ (l : List (List ℕ)). m.rows ++ l) (all_rows_append ms ns) ∙ sym (append_assoc m.rows (all_rows ms) (all_rows ns))

pub all_words_append : (ms ns : List Member) → all_words (ms ++ ns) ≡ all_words ms ++ all_words ns
unfolding all_words
all_words_append [] ns = refl
all_words_append (m ∷ ms) ns = ap (λ (l : List ℕ). six_words m.answer ++ l) (all_words_append ms ns)

pub length_all_words : (ms : List Member) → length (all_words ms) ≡ length ms * WORDS
unfolding all_words
length_all_words [] = refl
length_all_words (m ∷ ms) = omega (arith, length_all_words ms)

-- one for each source
pub length_members : (left : ℕ) (ss : List (List ℕ)) → length (members left ss) ≡ length ss
unfolding members
length_members left [] = refl
length_members left (s ∷ ss) = ap suc (length_members (left - length (rows_with s left)) ss)

-- the rows of all are rows
pub members_rows : (left : ℕ) (ss : List (List ℕ)) → AreRows (all_rows (members left ss))
unfolding members all_rows
members_rows left [] = no_rows
members_rows left (s ∷ ss) = are_rows_append (are_rows s left) (members_rows (left - length (rows_with s left)) ss)

-- ---- the sources

pub length_sources : (buffer : List ℕ) (start : ℕ) (ends : List ℕ) → length (sources_from buffer start ends) ≡ length ends
unfolding sources_from
length_sources buffer start [] = refl
length_sources buffer start (end ∷ ends) = ap suc (length_sources buffer end ends)

pub source_at_lem :
    (buffer : List ℕ) (start : ℕ) (ends : List ℕ) (i : ℕ) → i < length ends
    → get_or (sources_from buffer start ends) i [] ≡ slice (get_or (start ∷ ends) i 0) (get_or ends i 0) buffer
unfolding sources_from
source_at_lem buffer start [] i h = absurd (omega arith)
source_at_lem buffer start (end ∷ ends) zero h = refl
source_at_lem buffer start (end ∷ ends) (suc i) h = source_at_lem buffer end ends i (omega arith)
