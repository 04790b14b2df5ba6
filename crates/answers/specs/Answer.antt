-- An answer of reading, and what the rows of a derivation are answered (document 01, Refusal numbers; document 02, W-202). No parser is named here,
-- nor in what this imports. Assumes nothing.
use Rattle.std.specs.Prelude.{ℕ, true, false, List, [], ◌∷◌, ltb, length}
use Rattle.numbers.specs.Numbers.{numbered, free_count}
use Rattle.ll1.specs.Trees.{Trees}
use Rattle.grammar.specs.Source.{number_at}
use Rattle.answers.specs.Rows.{Draft, drafts_of}
use Rattle.answers.specs.Stages.{place_of, repeated_forms, repeated_questions, repeated_names, rules_over_limit, unfound, bad_choices, own_numbers}
use Rattle.answers.specs.Stages.{settled, circular_references}

-- the longest source
abbrev pub LONGEST : ℕ
LONGEST = 65536

-- number, place, row count and free count
pub record Answer : Type 0 where
  pub number : ℕ
  pub place : ℕ
  pub rows : ℕ
  pub free : ℕ

abbrev pub refuses : ℕ → ℕ → Answer
refuses n p = record { number = n; place = p; rows = 0; free = 0 }

-- 6: the row count is the need
abbrev pub needs : ℕ → Answer
needs n = record { number = 6; place = 0; rows = n; free = 0 }

abbrev pub accepts : ℕ → ℕ → Answer
accepts rows free = record { number = 0; place = 0; rows = rows; free = free }

-- a stage answers with its first fault
abbrev pub stage : ℕ → List ℕ → Answer → Answer
stage n [] later = later
stage n (m ∷ ms) later = refuses n (place_of m)

-- what a derivation whose rows pass stages 6 to 12 is answered: 14, or its counts
abbrev pub answer_past12 : List ℕ → List Draft → Answer
answer_past12 s ds = stage 14 (circular_references (settled s ds)) (accepts (length ds) (free_count (numbered (own_numbers ds))))

-- stages 6 to 12, and 14, for the rows of a derivation and the whole rows lent
unfoldable pub answer_of : List ℕ → List Draft → ℕ → Answer
answer_of s ds whole =
    elim (ltb whole (length ds)) [
      | true ↦ needs (length ds)
      | false ↦
          stage 7 (repeated_forms ds)
          (stage 8 (repeated_questions ds)
          (stage 9 (repeated_names s ds)
          (stage 10 (rules_over_limit ds)
          (stage 11 (unfound s ds)
          (stage 12 (bad_choices ds)
          (answer_past12 s ds))))))
    ]

-- the rows of a source's derivation, not finished
unfoldable pub drafts : List ℕ → Trees → List Draft
drafts s f = drafts_of (number_at s) f 0 0 0
