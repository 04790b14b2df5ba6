-- What stages 1 to 5 with 16 find: a refusal, or the draft rows of the derivation.
-- Assumes nothing.
use Rattle.std.specs.Prelude.{ℕ, ◌≤◌, ◌≡◌, List, map, length, replicate, Option, Some, None, Result, Ok, Err}
use Rattle.refusals.specs.Numbers.{number_of}
use Rattle.refusals.specs.declared.Reason.TheVariants.{BadToken}
use Rattle.rows.specs.Rows.{put}
use Rattle.ll1.specs.Trees.{Trees}
use Rattle.answers.specs.Drafts.{encoded}
use Rattle.answers.specs.Answer.{drafts}
use Rattle.answers.specs.WholeAnswer.{refusal, derived, checked}
use Rattle.drafts.specs.Sound.{SoundRows}
use Rattle.names.specs.Names.{names_in}
use Rattle.walk.specs.declared.Fault.{Fault}
use Rattle.read.specs.Faults.{fault_at}
use Rattle.read.specs.Drafted.{NAMES}

-- No. 2 where a token is bad, or else the fault of a walk
abbrev pub unless_bad : Option ℕ → Fault → Fault
unless_bad (Some p) fault = fault_at BadToken p
unless_bad None fault = fault

-- the derivation that the stages pass; its draft rows, so many, written over the table t as far as whole rows fit
pub record SurveyedWhole (s : List ℕ) (count : ℕ) (t t' : List ℕ) : Type 0 where
  pub tree : Trees
  pub is : checked s ≡ derived tree
  pub sound : SoundRows (drafts s tree)
  pub many : count ≡ length (drafts s tree)
  pub few : names_in (drafts s tree) ≤ NAMES
  pub table : t' ≡ put t 0 (map encoded (drafts s tree))

-- what a survey of the source s answers, where the table was t and is t': so many rows, or a refusal, and then the table is all zeros
abbrev pub Surveyed : List ℕ → Result ℕ Fault → List ℕ → List ℕ → Type 0
Surveyed s (Ok count) t t' = SurveyedWhole s count t t'
Surveyed s (Err f) t t' = (checked s ≡ refusal (number_of f.reason) f.place) × (t' ≡ replicate (length t) 0)
