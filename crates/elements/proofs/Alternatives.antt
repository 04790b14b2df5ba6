-- The rules of the grammar that patterns write out: those of one alternative, and those that may be absent.
-- Assumes nothing.
use Prim.Native.Nat.{ℕ, ◌<◌}
use mathlib.Core.Path.{◌≡◌, refl}
use mathlib.Core.Bool.{true, false}
use mathlib.Core.List.{List, [], ◌∷◌}
use mathlib.Core.Option.{none, some}
use mathlib.Core.Logic.{◌⊎◌, ◌≢◌}
use native.Mathlib.Omega.{arith}
use Rattle.lexemes.specs.Classes.{open_paren, close_paren, comma, «=», STRING_TOKEN, NAME, BAD}
use Rattle.lexemes.specs.Classes.{«default», «flags», «help», «name», «prompt», «questionid», «step»}
use Rattle.ll1.specs.Trees.{Trees, Symbol, alternative_of}
use Rattle.ll1.specs.ParseTable.{entry_of, predict, nullable}
use Rattle.ll1.proofs.Lookups.{find_one, find_none, member_not}
use Rattle.grammar.specs.Rules.{<eight>, <H2>, <str>, <id>, <small>, <goto_flags>?, <flags>?}
use Rattle.grammar.specs.Rules.{<truth_default>?, <truth>, <step>?, <number_default>?, <head>, <name>?, <questionid>?, <fl>}
use Rattle.grammar.specs.Rules.{<numeric_flags>?, <numeric_fl>, <numeric_value>}
use Rattle.grammar.specs.Grammar.{rules}
use Rattle.grammar.specs.Notation.{t, r, plain}
use Rattle.grammar.specs.Lookahead.{lookahead}
use Rattle.grammar.specs.Ranges.{range_of, keeps, out_of_range_here, seconds_here}
use Rattle.elements.specs.Entries.{node_entries}
use Rattle.elements.specs.Marks.{faults_here}

-- a rule that keeps what its parts keep and has no faults of its own
pub record Plain (A : ℕ) : Type 0 where
  pub keeps_parts : (i : ℕ) (c : Trees) (es : List ℕ) → node_entries A i c es ≡ es
  pub no_faults : (s : List ℕ) (i : ℕ) (c : Trees) → faults_here s A i c ≡ []

-- rule A has one alternative
pub record Single (A : ℕ) (α : List Symbol) : Type 0 where
  pub plainly : Plain A
  pub full : nullable rules A ≡ false
  pub only : alternative_of rules A 0 ≡ some (plain α)
  pub told : (k : ℕ) → (predict lookahead A k ≡ some 0) ⊎ (predict lookahead A k ≡ none)

-- rule A may be absent, and else starts with a token of class k
pub record Optional (A k : ℕ) (β : List Symbol) : Type 0 where
  pub plainly : Plain A
  pub known : k < BAD
  pub empty : nullable rules A ≡ true
  pub absent : alternative_of rules A 0 ≡ some (plain [])
  pub there : alternative_of rules A 1 ≡ some (plain (t k ∷ β))
  pub tells : predict lookahead A k ≡ some 1
  pub alone : (j : ℕ) → j ≢ k → predict lookahead A j ≡ none

-- ---- rules that keep what their parts keep and have no faults of their own

module _ (A : ℕ) (parts : (i : ℕ) (c : Trees) (es : List ℕ) → node_entries A i c es ≡ es)
    (quiet : (s : List ℕ) (i : ℕ) (c : Trees) → faults_here s A i c ≡ []) where
  single :
      {f : List ℕ} {x : Symbol} {β : List Symbol}
      → nullable rules A ≡ false → alternative_of rules A 0 ≡ some (plain (x ∷ β)) → (entry_of lookahead A).firsts ≡ f ∷ [] → Single A (x ∷ β)
  single {f} n a e = record { plainly = record { keeps_parts = parts; no_faults = quiet }; full = n; only = a; told = λ k. rw e (find_one f k) }

  optional :
      {k : ℕ} {β : List Symbol}
      → k < BAD → nullable rules A ≡ true → alternative_of rules A 0 ≡ some (plain []) → alternative_of rules A 1 ≡ some (plain (t k ∷ β))
      → predict lookahead A k ≡ some 1 → (entry_of lookahead A).firsts ≡ [] ∷ (k ∷ []) ∷ [] → Optional A k β
  optional {k} h n a b p e =
      record {
        plainly = record { keeps_parts = parts; no_faults = quiet };
        known = h;
        empty = n;
        absent = a;
        there = b;
        tells = p;
        alone = λ j q. rw e (find_none [] ((k ∷ []) ∷ []) j refl (find_none (k ∷ []) [] j (member_not j k [] q refl) refl));
      }

-- STR: STRING_TOKEN ( N )
pub in_str : Single <str> (t STRING_TOKEN ∷ t open_paren ∷ r <small> ∷ t close_paren ∷ [])
unfolding rules lookahead node_entries faults_here seconds_here out_of_range_here range_of keeps
in_str = single <str> (λ i c es. refl) (λ s i c. refl) refl refl refl

-- HEAD: [name = NAME ,] [questionid = N ,] prompt = STR , help = STR
pub in_head : Single <head> (r <name>? ∷ r <questionid>? ∷ t «prompt» ∷ t «=» ∷ r <str> ∷ t comma ∷ t «help» ∷ t «=» ∷ r <str> ∷ [])
unfolding rules lookahead node_entries faults_here seconds_here out_of_range_here range_of keeps
in_head = single <head> (λ i c es. refl) (λ s i c. refl) refl refl refl

-- eight H2 with commas between
pub in_eight : Single <eight> (r <H2> ∷ t comma ∷ r <H2> ∷ t comma ∷ r <H2> ∷ t comma ∷ r <H2> ∷ t comma ∷ r <H2> ∷ t comma ∷ r <H2> ∷ t comma ∷ r <H2> ∷ t comma ∷ r <H2> ∷ [])
unfolding rules lookahead node_entries faults_here seconds_here out_of_range_here range_of keeps
in_eight = single <eight> (λ i c es. refl) (λ s i c. refl) refl refl refl

pub maybe_name : Optional <name>? «name» (t «=» ∷ t NAME ∷ t comma ∷ [])
unfolding rules lookahead node_entries faults_here seconds_here out_of_range_here range_of keeps
maybe_name = optional <name>? (λ i c es. refl) (λ s i c. refl) (omega arith) refl refl refl refl refl

pub maybe_questionid : Optional <questionid>? «questionid» (t «=» ∷ r <id> ∷ t comma ∷ [])
unfolding rules lookahead node_entries faults_here seconds_here out_of_range_here range_of keeps
maybe_questionid = optional <questionid>? (λ i c es. refl) (λ s i c. refl) (omega arith) refl refl refl refl refl

pub maybe_goto_flags : Optional <goto_flags>? comma (t «flags» ∷ t «=» ∷ r <fl> ∷ [])
unfolding rules lookahead node_entries faults_here seconds_here out_of_range_here range_of keeps
maybe_goto_flags = optional <goto_flags>? (λ i c es. refl) (λ s i c. refl) (omega arith) refl refl refl refl refl

pub maybe_flags : Optional <flags>? «flags» (t «=» ∷ r <fl> ∷ t comma ∷ [])
unfolding rules lookahead node_entries faults_here seconds_here out_of_range_here range_of keeps
maybe_flags = optional <flags>? (λ i c es. refl) (λ s i c. refl) (omega arith) refl refl refl refl refl

pub maybe_numeric_flags : Optional <numeric_flags>? «flags» (t «=» ∷ r <numeric_fl> ∷ t comma ∷ [])
unfolding rules lookahead node_entries faults_here seconds_here out_of_range_here range_of keeps
maybe_numeric_flags = optional <numeric_flags>? (λ i c es. refl) (λ s i c. refl) (omega arith) refl refl refl refl refl

pub maybe_truth : Optional <truth_default>? «default» (t «=» ∷ r <truth> ∷ t comma ∷ [])
unfolding rules lookahead node_entries faults_here seconds_here out_of_range_here range_of keeps
maybe_truth = optional <truth_default>? (λ i c es. refl) (λ s i c. refl) (omega arith) refl refl refl refl refl

pub maybe_step : Optional <step>? «step» (t «=» ∷ r <numeric_value> ∷ t comma ∷ [])
unfolding rules lookahead node_entries faults_here seconds_here out_of_range_here range_of keeps
maybe_step = optional <step>? (λ i c es. refl) (λ s i c. refl) (omega arith) refl refl refl refl refl

pub maybe_default : Optional <number_default>? «default» (t «=» ∷ r <numeric_value> ∷ t comma ∷ [])
unfolding rules lookahead node_entries faults_here seconds_here out_of_range_here range_of keeps
maybe_default = optional <number_default>? (λ i c es. refl) (λ s i c. refl) (omega arith) refl refl refl refl refl
