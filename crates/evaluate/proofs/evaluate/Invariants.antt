-- `evaluate::evaluate` meets its contract: whoever ends the rest of the rows from here ends all of them.
use Prim.Native.Nat.{ℕ, ◌-◌, ◌≤◌}
use mathlib.Core.Path.{◌≡◌}
use mathlib.Core.List.{List, []}
use lib.ListN.{length}
use Rattle.operators.specs.declared.Scalar.{Scalar}
use Rattle.stored.specs.Stored.{value_at}
use Rattle.saved_answers.specs.Search.{question_value}
use Rattle.evaluate.specs.Machine.{ROOM}
use Rattle.evaluate.specs.declared.Known.{Known}
use Rattle.evaluate.proofs.MachineLaws.{before}
use Rattle.evaluate.proofs.evaluate.Given as goal

-- the stack before row `end`, from that before a row
abbrev pub rest : Known → List ℕ → ℕ → ℕ → List Scalar → List Scalar
rest k t =
    before (question_value k.answers.saved.now k.answers.gotos.now k.answers.checkboxes.now) (value_at k.rules.now) ROOM t

abbrev pub invariant-loop-row : goal.invariant-loop-row
invariant-loop-row l =
    record {
      few : length l.stack ≤ l.row - l.first;
      same : rest l.known l.table l.row l.end l.stack ≡ rest l.known l.table l.first l.end [];
    }
