-- `text::expressions::put_before` meets its contract. It ends since at each call of itself there are fewer rows before, or as many and the least
-- level is lower. The loop's invariant: whoever prints the rest from here prints the whole.
-- Assumes nothing.
use Prim.Native.Nat.{◌+◌, ◌*◌}
use Rattle.text.proofs.ExpressionLaws.{Spine}
use Rattle.text.proofs.expressions.+put_before.Given as goal

abbrev pub decreases-put_before : goal.decreases-put_before
decreases-put_before l = l.end * 10 + l.least

abbrev pub invariant-loop-end : goal.invariant-loop-end
invariant-loop-end l = Spine l.table l.initial.end l.initial.least l.initial.out l.end l.least l.out

abbrev pub decreases-loop-end : goal.decreases-loop-end
decreases-loop-end l = l.end * 10 + l.least
