-- `names::follow` meets its contract: the chain from the loop's entry ends like the whole one.
use Rattle.names.proofs.ChainLaws.{following_here, following_stop, following_next, following_end}
use Rattle.names.proofs.follow.Goals as goal

pub returns-then-matches : goal.returns-then-matches
returns-then-matches c =
    let entry = c.in-Some.ensures in
    rw entry.2 (following_here c.loop-entry.invariant entry.0 entry.1 (rw entry.2 at c.matches.ensures) c.if-matches.true)

pub returns-then-at-entry : goal.returns-then-at-entry
returns-then-at-entry c =
    let entry = c.in-Some.ensures in
    following_stop c.loop-entry.invariant entry.0 entry.1 (rw entry.2 at c.matches.ensures) c.if-matches.false (rw entry.2 at c.if-at-entry.true)

pub loop-entry-preserved : goal.loop-entry-preserved
loop-entry-preserved c =
    let entry = c.in-Some.ensures in
    rw entry.2 (following_next c.loop-entry.invariant entry.0 entry.1 (rw entry.2 at c.matches.ensures) c.if-matches.false (rw entry.2 at c.if-at-entry.false))

pub returns : goal.returns
returns c = following_end c.loop-entry.invariant c.in_default.ensures
