-- `phrases::reader::take_flags` meets its contract. The loop's invariant: nothing is kept yet, the rest of the list is the rest of the whole,
-- and the token is a flag word within the source; the measure is the tokens left.
use mathlib.Core.Path.{refl, sym, ◌∙◌}
use Rattle.phrases.proofs.Streams.{within_at}
use Rattle.phrases.proofs.FlagLoop.{going_on, flags_refused, loop_last, loop_fewer, loop_more}
use Rattle.phrases.proofs.reader.take_flags.Goals as goal

pub loop-bar-init : goal.loop-bar-init
loop-bar-init c = let given = c.requires in rw c.no_words-words.ensures (refl, going_on _ _ _ given.0, given.1, given.2)

pub returns-then-bar-ne-BAR-clause-reads : goal.returns-then-bar-ne-BAR-clause-reads
returns-then-bar-ne-BAR-clause-reads c =
    let i = c.loop-bar.invariant in
    let kept = rw i.0 at c.push.ensures.kept in
    let noted = rw (c.push.ensures.noted, i.0) at c.with_second-found.ensures in
    let taken = loop_last i.1 c.token_at-bar.ensures i.2 in
    taken c.if-bar-ne-BAR.true c.with_word-words.ensures c.list_entry.ensures kept c.list_second.ensures noted

pub returns-then-bar-ne-BAR-clause-lent : goal.returns-then-bar-ne-BAR-clause-lent
returns-then-bar-ne-BAR-clause-lent c = rw c.loop-bar.invariant.0 at c.push.ensures.lent

pub returns-then-not-suits-clause-reads : goal.returns-then-not-suits-clause-reads
returns-then-not-suits-clause-reads c =
    let turn = c in
    let i = turn.loop-bar.invariant in
    let next = loop_more i.1 turn.token_at-bar.ensures i.2 in
    let more = next c.if-bar-ne-BAR.false c.token_at-word.ensures turn.with_word-words.ensures in
    rw i.0 (sym (flags_refused more (sym c.suits.ensures ∙ c.if-not-suits.true)))

pub loop-bar-smaller : goal.loop-bar-smaller
loop-bar-smaller c =
    let turn = c in
    let i = turn.loop-bar.invariant in
    loop_fewer i.1 turn.token_at-bar.ensures i.2 c.if-bar-ne-BAR.false c.token_at-word.ensures

pub loop-bar-preserved : goal.loop-bar-preserved
loop-bar-preserved c =
    let turn = c in
    let i = turn.loop-bar.invariant in
    let next = loop_more i.1 turn.token_at-bar.ensures i.2 in
    let more = next c.if-bar-ne-BAR.false c.token_at-word.ensures turn.with_word-words.ensures in
    (i.0, more, sym c.suits.ensures ∙ c.if-not-suits.false, rw c.token_at-word.ensures (within_at _ _))
