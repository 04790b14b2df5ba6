-- `names::hash` meets its contract: the hash so far and the rest of the word come to the word's hash.
use mathlib.Core.Path.{sym, ◌∙◌}
use Rattle.names.proofs.NameLaws.{hashing_next, hashing_stop, hashing_end}
use Rattle.names.proofs.hash.Goals as goal

pub returns-then-b-eq0 : goal.returns-then-b-eq0
returns-then-b-eq0 c = record { value = hashing_stop c.loop-i.invariant c.word_byte-b.ensures c.if-b-eq0.true; upper_bound = c.loop-i.invariant.small }

pub loop-i-preserved : goal.loop-i-preserved
loop-i-preserved c = hashing_next c.loop-i.invariant (c.from.ensures ∙ c.word_byte-b.ensures) (λ e. c.if-b-eq0.false (sym c.from.ensures ∙ e))

pub returns : goal.returns
returns c = record { value = hashing_end c.loop-i.invariant c.loop-i-test.false; upper_bound = c.loop-i.invariant.small }
