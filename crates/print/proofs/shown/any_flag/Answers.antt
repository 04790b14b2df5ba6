-- `print::shown::any_flag` meets its contract. The loop's invariant: whether a word is set that is left.
-- Assumes nothing.
use mathlib.Core.Path.{sym, ◌∙◌}
use Rattle.grammar.specs.Flags.{flag_words}
use Rattle.print.proofs.FlagLaws.{any_set_lem, any_next, any_end, table_word}
use Rattle.print.proofs.shown.any_flag.Goals as goal

pub loop-flag-init : goal.loop-flag-init
loop-flag-init c = sym (any_set_lem c.args.set flag_words)

pub returns-then-is_set : goal.returns-then-is_set
returns-then-is_set c =
    let next = any_next c.args.set flag_words c.loop-flag.flag-index c.loop-flag-test.true (table_word _ _ c.loop-flag-test.true) c.is_set.ensures in
    sym (c.loop-flag.invariant ∙ next ∙ rw c.if-is_set.true)

pub loop-flag-preserved : goal.loop-flag-preserved
loop-flag-preserved c =
    let next = any_next c.args.set flag_words c.loop-flag.flag-index c.loop-flag-test.true (table_word _ _ c.loop-flag-test.true) c.is_set.ensures in
    c.loop-flag.invariant ∙ next ∙ rw c.if-is_set.false

pub returns : goal.returns
returns c = sym (c.loop-flag.invariant ∙ any_end c.args.set flag_words c.loop-flag.flag-index c.loop-flag-test.false)
