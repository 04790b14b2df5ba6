-- `print::phrase::Phrase::enter_group` meets its contract.
-- Assumes nothing.
use mathlib.Core.Path.{refl}
use borrow.Author.Rules.{rules}
use Rattle.print.proofs.PhraseLaws.{group_in, group_out}
use Rattle.print.proofs.phrase.Phrase.enter_group.Goals as goal

pub returns-then-shows : goal.returns-then-shows
returns-then-shows c =
    let h = c.requires in
    group_in _ _ _ _ h.0 h.1 {w = c.unwrap_or-first.result} c.cell.ensures c.cell-2.ensures (search rules) c.shows.ensures c.if-shows.true refl refl

pub returns : goal.returns
returns c =
    let h = c.requires in
    group_out _ _ _ _ h.0 h.1 {w = c.unwrap_or-first.result} c.cell.ensures c.cell-2.ensures (search rules) c.shows.ensures c.if-shows.false refl c.after_one.ensures
