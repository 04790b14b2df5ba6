-- `print::shown::put_numeric_flags` meets its contract.
-- Assumes nothing.
use Rattle.spellings.proofs.Printing.{printed_then, as_words}
use Rattle.print.proofs.FlagLaws.{numeric_list_lem}
use Rattle.print.proofs.shown.put_numeric_flags.Goals as goal

pub returns : goal.returns
returns c =
    let a = c.args in
    as_words (numeric_list_lem a.set a.size_and_display c.any_flag.ensures c.size_word.ensures c.display_word.ensures)
    (printed_then (printed_then c.put_flags.ensures c.word_if.ensures)
    (printed_then c.word.ensures (printed_then c.word-2.ensures c.word-3.ensures)))
