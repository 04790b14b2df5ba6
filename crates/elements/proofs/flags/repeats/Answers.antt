-- `elements::flags::repeats` meets its contract.
use Rattle.grammar.specs.Flags.{size_words, display_words}
use Rattle.elements.proofs.WordValues.{is_word}
use Rattle.elements.proofs.flags.repeats.Goals as goal

pub returns : goal.returns
returns c =
    rw (← is_word size_words c.args.class, ← is_word display_words c.args.class, ← c.size.ensures, ← c.display.ensures)
    (rw (c.is_some.ensures, c.is_some-2.ensures, c.is_some-3.ensures, c.is_some-4.ensures))
