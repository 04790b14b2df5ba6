-- `elements::kinds::is_numeric_flag` meets its contract: a flag, a size or a display.
use Rattle.elements.proofs.WordValues.{numeric_word}
use Rattle.elements.proofs.kinds.is_numeric_flag.Goals as goal

pub returns : goal.returns
returns c = rw (c.is_flag.ensures, c.is_some.ensures, c.is_some-2.ensures, c.size.ensures, c.display.ensures) (numeric_word c.args.class)
