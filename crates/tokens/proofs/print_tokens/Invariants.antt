-- `print_tokens` ends: past a token with bytes the reader goes on after the place where it stood, and within the source.
use Rattle.std.proofs.Common.{◌-◌, length}
use Rattle.tokens.proofs.print_tokens.Given as goal

abbrev pub decreases-loop : goal.decreases-loop
decreases-loop g l = length l.reader.src.now - l.reader.at
