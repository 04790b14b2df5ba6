-- `line::put_decimal` meets its contract: what `itoa` formats is the digits that the number takes, at most 20.
-- Assumes nothing.
use Rattle.std.proofs.Common.{arith}
use Rattle.texts.proofs.DecimalLaws.{decimal_written}
use Rattle.texts.proofs.line.put_decimal.Goals as goal

pub returns : goal.returns
returns c =
    record {
      text = c.as_bytes.result.now;
      decimal = rw (c.as_bytes.ensures.value, c.format.ensures.text) (decimal_written c.args.n c.ranges.n.fits);
      few = omega arith;
      puts = c.put.ensures;
    }
