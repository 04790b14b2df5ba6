-- `input::value` meets its contract: a remainder by 2^56 leaves room for a byte, and loses nothing of the low 64 bits.
-- Assumes nothing.
use Rattle.std.proofs.Common.{◌≡◌, ◌%◌, take}
use Rattle.trials.specs.Values.{big_endian}
use Rattle.trials.proofs.input.value.Given as goal

abbrev pub invariant-loop-byte : goal.invariant-loop-byte
invariant-loop-byte l = l.n ≡ big_endian (take l.byte-index l.bytes) % 18446744073709551616
