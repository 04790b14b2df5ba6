-- `input::value` meets its contract: a remainder by 2^56 leaves room for a byte, and loses nothing of the low 64 bits.
-- Assumes nothing.
use Rattle.std.proofs.Common.{◌+◌, take, refl, ◌∙◌, arith}
use Rattle.trials.specs.Values.{value_after, big_endian}
use Rattle.trials.proofs.ValueLaws.{value_next, low_next}
use Rattle.trials.proofs.input.value.Goals as goal

pub loop-byte-init : goal.loop-byte-init
unfolding value_after
loop-byte-init c = refl

pub loop-byte-preserved : goal.loop-byte-preserved
loop-byte-preserved c =
    let bs = c.args.bytes.now in
    let l = c.loop-byte in
    low_next (big_endian (take l.byte-index bs)) l.n (big_endian (take (l.byte-index + 1) bs)) c.from.result (omega (arith, c.from.ensures, c.type_inv.bytes l.byte-index)) l.invariant
    (value_next bs l.byte-index (omega arith) ∙ rw c.from.ensures refl)
