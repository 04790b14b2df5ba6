-- "an unsigned 64-bit number" (document 02, W-202): the definitions of Values speak of numbers of any size.
use Rattle.std.specs.Prelude.{◌^◌, ◌<◌}
use Rattle.operators.specs.declared.Scalar.{Scalar}
use Rattle.operators.specs.declared.Scalar.TheVariants.{Boolean, Number, Undefined}

-- a value whose number, if it is one, has 64 bits
abbrev pub InRange : Scalar → Type 0
InRange (Boolean a) = Unit
InRange (Number a) = a < 2 ^ 64
InRange Undefined = Unit
