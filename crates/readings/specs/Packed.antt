-- Packed cells.
-- Assumes nothing.
use Rattle.std.specs.Prelude.{ℕ, ◌%◌, cond, List, [], ◌∷◌, ltb, length, take, drop}
use Rattle.trials.specs.Values.{big_endian}

-- cells after unpacking: for each a byte that says how many bytes its number has, and then these bytes; the rest is as it was
unfoldable pub unpacked : List ℕ → List ℕ → List ℕ
unpacked packed [] = []
unpacked [] (c ∷ cells) = c ∷ cells
unpacked (size ∷ rest) (c ∷ cells) =
    let more = unpacked (drop size rest) cells in
    cond (ltb (length rest) size) (c ∷ cells) (big_endian (take size rest) % 18446744073709551616 ∷ more)
