-- How the code has a text: filled up with blanks to sixteen bytes, which make two numbers.
-- Assumes nothing.
use Rattle.std.specs.Prelude.{ℕ, zero, suc, ◌+◌, ◌*◌, List, [], ◌∷◌, take, drop}
use Rattle.wordlist.specs.declared.Packed.{Packed}

-- the first n bytes of a text, blanks after its end
unfoldable pub fill_to : ℕ → List ℕ → List ℕ
fill_to zero w = []
fill_to (suc n) [] = 32 ∷ fill_to n []
fill_to (suc n) (b ∷ w) = b ∷ fill_to n w

abbrev pub filled : List ℕ → List ℕ
filled w = fill_to 16 w

-- bytes as a number; the lowest byte comes first
unfoldable pub packed : List ℕ → ℕ
packed [] = 0
packed (b ∷ s) = b + 256 * packed s

-- the two numbers of a text: its first eight bytes, and the other eight
abbrev pub first_of : List ℕ → ℕ
first_of w = packed (take 8 (drop 0 (filled w)))

abbrev pub rest_of : List ℕ → ℕ
rest_of w = packed (take 8 (drop 8 (filled w)))

abbrev pub pack_of : List ℕ → Packed
pack_of w = record { first = first_of w; rest = rest_of w }
