-- An output, and what is written into it: bytes are written where they fit, and all are counted up to 2^64 - 1.
-- Assumes nothing.
use Rattle.std.specs.Prelude.{ℕ, ◌+◌, ◌-◌, ◌≤◌, min, ◌≡◌, List, length, take}
use Rattle.std.proofs.lemmas.List.Edits.{sets}
use Rattle.answers.specs.Text.{Word, text_of}

-- the most bytes that are counted: no output is longer
abbrev pub MOST : ℕ
MOST = 0xFFFFFFFFFFFFFFFF

-- n bytes after the place `at`, as far as is counted
abbrev pub end_of : ℕ → ℕ → ℕ
end_of at n = at + min n (MOST - at)

-- the output o with the bytes bs from the place `at` on, as far as is counted; those past its end are not written
abbrev pub with_bytes : List ℕ → ℕ → List ℕ → List ℕ
with_bytes o at bs = sets o at (take (MOST - at) bs)

-- bytes bs from the place `at` on: the output was o and is o', and the next place is r
pub record Puts (o : List ℕ) (at : ℕ) (bs o' : List ℕ) (r : ℕ) : Type 0 where
  pub stored : o' ≡ with_bytes o at bs
  pub end : r ≡ end_of at (length bs)

-- bytes bs before the place `end`, where there are as many: the first of them stands at r
pub record PutsBefore (o : List ℕ) (end : ℕ) (bs o' : List ℕ) (r : ℕ) : Type 0 where
  pub fit : length bs ≤ end → end ≤ MOST → (r + length bs ≡ end) × (o' ≡ sets o r bs)

-- words from a place on, and before a place
pub record Prints (o : List ℕ) (at : ℕ) (ws : List Word) (o' : List ℕ) (r : ℕ) : Type 0 where
  pub puts : Puts o at (text_of ws) o' r

pub record PrintsBefore (o : List ℕ) (end : ℕ) (ws : List Word) (o' : List ℕ) (r : ℕ) : Type 0 where
  pub puts : PutsBefore o end (text_of ws) o' r
