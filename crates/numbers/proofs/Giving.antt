-- Giving numbers to own numbers that are 0, one after the other: the laws by which code numbers a list, wherever the list is kept.
use mathlib.Core.Path.{◌≡◌, refl}
use mathlib.Core.List.{List, [], ◌∷◌, ◌++◌}
use Prim.Native.Nat.{ℕ, zero, suc, ◌+◌, ◌≤◌, ◌<◌}
use native.Mathlib.Omega.{arith}
use lib.ListN.{take}
use lib.Seq.{take-nil}
use Rattle.numbers.specs.Numbers.{number_limit, used, with_used, with_all_used, free_from, first_free, borne, free_numbers, fill, unwritten, numbered, Holds, given, given_map}
use Rattle.numbers.proofs.FreeNumbers.{free_same}
use Rattle.numbers.proofs.Lists.{mem_append, suc_written, fill_end, fill_none, fill_kept, fill_given, fill_mem, unwritten_kept, unwritten_given}
use Rattle.numbers.proofs.Maps.{holds_all, holds_same}
use Rattle.numbers.proofs.Search.{next_found, next_none}

-- ---- the first element: what is left to do after it

module _ (ws : List ℕ) (at : ℕ) where
  -- nothing is left
  pub given_end : given ws at [] ≡ []
  unfolding given
  given_end = fill_end (free_from (used ws) at)

  pub map_end : given_map ws at [] ≡ ws
  unfolding given_map with_all_used unwritten
  map_end = refl

  -- it is written
  module _ {q : ℕ} (l : List ℕ) (z : q ≡ 0 → ⊥) where
    pub given_kept : given ws at (q ∷ l) ≡ q ∷ given ws at l
    unfolding given
    given_kept = fill_kept (free_from (used ws) at) l z

    pub map_kept : given_map ws at (q ∷ l) ≡ given_map ws at l
    unfolding given_map
    map_kept = rw (unwritten_kept l z)

  -- it is not, and n is the next free number
  module _ {q n : ℕ} (l : List ℕ) (z : q ≡ 0) (e : n ≡ first_free ws at) (h : n < number_limit) where
    pub given_next : given ws at (q ∷ l) ≡ n ∷ given (with_used ws n) (n + 1) l
    unfolding given
    given_next = rw (next_found ws at e h) (fill_given n (free_from (used (with_used ws n)) (n + 1)) l z)

    pub map_next : given_map ws at (q ∷ l) ≡ given_map (with_used ws n) (n + 1) l
    unfolding given_map with_all_used
    map_next = rw (next_found ws at e h, unwritten_given l z)

  -- no number is free
  module _ {n : ℕ} (l : List ℕ) (e : n ≡ first_free ws at) (h : number_limit ≤ n) where
    pub given_none : given ws at l ≡ l
    unfolding given
    given_none = rw (next_none ws at e h) (fill_none l)

    pub map_none : given_map ws at l ≡ ws
    unfolding given_map with_all_used
    map_none = rw (next_none ws at e h, take-nil (unwritten l))

-- ---- the whole list, where the map holds its numbers

module _ {ws l : List ℕ} (v : Holds ws l) where
  same_free : free_from (used ws) 1 ≡ free_numbers l
  same_free = free_same (used ws) (borne l) 1 (λ k h. v.same k)

  pub given_numbered : given ws 1 l ≡ numbered l
  unfolding given numbered
  given_numbered = rw same_free

  -- the map then holds all numbers
  pub map_numbered : Holds (given_map ws 1 l) (numbered l)
  unfolding given_map numbered
  map_numbered = rw same_free (holds_same (holds_all (take (unwritten l) (free_numbers l)) v) bears)
    where
      bears : (k : ℕ) → borne (l ++ take (unwritten l) (free_numbers l)) k ≡ borne (fill (free_numbers l) l) k
      bears zero = refl
      bears (suc k) =
          rw (mem_append (suc k) l (take (unwritten l) (free_numbers l)), fill_mem (suc k) (free_numbers l) l (λ z. absurd (omega arith)), suc_written k l)
