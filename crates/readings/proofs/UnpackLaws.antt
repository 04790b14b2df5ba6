-- Cells unpacked up to an index, and what is left of them.
-- Assumes nothing.
use Prim.Native.Nat.{ℕ, ◌+◌, ◌-◌, ◌%◌, ◌≤◌, ◌<◌}
use mathlib.Core.Path.{◌≡◌, refl, ◌∙◌}
use mathlib.Core.List.{List, [], ◌∷◌, ◌++◌, append-nil}
use native.Mathlib.Numerals.{add-one}
use native.Mathlib.Omega.{arith}
use borrow.Author.Tests.{lt-ltb, le-ltb}
use lib.ListN.{length, get_or, take, drop, set, length-drop, take-append-drop, drop_of_length-le}
use lib.Seq.{take_all, drop-cons, drop-drop, take-suc-set, drop-set-lt, append_snoc}
use Rattle.trials.specs.Values.{big_endian}
use Rattle.readings.specs.Packed.{unpacked}

unpacked_nothing : (cells : List ℕ) → unpacked [] cells ≡ cells
unfolding unpacked
unpacked_nothing [] = refl
unpacked_nothing (c ∷ cells) = refl

unpacked_into_none : (packed : List ℕ) → unpacked packed [] ≡ []
unfolding unpacked
unpacked_into_none [] = refl
unpacked_into_none (b ∷ packed) = refl

-- too few bytes for the next number
unpacked_short : (size : ℕ) (rest cells : List ℕ) → length rest < size → unpacked (size ∷ rest) cells ≡ cells
unfolding unpacked
unpacked_short size rest [] h = refl
unpacked_short size rest (c ∷ cells) h = rw (lt-ltb (length rest) size h) refl

unpacked_next :
    (size : ℕ) (rest : List ℕ) (c : ℕ) (cells : List ℕ) → size ≤ length rest
    → unpacked (size ∷ rest) (c ∷ cells) ≡ big_endian (take size rest) % 18446744073709551616 ∷ unpacked (drop size rest) cells
unfolding unpacked
unpacked_next size rest c cells h = rw (le-ltb (length rest) size h) refl

-- k cells are unpacked, from the first `at` bytes
module _ (packed cells : List ℕ) (at k : ℕ) where
  abbrev pub left : List ℕ
  left = take k cells ++ unpacked (drop at packed) (drop k cells)

  pub left_nothing : length packed ≤ at → left ≡ cells
  left_nothing h = rw (drop_of_length-le packed h, unpacked_nothing) (take-append-drop k cells)

  pub left_full : length cells ≤ k → left ≡ cells
  left_full h = rw (drop_of_length-le cells h, unpacked_into_none, append-nil, take_all k cells h) refl

  module _ (size : ℕ) (more : at < length packed) (is : get_or packed at 0 ≡ size) where
    bytes_left : drop at packed ≡ size ∷ drop (at + 1) packed
    bytes_left = rw add-one (drop-cons packed at 0 more ∙ rw is refl)

    pub left_short : length packed - (at + 1) < size → left ≡ cells
    left_short h =
        rw (bytes_left, unpacked_short size (drop (at + 1) packed) (drop k cells) (rw length-drop h)) (take-append-drop k cells)

    pub left_next :
        (v : ℕ) → size ≤ length packed - (at + 1) → k < length cells → v ≡ big_endian (take size (drop (at + 1) packed)) % 18446744073709551616
        → take (k + 1) (set cells k v) ++ unpacked (drop (at + 1 + size) packed) (drop (k + 1) (set cells k v)) ≡ left
    left_next v h room e =
        let cells_left : drop k cells ≡ get_or cells k 0 ∷ drop (k + 1) cells = rw add-one (drop-cons cells k 0 room) in
        let before : take (k + 1) (set cells k v) ≡ take k cells ++ (v ∷ []) = rw add-one (take-suc-set cells k v room) in
        let after : drop (k + 1) (set cells k v) ≡ drop (k + 1) cells = drop-set-lt (k + 1) cells k v (omega arith) in
        let enough : size ≤ length (drop (at + 1) packed) = rw length-drop h in
        rw (
          before,
          after,
          ← drop-drop size (at + 1) packed,
          bytes_left,
          cells_left,
          unpacked_next size (drop (at + 1) packed) (get_or cells k 0) (drop (k + 1) cells) enough,
          ← e,
        )
        (append_snoc (take k cells) v (unpacked (drop size (drop (at + 1) packed)) (drop (k + 1) cells)))
