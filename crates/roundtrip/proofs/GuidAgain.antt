-- A GUID's bits put together again from their parts.
-- Assumes nothing.
use mathlib.Core.Path.{◌≡◌, ◌∙◌}
use mathlib.Core.List.{[]}
use Prim.Native.Nat.{ℕ, ◌+◌, ◌*◌, ◌/◌, ◌%◌, ◌^◌, ◌<◌}
use native.Mathlib.Omega.{arith}
use Rattle.ll1.specs.Trees.{Trees}
use Rattle.answers.specs.Rows.{guid_high, guid_low}
use Rattle.roundtrip.proofs.PhraseRows.{low_of}

pub high_small : (value : ℕ → ℕ) (g : Trees) → guid_high value g < 2 ^ 64
high_small value g = omega arith

low_small : (value : ℕ → ℕ) (g : Trees) → guid_low value g < 2 ^ 64
low_small value g = omega arith

linear : (y0 y1 y2 y3 y4 y5 y6 y7 b0 b1 b2 b3 b4 b5 b6 b7 : ℕ) → y0 ≡ y1 * 256 + b0 → y1 ≡ y2 * 256 + b1 → y2 ≡ y3 * 256 + b2 → y3 ≡ y4 * 256 + b3 → y4 ≡ y5 * 256 + b4 → y5 ≡ y6 * 256 + b5 → y6 ≡ y7 * 256 + b6 → y7 ≡ b7 → b7 * 2 ^ 56 + b6 * 2 ^ 48 + b5 * 2 ^ 40 + b4 * 2 ^ 32 + b3 * 2 ^ 24 + b2 * 2 ^ 16 + b1 * 2 ^ 8 + b0 ≡ y0
linear y0 y1 y2 y3 y4 y5 y6 y7 b0 b1 b2 b3 b4 b5 b6 b7 e0 e1 e2 e3 e4 e5 e6 e7 = omega arith

step_0 : (x : ℕ) → x / 256 ^ 0 ≡ x / 256 ^ 1 * 256 + x / 256 ^ 0 % 256 % 2 ^ 8
step_0 x = omega arith

step_1 : (x : ℕ) → x / 256 ^ 1 ≡ x / 256 ^ 2 * 256 + x / 256 ^ 1 % 256 % 2 ^ 8
step_1 x = omega arith

step_2 : (x : ℕ) → x / 256 ^ 2 ≡ x / 256 ^ 3 * 256 + x / 256 ^ 2 % 256 % 2 ^ 8
step_2 x = omega arith

step_3 : (x : ℕ) → x / 256 ^ 3 ≡ x / 256 ^ 4 * 256 + x / 256 ^ 3 % 256 % 2 ^ 8
step_3 x = omega arith

step_4 : (x : ℕ) → x / 256 ^ 4 ≡ x / 256 ^ 5 * 256 + x / 256 ^ 4 % 256 % 2 ^ 8
step_4 x = omega arith

step_5 : (x : ℕ) → x / 256 ^ 5 ≡ x / 256 ^ 6 * 256 + x / 256 ^ 5 % 256 % 2 ^ 8
step_5 x = omega arith

step_6 : (x : ℕ) → x / 256 ^ 6 ≡ x / 256 ^ 7 * 256 + x / 256 ^ 6 % 256 % 2 ^ 8
step_6 x = omega arith

last : (x : ℕ) → x < 2 ^ 64 → x / 256 ^ 7 ≡ x / 256 ^ 7 % 256 % 2 ^ 8
last x h = omega arith

first : (x : ℕ) → x / 256 ^ 0 ≡ x
first x = omega arith

low_number : (x : ℕ) → x < 2 ^ 64 → low_of [] x ≡ x
low_number x h =
    linear (x / 256 ^ 0) (x / 256 ^ 1) (x / 256 ^ 2) (x / 256 ^ 3) (x / 256 ^ 4) (x / 256 ^ 5) (x / 256 ^ 6) (x / 256 ^ 7) (x / 256 ^ 0 % 256 % 2 ^ 8) (x / 256 ^ 1 % 256 % 2 ^ 8) (x / 256 ^ 2 % 256 % 2 ^ 8) (x / 256 ^ 3 % 256 % 2 ^ 8) (x / 256 ^ 4 % 256 % 2 ^ 8) (x / 256 ^ 5 % 256 % 2 ^ 8) (x / 256 ^ 6 % 256 % 2 ^ 8) (x / 256 ^ 7 % 256 % 2 ^ 8) (step_0 x) (step_1 x) (step_2 x) (step_3 x) (step_4 x) (step_5 x) (step_6 x) (last x h)
    ∙ first x

pub low_again : (value : ℕ → ℕ) (g : Trees) → low_of [] (guid_low value g) ≡ guid_low value g
low_again value g = low_number (guid_low value g) (low_small value g)
