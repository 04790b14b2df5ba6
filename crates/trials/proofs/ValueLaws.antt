-- The value of one byte more.
-- Assumes nothing.
use Rattle.std.proofs.Common.{◌≡◌, ℕ, ◌+◌, ◌*◌, ◌%◌, ◌<◌, List, [], ◌∷◌, ◌++◌, length, get_or, take, refl, add-one, arith, take-suc}
use Rattle.trials.specs.Values.{value_after, big_endian}

value_snoc : (n : ℕ) (xs : List ℕ) (b : ℕ) → value_after n (xs ++ (b ∷ [])) ≡ value_after n xs * 256 + b
unfolding value_after
value_snoc n [] b = refl
value_snoc n (x ∷ xs) b = value_snoc (n * 256 + x) xs b

module _ (bs : List ℕ) (k : ℕ) where
  pub value_next : k < length bs → big_endian (take (k + 1) bs) ≡ big_endian (take k bs) * 256 + get_or bs k 0
  value_next h = rw (add-one, take-suc bs k 0 h) (value_snoc 0 (take k bs) (get_or bs k 0))

-- 2^56 and 2^64
pub low_next : (v n m b : ℕ) → b < 256 → n ≡ v % 18446744073709551616 → m ≡ v * 256 + b → n % 72057594037927936 * 256 + b ≡ m % 18446744073709551616
low_next v n m b h e f = omega arith
