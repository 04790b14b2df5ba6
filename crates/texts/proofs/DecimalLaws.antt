-- The decimal digits that std writes of a number are no more than it needs.
-- Assumes nothing.
use Rattle.std.proofs.Common.{◌≡◌, ℕ, suc, zero, ◌-◌, ◌/◌, ◌%◌, ◌^◌, ◌<◌, ◌≤◌, ◌==◌, Bool, true, false, List, [], ◌∷◌, ◌++◌, refl, sym, ◌∙◌, subst, append_assoc, append-nil, arith}
use Rattle.std.proofs.Math.Nat.{pow-suc}
use Rattle.std.proofs.lemmas.Bool.{eqb-true, eqb-false}
use Rattle.std.specs.Prelude.{cond, decimal}
use Rattle.std.specs.Fmt.{digits, digits_onto, digit_glyph}
use Rattle.texts.specs.Digits.{last_digits, IsDigitCount}
use Rattle.texts.specs.Line.{Decimal}

-- the text written is the digits of n, no more than it needs, and then the list acc
record Written (n : ℕ) (acc text : List ℕ) : Type 0 where
  pub many : ℕ
  pub fewest : IsDigitCount 10 1 n many
  pub is : text ≡ last_digits 10 many n ++ acc

one_digit : (n : ℕ) → n / 10 ≡ 0 → IsDigitCount 10 1 n 1
one_digit n small = (omega arith, omega arith, λ more. absurd (omega arith))

less_one : (m : ℕ) → suc m - 1 ≡ m
less_one m = omega arith

-- a digit more than n / 10 takes
module _ (n : ℕ) (large : n / 10 ≡ 0 → ⊥) where
  reaches : (m : ℕ) → (1 < suc m → 10 ^ m ≤ n / 10) → 10 ^ suc m ≤ n
  reaches zero above = omega (arith, large)
  reaches (suc m) above = omega (arith, above (omega arith), pow-suc 10 (suc m))

  one_more : (k : ℕ) → IsDigitCount 10 1 (n / 10) k → IsDigitCount 10 1 n (suc k)
  one_more zero (least, below, above) = absurd (omega (arith, least))
  one_more (suc m) (least, below, above) =
      let reached = reaches m (λ more. subst (λ e. 10 ^ e ≤ n / 10) (less_one m) (above more)) in
      (omega arith, omega (arith, below, pow-suc 10 (suc m)), λ more. subst (λ e. 10 ^ e ≤ n) (sym (less_one (suc m))) reached)

-- the last digit of n, where it is the only one and where others stand before it
module _ (n : ℕ) (acc front : List ℕ) where
  abbrev last : List ℕ
  last = digit_glyph false (n % 10) ∷ acc

  by_size :
      (small : Bool) → (n / 10 == 0) ≡ small → ((n / 10 ≡ 0 → ⊥) → Written (n / 10) last front)
      → Written n acc (cond small last front)
  by_size true is more = record { many = 1; fewest = one_digit n (eqb-true (n / 10) 0 is); is = refl }
  by_size false is more =
      let large = eqb-false (n / 10) 0 is in
      let before = more large in
      record {
        many = suc before.many;
        fewest = one_more n large before.many before.fewest;
        is = before.is ∙ sym (append_assoc (last_digits 10 before.many (n / 10)) (digit_glyph false (n % 10) ∷ []) acc);
      }

written : (f n : ℕ) (acc : List ℕ) → n < 10 ^ suc f → Written n acc (digits_onto (suc f) 10 false n acc)
written zero n acc below = by_size n acc _ (n / 10 == 0) refl (λ large. absurd (large (omega (arith, below))))
written (suc f) n acc below =
    by_size n acc _ (n / 10 == 0) refl (λ large. written f (n / 10) (digit_glyph false (n % 10) ∷ acc) (omega (arith, below, pow-suc 10 (suc f))))

pub decimal_written : (n : ℕ) → n < 2 ^ 64 → Decimal n (decimal n)
unfolding digits
decimal_written n fits =
    let all = written 63 n [] (omega arith) in
    record { many = all.many; fewest = all.fewest; is = all.is ∙ append-nil (last_digits 10 all.many n) }
