-- The line of a refusal, put part by part.
-- Assumes nothing.
use Rattle.std.proofs.Common.{◌≡◌, ℕ, ◌+◌, ◌-◌, ◌^◌, ◌<◌, ◌≤◌, List, length, take, append_assoc, lt_of_not-le, arith}
use native.Mathlib.Nat.{pow-le-pow_right}
use Rattle.texts.specs.Digits.{IsDigitCount}
use Rattle.lexemes.specs.Lexemes.{bytes}
use Rattle.trials.specs.Puts.{Puts}
use Rattle.trials.proofs.PutLaws.{puts_behind}
use Rattle.texts.specs.Line.{PutsDecimal, Line}

module _ {o o₁ o₂ o₃ o₄ o₅ : List ℕ} {number place r₁ r₂ r₃ r₄ r₅ : ℕ} where
  pub line_put :
      64 ≤ length o → length o₁ ≡ length o → length o₂ ≡ length o → length o₃ ≡ length o → length o₄ ≡ length o
      → Puts o 0 (bytes "refused ") o₁ r₁ → PutsDecimal o₁ r₁ number o₂ r₂ → Puts o₂ r₂ (bytes " at ") o₃ r₃
      → PutsDecimal o₃ r₃ place o₄ r₄ → Puts o₄ r₄ (bytes "\n") o₅ r₅ → Line number place (take r₅ o₅)
  line_put room l₁ l₂ l₃ l₄ p₁ p₂ p₃ p₄ p₅ =
      let f₁ : 0 + length (bytes "refused ") ≤ length o = omega arith in
      let q₁ = (p₁.fitting f₁).0 in
      let f₂ : r₁ + length p₂.text ≤ length o₁ = omega (arith, p₂.few) in
      let q₂ = (p₂.puts.fitting f₂).0 in
      let f₃ : r₂ + length (bytes " at ") ≤ length o₂ = omega (arith, p₂.few) in
      let q₃ = (p₃.fitting f₃).0 in
      let f₄ : r₃ + length p₄.text ≤ length o₃ = omega (arith, p₂.few, p₄.few) in
      let q₄ = (p₄.puts.fitting f₄).0 in
      let f₅ : r₄ + length (bytes "\n") ≤ length o₄ = omega (arith, p₂.few, p₄.few) in
      record {
        number_digits = p₂.text;
        place_digits = p₄.text;
        of_number = p₂.decimal;
        of_place = p₄.decimal;
        is =
            rw (puts_behind p₅ f₅, puts_behind p₄.puts f₄, puts_behind p₃ f₃, puts_behind p₂.puts f₂, puts_behind p₁ f₁)
            (simp append_assoc);
      }

-- a number below 2^64 has at most 20 digits
not_more : (n k : ℕ) → n < 18446744073709551616 → IsDigitCount 10 1 n k → 21 ≤ k → ⊥
not_more n k small f many =
    let up : 20 ≤ k - 1 = omega arith in
    let least : 10 ^ (k - 1) ≤ n = f.2 (omega arith) in
    omega (arith, pow-le-pow_right {n = 10} (omega arith) up, least)

pub few_digits : (n k : ℕ) → n < 18446744073709551616 → IsDigitCount 10 1 n k → k ≤ 20
few_digits n k small f = let below : k < 21 = lt_of_not-le (not_more n k small f) in omega arith
