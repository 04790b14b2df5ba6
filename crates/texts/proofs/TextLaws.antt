-- An output that is a text with zeros behind it.
-- Assumes nothing.
use Rattle.std.proofs.Common.{◌≡◌, ℕ, zero, suc, ◌-◌, ◌<◌, List, [], ◌∷◌, ◌++◌, length, get_or, take, drop, replicate, sym, refl, ◌∙◌, ap, ap₂, arith, length-drop}
use lib.ListN.{take-append-drop}
use Rattle.trials.specs.Differences.{padded}
use Rattle.texts.specs.Agreement.{Text}

zeros_are : (xs : List ℕ) → ((k : ℕ) → k < length xs → get_or xs k 0 ≡ 0) → xs ≡ replicate (length xs) 0
zeros_are [] z = refl
zeros_are (x ∷ xs) z = ap₂ ◌∷◌ (z zero (omega arith)) (zeros_are xs (λ k l. z (suc k) (omega arith)))

module _ {out front back expected : List ℕ} (n : ℕ) where
  pub text_is :
      n ≡ length expected → front ≡ take n out → back ≡ drop n out → front ≡ expected
      → ((k : ℕ) → k < length back → get_or back k 0 ≡ 0) → Text n out expected
  unfolding padded
  text_is l f b e z =
      let left : length back ≡ length out - length expected = omega (arith, ap length b, length-drop n out) in
      record {
        long = l;
        output =
            sym (take-append-drop n out)
            ∙ ap₂ ◌++◌ (sym f ∙ e) (sym b ∙ zeros_are back z ∙ ap (λ (m : ℕ). replicate m 0) left);
      }
