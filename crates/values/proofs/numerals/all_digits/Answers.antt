-- `values::numerals::all_digits` meets its contract.
use borrow.Author.Rules.{rules}
use Rattle.std.proofs.Common.{◌≡◌, true, false, ℕ, ◌<◌, get_or, length, arith}
use Rattle.std.proofs.lemmas.Grind.{common_steps}
use Rattle.lexemes.specs.Bytes.{is_digit}
use Rattle.values.proofs.ValueLaws.{all_told}
use Rattle.values.proofs.numerals.all_digits.Goals as goal

pub returns : goal.returns
returns c =
    let w = c.args.w.now in
    let each : c.all.result ≡ true → (k : ℕ) → k < length w → is_digit (get_or w k 0) ≡ true = λ h k l. search rules in
    let some : c.all.result ≡ false → (k : ℕ) × (k < length w) × (is_digit (get_or w k 0) ≡ false) = λ h. search rules in
    all_told is_digit w c.all.result each some
