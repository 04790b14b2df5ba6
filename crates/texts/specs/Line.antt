-- The line that the program `resolve` prints of a refusal.
-- Assumes nothing.
use Rattle.std.specs.Prelude.{◌≡◌, ℕ, ◌≤◌, List, ◌++◌, length}
use Rattle.texts.specs.Digits.{last_digits, IsDigitCount}
use Rattle.lexemes.specs.Lexemes.{bytes}
use Rattle.trials.specs.Puts.{Puts}

-- a number's decimal digits, no more than it needs
pub record Decimal (n : ℕ) (ds : List ℕ) : Type 0 where
  pub many : ℕ
  pub fewest : IsDigitCount 10 1 n many
  pub is : ds ≡ last_digits 10 many n

-- a number's decimal digits, at most 20, put into a buffer
pub record PutsDecimal (o : List ℕ) (at n : ℕ) (o' : List ℕ) (r : ℕ) : Type 0 where
  pub text : List ℕ
  pub decimal : Decimal n text
  pub few : length text ≤ 20
  pub puts : Puts o at text o' r

-- the line of a refusal with this number at this place
pub record Line (number place : ℕ) (l : List ℕ) : Type 0 where
  pub number_digits : List ℕ
  pub place_digits : List ℕ
  pub of_number : Decimal number number_digits
  pub of_place : Decimal place place_digits
  pub is : l ≡ bytes "refused " ++ (number_digits ++ (bytes " at " ++ (place_digits ++ bytes "\n")))
