-- A guess where the word at a place ends, which the code tries first. No public contract cites this.
-- Assumes nothing.
use Rattle.std.specs.Prelude.{◌≡◌, ℕ, ◌≤◌, false, List, length, get_or}
use Rattle.lexemes.specs.Bytes.{is_word_byte}

-- a place e of the source s, at or after a place, where no word goes on
pub record LikelyEnd (s : List ℕ) (at e : ℕ) : Type 0 where
  pub after : at ≤ e
  pub inside : e ≤ length s
  pub ends : is_word_byte (get_or s e 0) ≡ false
