-- Where a token lies: one with bytes starts at or after the place where reading starts, ends after its start, and within the source.
-- Assumes nothing.
use mathlib.Core.Path.{◌≡◌, refl}
use mathlib.Core.Bool.{false}
use mathlib.Core.List.{List}
use Prim.Native.Nat.{ℕ, ◌+◌, ◌≤◌, ◌<◌}
use native.Mathlib.Omega.{arith}
use lib.ListN.{length, drop, length-drop}
use lib.Seq.{drop-length}
use borrow.Author.Tests.{le-ltb}
use Rattle.lex.specs.declared.Token.{Token}
use Rattle.lexemes.specs.Classes.{BAD, END}
use Rattle.lex.specs.Tokens.{gap, empty, token_from, token_after_gap, token_at}
use Rattle.lexemes.proofs.Lists.{either_less}
use Rattle.lex.proofs.Comments.{gap_le}
use Rattle.lex.proofs.Cases.{start_le, token_from_lem}
use Rattle.lex.proofs.Shape.{Shape, from_shape}

-- the token after the blanks and comments that s starts with
after_shape : (s : List ℕ) (at : ℕ) → Shape (drop (gap false s) s) (at + gap false s) (token_after_gap s at)
unfolding token_after_gap
after_shape s at = from_shape (drop (gap false s) s) (at + gap false s)

pub after_moves : (s : List ℕ) (at : ℕ) → (token_after_gap s at).class < BAD → (at < (token_after_gap s at).end) × ((token_after_gap s at).end ≤ at + length s)
after_moves s at h = omega (arith, (after_shape s at).bytes h, length-drop (gap false s) s, gap_le false s)

-- the token t at or after a place is read at its own start
module _ (s : List ℕ) (at : ℕ) where
  abbrev t : Token
  t = token_at s at

  pub past_end : length s ≤ at → t ≡ empty END (length s)
  unfolding token_at
  past_end h = rw (le-ltb at (length s) h)

  pub start_is : at < length s → t.start ≡ at + gap false (drop at s)
  start_is h = rw (token_from_lem s at _ refl h) (from_shape _ _).starts

  pub start_inside : t.start ≤ length s
  start_inside =
      either_less at (length s) (λ h. omega (arith, start_is h, start_le s at _ refl (omega arith))) (λ h. rw (past_end h) (omega arith))

  pub from_start : t ≡ token_from (drop t.start s) t.start
  unfolding token_from
  from_start =
      either_less at (length s) (λ h. token_from_lem s at t.start (start_is h) h) (λ h. rw (past_end h, drop-length))

  pub shape : Shape (drop t.start s) t.start t
  shape = rw (← from_start) at (from_shape (drop t.start s) t.start)

-- ---- the laws

-- a token t with bytes, read from the place `at` on
pub record Moves (s : List ℕ) (at : ℕ) (t : Token) : Type 0 where
  pub after : at ≤ t.start
  pub some : t.start < t.end
  pub within : t.end ≤ length s

module _ (s : List ℕ) (at : ℕ) where
  pub class_le_end : (token_at s at).class ≤ END
  class_le_end = (shape s at).known

  -- a token that is neither bad nor the end has bytes
  pub class_some : ((token_at s at).class ≡ BAD → ⊥) → ((token_at s at).class ≡ END → ⊥) → (token_at s at).class < BAD
  class_some no_bad_lem no_end = omega (arith, class_le_end)

  pub token_moves : (token_at s at).class < BAD → Moves s at (token_at s at)
  token_moves h =
      let bytes = (shape s at).bytes h in
      let before : at < length s = either_less at (length s) (λ l. l) (λ l. absurd (no_bytes l)) in
      record {
        after = omega (arith, start_is s at before);
        some = bytes.0;
        within = omega (arith, start_inside s at, length-drop (token_at s at).start s);
      }
    where
      no_bytes : length s ≤ at → ⊥
      no_bytes l = let never : END < BAD = rw (past_end s at l) at h in omega arith

  -- a bad token and the end have no bytes
  pub bad_is_empty : (token_at s at).class ≡ BAD → ((token_at s at).end ≡ (token_at s at).start) × ((token_at s at).start < length s)
  bad_is_empty h = omega (arith, (shape s at).bad h, length-drop (token_at s at).start s)

  pub end_is_empty : (token_at s at).class ≡ END → ((token_at s at).start ≡ length s) × ((token_at s at).end ≡ length s)
  end_is_empty h = omega (arith, (shape s at).done h, start_inside s at, length-drop (token_at s at).start s)
