-- Line and column of an answer's place, by whether it has one; W-201 of every answer that is made so.
-- Assumes nothing.
use mathlib.Core.Path.{◌≡◌, ap}
use mathlib.Core.Logic.{inl, inr}
use mathlib.Core.Bool.{true, false}
use mathlib.Core.List.{List}
use Prim.Native.Nat.{ℕ}
use borrow.Author.Tests.{ne_eqb}
use Rattle.positions.specs.declared.Position.{Position}
use Rattle.positions.specs.Positions.{position_at}
use Rattle.answers.specs.Answer.{Answer, accepts}
use Rattle.replies.specs.Replies.{has_place, position_of, replied, accepting, read_replied}
use Rattle.replies.specs.Lines.{Unplaced, GivesLine}

module _ (s : List ℕ) (number place : ℕ) where
  pub position_placed : has_place number ≡ true → position_of s number place ≡ position_at s place
  unfolding position_of
  position_placed h = rw h

  pub position_none : has_place number ≡ false → position_of s number place ≡ record { line = 0; column = 0 }
  unfolding position_of
  position_none h = rw h

-- which numbers have a place

has_none : (n : ℕ) → Unplaced n → has_place n ≡ false
has_none n (inl e) = rw e
has_none n (inr (inl e)) = rw e
has_none n (inr (inr (inl e))) = rw e
has_none n (inr (inr (inr (inl e)))) = rw e
has_none n (inr (inr (inr (inr (inl e))))) = rw e
has_none n (inr (inr (inr (inr (inr (inl e)))))) = rw e
has_none n (inr (inr (inr (inr (inr (inr e)))))) = rw e

has_place_lem : (n : ℕ) → (Unplaced n → ⊥) → has_place n ≡ true
has_place_lem n h =
    rw (
      ne_eqb n 0 (λ e. h (inl e)),
      ne_eqb n 1 (λ e. h (inr (inl e))),
      ne_eqb n 6 (λ e. h (inr (inr (inl e)))),
      ne_eqb n 13 (λ e. h (inr (inr (inr (inl e))))),
      ne_eqb n 15 (λ e. h (inr (inr (inr (inr (inl e)))))),
      ne_eqb n 17 (λ e. h (inr (inr (inr (inr (inr (inl e))))))),
      ne_eqb n 30 (λ e. h (inr (inr (inr (inr (inr (inr e))))))),
    )

pub gives_line : (s : List ℕ) (number place rows free written : ℕ) → GivesLine s (replied s number place rows free written)
unfolding position_at
gives_line s number place rows free written =
    record {
      placed = λ h. let e = position_placed s number place (has_place_lem number h) in (ap (λ (p : Position). p.line) e, ap (λ (p : Position). p.column) e);
      unplaced = λ h. let e = position_none s number place (has_none number h) in (ap (λ (p : Position). p.line) e, ap (λ (p : Position). p.column) e);
    }

-- ---- the answer in full tells the answer

pub read_replied_only : (s : List ℕ) {a b : Answer} → read_replied s a ≡ read_replied s b → a ≡ b
read_replied_only s e = λ i. record { number = (e i).number; place = (e i).place; rows = (e i).rows; free = (e i).free }

pub accepting_only : (s : List ℕ) {rows free : ℕ} {a : Answer} → accepting rows free 0 ≡ read_replied s a → accepts rows free ≡ a
accepting_only s e = λ i. record { number = (e i).number; place = (e i).place; rows = (e i).rows; free = (e i).free }
