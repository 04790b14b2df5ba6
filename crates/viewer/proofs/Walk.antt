-- From the start on, the line and column that the reader keeps are those of its place, and each token carries the line and column of its
-- start: also a bad one, and the end.
-- Assumes nothing.
use mathlib.Core.Path.{◌≡◌, refl, ap, ◌∙◌}
use mathlib.Core.List.{List}
use Prim.Native.Nat.{ℕ, zero, suc, ◌^◌, ◌≤◌, ◌<◌}
use native.Mathlib.Omega.{arith}
use lib.ListN.{length}
use denote.Ref.{Bor}
use Rattle.lexemes.specs.Classes.{BAD}
use Rattle.lex.specs.Tokens.{token_at}
use Rattle.lexemes.proofs.Lists.{either_less}
use Rattle.lex.proofs.Progress.{token_moves, past_end, start_is}
use Rattle.positions.specs.Positions.{line_feeds, since_feed, line_at, column_at, position_at}
use Rattle.positions.proofs.Laws.{position_onward}
use Rattle.viewer.specs.declared.Seen.{Seen}
use Rattle.viewer.specs.declared.Reader.{Reader}
use Rattle.viewer.specs.Viewed.{place_after, place_of_nth, nth_token, positioned, seen_at, seen_from, seen_by, moved_to, moved_on, started, standing, after_nth}
use Rattle.viewer.proofs.Onward.{place_stays, place_past_lem}

-- a source is shorter than 2^63 bytes, as every slice is
module _ (s : List ℕ) (short : length s < 2 ^ 63) where
  -- ---- at a place within the source
  module _ (at : ℕ) (inside : at ≤ length s) where
    starts_after : at ≤ (token_at s at).start
    starts_after =
        either_less at (length s) (λ h. omega (arith, start_is s at h)) (λ h. rw (past_end s at h) inside)

    pub goes_after : (at ≤ place_after s at) × (place_after s at ≤ length s)
    goes_after =
        either_less (token_at s at).class BAD
        (λ h. omega (arith, place_past_lem s at h, token_moves s at h))
        (λ h. omega (arith, place_stays s at h))

    -- where the line and column are the place's own, so is all that is seen
    pub seen_own : seen_from s at (line_at s at) (column_at s at) ≡ seen_at s at
    unfolding seen_from seen_at positioned position_at
    seen_own =
        let first = position_onward s at (token_at s at).start starts_after short in
        let past = position_onward s at (place_after s at) goes_after.0 short in
        λ i.
        record {
          token = record { token = token_at s at; line = (first i).line; column = (first i).column };
          at = place_after s at;
          line = (past i).line;
          column = (past i).column;
        }

  -- ---- after n tokens

  pub nth_inside : (n : ℕ) → place_of_nth s n ≤ length s
  unfolding place_of_nth
  nth_inside zero = omega arith
  nth_inside (suc n) = (goes_after (place_of_nth s n) (nth_inside n)).1

  -- what is seen of the n-th token on from its own line and column
  pub nth_seen : (n at line column : ℕ) → at ≡ place_of_nth s n → line ≡ line_at s (place_of_nth s n) → column ≡ column_at s (place_of_nth s n)
      → (v : Seen) → v ≡ seen_from s at line column → v ≡ seen_at s (place_of_nth s n)
  nth_seen n at line column at_is line_is column_is v is =
      is ∙ (λ i. seen_from s (at_is i) (line_is i) (column_is i)) ∙ seen_own (place_of_nth s n) (nth_inside n)

-- ---- a reader that `new` made, and that went on n times

-- it stands at its place with that place's own line and column
pub started_place : (src : Bor (List ℕ)) → length src.now < 2 ^ 63 → (n : ℕ) → after_nth n (started src) ≡ standing src (place_of_nth src.now n)
unfolding after_nth place_of_nth standing seen_at line_at column_at line_feeds since_feed
started_place src short zero = refl
started_place src short (suc n) =
    ap moved_on (started_place src short n)
    ∙ ap (moved_to (started src)) (seen_own src.now short (place_of_nth src.now n) (nth_inside src.now short n))

-- and gives the n-th token with the line and column of its start
pub started_token : (src : Bor (List ℕ)) → length src.now < 2 ^ 63 → (n : ℕ)
    → (seen_by (after_nth n (started src))).token ≡ positioned src.now (nth_token src.now n)
unfolding nth_token standing seen_at
started_token src short n =
    ap (λ (r : Reader). (seen_by r).token) (started_place src short n)
    ∙ ap (λ (v : Seen). v.token) (seen_own src.now short (place_of_nth src.now n) (nth_inside src.now short n))
