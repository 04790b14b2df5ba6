-- `viewer::nth_token` meets its contract. It calls `view`, whose parameters are plain, so the borrow checker's part walks the code.
-- The loop keeps that `at` is the place after i tokens, and that the line and column are that place's own.
-- Assumes nothing.
use mathlib.Core.Path.{◌≡◌}
use Rattle.positions.specs.Positions.{line_at, column_at}
use Rattle.viewer.specs.Viewed.{place_of_nth}
use Rattle.viewer.proofs.nth_token.Given as goal

abbrev pub invariant-loop-i : goal.invariant-loop-i
invariant-loop-i l =
    (l.at ≡ place_of_nth l.src l._i) × (l.line ≡ line_at l.src (place_of_nth l.src l._i)) × (l.column ≡ column_at l.src (place_of_nth l.src l._i))
