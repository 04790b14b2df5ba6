-- `viewer::nth_token` meets its contract. It calls `view`, whose parameters are plain, so the borrow checker's part walks the code.
-- The loop keeps that `at` is the place after i tokens, and that the line and column are that place's own.
-- Assumes nothing.
use native.Mathlib.Omega.{arith}
use mathlib.Core.Path.{◌≡◌, refl, sym, ap, ◌∙◌}
use Prim.Native.Nat.{◌^◌, ◌<◌}
use lib.ListN.{length}
use Rattle.positions.specs.Positions.{line_feeds, since_feed, line_at, column_at}
use Rattle.viewer.specs.declared.Seen.{Seen}
use Rattle.viewer.specs.Viewed.{place_of_nth, nth_token, positioned, seen_at}
use Rattle.viewer.proofs.Onward.{next_place}
use Rattle.viewer.proofs.Walk.{nth_seen}
use Rattle.viewer.proofs.nth_token.Goals as goal

pub loop-i-init : goal.loop-i-init
unfolding place_of_nth line_at column_at line_feeds since_feed
loop-i-init c = (refl, refl, refl)

pub loop-i-preserved : goal.loop-i-preserved
unfolding seen_at
loop-i-preserved c =
    let src = c.args.src.now in
    let short : length src < 2 ^ 63 = omega (arith, c.well_formed.0.1) in
    let l = c.loop-i in
    let is = nth_seen src short l._i l.at l.line l.column l.invariant.0 l.invariant.1 l.invariant.2 c.view-s.result c.view-s.ensures in
    let goes = sym (next_place src l._i) in (
      ap (λ (v : Seen). v.at) is ∙ goes,
      ap (λ (v : Seen). v.line) is ∙ ap (line_at src) goes,
      ap (λ (v : Seen). v.column) is ∙ ap (column_at src) goes,
    )

pub returns : goal.returns
unfolding nth_token seen_at
returns c =
    let args = c.args in
    let src = args.src.now in
    let short : length src < 2 ^ 63 = omega (arith, c.well_formed.0.1) in
    let l = c.loop-i in
    let v = c.view in
    let all : l._i ≡ args.n = omega arith in
    ap (λ (w : Seen). w.token) (nth_seen src short l._i l.at l.line l.column l.invariant.0 l.invariant.1 l.invariant.2 v.result v.ensures)
    ∙ ap (λ k. positioned src (nth_token src k)) all
