-- `ranks::rank` meets its contract: after j turns the sum is the ones of the row's first j words.
use Rattle.std.proofs.Common.{ℕ, ◌+◌, ◌-◌, ◌*◌, ◌<◌, ◌≤◌, ◌≡◌, ◌∙◌, ap, List, length, get_or, take, drop, arith, length-take, length-drop}
use lib.Count.{ones}
use lib.Seq.{get_or-take, get_or-drop}
use Rattle.ranks.proofs.Ranks.{rank_none, ranking_next, ranking_end}
use Rattle.ranks.proofs.rank.Goals as goal

-- the four words from n on
module _ (ws : List ℕ) (n : ℕ) where
  abbrev row : List ℕ
  row = take (n + 4 - n) (drop n ws)

  row_length : n + 4 ≤ length ws → length row ≡ 4
  row_length h = simp (length-take, length-drop) (omega arith)

  row_word : (j : ℕ) → j < 4 → get_or row j 0 ≡ get_or ws (n + j) 0
  row_word j h = get_or-take (n + 4 - n) (drop n ws) j 0 (omega arith) ∙ get_or-drop n ws j 0

pub returns-then-a-ge-RULES : goal.returns-then-a-ge-RULES
returns-then-a-ge-RULES c = rank_none c.args.map.now c.args.a (omega arith) c.if-a-ge-RULES.true

pub loop-word-preserved : goal.loop-word-preserved
loop-word-preserved c =
    let ws = c.args.map.now in
    let j : ℕ = c.loop-word.word-index in
    let inside : j < 4 = omega (arith, row_length ws (c.args.a * 4) (omega arith), c.loop-word-test.true) in
    rw (c.from-sum.ensures ∙ ap ones (row_word ws (c.args.a * 4) j inside)) (ranking_next c.loop-word.invariant inside (c.fits-map _))

pub returns : goal.returns
returns c =
    ranking_end c.loop-word.invariant (omega (arith, row_length c.args.map.now (c.args.a * 4) (omega arith), c.loop-word-test.false))
