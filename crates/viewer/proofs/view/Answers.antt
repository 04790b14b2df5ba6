-- `viewer::view` meets its contract: the branch's test says whether the place moves (`seen_past`) or stays (`seen_stays`).
-- Assumes nothing.
use borrow.Author.Rules.{rules}
use Rattle.viewer.proofs.Onward.{seen_past, seen_stays}
use Rattle.viewer.proofs.view.Goals as goal

pub returns-then-t-lt-BAD : goal.returns-then-t-lt-BAD
returns-then-t-lt-BAD c =
    let args = c.args in
    let t = c.token_at-t in
    let p = c.onward-p in
    seen_past args.src.now args.at args.line args.column t.result p.result t.ensures p.ensures c.onward-q.result c.if-t-lt-BAD.true c.onward-q.ensures

pub returns : goal.returns
returns c =
    let args = c.args in
    let t = c.token_at-t in
    let p = c.onward-p in
    seen_stays args.src.now args.at args.line args.column t.result p.result t.ensures p.ensures c.if-t-lt-BAD.false (search rules) (search rules)
