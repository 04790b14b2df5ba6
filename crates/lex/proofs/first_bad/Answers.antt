-- `lex::first_bad` meets its contract. The loop's invariant: the first bad token is the first from here on.
use mathlib.Core.Path.{sym, ◌∙◌}
use native.Mathlib.Omega.{arith}
use borrow.Author.Rules.{rules}
use Rattle.lex.proofs.Progress.{class_some, token_moves}
use Rattle.lex.proofs.TokenList.{first_bad_from, bad_here, bad_none, bad_later}
use Rattle.lex.proofs.first_bad.Goals as goal

pub loop-token-init : goal.loop-token-init
loop-token-init c = (search rules, first_bad_from c.args.src.now)

pub returns-then-token-eq-BAD : goal.returns-then-token-eq-BAD
returns-then-token-eq-BAD c =
    let args = c.args in
    let loop = c.loop-token in
    let is_token = c.token_at-token.ensures in
    rw is_token (sym (loop.invariant.1 ∙ bad_here args.src.now loop.at loop.invariant.0 (rw is_token at c.if-token-eq-BAD.true)))

pub returns-then-token-eq-END : goal.returns-then-token-eq-END
returns-then-token-eq-END c =
    let args = c.args in
    let loop = c.loop-token in
    let is_token = c.token_at-token.ensures in
    sym (loop.invariant.1 ∙ bad_none args.src.now loop.at loop.invariant.0 (rw is_token at c.if-token-eq-END.true))

pub loop-token-smaller : goal.loop-token-smaller
loop-token-smaller c =
    let args = c.args in
    let loop = c.loop-token in
    let is_token = c.token_at-token.ensures in
    let some = class_some args.src.now loop.at (rw is_token at c.if-token-eq-BAD.false) (rw is_token at c.if-token-eq-END.false) in
    rw is_token (omega (arith, token_moves args.src.now loop.at some))

pub loop-token-preserved : goal.loop-token-preserved
loop-token-preserved c =
    let args = c.args in
    let loop = c.loop-token in
    let is_token = c.token_at-token.ensures in
    let some = class_some args.src.now loop.at (rw is_token at c.if-token-eq-BAD.false) (rw is_token at c.if-token-eq-END.false) in
    rw is_token ((token_moves args.src.now loop.at some).within, loop.invariant.1 ∙ bad_later args.src.now loop.at loop.invariant.0 some)
