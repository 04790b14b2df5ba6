-- `lex::token_at` meets its contract. The loop's invariant: blanks and comments end at the same place from here as from the start.
use mathlib.Core.Path.{sym, ◌∙◌}
use native.Mathlib.Omega.{arith}
use Rattle.lex.proofs.Comments.{after_blank, after_comment, comment_moves, gap_none, gap_past}
use Rattle.lex.proofs.Cases.{token_from_lem, token_end}
use Rattle.lex.proofs.token_at.Goals as goal

pub loop-i-preserved-then-is_blank : goal.loop-i-preserved-then-is_blank
loop-i-preserved-then-is_blank c = omega (arith, after_blank c.args.src.now c.loop-i.i (omega arith) (sym c.is_blank.ensures ∙ c.if-is_blank.true))

pub loop-i-smaller : goal.loop-i-smaller
loop-i-smaller c = omega (arith, c.line_end-i.ensures, comment_moves c.args.src.now c.loop-i.i (sym c.starts_comment.ensures ∙ c.if-starts_comment.true))

pub loop-i-preserved : goal.loop-i-preserved
loop-i-preserved c = c.loop-i.invariant ∙ after_comment c.args.src.now c.loop-i.i (sym c.starts_comment.ensures ∙ c.if-starts_comment.true) _ c.line_end-i.ensures

pub returns-else-starts_comment : goal.returns-else-starts_comment
returns-else-starts_comment c =
    let s = c.args.src.now in
    let none = gap_none s c.loop-i.i (sym c.is_blank.ensures ∙ c.if-is_blank.false) (sym c.starts_comment.ensures ∙ c.if-starts_comment.false) in
    c.token_from.ensures ∙ sym (token_from_lem s c.args.at c.loop-i.i (omega (arith, c.loop-i.invariant)) (omega (arith, c.loop-i.invariant)))

pub returns : goal.returns
returns c =
    let s = c.args.src.now in
    let none = gap_past s c.loop-i.i (omega arith) in
    c.empty.ensures ∙ token_end s c.args.at c.loop-i.i (omega (arith, c.loop-i.invariant)) (omega arith)
