-- `phrases::read` meets its contract: what is handed on, and what is read.
use mathlib.Core.Path.{sym, ◌∙◌}
use Rattle.std.proofs.Common.{rules}
use Rattle.phrases.proofs.Streams.{else_within}
use Rattle.phrases.proofs.Theorems.{read_handed, read_here, read_on, landed}
use Rattle.phrases.proofs.read.Goals as goal

pub returns-then-no-starts_past : goal.returns-then-no-starts_past
returns-then-no-starts_past c = sym (read_handed _ _ _ _ _ _ c.if-no-starts_past.true)

pub read_phrase-end-requires : goal.read_phrase-end-requires
read_phrase-end-requires c =
    let args = c.args in
    else_within args.src.now args.token (read_here args.src.now args.no args.token args.noted args.phrase args.kept.now c.if-no-starts_past.false).1

pub returns : goal.returns
returns c =
    let args = c.args in
    let h = read_here args.src.now args.no args.token args.noted args.phrase args.kept.now c.if-no-starts_past.false in
    let reads = rw c.pattern.ensures at c.read_phrase-end.ensures.reads in
    c.ended.ensures _ ∙ (landed c.read_phrase-end.result c.read_phrase-end.new.found reads (search rules) ∙ sym (read_on _ _ _ _ _ _ h.0 h.1))
