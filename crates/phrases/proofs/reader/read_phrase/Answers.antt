-- `phrases::reader::read_phrase` meets its contract.
use mathlib.Core.Path.{refl, ◌∙◌}
use native.Mathlib.Omega.{arith}
use Rattle.std.proofs.lemmas.Option.{unwrap_or-slice_get}
use Rattle.std.proofs.lemmas.Result.{err_from_is_err_and}
use Rattle.phrases.proofs.PhraseLoop.{turns_none, turns_all, turns_word, refused_word, turns_group, turns_absent, turns_taken, refused_element}
use Rattle.phrases.proofs.reader.read_phrase.Goals as goal

pub loop-want-init : goal.loop-want-init
loop-want-init c = (turns_none _ _ _ c.requires, refl)

pub returns-then-token-want-clause-reads : goal.returns-then-token-want-clause-reads
returns-then-token-want-clause-reads c = refused_word (rw c.in-Some.ensures.cases.0 at c.loop-want.invariant.0) c.if-want-lt-NAME.true c.if-token-want.true

pub loop-want-preserved-then-want-lt-NAME : goal.loop-want-preserved-then-want-lt-NAME
loop-want-preserved-then-want-lt-NAME c =
    let left = rw c.in-Some.ensures.cases.0 at c.loop-want.invariant.0 in
    (turns_word left c.if-want-lt-NAME.true c.if-token-want.false c.token_at-token.ensures, c.loop-want.invariant.1)

pub loop-want-preserved-then-token-next : goal.loop-want-preserved-then-token-next
loop-want-preserved-then-token-next c =
    let left = rw c.in-Some.ensures.cases.0 at c.loop-want.invariant.0 in
    let next = rw (c.copied.ensures, c.first.ensures.value) at c.unwrap_or-next.ensures ∙ unwrap_or-slice_get c.in-Some.rest.now 0 0 in
    (rw c.push.ensures.noted (turns_absent left c.if-want.true next c.if-token-next.true c.push.ensures.kept c.min.ensures), c.push.ensures.lent ∙ c.loop-want.invariant.1)

pub loop-want-preserved-else-token-next : goal.loop-want-preserved-else-token-next
loop-want-preserved-else-token-next c =
    let left = rw c.in-Some.ensures.cases.0 at c.loop-want.invariant.0 in
    let next = rw (c.copied.ensures, c.first.ensures.value) at c.unwrap_or-next.ensures ∙ unwrap_or-slice_get c.in-Some.rest.now 0 0 in
    (turns_group left c.if-want.true next c.if-token-next.false, c.loop-want.invariant.1)

pub read_element-requires : goal.read_element-requires
read_element-requires c = c.loop-want.invariant.0.within

pub returns-in_err-end-clause-reads : goal.returns-in_err-end-clause-reads
returns-in_err-end-clause-reads c =
    let left = rw c.in-Some.ensures.cases.0 at c.loop-want.invariant.0 in
    let p = err_from_is_err_and c.from_residual.result c.from_residual.ensures.1 in
    rw (p.1, p.2) (refused_element left c.if-want.false c.in_err-end.ensures.reads refl (λ z. omega arith))

pub returns-in_err-end-clause-lent : goal.returns-in_err-end-clause-lent
returns-in_err-end-clause-lent c = c.in_err-end.ensures.lent ∙ c.loop-want.invariant.1

pub loop-want-preserved : goal.loop-want-preserved
loop-want-preserved c =
    let left = rw c.in-Some.ensures.cases.0 at c.loop-want.invariant.0 in
    (rw c.token_at-token-else-want.ensures (turns_taken left c.if-want.false c.in_ok-end.ensures.reads), c.in_ok-end.ensures.lent ∙ c.loop-want.invariant.1)

pub returns-clause-reads : goal.returns-clause-reads
returns-clause-reads c = turns_all c.in_default.ensures.cases c.loop-want.invariant.0
