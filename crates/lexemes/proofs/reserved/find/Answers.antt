-- `lexemes::reserved::find` meets its contract. The loop's invariant: the search from `i` on ends as the search from the start does.
use mathlib.Core.Path.{sym, ◌∙◌}
use native.Mathlib.Omega.{arith}
use Rattle.lexemes.proofs.Searching.{step_found, step_stops, step_on, at_end}
use Rattle.lexemes.proofs.reserved.find.Goals as goal

pub returns-then-eq : goal.returns-then-eq
returns-then-eq c =
    let at = c.loop-i in
    sym (step_found at.i _ _ _ (omega arith) c.listed-row.ensures (sym c.eq.ensures ∙ c.if-eq.true)) ∙ at.invariant

pub returns-then-row-wanted : goal.returns-then-row-wanted
returns-then-row-wanted c =
    let at = c.loop-i in
    sym (step_stops at.i _ _ _ (omega arith) c.listed-row.ensures (sym c.eq.ensures ∙ c.if-eq.false) c.if-row-wanted.true) ∙ at.invariant

pub loop-i-preserved : goal.loop-i-preserved
loop-i-preserved c =
    let at = c.loop-i in
    sym (step_on at.i _ _ _ (omega arith) c.listed-row.ensures (sym c.eq.ensures ∙ c.if-eq.false) c.if-row-wanted.false) ∙ at.invariant

pub returns : goal.returns
returns c =
    let at = c.loop-i in
    sym (at_end at.i _ _ (omega arith)) ∙ at.invariant
