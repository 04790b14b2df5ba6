-- `print::sources::value_from` meets its contract.
-- Assumes nothing.
use Prim.Native.Nat.{◌+◌, ◌-◌}
use native.Mathlib.Omega.{arith}
use mathlib.Core.Path.{◌≡◌, ◌∙◌}
use Rattle.spellings.proofs.SpellingLaws.{past_all}
use Rattle.print.specs.Phrase.{GUID, value_from}
use Rattle.print.proofs.PhraseLaws.{column_value, guid_byte}
use Rattle.print.proofs.sources.value_from.Goals as goal

pub returns-then-source-lt-GUID : goal.returns-then-source-lt-GUID
returns-then-source-lt-GUID c = rw c.from.ensures at c.cell.ensures ∙ column_value _ _ c.if-source-lt-GUID.true

pub returns-in-0 : goal.returns-in-0
unfolding value_from
returns-in-0 c = let e : c.args.source ≡ GUID = omega (arith, c.in-0.is, c.if-source-lt-GUID.false) in rw (c.cell-a.ensures, e)

pub returns-in-1 : goal.returns-in-1
unfolding value_from
returns-in-1 c = let e : c.args.source ≡ GUID + 1 = omega (arith, c.in-1.is, c.if-source-lt-GUID.false) in rw (c.cell-a.ensures, e)

pub returns-in-2 : goal.returns-in-2
unfolding value_from
returns-in-2 c = let e : c.args.source ≡ GUID + 2 = omega (arith, c.in-2.is, c.if-source-lt-GUID.false) in rw (c.cell-a.ensures, e)

pub returns-in_default : goal.returns-in_default
returns-in_default c =
    let rest = past_all (Unit {0}) 0 3 (c.args.source - GUID) c.in_default.in_default-own.rest (λ u. omega arith) in
    c.from-in_default-2.ensures ∙ guid_byte _ _ _ _ _ c.cell-b.ensures c.to_be_bytes.ensures (omega (arith, rest)) (rw c.from-in_default.ensures at c.min.ensures)
