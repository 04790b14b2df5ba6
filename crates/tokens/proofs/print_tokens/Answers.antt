use Rattle.std.proofs.Common.{◌<◌, arith, refl, ap}
use Rattle.lexemes.specs.Classes.{BAD}
use Rattle.viewer.specs.declared.Positioned.{Positioned}
use Rattle.viewer.specs.Viewed.{seen_by}
use Rattle.viewer.proofs.Onward.{seen_moves}
use Rattle.tokens.proofs.print_tokens.Goals as goal

pub loop-smaller : goal.loop-smaller
loop-smaller g c =
    let r = c.loop.reader in
    let next = c.next-seen in
    let some : (seen_by r).token.token.class < BAD =
    omega (arith, ap (λ (seen : Positioned). seen.token.class) next.ensures.0, c.if-seen-ge-BAD.false)
    in
    let moves = seen_moves r.src.now r.at r.line r.column (seen_by r) refl some in
    rw next.ensures.1 (omega (arith, moves))
