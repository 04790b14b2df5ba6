-- `evaluate::stack::Stack::push` meets its contract.
use Prim.Native.Nat.{◌+◌}
use mathlib.Core.Path.{sym, ap, ap₂, ◌∙◌}
use native.Mathlib.Omega.{arith}
use lib.ListN.{length}
use Rattle.evaluate.specs.Lent.{stacked}
use Rattle.evaluate.specs.Machine.{pushed}
use Rattle.evaluate.proofs.StackLaws.{stacked_pushed, length_stacked}
use Rattle.evaluate.proofs.stack.Stack.push.Goals as goal

pub overflow_add-self : goal.overflow_add-self
overflow_add-self c =
    let height = sym (length_stacked c.self.inside.values c.self.inside.height) ∙ ap length c.self.view_is in
    omega (arith, height, c.requires)

pub returns : goal.returns
returns c =
    let values = c.self.inside.values in
    let height = c.self.inside.height in
    ap (λ now. stacked now (height + 1)) c.put_value.ensures
    ∙ stacked_pushed values height c.args.v
    ∙ ap₂ (λ room. pushed room c.args.v) c.self.invariant c.self.view_is
