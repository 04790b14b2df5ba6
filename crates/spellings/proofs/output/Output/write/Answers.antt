-- `spellings::output::Output::write` meets its contract. The loop's invariant: what it has passed is the text's.
-- Assumes nothing.
use Prim.Native.Nat.{◌-◌}
use native.Mathlib.Omega.{arith}
use mathlib.Core.Path.{◌≡◌, refl, sym, ap, ◌∙◌}
use lib.ListN.{length, take, drop, length-take, length-drop}
use lib.Seq.{take_all}
use Rattle.spellings.proofs.Outputs.{copied}
use Rattle.spellings.proofs.output.Output.write.Goals as goal

pub returns : goal.returns
returns c =
    let text = c.args.text.now in
    let rest = drop c.min-start.result c.args.self.now.bytes.now in
    let n = c.min-end.result - c.min-start.result in
    let loop = c.loop-k in
    let size : length (take n rest) ≡ n = omega (arith, length-take n rest, length-drop c.min-start.result c.args.self.now.bytes.now) in
    let passed : loop.k ≡ n = omega (arith, size, loop.auto.k-end, c.loop-k-test.false) in
    let copy : loop.space ≡ take n text =
    sym (take_all loop.k loop.space (omega (arith, size, loop.auto.space, passed))) ∙ loop.invariant ∙ ap (λ i. take i text) passed in
    record {
      puts = record { stored = rw copy (copied c.args.self.now.bytes.now text c.args.self.now.at _ _ (omega arith) (omega arith) (omega arith)); end = omega arith };
      lent = refl;
    }
