-- `values::any_value_at` meets its contract.
use mathlib.Core.Path.{ap, ◌∙◌}
use mathlib.Core.List.{List}
use Prim.Native.Nat.{ℕ}
use native.Mathlib.Omega.{arith}
use Rattle.values.specs.Numbers.{numeral, fitted, value_at}
use Rattle.lexemes.proofs.WordParts.{word_inside, word_part}
use Rattle.values.proofs.any_value_at.Goals as goal

pub slice_bounds-number_value-end : goal.slice_bounds-number_value-end
slice_bounds-number_value-end c =
    let args = c.args in
    word_inside args.src.now args.at _ (omega arith) c.word_end-end.ensures

pub returns : goal.returns
unfolding value_at
returns c =
    let args = c.args in
    let part = word_part args.src.now args.at _ c.word_end-end.ensures in
    c.number_value.ensures ∙ ap (λ (w : List ℕ). fitted (numeral w)) part
