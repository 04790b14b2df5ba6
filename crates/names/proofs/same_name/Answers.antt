-- `names::same_name` meets its contract.
use Rattle.std.proofs.Common.{arith}
use Rattle.std.proofs.lemmas.Grind.{common_steps}
use Rattle.lexemes.proofs.Equality.{same_word_refl}
use Rattle.names.proofs.NameLaws.{unnamed_first, unnamed_second, named_both}
use Rattle.names.proofs.same_name.Goals as goal

pub returns-then-p-q : goal.returns-then-p-q
returns-then-p-q c = grind (arith, common_steps, named_both, same_word_refl)

pub returns-else-p-q : goal.returns-else-p-q
returns-else-p-q c = grind (arith, common_steps, named_both)

pub returns-in_default : goal.returns-in_default
returns-in_default c = grind (arith, common_steps, unnamed_second)

pub returns-in_default-2 : goal.returns-in_default-2
returns-in_default-2 c = grind (arith, common_steps, unnamed_first)
