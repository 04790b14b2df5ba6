-- `table_screen::no_values` meets its contract.
use mathlib.Core.Path.{refl}
use Rattle.table_screen.specs.TableScreen.{no_values}
use Rattle.table_screen.proofs.no_values.Goals as goal

pub returns : goal.returns
unfolding no_values
returns c = refl
