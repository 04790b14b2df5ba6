-- `table_screen::find_places` meets its contract.
use Rattle.table_screen.specs.TableScreen.{rule_places}
use Rattle.table_screen.proofs.find_places.Goals as goal

pub returns : goal.returns
unfolding rule_places
returns c = c.place_rows.ensures
