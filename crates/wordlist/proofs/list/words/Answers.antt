-- `wordlist::list::words` meets its contract: the list is the specification's, each word filled up, by one computation.
use Rattle.wordlist.specs.Filled.{fill_to}
use Rattle.wordlist.specs.Words.{reserved}
use mathlib.Core.Path.{refl}
use Rattle.wordlist.proofs.list.words.Goals as goal

pub returns : goal.returns
unfolding reserved fill_to
returns c = refl
