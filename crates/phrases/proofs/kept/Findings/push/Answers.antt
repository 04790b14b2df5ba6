-- `phrases::kept::Findings::push` meets its contract.
use mathlib.Core.Path.{refl}
use borrow.Author.Tests.{lt-ltb, le-ltb}
use lib.Seq.{set_out}
use Rattle.phrases.specs.Phrase.{with_entry, with_entries}
use Rattle.phrases.proofs.kept.Findings.push.Goals as goal

pub returns-then-self : goal.returns-then-self
unfolding with_entry with_entries
returns-then-self c = record { kept = rw (lt-ltb _ _ c.if-self.true); noted = refl; lent = refl }

pub returns-else-self : goal.returns-else-self
unfolding with_entry with_entries
returns-else-self c = record { kept = rw (le-ltb _ _ c.if-self.false, set_out _ _ c.args.entry c.if-self.false); noted = refl; lent = refl }
