-- The draft row of a phrase as the code has it in hand.
-- Assumes nothing.
use Rattle.std.specs.Prelude.{ℕ}
use Rattle.grammar.specs.Source.{number_at}
use Rattle.answers.specs.Rows.{Draft}
use Rattle.fields.specs.declared.parts.Phrase.{Phrase}
use Rattle.fields.specs.Phrases.{Drafting, kept}

abbrev pub drafted : ((ℕ → ℕ) → Drafting) → Phrase → Draft
drafted draft p = draft (number_at p.src.now) p.parent p.place (kept p.k)
