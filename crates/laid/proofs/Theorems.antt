-- The rows of an accepted source are its statements, laid in the table that reading leaves.
-- Assumes nothing.
use Prim.Native.Nat.{ℕ}
use mathlib.Core.Path.{◌≡◌}
use mathlib.Core.List.{List}
use lib.ListN.{length}
use Rattle.ll1.specs.Trees.{Trees}
use Rattle.rows.specs.Rows.{laid}
use Rattle.grammar.specs.Derivation.{Derives}
use Rattle.grammar.specs.Source.{source_tokens, number_at}
use Rattle.answers.specs.Stages.{finished}
use Rattle.answers.specs.Answer.{drafts}
use Rattle.answers.specs.WholeAnswer.{read_answer, read_table}
use Rattle.answers.specs.Text.{row_first_at}
use Rattle.answers.proofs.Demand3.{counts_exactly, rows_exactly}
use Rattle.laid.specs.Laid.{FormSetLaid}
use Rattle.laid.proofs.Forests.{form_set_laid}
use Rattle.laid.proofs.FinishedRows.{drafts_held}

module _ (s : List ℕ) (n : ℕ) (tree : Trees) (derives : Derives (source_tokens s) tree) where
  -- the finished row of a place
  abbrev pub row_of : ℕ → List ℕ
  row_of = row_first_at (finished s (drafts s tree))

  -- of a source with its derivation: a table that starts with the finished rows has the statements of the tree
  pub finished_laid : FormSetLaid (laid (finished s (drafts s tree)) n) (length (drafts s tree)) row_of tree
  unfolding drafts
  finished_laid = form_set_laid _ row_of (number_at s) derives.fits (drafts_held s n tree derives)

  -- of an accepted one: so has the table of n numbers that reading leaves, in as many rows as reading answers
  pub statements_laid : (read_answer s n).number ≡ 0 → FormSetLaid (read_table s n) (read_answer s n).rows row_of tree
  statements_laid accepted = rw (rows_exactly s n accepted tree derives, counts_exactly s n accepted tree derives) finished_laid
