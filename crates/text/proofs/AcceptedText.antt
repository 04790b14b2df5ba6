-- The table that holds the finished rows of an accepted source has the source's resolved text.
-- Assumes nothing.
use Prim.Native.Nat.{ℕ, ◌+◌, ◌*◌, ◌^◌, ◌≤◌, ◌<◌}
use native.Mathlib.Omega.{arith}
use mathlib.Core.Path.{◌≡◌, sym, ap, ◌∙◌}
use mathlib.Core.List.{List, [], ◌∷◌, ◌++◌}
use lib.ListN.{length, get_or}
use Rattle.lexemes.proofs.Lists.{either_less}
use Rattle.rows.specs.Codes as code
use Rattle.rows.specs.Columns as column
use Rattle.rows.specs.Table.{whole_rows, cell_at}
use Rattle.rows.specs.Rows.{laid}
use Rattle.rows.proofs.CellLaws.{cell_inside, cell_outside, cell_past}
use Rattle.ll1.specs.Trees.{Trees, nonterminal, Fits}
use Rattle.grammar.specs.Rules.{<source>}
use Rattle.grammar.specs.Grammar.{rules}
use Rattle.grammar.specs.Parts.{child, place_at}
use Rattle.grammar.specs.Derivation.{Derives}
use Rattle.grammar.specs.Source.{source_tokens, number_at}
use Rattle.answers.specs.Rows.{Draft, drafts_of}
use Rattle.answers.specs.Stages.{finished}
use Rattle.answers.specs.Answer.{Answer, accepts, drafts}
use Rattle.answers.specs.WholeAnswer.{read_answer, read_table}
use Rattle.answers.specs.Text.{opening, words_of, text_of, row_first_at, resolved_text}
use Rattle.answers.specs.Resolution.{text_of_source}
use Rattle.answers.proofs.Answers.{passes_grammatical, passes_text, accepted_answer, laid_rows}
use Rattle.answers.proofs.Demand3.{rows_few, accepts_passing}
use Rattle.spellings.specs.Output.{MOST}
use Rattle.statements.specs.Statements.{closing}
use Rattle.laid.specs.Items.{done}
use Rattle.laid.specs.Statements.{items_of}
use Rattle.laid.proofs.Held.{Held}
use Rattle.laid.proofs.Forests.{form_set_laid}
use Rattle.laid.proofs.FinishedRows.{drafts_held}
use Rattle.text.specs.ItemWords.{item_words}
use Rattle.text.specs.Answers.{HasText}
use Rattle.text.proofs.Lengths.{OPENING, EACH_ROW, size_append, opening_short, closing_short, items_short}
use Rattle.text.proofs.TreeWords.{source_words}

-- ---- a table that holds the draft rows of a source's tree

module _ (t : List ℕ) (found : ℕ → List ℕ) (value : ℕ → ℕ) {tree : Trees} (fits : Fits rules (nonterminal <source> ∷ []) tree) where
  abbrev ds : List Draft
  ds = drafts_of value tree 0 0 0

  module _ (held : Held t found ds 0) where
    whole : HasText t (length ds) (text_of (words_of found tree))
    whole =
        let statements = form_set_laid t found value fits held in
        record {
          found = found;
          place = place_at 0 (child 0 tree);
          forms = items_of tree done;
          end = length ds;
          row = statements.row;
          laid = statements.forms;
          stops = record { apart = λ l e. absurd (omega arith) };
          is = ap text_of (source_words t found value fits held);
        }

    -- and it is no longer than EACH_ROW bytes a row
    whole_short : ((j k : ℕ) → cell_at t j k < 2 ^ 64) → length (text_of (words_of found tree)) ≤ OPENING + EACH_ROW * length ds + 16
    unfolding whole
    whole_short small =
        let first = opening (found whole.place) in
        let inner = item_words found whole.forms in
        omega (
          arith,
          ap length whole.is,
          opening_short (found whole.place) (λ k. rw whole.row at (small 0 k)),
          items_short found t small whole.laid,
          closing_short code.FORM_SET,
          size_append first (inner ++ closing code.FORM_SET),
          size_append inner (closing code.FORM_SET),
        )

-- ---- of an accepted source

-- a source with its derivation
module _ (s : List ℕ) (n : ℕ) (tree : Trees) where
  abbrev rows : List (List ℕ)
  rows = finished s (drafts s tree)

  tree_text :
      Derives (source_tokens s) tree
      → ((i k : ℕ) → cell_at (laid rows n) i k < 2 ^ 64)
      → HasText (laid rows n) (length (drafts s tree)) (resolved_text tree rows) × (length (resolved_text tree rows) ≤ OPENING + EACH_ROW * length (drafts s tree) + 16)
  unfolding drafts resolved_text
  tree_text derives small =
      let held = drafts_held s n tree derives in
      let found = row_first_at rows in
      (whole (laid rows n) found (number_at s) derives.fits held, whole_short (laid rows n) found (number_at s) derives.fits held small)

-- a table of 64-bit numbers has cells of 64 bits
cells_small : (t : List ℕ) → ((i : ℕ) → get_or t i 0 < 2 ^ 64) → (n c : ℕ) → cell_at t n c < 2 ^ 64
cells_small t h n c =
    either_less n (whole_rows t)
    (λ l. either_less c column.ROW (λ m. rw (← cell_inside t n c l m) (h (n * column.ROW + c))) (λ m. rw (cell_past t n c m) (omega arith)))
    (λ l. rw (cell_outside t n c l) (omega arith))

moved : {t u x y : List ℕ} {k j : ℕ} → t ≡ u → k ≡ j → x ≡ y → HasText u j y → HasText t k x
moved a b c h = rw (a, b, c) h

pub accepted_text :
    (s : List ℕ) (n count free : ℕ) (t : List ℕ)
    → accepts count free ≡ read_answer s n → t ≡ read_table s n → ((i : ℕ) → get_or t i 0 < 2 ^ 64)
    → HasText t count (text_of_source s) × (length (text_of_source s) ≤ MOST)
accepted_text s n count free t e f small =
    let found = (accepts_passing s n).0 (ap (λ (a : Answer). a.number) (sym e)) in
    let tree = found.0 in
    let passes = found.1 in
    let g = passes_grammatical passes in
    let many : count ≡ length (drafts s tree) = ap (λ (a : Answer). a.rows) (e ∙ accepted_answer s n tree passes) in
    let table : t ≡ laid (finished s (drafts s tree)) n = f ∙ laid_rows s n tree passes in
    let cells = cells_small t small in
    let whole_text = tree_text s n tree g.derives (rw table at cells) in
    let is : text_of_source s ≡ resolved_text tree (finished s (drafts s tree)) = passes_text passes in
    let few = rows_few s tree g.derives in
    (moved table many is whole_text.0, omega (arith, ap length is, whole_text.1, few, g.short))
