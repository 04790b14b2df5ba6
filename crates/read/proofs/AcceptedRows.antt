-- The rows of an accepted source, told by its answer.
-- Assumes nothing.
use Prim.Native.Nat.{ℕ, ◌/◌, ◌≤◌, ◌<◌}
use native.Mathlib.Omega.{arith}
use mathlib.Core.Path.{◌≡◌, ap, sym, ◌∙◌}
use mathlib.Core.Logic.{◌≢◌}
use mathlib.Core.List.{List, [], ◌∷◌}
use lib.ListN.{length}
use Rattle.std.specs.Prelude.{Err}
use Rattle.refusals.specs.Numbers.{number_of}
use Rattle.refusals.proofs.Bounds.{number_bounds}
use Rattle.rows.specs.Columns.{ROW}
use Rattle.rows.specs.Rows.{AreRows}
use Rattle.ll1.specs.Trees.{Trees, nonterminal, Fits, fits_nil, fits_node}
use Rattle.grammar.specs.Grammar.{rules}
use Rattle.grammar.specs.Derivation.{Derives}
use Rattle.grammar.specs.Source.{source_tokens}
use Rattle.answers.specs.Stages.{finished}
use Rattle.answers.specs.Answer.{Answer, drafts}
use Rattle.answers.specs.WholeAnswer.{Checked, derived, checked, read_answer, rows_of}
use Rattle.answers.proofs.Checks.{Decided, stopped, passed, decided}
use Rattle.answers.proofs.FoundRows.{finished_count}
use Rattle.answers.proofs.Answers.{passes_grammatical, passes_room, passes_rows}
use Rattle.answers.proofs.Demand3.{rows_whole, accepts_passing, counts_exactly}
use Rattle.replies.specs.Replies.{Reply, read_reply}
use Rattle.read.specs.declared.Refusal.{Refusal}
use Rattle.read.specs.declared.Refusal.TheVariants.{At, TooFewRows}
use Rattle.read.specs.Answers.{refusal_told}

-- the derivation that stages 1 to 5 find is one
pub derived_derives : (s : List ℕ) (tree : Trees) → checked s ≡ derived tree → Derives (source_tokens s) tree
derived_derives s tree e = by (decided s) e
  where
    by : {c : Checked} → Decided s c → c ≡ derived tree → Derives (source_tokens s) tree
    by (stopped k p h b r) g = absurd (let z : ◌≡◌ {A = ℕ} 0 1 = cc in omega arith)
    by (passed {tree = found} g w o) f = let same : found ≡ tree = cc in rw same at g.derives

-- its finished rows are rows
pub derived_rows : (s : List ℕ) (tree : Trees) → checked s ≡ derived tree → AreRows (finished s (drafts s tree))
derived_rows s tree e = rows_whole s tree (derived_derives s tree e)

-- those of a source that is accepted with a table of n numbers: whole rows, as many as it answers, and no more than there are in the table
pub record Accepts (s : List ℕ) (n : ℕ) : Type 0 where
  pub whole : AreRows (rows_of s)
  pub counted : (read_answer s n).rows ≡ length (rows_of s)
  pub room : length (rows_of s) ≤ n / ROW

pub accepted_rows : (s : List ℕ) (n : ℕ) → (read_answer s n).number ≡ 0 → Accepts s n
accepted_rows s n accepted =
    let f = (accepts_passing s n).0 accepted in
    let derives = (passes_grammatical f.1).derives in
    let rows = passes_rows f.1 in
    let many : length (rows_of s) ≡ length (drafts s f.0) = ap length rows ∙ finished_count s (drafts s f.0) in
    record {
      whole = rw rows (rows_whole s f.0 derives);
      counted = ap (λ (a : Answer). a.rows) (counts_exactly s n accepted f.0 derives) ∙ sym many;
      room = rw many (passes_room f.1);
    }

-- ---- a refusal has a number: an accepted source has a row

some_row : (s : List ℕ) {tree : Trees} → Fits rules (nonterminal 0 ∷ []) tree → 0 < length (drafts s tree)
unfolding drafts
some_row s (fits_node e r₁ fits_nil) = omega arith

module _ (s : List ℕ) (n : ℕ) {r : Reply} (e : r ≡ read_reply s n) where
  -- an answer without rows refuses
  pub no_rows_refused : r.rows ≡ 0 → (read_answer s n).number ≢ 0
  no_rows_refused none z =
      let found = (accepts_passing s n).0 z in
      let derives = (passes_grammatical found.1).derives in
      let many : (read_answer s n).rows ≡ length (drafts s found.0) = ap (λ (a : Answer). a.rows) (counts_exactly s n z found.0 derives) in
      let rows : (read_answer s n).rows ≡ 0 = sym (ap (λ (x : Reply). x.rows) e) ∙ none in
      omega (arith, some_row s derives.fits)

  -- so does 6
  pub short_refused : r.number ≡ 6 → (read_answer s n).number ≢ 0
  short_refused six z = let never : ◌≡◌ {A = ℕ} 6 0 = sym six ∙ ap (λ (x : Reply). x.number) e ∙ z in omega arith

-- an answer that refuses

pub refusal_refused : (s : List ℕ) (n : ℕ) (d : Refusal) → refusal_told d ≡ read_reply s n → (read_answer s n).number ≢ 0
refusal_refused s n (At reason place line column) e z =
    let number : number_of reason ≡ 0 = ap (λ (r : Reply). r.number) e ∙ z in
    omega (arith, number_bounds reason)
refusal_refused s n (TooFewRows need) e z =
    let never : ◌≡◌ {A = ℕ} 6 0 = ap (λ (r : Reply). r.number) e ∙ z in
    omega arith
