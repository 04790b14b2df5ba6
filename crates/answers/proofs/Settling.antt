-- What settling leaves of the drafts, and the finished rows by the numbered drafts.
-- Assumes nothing.
use mathlib.Core.Path.{◌≡◌, refl, sym, ap, ap₂, ◌∙◌}
use mathlib.Core.Logic.{◌≢◌}
use mathlib.Core.Bool.{cond}
use mathlib.Core.List.{List, [], ◌∷◌, map}
use Prim.Native.Nat.{ℕ}
use lib.ListN.{length, get_or, set, drop, length-map}
use lib.Seq.{get_or-set_other}
use Rattle.lexemes.proofs.Lists.{either}
use Rattle.numbers.specs.Numbers.{numbered}
use Rattle.rows.specs.Columns as column
use Rattle.answers.specs.Rows.{Draft}
use Rattle.answers.specs.Stages.{cell, asks, refers, finds, own_of_first, own_numbers, with_cell, with_numbers, numbered_rows, with_references, settled, finished}

-- a question with another number: no other column changes
pub other_column : (d : Draft) (v c : ℕ) → c ≢ column.OWN → cell c (with_cell column.OWN v d) ≡ cell c d
other_column d v c h = get_or-set_other d.row column.OWN c v 0 h

-- ---- what numbers and references leave: whatever neither an own number nor column A tells

module _ {X : Type 0} (f : Draft → X) where
  pub numbers_leave : ((d : Draft) (v : ℕ) → f (with_cell column.OWN v d) ≡ f d) → (ns : List ℕ) (ds : List Draft) → map f (with_numbers ns ds) ≡ map f ds
  unfolding with_numbers
  numbers_leave own ns [] = refl
  numbers_leave own ns (d ∷ ds) =
      either (asks d)
      (λ e. rw e (ap₂ ◌∷◌ (own d (get_or ns 0 0)) (numbers_leave own (drop 1 ns) ds)))
      (λ e. rw e (ap (◌∷◌ (f d)) (numbers_leave own ns ds)))

  module _ (a : (d : Draft) (v : ℕ) → f (with_cell column.A v d) ≡ f d) (s : List ℕ) where
    found_leave : (look : Draft → ℕ) (ds : List Draft) → map f (map (λ d. cond (refers s d) (with_cell column.A (look d) d) d) ds) ≡ map f ds
    found_leave look [] = refl
    found_leave look (d ∷ ds) =
        either (refers s d)
        (λ e. rw e (ap₂ ◌∷◌ (a d (look d)) (found_leave look ds)))
        (λ e. rw e (ap (◌∷◌ (f d)) (found_leave look ds)))

    pub references_leave : (ds : List Draft) → map f (with_references s ds) ≡ map f ds
    unfolding with_references
    references_leave ds = found_leave (λ d. own_of_first s (finds s ds d) ds) ds

  pub settling_leaves :
      ((d : Draft) (v : ℕ) → f (with_cell column.OWN v d) ≡ f d) → ((d : Draft) (v : ℕ) → f (with_cell column.A v d) ≡ f d)
      → (s : List ℕ) (ds : List Draft) → map f (settled s ds) ≡ map f ds
  unfolding settled numbered_rows
  settling_leaves own a s ds = references_leave a s (numbered_rows ds) ∙ numbers_leave own (numbered (own_numbers ds)) ds

module _ (s : List ℕ) (ds : List Draft) where
  -- the other columns
  pub settled_column : (c : ℕ) → c ≢ column.OWN → c ≢ column.A → map (cell c) (settled s ds) ≡ map (cell c) ds
  settled_column c own a =
      settling_leaves (cell c) (λ d v. other_column d v c own) (λ d v. get_or-set_other d.row column.A c v 0 a) s ds

  -- the marks
  pub settled_own_marks : map (λ d. d.own_at) (settled s ds) ≡ map (λ d. d.own_at) ds
  settled_own_marks = settling_leaves (λ d. d.own_at) (λ d v. refl) (λ d v. refl) s ds

  pub settled_limit_marks : map (λ d. d.limit_at) (settled s ds) ≡ map (λ d. d.limit_at) ds
  settled_limit_marks = settling_leaves (λ d. d.limit_at) (λ d v. refl) (λ d v. refl) s ds

  pub settled_default_marks : map (λ d. d.default_at) (settled s ds) ≡ map (λ d. d.default_at) ds
  settled_default_marks = settling_leaves (λ d. d.default_at) (λ d v. refl) (λ d v. refl) s ds

  pub settled_count : length (settled s ds) ≡ length ds
  settled_count = sym (length-map (settled s ds) (λ d. d.own_at)) ∙ ap length settled_own_marks ∙ length-map ds (λ d. d.own_at)

-- ---- the finished rows

-- a draft's row, a reference's with the number that `look` tells
abbrev pub found_row : List ℕ → (Draft → ℕ) → Draft → List ℕ
found_row s look d = cond (refers s d) (set d.row column.A (look d)) d.row

found_rows :
    (s : List ℕ) (look : Draft → ℕ) (ds : List Draft)
    → map (λ d. d.row) (map (λ d. cond (refers s d) (with_cell column.A (look d) d) d) ds) ≡ map (found_row s look) ds
found_rows s look [] = refl
found_rows s look (d ∷ ds) = either (refers s d) (λ e. rw (e, found_rows s look ds)) (λ e. rw (e, found_rows s look ds))

module _ (s : List ℕ) (ds : List Draft) where
  -- those of the numbered drafts
  pub finished_numbered : finished s ds ≡ map (found_row s (λ d. own_of_first s (finds s (numbered_rows ds) d) (numbered_rows ds))) (numbered_rows ds)
  unfolding finished settled with_references
  finished_numbered = found_rows s (λ d. own_of_first s (finds s (numbered_rows ds) d) (numbered_rows ds)) (numbered_rows ds)
