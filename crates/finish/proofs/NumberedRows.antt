-- Drafts and their cells with the questions' numbers: what numbering changes, and what it leaves.
use Prim.Native.Nat.{ℕ, suc, ◌+◌}
use mathlib.Core.Path.{◌≡◌, refl, sym, ap, ◌∙◌}
use mathlib.Core.Bool.{Bool, true, false, cond, ◌||◌}
use mathlib.Core.List.{List, [], ◌∷◌, map}
use native.Mathlib.Omega.{arith}
use borrow.Author.Tests.{eqb-true, eqb-false}
use lib.Dec.{eqb, ltb}
use lib.ListN.{get_or, set, drop, length-set}
use lib.Seq.{get_or-drop, set-get_or}
use Rattle.rows.specs.Codes.{is_question}
use Rattle.rows.specs.Columns as column
use Rattle.answers.specs.Rows.{Draft}
use Rattle.answers.specs.Stages.{cell, asks, writes, any, own_numbers, with_cell, with_numbers}
use Rattle.answers.specs.Drafts.{encoded}
use Rattle.answers.proofs.Settling.{other_column}
use Rattle.drafts.specs.Fits.{FitsCells, AllFit, none_fit, add_fit}
use Rattle.drafts.specs.Sound.{SoundRow, AllSound, no_rows, add_row}
use Rattle.names.specs.Names.{declares_mark, first_row}
use Rattle.stages.proofs.RepeatFaults.{bears}
use Rattle.drafts.proofs.CodingLaws.{cell_encoded, set_encoded}
use Rattle.finish.specs.Finish.{is_question_row, owns_in, with_owns}

-- ---- the questions' numbers, of the cells and of the drafts

module _ {d : Draft} (f : FitsCells d) where
  pub question_encoded : is_question_row (encoded d) ≡ asks d
  question_encoded = ap is_question (cell_encoded f column.CODE refl)

pub owns_encoded : {ds : List Draft} → AllFit ds → owns_in (map encoded ds) ≡ own_numbers ds
unfolding owns_in own_numbers
owns_encoded none_fit = refl
owns_encoded (add_fit {d = d} {ds = ds} f r) = rw (question_encoded f, cell_encoded f column.OWN refl, owns_encoded r)

pub with_encoded : {ds : List Draft} → AllFit ds → (ns : List ℕ) → with_owns ns (map encoded ds) ≡ map encoded (with_numbers ns ds)
unfolding with_owns with_numbers
with_encoded none_fit ns = refl
with_encoded (add_fit {d = d} {ds = ds} f r) ns = rw (question_encoded f) (go (asks d) (with_encoded r ns) (with_encoded r (drop 1 ns)))
  where
    go : (b : Bool) → with_owns ns (map encoded ds) ≡ map encoded (with_numbers ns ds) → with_owns (drop 1 ns) (map encoded ds) ≡ map encoded (with_numbers (drop 1 ns) ds)
        → cond b (set (encoded d) column.OWN (get_or ns 0 0) ∷ with_owns (drop 1 ns) (map encoded ds)) (encoded d ∷ with_owns ns (map encoded ds))
        ≡ map encoded (cond b (with_cell column.OWN (get_or ns 0 0) d ∷ with_numbers (drop 1 ns) ds) (d ∷ with_numbers ns ds))
    go true x y = rw (set_encoded d column.OWN (get_or ns 0 0) refl, y)
    go false x y = rw x

-- ---- a question with another number

module _ (d : Draft) (v : ℕ) where
  pub fits_with : FitsCells d → FitsCells (with_cell column.OWN v d)
  fits_with f =
      record {
        whole = length-set d.row column.OWN v ∙ f.whole;
        first = rw (other_column d v column.FIRST (λ e. omega arith)) f.first;
        second = rw (other_column d v column.SECOND (λ e. omega arith)) f.second;
        flags = rw (other_column d v column.FLAGS (λ e. omega arith)) f.flags;
        own_mark = f.own_mark;
        limit_mark = f.limit_mark;
        default_mark = f.default_mark;
      }

  pub declares_with : (s : List ℕ) (m : ℕ) (rule : Bool) → declares_mark s m rule (with_cell column.OWN v d) ≡ declares_mark s m rule d
  declares_with s m true = rw (other_column d v column.CODE (λ e. omega arith), other_column d v column.NAME (λ e. omega arith))
  declares_with s m false = rw (other_column d v column.CODE (λ e. omega arith), other_column d v column.NAME (λ e. omega arith))

pub fit_with : {ds : List Draft} → AllFit ds → (ns : List ℕ) → AllFit (with_numbers ns ds)
unfolding with_numbers
fit_with none_fit ns = none_fit
fit_with (add_fit {d = d} {ds = ds} f r) ns = go (asks d) (fit_with r ns) (fit_with r (drop 1 ns))
  where
    go : (b : Bool) → AllFit (with_numbers ns ds) → AllFit (with_numbers (drop 1 ns) ds)
        → AllFit (cond b (with_cell column.OWN (get_or ns 0 0) d ∷ with_numbers (drop 1 ns) ds) (d ∷ with_numbers ns ds))
    go true x y = add_fit (fits_with d (get_or ns 0 0) f) y
    go false x y = add_fit f x

-- rows are declared where they were
pub first_with : (p : Draft → Bool) → ((d : Draft) (v : ℕ) → p (with_cell column.OWN v d) ≡ p d) → (ds : List Draft) (ns : List ℕ) (i : ℕ)
    → first_row p i (with_numbers ns ds) ≡ first_row p i ds
unfolding with_numbers first_row
first_with p h [] ns i = refl
first_with p h (d ∷ ds) ns i = go (asks d) (first_with p h ds ns (i + 1)) (first_with p h ds (drop 1 ns) (i + 1))
  where
    go : (b : Bool) → first_row p (i + 1) (with_numbers ns ds) ≡ first_row p (i + 1) ds → first_row p (i + 1) (with_numbers (drop 1 ns) ds) ≡ first_row p (i + 1) ds
        → first_row p i (cond b (with_cell column.OWN (get_or ns 0 0) d ∷ with_numbers (drop 1 ns) ds) (d ∷ with_numbers ns ds)) ≡ cond (p d) (i + 1) (first_row p (i + 1) ds)
    go true x y = rw (h d (get_or ns 0 0), y)
    go false x y = rw x

-- the written numbers stand
abbrev pub Stands : List ℕ → List ℕ → Type 0
Stands ns own = (j : ℕ) → (get_or own j 0 ≡ 0 → ⊥) → get_or ns j 0 ≡ get_or own j 0

bears_with : {d : Draft} → SoundRow d → asks d ≡ true → (v : ℕ) → ((cell column.OWN d ≡ 0 → ⊥) → v ≡ cell column.OWN d) → (k : ℕ)
    → bears writes k (with_cell column.OWN v d) ≡ bears writes k d
bears_with {d} s q v h k = go (eqb (cell column.OWN d) 0) refl
  where
    go : (b : Bool) → eqb (cell column.OWN d) 0 ≡ b → bears writes k (with_cell column.OWN v d) ≡ bears writes k d
    go true e =
        let unwritten : ltb 0 d.own_at ≡ false = sym (s.question_mark q) ∙ ap (ltb 0) (eqb-true (cell column.OWN d) 0 e) in
        rw (other_column d v column.CODE (λ f. omega arith), q, unwritten)
    go false e = rw (h (eqb-false (cell column.OWN d) 0 e), set-get_or d.row column.OWN 0)

pub writes_with : {ds : List Draft} → AllSound ds → (ns : List ℕ) → Stands ns (own_numbers ds) → (k : ℕ) → any (bears writes k) (with_numbers ns ds) ≡ any (bears writes k) ds
unfolding with_numbers own_numbers any
writes_with no_rows ns h k = refl
writes_with (add_row {d = d} {ds = ds} s r) ns h k = go (asks d) refl h (writes_with r ns) (writes_with r (drop 1 ns))
  where
    go : (b : Bool) → asks d ≡ b → Stands ns (cond b (cell column.OWN d ∷ own_numbers ds) (own_numbers ds))
        → (Stands ns (own_numbers ds) → (k : ℕ) → any (bears writes k) (with_numbers ns ds) ≡ any (bears writes k) ds)
        → (Stands (drop 1 ns) (own_numbers ds) → (k : ℕ) → any (bears writes k) (with_numbers (drop 1 ns) ds) ≡ any (bears writes k) ds)
        → any (bears writes k) (cond b (with_cell column.OWN (get_or ns 0 0) d ∷ with_numbers (drop 1 ns) ds) (d ∷ with_numbers ns ds)) ≡ (bears writes k d || any (bears writes k) ds)
    go true q i x y = rw (bears_with s q (get_or ns 0 0) (i 0) k, y (λ j z. get_or-drop 1 ns j 0 ∙ (let e : 1 + j ≡ suc j = omega arith in rw e (i (suc j) z))) k)
    go false q i x y = rw (x i k)
