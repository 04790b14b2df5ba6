-- Drafts in the cells of a table's rows, and back.
use Prim.Native.Nat.{ℕ, ◌+◌, ◌≤◌, ◌<◌}
use mathlib.Core.Path.{◌≡◌, refl, sym, ap, ◌∙◌}
use mathlib.Core.Bool.{true}
use mathlib.Core.List.{List, ◌∷◌, map}
use native.Mathlib.Omega.{arith}
use lib.ListN.{length, get_or, set, length-set}
use lib.Seq.{get_or-set_same, get_or-set_other, set-set, set_comm, set-get_or}
use Rattle.rows.specs.Columns as column
use Rattle.rows.specs.Draft.{with_mark}
use Rattle.rows.specs.Table.{row_at}
use Rattle.rows.specs.Rows.{AreRows, rows_from}
use Rattle.rows.proofs.MarkLaws.{low_with_mark, mark_with_mark}
use Rattle.answers.specs.Rows.{Draft}
use Rattle.answers.specs.Stages.{cell, with_cell}
use Rattle.answers.specs.Drafts.{encoded, decoded, drafts_from}
use Rattle.drafts.specs.Sound.{SoundRow, AllSound, no_rows, add_row}
use Rattle.drafts.specs.Fits.{FitsCells, AllFit, none_fit, add_fit}
use Rattle.drafts.proofs.DraftLaws.{unmarked, out_of_marked, cell_decoded}

-- ---- a row with three cells set

abbrev three : List ℕ → ℕ → ℕ → ℕ → List ℕ
three r a b c = set (set (set r column.FIRST a) column.SECOND b) column.FLAGS c

module _ (r : List ℕ) (a b c : ℕ) where
  -- the three cells
  three_first : column.FIRST < length r → get_or (three r a b c) column.FIRST 0 ≡ a
  three_first h =
      get_or-set_other (set (set r column.FIRST a) column.SECOND b) column.FLAGS column.FIRST c 0 (λ e. omega arith)
      ∙ get_or-set_other (set r column.FIRST a) column.SECOND column.FIRST b 0 (λ e. omega arith)
      ∙ get_or-set_same r column.FIRST a 0 h

  three_second : column.SECOND < length r → get_or (three r a b c) column.SECOND 0 ≡ b
  three_second h =
      get_or-set_other (set (set r column.FIRST a) column.SECOND b) column.FLAGS column.SECOND c 0 (λ e. omega arith)
      ∙ get_or-set_same (set r column.FIRST a) column.SECOND b 0 (rw (length-set r column.FIRST a) h)

  three_third : column.FLAGS < length r → get_or (three r a b c) column.FLAGS 0 ≡ c
  three_third h = get_or-set_same (set (set r column.FIRST a) column.SECOND b) column.FLAGS c 0 (simp length-set h)

  -- another cell set before or after
  three_set : (k v : ℕ) → unmarked k ≡ true → set (three r a b c) k v ≡ three (set r k v) a b c
  three_set k v u =
      set_comm (set (set r column.FIRST a) column.SECOND b) column.FLAGS k c v (λ e. out_of_marked k u (omega arith) (omega arith))
      ∙ ap (λ (l : List ℕ). set l column.FLAGS c)
      (set_comm (set r column.FIRST a) column.SECOND k b v (λ e. out_of_marked k u (omega arith) (omega arith))
      ∙ ap (λ (l : List ℕ). set l column.SECOND b) (set_comm r column.FIRST k a v (λ e. out_of_marked k u (omega arith) (omega arith))))

  -- the three set again
  three_again : (a' b' c' : ℕ) → three (three r a b c) a' b' c' ≡ three r a' b' c'
  three_again a' b' c' =
      let u = set r column.FIRST a in
      let v = set u column.SECOND b in
      let w = set r column.FIRST a' in
      rw (
        set_comm v column.FLAGS column.FIRST c a' (λ e. omega arith),
        set_comm u column.SECOND column.FIRST b a' (λ e. omega arith),
        set-set r column.FIRST a a',
        set_comm (set w column.SECOND b) column.FLAGS column.SECOND c b' (λ e. omega arith),
        set-set w column.SECOND b b',
        set-set (set w column.SECOND b') column.FLAGS c c',
      )

three_same : (r : List ℕ) → three r (get_or r column.FIRST 0) (get_or r column.SECOND 0) (get_or r column.FLAGS 0) ≡ r
three_same r = rw (set-get_or r column.FIRST 0, set-get_or r column.SECOND 0, set-get_or r column.FLAGS 0)

-- ---- a draft in cells

module _ {d : Draft} (v : FitsCells d) where
  -- read back, it is the same
  pub decoded_encoded : decoded (encoded d) ≡ d
  unfolding encoded decoded
  decoded_encoded =
      let r = d.row in
      let long : column.FLAGS < length r = omega (arith, v.whole) in
      let a = with_mark (cell column.FIRST d) d.own_at in
      let b = with_mark (cell column.SECOND d) d.limit_at in
      let c = with_mark (cell column.FLAGS d) d.default_at in
      rw (
        three_first r a b c (omega arith),
        three_second r a b c (omega arith),
        three_third r a b c long,
        low_with_mark (cell column.FIRST d) d.own_at v.first,
        low_with_mark (cell column.SECOND d) d.limit_at v.second,
        low_with_mark (cell column.FLAGS d) d.default_at v.flags,
        mark_with_mark (cell column.FIRST d) d.own_at v.own_mark,
        mark_with_mark (cell column.SECOND d) d.limit_at v.limit_mark,
        mark_with_mark (cell column.FLAGS d) d.default_at v.default_mark,
        three_again r a b c (cell column.FIRST d) (cell column.SECOND d) (cell column.FLAGS d),
        three_same r,
      )

  pub length_encoded : length (encoded d) ≡ column.ROW
  unfolding encoded
  length_encoded = simp length-set v.whole

  -- a cell without a mark stands as it is
  pub cell_encoded : (c : ℕ) → unmarked c ≡ true → get_or (encoded d) c 0 ≡ cell c d
  cell_encoded c u = cell_decoded (encoded d) c u ∙ ap (cell c) decoded_encoded

-- another cell set
module _ (r : List ℕ) (c v : ℕ) (u : unmarked c ≡ true) where
  beside : (k : ℕ) → column.FIRST ≤ k → k ≤ column.FLAGS → get_or (set r c v) k 0 ≡ get_or r k 0
  beside k h l = get_or-set_other r c k v 0 (λ e. out_of_marked c u (omega arith) (omega arith))

  first_beside : get_or (set r c v) column.FIRST 0 ≡ get_or r column.FIRST 0
  first_beside = beside column.FIRST (omega arith) (omega arith)

  second_beside : get_or (set r c v) column.SECOND 0 ≡ get_or r column.SECOND 0
  second_beside = beside column.SECOND (omega arith) (omega arith)

  flags_beside : get_or (set r c v) column.FLAGS 0 ≡ get_or r column.FLAGS 0
  flags_beside = beside column.FLAGS (omega arith) (omega arith)

pub set_encoded : (d : Draft) (c v : ℕ) → unmarked c ≡ true → set (encoded d) c v ≡ encoded (with_cell c v d)
unfolding encoded
set_encoded d c v u =
    rw (first_beside d.row c v u, second_beside d.row c v u, flags_beside d.row c v u) (three_set d.row _ _ _ c v u)

pub set_decoded : (r : List ℕ) (c v : ℕ) → unmarked c ≡ true → (decoded (set r c v)).row ≡ set (decoded r).row c v
unfolding decoded
set_decoded r c v u = rw (first_beside r c v u, second_beside r c v u, flags_beside r c v u) (sym (three_set r _ _ _ c v u))

-- ---- the drafts of a table that holds them

-- sound rows fit
pub sound_fits : {d : Draft} → SoundRow d → FitsCells d
sound_fits s =
    record {
      whole = s.whole;
      first = s.first;
      second = s.second;
      flags = s.flags;
      own_mark = s.own_mark;
      limit_mark = s.limit_mark;
      default_mark = s.default_mark;
    }

pub sound_fit : {ds : List Draft} → AllSound ds → AllFit ds
sound_fit no_rows = none_fit
sound_fit (add_row s r) = add_fit (sound_fits s) (sound_fit r)

pub are_encoded : {ds : List Draft} → AllFit ds → AreRows (map encoded ds)
are_encoded none_fit = AreRows.no_rows
are_encoded (add_fit f r) = AreRows.add_row (length_encoded f) (are_encoded r)

-- the rows of a table are the drafts' cells, so that its drafts are these
pub drafts_held : {ds : List Draft} → AllFit ds → (t : List ℕ) (i : ℕ) → rows_from t i (length ds) ≡ map encoded ds → drafts_from t i (length ds) ≡ ds
unfolding rows_from drafts_from
drafts_held none_fit t i e = refl
drafts_held (add_fit {d = d} {ds = ds} f r) t i e =
    let both : row_at t i ∷ rows_from t (i + 1) (length ds) ≡ encoded d ∷ map encoded ds = e in
    let this : row_at t i ≡ encoded d = cc in
    let more : rows_from t (i + 1) (length ds) ≡ map encoded ds = cc in
    rw (this, decoded_encoded f, drafts_held r t (i + 1) more)
