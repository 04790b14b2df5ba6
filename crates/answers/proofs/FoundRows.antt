-- Rows at distinct places are found by them, and finished rows stand where their drafts do.
-- Assumes nothing.
use mathlib.Core.Path.{◌≡◌, refl, ap, ap₂, sym, ◌∙◌}
use mathlib.Core.List.{List, [], ◌∷◌, ◌++◌, map}
use mathlib.Core.Logic.{◌≢◌}
use Prim.Native.Nat.{ℕ, zero, suc, ◌+◌, ◌<◌}
use native.Mathlib.Nat.{add-zero}
use native.Mathlib.Omega.{arith}
use lib.ListN.{length, get_or, take, drop, length-map}
use lib.Seq.{take_at, drop_at}
use borrow.Author.Tests.{ne_eqb}
use Rattle.rows.specs.Columns as column
use Rattle.ll1.proofs.Basics.{clash, same}
use Rattle.answers.specs.Expression.{Operator, Expression, negation, binary}
use Rattle.answers.specs.Rows.{Draft}
use Rattle.answers.specs.Stages.{cell, settled, finished}
use Rattle.answers.specs.Text.{row_first_at}
use Rattle.answers.specs.Reached.{FoundFrom, found_none, found_more}
use Rattle.answers.specs.RowPlaces.{row_places, expression_places}
use Rattle.answers.proofs.Settling.{settled_column}
use Rattle.grammar.specs.Places.{Absent, absent_none, absent_more, Distinct, distinct_none, distinct_more}

-- ---- lists

module _ {A B : Type 0} (f : A → B) where
  pub map_append : (k l : List A) → map f (k ++ l) ≡ map f k ++ map f l
  map_append [] l = refl
  map_append (x ∷ k) l = ap (◌∷◌ (f x)) (map_append k l)

  -- of a list's image, one by one, and a part
  pub map_at : (l : List A) (i : ℕ) (x : A) (y : B) → i < length l → get_or (map f l) i y ≡ f (get_or l i x)
  map_at [] i x y h = absurd (omega arith)
  map_at (a ∷ l) zero x y h = refl
  map_at (a ∷ l) (suc i) x y h = map_at l i x y (omega arith)

  pub map_part : (before part after : List A) → map f part ≡ take (length part) (drop (length before) (map f (before ++ (part ++ after))))
  map_part before part after =
      rw (map_append before (part ++ after), map_append part after, drop_at (map f before) (map f part ++ map f after) (length before) (length-map before f))
      (sym (take_at (map f part) (map f after) (length part) (length-map part f)))

pub map_map : {A B C : Type 0} (f : B → C) (g : A → B) (l : List A) → map (λ x. f (g x)) l ≡ map f (map g l)
map_map f g [] = refl
map_map f g (x ∷ l) = ap (◌∷◌ (f (g x))) (map_map f g l)

-- a part of a list, from i on: its first element, and the rest
pub part_first : {A : Type 0} (x : A) (xs l : List A) (i n : ℕ) (d : A) → x ∷ xs ≡ take (suc n) (drop i l) → (x ≡ get_or l i d) × (xs ≡ take n (drop (suc i) l))
part_first x xs [] zero n d e = clash cc
part_first x xs [] (suc i) n d e = clash cc
part_first x xs (a ∷ l) zero n d e = (cc, cc)
part_first x xs (a ∷ l) (suc i) n d e = part_first x xs l i n d e

-- ---- rows found by their places

abbrev place : List ℕ → ℕ
place r = get_or r column.PLACE 0

module _ (r : List ℕ) (rs : List (List ℕ)) where
  at_first : row_first_at (r ∷ rs) (place r) ≡ r
  unfolding row_first_at
  at_first = rw (same (place r))

  at_later : (p : ℕ) → p ≢ place r → row_first_at (r ∷ rs) p ≡ row_first_at rs p
  unfolding row_first_at
  at_later p h = rw (ne_eqb (place r) p (λ e. h (sym e)))

  all_later : {ps : List ℕ} → Absent (place r) ps → map (row_first_at (r ∷ rs)) ps ≡ map (row_first_at rs) ps
  all_later absent_none = refl
  all_later (absent_more {q = q} h a) = ap₂ ◌∷◌ (at_later q h) (all_later a)

found_rows : (rs : List (List ℕ)) → Distinct (map place rs) → map (row_first_at rs) (map place rs) ≡ rs
found_rows [] distinct_none = refl
found_rows (r ∷ rs) (distinct_more a d) = ap₂ ◌∷◌ (at_first r rs) (all_later r rs a ∙ found_rows rs d)

-- ---- finished rows

module _ (s : List ℕ) (ds : List Draft) where
  -- a column of them, where neither a number nor a reference stands, is that of their drafts
  pub finished_column : (c : ℕ) → c ≢ column.OWN → c ≢ column.A → map (λ r. get_or r c 0) (finished s ds) ≡ map (cell c) ds
  unfolding finished
  finished_column c own a = sym (map_map (λ r. get_or r c 0) (λ d. d.row) (settled s ds)) ∙ settled_column s ds c own a

  -- the places of the finished rows are those of their drafts
  pub finished_places : map (λ r. get_or r column.PLACE 0) (finished s ds) ≡ row_places ds
  finished_places = finished_column column.PLACE (λ q. omega arith) (λ q. omega arith)

  pub finished_count : length (finished s ds) ≡ length ds
  finished_count = sym (length-map (finished s ds) place) ∙ ap length finished_places ∙ length-map ds (cell column.PLACE)

  -- and at distinct places each is found
  pub finished_found : Distinct (row_places ds) → map (row_first_at (finished s ds)) (row_places ds) ≡ finished s ds
  finished_found distinct = rw (← finished_places) (found_rows (finished s ds) (rw finished_places distinct))

-- ---- runs of found rows

module _ {rows : List (List ℕ)} where
  pub found_part : {k : ℕ} (ps : List ℕ) → map (row_first_at rows) ps ≡ take (length ps) (drop k rows) → FoundFrom rows k ps
  found_part [] e = found_none
  found_part {k} (p ∷ ps) e =
      let t = part_first (row_first_at rows p) (map (row_first_at rows) ps) rows k (length ps) [] e in
      found_more t.0 (found_part ps t.1)

  pub found_first : {k p : ℕ} {ps : List ℕ} → FoundFrom rows k (p ∷ ps) → row_first_at rows p ≡ get_or rows k []
  found_first (found_more e f) = e

  pub found_rest : {k p : ℕ} {ps : List ℕ} → FoundFrom rows k (p ∷ ps) → FoundFrom rows (suc k) ps
  found_rest (found_more e f) = f

  -- of two runs the first, and the second after it
  pub found_parts : {k : ℕ} (ps qs : List ℕ) → FoundFrom rows k (ps ++ qs) → FoundFrom rows k ps × FoundFrom rows (k + length ps) qs
  found_parts [] qs f = (found_none, rw add-zero f)
  found_parts {k} (p ∷ ps) qs (found_more e f) =
      let t = found_parts ps qs f in
      let next : k + length (p ∷ ps) ≡ suc k + length ps = omega arith in
      (found_more e t.0, rw next t.1)

  -- ---- the rows of an expression

  pub found_negation :
      {k : ℕ} (p : ℕ) (e : Expression)
      → FoundFrom rows k (expression_places (negation p e))
      → FoundFrom rows k (expression_places e) × (row_first_at rows p ≡ get_or rows (k + length (expression_places e)) [])
  found_negation p e f = let t = found_parts (expression_places e) (p ∷ []) f in (t.0, found_first t.1)

  pub found_binary :
      {k : ℕ} (o : Operator) (p : ℕ) (l r : Expression)
      → FoundFrom rows k (expression_places (binary o p l r))
      → FoundFrom rows k (expression_places l)
      × FoundFrom rows (k + length (expression_places l)) (expression_places r)
      × (row_first_at rows p ≡ get_or rows (k + length (expression_places l) + length (expression_places r)) [])
  found_binary o p l r f =
      let t = found_parts (expression_places l) (expression_places r ++ p ∷ []) f in
      let u = found_parts (expression_places r) (p ∷ []) t.1 in
      (t.0, u.0, found_first u.1)
