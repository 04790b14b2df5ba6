-- The loops over rows that look for a fault, or for any row that passes a test.
use Prim.Native.Nat.{ℕ, zero, suc, ◌+◌, ◌-◌, ◌≤◌, ◌<◌}
use mathlib.Core.Path.{◌≡◌, refl, sym, ap, subst, ◌∙◌}
use mathlib.Core.Bool.{Bool, true, false, ◌||◌, or-true}
use mathlib.Core.List.{List, [], ◌∷◌}
use Rattle.std.proofs.Common.{add-one}
use native.Mathlib.Omega.{arith}
use borrow.Author.Tests.{eq-eqb, ne_eqb}
use denote.Param.Members.{Mut, Called}
use native.Mathlib.Decide.{ℕ_discrete}
use Rattle.std.specs.Bool.{MatchBool}
use Rattle.std.specs.Prelude.{Option, Some, None, IsTrue, IfSome, IsSomeAnd, MatchOption}
use Rattle.std.specs.Option.{option_map}
use Rattle.std.specs.Iterator.Runs.{SomeRun, AllItemsGive, AnyItemGives, IsFirstToGive, CallKeepsClosure}
use Rattle.std.specs.declared.ops.Range.{Range}
use Rattle.std.proofs.iter.Yields.{nat_range_steps}
use Rattle.std.proofs.iter.runs.Sources.{range_runs}
use Rattle.std.proofs.lemmas.Option.{none-some, same_Some}
use Rattle.rows.specs.Marks.{marked}
use Rattle.answers.specs.Rows.{Draft}
use Rattle.answers.specs.Stages.{any}
use Rattle.answers.specs.Drafts.{drafts_from}
use Rattle.drafts.specs.Faults.{draft_at, first_fault}
use Rattle.drafts.proofs.RowTests.{any_none, any_cons}
use Rattle.drafts.proofs.DraftLaws.{drafts_start, drafts_next, drafts_end}

-- ---- the first fault: row i and those after it have the same first fault as all n rows

module _ (fault : Draft → List Draft → ℕ) where
  pub fault_none : first_fault fault [] ≡ 0
  unfolding first_fault
  fault_none = refl

  module _ (d : Draft) (ds : List Draft) where
    pub fault_here : (fault d ds ≡ 0 → ⊥) → first_fault fault (d ∷ ds) ≡ fault d ds
    unfolding first_fault
    fault_here h = rw (ne_eqb (fault d ds) 0 h)

    pub fault_later : fault d ds ≡ 0 → first_fault fault (d ∷ ds) ≡ first_fault fault ds
    unfolding first_fault
    fault_later e = rw (eq-eqb (fault d ds) 0 e)

pub record Searching (fault : Draft → List Draft → ℕ) (t : List ℕ) (n i : ℕ) : Type 0 where
  pub inside : i ≤ n
  pub same : first_fault fault (drafts_from t 0 n) ≡ first_fault fault (drafts_from t i (n - i))

pub searching_start : (fault : Draft → List Draft → ℕ) (t : List ℕ) (n : ℕ) → Searching fault t n 0
searching_start fault t n = record { inside = omega arith; same = ap (first_fault fault) (drafts_start t n) }

module _ {fault : Draft → List Draft → ℕ} {t : List ℕ} {n i : ℕ} (v : Searching fault t n i) where
  -- the rows after row i
  abbrev pub after : List Draft
  after = drafts_from t (i + 1) (n - (i + 1))

  pub searching_found : i < n → {m : ℕ} → m ≡ fault (draft_at t i) after → (m ≡ 0 → ⊥) → m ≡ first_fault fault (drafts_from t 0 n)
  searching_found h e z =
      e ∙ sym (v.same ∙ ap (first_fault fault) (drafts_next t i n h) ∙ fault_here fault (draft_at t i) after (λ f. z (e ∙ f)))

  pub searching_next : i < n → {m : ℕ} → m ≡ fault (draft_at t i) after → m ≡ 0 → Searching fault t n (i + 1)
  searching_next h e z =
      record {
        inside = omega arith;
        same = v.same ∙ ap (first_fault fault) (drafts_next t i n h) ∙ fault_later fault (draft_at t i) after (sym e ∙ z);
      }

  pub searching_end : n ≤ i → 0 ≡ first_fault fault (drafts_from t 0 n)
  searching_end h = sym (v.same ∙ ap (first_fault fault) (drafts_end t i n h) ∙ fault_none fault)

-- ---- what `(0..n).find_map(..)` finds: the first of the closure's answers, where no call changes the closure

-- what holds of the row that a run comes to at a place
row_given : (o : Option ℕ) {k : ℕ} (P : ℕ → Type 0) → option_map (λ y. y) o ≡ Some k → IfSome o P → P k
row_given None P e h = absurd (none-some _ e)
row_given (Some x) P e h = subst P (same_Some _ _ e) h

row_found : (o : Option ℕ) {k : ℕ} (P : ℕ → Type 0) → option_map (λ y. y) o ≡ Some k → IsSomeAnd o P → P k
row_found None P e h = absurd h
row_found (Some x) P e h = subst P (same_Some _ _ e) h

module _ {F : Type 0} (g : Mut F (ℕ × Unit {0}) (Option ℕ)) (f : F) where
  abbrev pub Answers : ℕ → Option ℕ → Type 0
  Answers row m = Called g f (row, tt) m f

  abbrev pub FirstAnswer : ℕ → Option ℕ → Type 0
  FirstAnswer n r = MatchOption r ((row : ℕ) → row < n → Answers row None) (λ m. (i : ℕ) × (i < n) × Answers i (Some m) × ((row : ℕ) → row < i → Answers row None))

module _ {F : Type 0} {g : Mut F (ℕ × Unit {0}) (Option ℕ)} {f : F} (still : CallKeepsClosure g f) (n : ℕ) where
  pub first_answer : (r : Option ℕ)
      → SomeRun nat_range_steps (record { start = 0; end = n })
      (λ p. MatchOption r (IsTrue p.whole × AllItemsGive p g f None) (λ y. (i : ℕ) × (i < p.len) × (p.len ≡ i + 1) × IsFirstToGive p g f (Some y) None i))
      → FirstAnswer g f n r
  first_answer None (p, e, h) =
      let counts = range_runs p p.seen in
      let from : p.from.start ≡ 0 = ap (λ (s : Range ℕ). s.start) e in
      let end : p.from.end ≡ n = ap (λ (s : Range ℕ). s.end) e in
      let at : (k : ℕ) → k < n → option_map (λ y. y) (p.at k) ≡ Some k = λ k l. counts.3 k (omega (arith, counts.1 h.0)) ∙ ap Some (omega arith) in
      λ k l. row_given _ (λ x. Answers g f x None) (at k l) (h.1 still k)
  first_answer (Some m) (p, e, (i, inside, long, h)) =
      let counts = range_runs p p.seen in
      let from : p.from.start ≡ 0 = ap (λ (s : Range ℕ). s.start) e in
      let end : p.from.end ≡ n = ap (λ (s : Range ℕ). s.end) e in
      let found = h still in
      let at : (k : ℕ) → k ≤ i → option_map (λ y. y) (p.at k) ≡ Some k = λ k l. counts.3 k (omega arith) ∙ ap Some (omega arith) in (
        i,
        omega (arith, counts.0),
        row_found _ (λ x. Answers g f x (Some m)) (at i (omega arith)) found.0,
        λ k l. row_found _ (λ x. Answers g f x None) (at k (omega arith)) (found.1 k l),
      )

-- where the closure answers the fault of each row, that is the first fault
module _ {F : Type 0} {g : Mut F (ℕ × Unit {0}) (Option ℕ)} {f : F} (fault : Draft → List Draft → ℕ) (t : List ℕ) (n : ℕ)
    (told : (row : ℕ) (m : Option ℕ) → row < n → Answers g f row m → marked m ≡ fault (draft_at t row) (drafts_from t (row + 1) (n - (row + 1)))) where
  -- the rows before row i have none
  passed : (i : ℕ) → i ≤ n → ((row : ℕ) → row < i → Answers g f row None) → Searching fault t n i
  passed zero l h = searching_start fault t n
  passed (suc i) l h =
      let before = passed i (omega arith) (λ k q. h k (omega arith)) in
      rw (← add-one) (searching_next before (omega arith) (told i None (omega arith) (h i (omega arith))) refl)

  pub first_found : (r : Option ℕ) → FirstAnswer g f n r → marked r ≡ first_fault fault (drafts_from t 0 n)
  first_found None all = searching_end (passed n (omega arith) all) (omega arith)
  first_found (Some m) (i, inside, here, before) = searching_found (passed i (omega arith) before) inside (told i (Some m) inside here) (λ z. omega arith)

-- ---- any row that passes a test: some row from f to below n does exactly where one from i on does

pub record Looking (p : Draft → Bool) (t : List ℕ) (f n i : ℕ) : Type 0 where
  pub same : any p (drafts_from t f (n - f)) ≡ any p (drafts_from t i (n - i))

pub looking_start : (p : Draft → Bool) (t : List ℕ) (f n : ℕ) → Looking p t f n f
looking_start p t f n = record { same = refl }

module _ {p : Draft → Bool} {t : List ℕ} {f n i : ℕ} (v : Looking p t f n i) where
  at_row : i < n → any p (drafts_from t f (n - f)) ≡ (p (draft_at t i) || any p (drafts_from t (i + 1) (n - (i + 1))))
  at_row h = v.same ∙ ap (any p) (drafts_next t i n h) ∙ any_cons p (draft_at t i) (drafts_from t (i + 1) (n - (i + 1)))

  pub looking_found : i < n → p (draft_at t i) ≡ true → any p (drafts_from t f (n - f)) ≡ true
  looking_found h e = at_row h ∙ rw e

  pub looking_next : i < n → p (draft_at t i) ≡ false → Looking p t f n (i + 1)
  looking_next h e = record { same = at_row h ∙ rw e }

  pub looking_end : n ≤ i → any p (drafts_from t f (n - f)) ≡ false
  looking_end h = v.same ∙ ap (any p) (drafts_end t i n h) ∙ any_none p

-- what `(f..n).any(..)` answers, where the closure tells the test of each row
module _ (p : Draft → Bool) (t : List ℕ) where
  any_there : (m i row : ℕ) → i ≤ row → row < i + m → p (draft_at t row) ≡ true → any p (drafts_from t i m) ≡ true
  unfolding any drafts_from
  any_there zero i row l h e = absurd (omega arith)
  any_there (suc m) i row l h e = go (ℕ_discrete i row) (any_there m (i + 1) row)
    where
      go : Dec (i ≡ row) → (i + 1 ≤ row → row < i + 1 + m → p (draft_at t row) ≡ true → any p (drafts_from t (i + 1) m) ≡ true) → (p (draft_at t i) || any p (drafts_from t (i + 1) m)) ≡ true
      go (yes q) f = rw (q, e)
      go (no q) f = rw (f (omega (arith, q)) (omega arith) e) (or-true (p (draft_at t i)))

  any_nowhere : (m i : ℕ) → ((row : ℕ) → i ≤ row → row < i + m → p (draft_at t row) ≡ false) → any p (drafts_from t i m) ≡ false
  unfolding any drafts_from
  any_nowhere zero i none = refl
  any_nowhere (suc m) i none = rw (none i (omega arith) (omega arith)) (any_nowhere m (i + 1) (λ row l h. none row (omega arith) (omega arith)))

  module _ {F : Type 0} {g : Mut F (ℕ × Unit {0}) Bool} {f : F} (first n : ℕ) (still : CallKeepsClosure g f)
      (told : (row : ℕ) (b : Bool) → row < n → Called g f (row, tt) b f → b ≡ p (draft_at t row)) where
    pub any_found : (r : Bool)
        → SomeRun nat_range_steps (record { start = first; end = n })
        (λ u. MatchBool r (AnyItemGives u g f true) (IsTrue u.whole × AllItemsGive u g f false))
        → r ≡ any p (drafts_from t first (n - first))
    any_found true (u, e, some) =
        let counts = range_runs u u.seen in
        let from : u.from.start ≡ first = ap (λ (s : Range ℕ). s.start) e in
        let end : u.from.end ≡ n = ap (λ (s : Range ℕ). s.end) e in
        let (k, inside, here) = some still in
        let at : option_map (λ y. y) (u.at k) ≡ Some (first + k) = counts.3 k inside ∙ ap Some (omega arith) in
        let few : first + k < n = omega (arith, counts.0) in
        sym (any_there (n - first) first (first + k) (omega arith) (omega arith) (sym (told (first + k) true few (row_found _ (λ x. Called g f (x, tt) true f) at here))))
    any_found false (u, e, (whole, all)) =
        let counts = range_runs u u.seen in
        let from : u.from.start ≡ first = ap (λ (s : Range ℕ). s.start) e in
        let end : u.from.end ≡ n = ap (λ (s : Range ℕ). s.end) e in
        let at : (row : ℕ) → first ≤ row → row < n → option_map (λ y. y) (u.at (row - first)) ≡ Some row =
        λ row l h. counts.3 (row - first) (omega (arith, counts.1 whole)) ∙ ap Some (omega arith) in
        sym (any_nowhere (n - first) first (λ row l h. sym (told row false (omega arith) (row_given _ (λ x. Called g f (x, tt) false f) (at row l (omega arith)) (all still (row - first))))))
