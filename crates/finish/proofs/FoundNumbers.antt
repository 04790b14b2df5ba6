-- The numbers that references find in the cells are those that grammar finds among the numbered drafts.
use Prim.Native.Nat.{ℕ, ◌+◌, ◌-◌, ◌<◌}
use mathlib.Core.Path.{◌≡◌, refl, sym, ◌∙◌}
use mathlib.Core.Bool.{Bool, true, false, cond, ◌&&◌, ◌||◌, true≢false}
use mathlib.Core.List.{List, [], ◌∷◌, map}
use native.Mathlib.Omega.{arith}
use borrow.Author.Tests.{ne_eqb, eqb-true, eqb-false, lt-ltb}
use lib.Dec.{eqb}
use lib.ListN.{length, set}
use Rattle.rows.specs.Codes as code
use Rattle.rows.specs.Columns as column
use Rattle.rows.specs.Table.{row_at, cell_at}
use Rattle.rows.specs.Rows.{rows_from}
use Rattle.numbers.proofs.Ranges.{and_yes}
use Rattle.answers.specs.Rows.{Draft}
use Rattle.answers.specs.Stages.{cell, is, writes, any, place_of, with_cell, rule_named, form_round, finds, refers, own_of_first}
use Rattle.answers.specs.Drafts.{encoded}
use Rattle.answers.proofs.RuleNames.{Once, own_once}
use Rattle.drafts.specs.Fits.{FitsCells, AllFit, none_fit, add_fit}
use Rattle.names.specs.Names.{find_in, declares_mark, first_row}
use Rattle.drafts.proofs.RowTests.{any_same}
use Rattle.drafts.proofs.CodingLaws.{cell_encoded, set_encoded, decoded_encoded}
use Rattle.stages.proofs.RepeatFaults.{bears}
use Rattle.finish.specs.Finish.{number_found, resolved}

-- ---- the own number of the first row that passes a test

-- all rows that pass it have the same
own_same : (s : List ℕ) (p : Draft → Bool) (k : ℕ) → ((e : Draft) → p e ≡ true → cell column.OWN e ≡ k) → (ds : List Draft) → any p ds ≡ true → own_of_first s p ds ≡ k
unfolding any own_of_first
own_same s p k h [] y = absurd (true≢false (sym y))
own_same s p k h (d ∷ ds) y = go (p d) refl (own_same s p k h ds) y
  where
    go : (b : Bool) → p d ≡ b → (any p ds ≡ true → own_of_first s p ds ≡ k) → (b || any p ds) ≡ true → cond b (cell column.OWN d) (own_of_first s p ds) ≡ k
    go true e f z = h d e
    go false e f z = f z

-- a table's own numbers from row i on are those of the drafts
abbrev pub Owns : List ℕ → ℕ → List Draft → Type 0
Owns t i [] = Unit {0}
Owns t i (d ∷ ds) = (cell_at t i column.OWN ≡ cell column.OWN d) × Owns t (i + 1) ds

pub owns_held : {ds : List Draft} → AllFit ds → (t : List ℕ) (i : ℕ) → rows_from t i (length ds) ≡ map encoded ds → Owns t i ds
unfolding rows_from
owns_held none_fit t i e = tt
owns_held (add_fit {d = d} {ds = ds} f r) t i e =
    let both : row_at t i ∷ rows_from t (i + 1) (length ds) ≡ encoded d ∷ map encoded ds = e in
    let this : row_at t i ≡ encoded d = cc in
    let more : rows_from t (i + 1) (length ds) ≡ map encoded ds = cc in
    (rw this (cell_encoded f column.OWN refl), owns_held r t (i + 1) more)

-- the own number in the first row
own_at_lem : (s t : List ℕ) (p : Draft → Bool) (ds : List Draft) (i : ℕ) → Owns t i ds
    → cond (eqb (first_row p i ds) 0) 0 (cell_at t (first_row p i ds - 1) column.OWN) ≡ own_of_first s p ds
unfolding first_row own_of_first
own_at_lem s t p [] i o = refl
own_at_lem s t p (d ∷ ds) i o = go (p d) (own_at_lem s t p ds (i + 1) o.1)
  where
    go : (b : Bool) → cond (eqb (first_row p (i + 1) ds) 0) 0 (cell_at t (first_row p (i + 1) ds - 1) column.OWN) ≡ own_of_first s p ds
        → cond (eqb (cond b (i + 1) (first_row p (i + 1) ds)) 0) 0 (cell_at t (cond b (i + 1) (first_row p (i + 1) ds) - 1) column.OWN) ≡ cond b (cell column.OWN d) (own_of_first s p ds)
    go true x = let e : i + 1 - 1 ≡ i = omega arith in rw (ne_eqb (i + 1) 0 (λ f. omega arith), e) o.0
    go false x = x

own_alike : (s : List ℕ) (p q : Draft → Bool) → ((e : Draft) → p e ≡ q e) → (ds : List Draft) → own_of_first s p ds ≡ own_of_first s q ds
unfolding own_of_first
own_alike s p q h [] = refl
own_alike s p q h (d ∷ ds) = rw (h d, own_alike s p q h ds)

-- ---- a reference among the numbered drafts ns: it names something, a number that it names is written, and a rule is found whose name no other rule has

pub record Refers (s : List ℕ) (ns : List Draft) (d : Draft) : Type 0 where
  pub fits : FitsCells d
  pub rule_name : is code.RULE_REF d ≡ true → cell column.A d ≡ 0
  pub named : refers s d ≡ true → 0 < d.own_at
  pub numbered : refers s d ≡ true → (cell column.A d ≡ 0 → ⊥) → any (bears writes (cell column.A d)) ns ≡ true
  pub once : is code.RULE_REF d ≡ true → Once (rule_named s (place_of d.own_at)) ns
  pub found : is code.RULE_REF d ≡ true → any (finds s ns d) ns ≡ true

-- what a questionref finds by a number
pub finds_numbered :
    (s : List ℕ) (ns : List Draft) (d : Draft)
    → is code.RULE_REF d ≡ false → (cell column.A d ≡ 0 → ⊥) → (e : Draft) → bears writes (cell column.A d) e ≡ finds s ns d e
finds_numbered s ns d r z e = rw (r, lt-ltb 0 (cell column.A d) (omega (arith, z)))

-- and what a reference finds by a name: of a ruleref, the one rule that has it
named_found :
    {s : List ℕ} {ns : List Draft} {d : Draft}
    → Refers s ns d → cell column.A d ≡ 0 → own_of_first s (declares_mark s d.own_at (is code.RULE_REF d)) ns ≡ own_of_first s (finds s ns d) ns
named_found {s} {ns} {d} v z = go (is code.RULE_REF d) refl
  where
    named : Draft → Bool
    named = rule_named s (place_of d.own_at)

    of_form_lem : Draft → Bool
    of_form_lem e = eqb (cell column.PARENT e) (form_round ns d)

    go : (b : Bool) → is code.RULE_REF d ≡ b → own_of_first s (declares_mark s d.own_at b) ns ≡ own_of_first s (finds s ns d) ns
    go true r =
        let alike : (e : Draft) → finds s ns d e ≡ (named e && of_form_lem e) = λ e. rw r in
        sym (own_alike s (finds s ns d) _ alike ns ∙ own_once named of_form_lem s ns (v.once r) (sym (any_same (finds s ns d) _ alike ns) ∙ v.found r))
    go false r = own_alike s (declares_mark s d.own_at false) (finds s ns d) (λ e. rw (r, z)) ns

module _ (s es t : List ℕ) (ns : List Draft)
    (index : (m : ℕ) (rule : Bool) → 0 < m → find_in s es m rule ≡ first_row (declares_mark s m rule) 0 ns) (owns : Owns t 0 ns) where
  module _ {d : Draft} (v : Refers s ns d) where
    -- the parts of its cells
    number_encoded : number_found s es t (encoded d)
        ≡ cond (eqb (cell column.A d) 0)
        (cond (eqb (find_in s es d.own_at (is code.RULE_REF d)) 0) 0 (cell_at t (find_in s es d.own_at (is code.RULE_REF d) - 1) column.OWN))
        (cell column.A d)
    unfolding number_found
    number_encoded = rw (cell_encoded v.fits column.A refl, cell_encoded v.fits column.CODE refl, decoded_encoded v.fits)

    pub number_found_lem : refers s d ≡ true → number_found s es t (encoded d) ≡ own_of_first s (finds s ns d) ns
    number_found_lem y = number_encoded ∙ go (eqb (cell column.A d) 0) refl
      where
        rule : Bool
        rule = is code.RULE_REF d

        at : ℕ
        at = find_in s es d.own_at rule

        go : (b : Bool) → eqb (cell column.A d) 0 ≡ b → cond b (cond (eqb at 0) 0 (cell_at t (at - 1) column.OWN)) (cell column.A d) ≡ own_of_first s (finds s ns d) ns
        go true z =
            rw (index d.own_at rule (v.named y))
            (own_at_lem s t (declares_mark s d.own_at rule) ns 0 owns ∙ named_found v (eqb-true _ _ z))
        go false z =
            sym (sym (own_alike s (bears writes (cell column.A d)) (finds s ns d) (finds_numbered s ns d (no_rule rule refl) (eqb-false _ _ z)) ns)
            ∙ own_same s (bears writes (cell column.A d)) (cell column.A d) (λ e f. eqb-true _ _ (and_yes (writes e) _ f).1) ns (v.numbered y (eqb-false _ _ z)))
          where
            no_rule : (b : Bool) → rule ≡ b → rule ≡ false
            no_rule true r = absurd (eqb-false _ _ z (v.rule_name r))
            no_rule false r = r

    -- the settled draft's cells
    pub row_settled : resolved s es t (encoded d) ≡ encoded (cond (refers s d) (with_cell column.A (own_of_first s (finds s ns d) ns) d) d)
    unfolding resolved
    row_settled = rw (cell_encoded v.fits column.CODE refl) (go (refers s d) refl)
      where
        go : (b : Bool) → refers s d ≡ b
            → cond b (set (encoded d) column.A (number_found s es t (encoded d))) (encoded d)
            ≡ encoded (cond b (with_cell column.A (own_of_first s (finds s ns d) ns) d) d)
        go true y = rw (number_found_lem y) (set_encoded d column.A _ refl)
        go false y = refl
