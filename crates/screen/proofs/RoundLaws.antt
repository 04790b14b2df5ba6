-- Whether some condition round a statement is TRUE, computed on the way to it; and that the statement's byte says it.
-- Assumes nothing.
use Prim.Native.Nat.{ℕ, ◌+◌, ◌<◌}
use mathlib.Core.Path.{◌≡◌, refl, ap, ap₂, ◌∙◌}
use mathlib.Core.Bool.{Bool, true, false, cond, ◌&&◌, ◌||◌, or_assoc, or-true, or-false}
use mathlib.Core.Logic.{◌⊎◌, inl, inr}
use mathlib.Core.Option.{Option, none, some}
use native.Mathlib.Omega.{arith}
use lib.ListN.{get_or}
use Rattle.operators.specs.declared.Scalar.{Scalar}
use Rattle.operators.specs.declared.Scalar.TheVariants.{Boolean, Number, Undefined}
use Rattle.ll1.proofs.Basics.{clash, both, either}
use Rattle.formulas.specs.Formula.{Formula}
use Rattle.meaning.specs.Meaning.{meaning}
use Rattle.screen.specs.Kinds.{is_item, hides, greys, is_true, byte}
use Rattle.screen.specs.Screen.{Screen, statement}
use Rattle.screen.specs.Bytes.{expression_rows, value_of, bytes}
use Rattle.screen.specs.Round.{own_rows, size, Stands, first, in_it, after_it, Round, SomeTrue}
use Rattle.screen.proofs.RowLaws.{stands_cases, stands_inside, own_byte, inner_byte, later_byte}

true_is : (v : Scalar) → is_true v ≡ true → v ≡ Boolean true
true_is (Boolean b) e = ap Boolean e
true_is (Number n) e = clash cc
true_is Undefined e = clash cc

-- ---- what is round a row in or after the first statement, of code k and expression f

module _ {code k : ℕ} {x : Formula} {f : Option Formula} {within later : Screen} {row at : ℕ} where
  pub in_round : row ≡ own_rows f + at → Round code x at within → Round code x row (statement k f within later)
  in_round q r =
      record {
        at = own_rows f + r.at;
        inner = r.inner;
        stands = in_it r.stands refl;
        starts = omega (arith, r.starts);
        ends = omega (arith, r.ends);
      }

  pub after_round : row ≡ own_rows f + (size within + at) → Round code x at later → Round code x row (statement k f within later)
  after_round q r =
      record {
        at = own_rows f + (size within + r.at);
        inner = r.inner;
        stands = after_it r.stands refl;
        starts = omega (arith, r.starts);
        ends = omega (arith, r.ends);
      }

  -- a row in it: the first statement itself, and what is round the row there
  pub round_in :
      row ≡ own_rows f + at → at < size within → Round code x row (statement k f within later)
      → ((code ≡ k) × (some x ≡ f)) ⊎ Round code x at within
  round_in q l r =
      stands_cases r.stands
      (λ z c e i. inl (c, e))
      (λ a st w. inr (record { at = a; inner = r.inner; stands = st; starts = omega (arith, r.starts); ends = omega (arith, r.ends) }))
      (λ a st w. absurd (omega (arith, r.starts)))

  -- a row after it: what is round the row there
  pub round_after : row ≡ own_rows f + (size within + at) → Round code x row (statement k f within later) → Round code x at later
  round_after q r =
      stands_cases r.stands
      (λ z c e i. absurd (omega (arith, r.ends, ap expression_rows e, ap size i)))
      (λ a st w. absurd (omega (arith, r.ends, stands_inside st)))
      (λ a st w. record { at = a; inner = r.inner; stands = st; starts = omega (arith, r.starts); ends = omega (arith, r.ends) })

module _ (questions rules : ℕ → Scalar) where
  -- whether some condition of a kind, among those that hold the statement, is TRUE
  unfoldable pub some_true : {code : ℕ} {e : Option Formula} {inner : Screen} {row : ℕ} {s : Screen} → (ℕ → Bool) → Stands code e inner row s → Bool
  some_true kind first = false
  some_true kind (in_it {k = k} {f = f} st q) = kind k && is_true (value_of questions rules f) || some_true kind st
  some_true kind (after_it st q) = some_true kind st

  -- ---- that is so exactly when some condition round its row is

  module _ (kind : ℕ → Bool) where
    abbrev Some : ℕ → Screen → Type 0
    Some = SomeTrue questions rules kind

    -- the first statement holds what stands in it
    own : {k at row : ℕ} {f : Option Formula} {within later : Screen}
        → kind k && is_true (value_of questions rules f) ≡ true → at < size within → row ≡ own_rows f + at → Some row (statement k f within later)
    own {k} {f = none} t l q = clash (let z = (both (kind k) false t).1 in cc)
    own {k} {f = some x} {within = within} t l q =
        let u = both (kind k) (is_true (meaning questions rules x)) t in
        record {
          code = k;
          condition = x;
          is = u.0;
          round = record { at = 0; inner = within; stands = first; starts = omega arith; ends = omega arith };
          holds = true_is (meaning questions rules x) u.1;
        }

    -- the same condition is round another row
    moved : {at row : ℕ} {a b : Screen} (s : Some at a) → Round s.code s.condition row b → Some row b
    moved s r = record { code = s.code; condition = s.condition; is = s.is; round = r; holds = s.holds }

    pub true_some : {code : ℕ} {e : Option Formula} {inner : Screen} {row : ℕ} {s : Screen} (st : Stands code e inner row s) → some_true kind st ≡ true → Some row s
    unfolding some_true
    true_some first t = clash cc
    true_some (in_it {k = k} {f = f} st q) t =
        elim (either (kind k && is_true (value_of questions rules f)) (some_true kind st) t) [
          | inl u ↦ own u (omega (arith, stands_inside st)) q
          | inr u ↦ let s = true_some st u in moved s (in_round q s.round)
        ]
    true_some (after_it st q) t = let s = true_some st t in moved s (after_round q s.round)

    pub some_true_lem : {code : ℕ} {e : Option Formula} {inner : Screen} {row : ℕ} {s : Screen} (st : Stands code e inner row s) → Some row s → some_true kind st ≡ true
    unfolding some_true
    some_true_lem first s = absurd (omega (arith, s.round.starts))
    some_true_lem (in_it {k = k} {f = f} st q) s =
        let held : Bool = kind k && is_true (value_of questions rules f) in
        elim (round_in q (omega (arith, stands_inside st)) s.round) [
          | inl u ↦ rw (← u.0, ← u.1, s.is, s.holds)
          | inr r ↦ ap (λ (b : Bool). held || b) (some_true_lem st (moved s r)) ∙ or-true held
        ]
    some_true_lem (after_it st q) s = some_true_lem st (moved s (round_after q s.round))

  -- ---- the byte of a statement says it

  pub stands_byte :
      {code : ℕ} {e : Option Formula} {inner : Screen} {row : ℕ} {s : Screen} (st : Stands code e inner row s) (h g : Bool)
      → get_or (bytes questions rules h g s) row 0 ≡ cond (is_item code) (byte (h || some_true hides st) (g || some_true greys st)) 0
  unfolding some_true
  stands_byte (first {later = later}) h g = own_byte questions rules h g _ _ _ later ∙ rw (or-false h, or-false g)
  stands_byte {code = code} {row = row} (in_it {at = at} {k = k} {f = f} {within = within} {later = later} st q) h g =
      let holds : Bool = is_true (value_of questions rules f) in
      inner_byte questions rules h g k f within later row at q (omega (arith, stands_inside st))
      ∙ stands_byte st (h || hides k && holds) (g || greys k && holds)
      ∙ ap₂ (λ (a b : Bool). cond (is_item code) (byte a b) 0)
      (or_assoc h (hides k && holds) (some_true hides st)) (or_assoc g (greys k && holds) (some_true greys st))
  stands_byte {row = row} (after_it {at = at} {k = k} {f = f} {within = within} {later = later} st q) h g =
      later_byte questions rules h g k f within later row at q ∙ stands_byte st h g
