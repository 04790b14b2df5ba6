-- Stage 12 as the code does it finds the first of the faults that grammar lists.
use Prim.Native.Nat.{ℕ, zero, suc, ◌+◌, ◌≤◌, ◌<◌}
use mathlib.Core.Path.{◌≡◌, refl, sym, ◌∙◌}
use mathlib.Core.Bool.{Bool, true, false, cond, ◌&&◌, true≢false}
use mathlib.Core.List.{List, [], ◌∷◌}
use native.Mathlib.Omega.{arith}
use borrow.Author.Tests.{lt-ltb, eq-eqb, ne_eqb, ltb-true}
use lib.Dec.{eqb, ltb}
use Rattle.rows.specs.Codes as code
use Rattle.rows.specs.Columns as column
use Rattle.answers.specs.Rows.{Draft}
use Rattle.answers.specs.Stages.{cell, is, any, below, outside, faults_after, numeric_faults, option_faults, bad_choices}
use Rattle.drafts.specs.Faults.{first_fault}
use Rattle.stages.specs.Choices.{limits_fault, leading, is_default, option_fault, choice_fault}
use Rattle.drafts.specs.Sound.{SoundRow, AllSound, no_rows, add_row, OptionsFollow, SoundRows, First, none}
use Rattle.drafts.proofs.RowTests.{other_code, any_none, any_cons}
use Rattle.stages.proofs.ChoiceLaws.{same_value}
use Rattle.drafts.proofs.Firsts.{or_else, first_append, first_if, first_is}

-- ---- a numeric

default_only : (m : ℕ) (b : Bool) → cond b m 0 ≡ cond (ltb 0 m && b) m 0
default_only zero true = refl
default_only zero false = refl
default_only (suc m) b = rw (lt-ltb 0 (suc m) (omega arith))

either_fault : (m n : ℕ) (a b : Bool) → (a ≡ true → 0 < m) → cond a m (cond b n 0) ≡ or_else (cond a m 0) (cond (ltb 0 n && b) n 0)
either_fault m n true b h = rw (ne_eqb m 0 (λ e. omega (arith, h refl)))
either_fault m n false b h = default_only n b

mark_positive : (m : ℕ) (b : Bool) → (ltb 0 m && b) ≡ true → 0 < m
mark_positive m b e = go (ltb 0 m) refl e
  where
    go : (c : Bool) → ltb 0 m ≡ c → (c && b) ≡ true → 0 < m
    go true f g = ltb-true 0 m f
    go false f g = absurd (true≢false (sym g))

limits_first : (d : Draft) → 0 < d.limit_at → First (limits_fault d) (numeric_faults d)
unfolding limits_fault
limits_first d h =
    let crossed : Bool = below d (cell column.B d) (cell column.A d) in
    first_is (either_fault d.limit_at d.default_at crossed (outside d) (λ e. h))
    (first_append (first_if crossed (λ e. h)) (first_if (is_default d && outside d) (mark_positive d.default_at (outside d))))

-- ---- options: `before` are all rows before, `os` those of them that are options of the same oneof

-- the options of the oneof in a row
abbrev option_of : ℕ → Draft → Bool
option_of owner e = is code.OPTION e && eqb (cell column.PARENT e) owner

record Among (i owner : ℕ) (before os : List Draft) : Type 0 where
  -- no row before has row i or a later one for its oneof
  fresh : (j : ℕ) → i ≤ j → (p : Draft → Bool) → any (λ e. option_of j e && p e) before ≡ false
  below : owner ≤ i
  own : 0 < owner → (p : Draft → Bool) → any (λ e. option_of owner e && p e) before ≡ any p os

-- where a row is no option, or none of the oneof
not_option : (d : Draft) (j : ℕ) (p : Draft → Bool) → (is code.OPTION d ≡ true → cell column.PARENT d ≡ j → ⊥) → (option_of j d && p d) ≡ false
not_option d j p h = go (is code.OPTION d) refl
  where
    go : (b : Bool) → is code.OPTION d ≡ b → (b && eqb (cell column.PARENT d) j && p d) ≡ false
    go true e = rw (ne_eqb (cell column.PARENT d) j (h e))
    go false e = refl

module _ {i owner : ℕ} {before os : List Draft} (v : Among i owner before os) (d : Draft) where
  -- a row that is neither a oneof nor an option
  among_other : is code.OPTION d ≡ false → Among (i + 1) 0 (d ∷ before) []
  among_other e =
      record {
        fresh = λ j h p.
            any_cons (λ e. option_of j e && p e) d before
            ∙ rw (not_option d j p (λ f g. true≢false (sym f ∙ e))) (v.fresh j (omega arith) p);
        below = omega arith;
        own = λ h p. absurd (omega arith);
      }

  -- a oneof
  among_one_of : is code.OPTION d ≡ false → Among (i + 1) i (d ∷ before) []
  among_one_of e =
      let none : (j : ℕ) → i ≤ j → (p : Draft → Bool) → any (λ e. option_of j e && p e) (d ∷ before) ≡ false =
      λ j h p. any_cons (λ e. option_of j e && p e) d before ∙ rw (not_option d j p (λ f g. true≢false (sym f ∙ e))) (v.fresh j h p) in
      record { fresh = λ j h p. none j (omega arith) p; below = omega arith; own = λ h p. none i (omega arith) p ∙ sym (any_none p) }

  -- an option of the oneof
  among_option : is code.OPTION d ≡ true → cell column.PARENT d ≡ owner → Among (i + 1) owner (d ∷ before) (d ∷ os)
  among_option e f =
      record {
        fresh = λ j h p.
            any_cons (λ e. option_of j e && p e) d before
            ∙ rw (not_option d j p (λ g k. omega (arith, v.below))) (v.fresh j (omega arith) p);
        below = omega (arith, v.below);
        own = λ h p.
            any_cons (λ e. option_of owner e && p e) d before
            ∙ rw (e, eq-eqb (cell column.PARENT d) owner f, v.own h p) (sym (any_cons p d os));
      }

-- ---- the stage

abbrev choice_faults : List Draft → Draft → List ℕ
choice_faults before d = cond (is code.NUMERIC d) (numeric_faults d) (cond (is code.OPTION d) (option_faults before d) [])

-- without a oneof before them rows start with no option
no_leading : (ds : List Draft) (i : ℕ) → OptionsFollow i 0 ds → leading ds ≡ []
unfolding leading
no_leading [] i w = refl
no_leading (d ∷ ds) i w = go (is code.OPTION d) refl
  where
    go : (b : Bool) → is code.OPTION d ≡ b → cond b (d ∷ leading ds) [] ≡ []
    go true e = absurd (omega (arith, (w.0 e).0))
    go false e = refl

-- an option's faults, and the first of them and later ones
options_first : {i owner : ℕ} {before os : List Draft} → Among i owner before os → (d : Draft) → 0 < d.limit_at → 0 < owner → cell column.PARENT d ≡ owner
    → First (or_else (cond (any (same_value d) os) d.limit_at 0) (cond (is_default d && any is_default os) d.default_at 0)) (option_faults before d)
options_first {owner = owner} {before = before} {os = os} v d h o e =
    rw (e, v.own o (same_value d), v.own o is_default)
    (first_append (first_if (any (same_value d) os) (λ f. h)) (first_if (is_default d && any is_default os) (mark_positive d.default_at (any is_default os))))

option_or : (l m later x : ℕ) (a b : Bool) → (a ≡ true → 0 < l) → (b ≡ true → 0 < m)
    → or_else (cond a l (cond b m later)) x ≡ or_else (or_else (cond a l 0) (cond b m 0)) (or_else later x)
option_or l m later x true b h k = rw (ne_eqb l 0 (λ e. omega (arith, h refl)), ne_eqb l 0 (λ e. omega (arith, h refl)))
option_or l m later x false true h k = rw (ne_eqb m 0 (λ e. omega (arith, k refl)))
option_or l m later x false false h k = refl

-- the first fault of options that follow `os`, or of the rows themselves
abbrev FirstFrom : List Draft → List Draft → List Draft → Type 0
FirstFrom before os ds = First (or_else (option_fault os (leading ds)) (first_fault choice_fault ds)) (faults_after choice_faults before ds)

-- what is left once the row d in row i is passed
abbrev Rest : ℕ → List Draft → Draft → List Draft → Type 0
Rest i before d ds = (owner : ℕ) (os : List Draft) → Among (i + 1) owner (d ∷ before) os → OptionsFollow (i + 1) owner ds → FirstFrom (d ∷ before) os ds

module _ {i owner : ℕ} {before os : List Draft} (v : Among i owner before os) {d : Draft} (s : SoundRow d) (ds : List Draft) (w : OptionsFollow i owner (d ∷ ds)) (rest : Rest i before d ds) where
  at_option : is code.OPTION d ≡ true → FirstFrom before os (d ∷ ds)
  unfolding first_fault faults_after leading option_fault choice_fault
  at_option e =
      let n : is code.NUMERIC d ≡ false = other_code d code.OPTION code.NUMERIC e refl in
      let o : is code.ONE_OF d ≡ false = other_code d code.OPTION code.ONE_OF e refl in
      let l : 0 < d.limit_at = s.limit_written (rw (e, n, other_code d code.OPTION code.GOTO e refl)) in
      let p = w.0 e in
      let more = rest owner (d ∷ os) (among_option v d e p.1) (rw (o, e) at w.1) in
      let values : Bool = any (same_value d) os in
      let defaults : Bool = is_default d && any is_default os in
      rw (e, n, o)
      (first_is (option_or d.limit_at d.default_at (option_fault (d ∷ os) (leading ds)) (first_fault choice_fault ds) values defaults (λ f. l) (mark_positive d.default_at (any is_default os)))
      (first_append (options_first v d l p.0 p.1) more))

  module _ (e : is code.OPTION d ≡ false) where
    -- no option follows
    alone : is code.ONE_OF d ≡ false → First (first_fault choice_fault ds) (faults_after choice_faults (d ∷ before) ds)
    unfolding option_fault
    alone o =
        let follow : OptionsFollow (i + 1) 0 ds = rw (o, e) at w.1 in
        rw (no_leading ds (i + 1) follow) at (rest 0 [] (among_other v d e) follow)

    at_numeric : is code.NUMERIC d ≡ true → FirstFrom before os (d ∷ ds)
    unfolding first_fault faults_after leading option_fault choice_fault
    at_numeric n =
        let o : is code.ONE_OF d ≡ false = other_code d code.NUMERIC code.ONE_OF n refl in
        let l : 0 < d.limit_at = s.limit_written (rw (e, n, other_code d code.NUMERIC code.GOTO n refl)) in
        rw (e, n) (first_append (limits_first d l) (alone o))

    at_one_of : is code.ONE_OF d ≡ true → FirstFrom before os (d ∷ ds)
    unfolding first_fault faults_after leading option_fault choice_fault
    at_one_of o =
        let n : is code.NUMERIC d ≡ false = other_code d code.ONE_OF code.NUMERIC o refl in
        rw (e, n, o) (rest i [] (among_one_of v d e) (rw o at w.1))

    at_other : is code.NUMERIC d ≡ false → is code.ONE_OF d ≡ false → FirstFrom before os (d ∷ ds)
    unfolding first_fault faults_after leading option_fault choice_fault
    at_other n o = rw (e, n, o) (alone o)

choices_from : {ds : List Draft} → AllSound ds → (i owner : ℕ) (before os : List Draft) → Among i owner before os → OptionsFollow i owner ds → FirstFrom before os ds
unfolding first_fault faults_after leading option_fault
choices_from no_rows i owner before os v w = none
choices_from (add_row {d = d} {ds = ds} s r) i owner before os v w =
    go (λ k o. choices_from r (i + 1) k (d ∷ before) o) (is code.OPTION d) refl (is code.NUMERIC d) refl (is code.ONE_OF d) refl
  where
    go : Rest i before d ds → (b : Bool) → is code.OPTION d ≡ b → (n : Bool) → is code.NUMERIC d ≡ n → (o : Bool) → is code.ONE_OF d ≡ o → FirstFrom before os (d ∷ ds)
    go rest true e n f o g = at_option v s ds w rest e
    go rest false e true f o g = at_numeric v s ds w rest e f
    go rest false e false f true g = at_one_of v s ds w rest e g
    go rest false e false f false g = at_other v s ds w rest e f g

-- stage 12 answers grammar's first fault
pub choices_first : {ds : List Draft} → SoundRows ds → First (first_fault choice_fault ds) (bad_choices ds)
unfolding bad_choices option_fault
choices_first {ds} v =
    rw (no_leading ds 0 v.options) at
    (choices_from v.each 0 0 [] [] (record { fresh = λ j h p. any_none (λ e. option_of j e && p e); below = omega arith; own = λ h p. absurd (omega arith) }) v.options)
