-- What an element asks of a token, with the tests of the code.
-- Assumes nothing.
use Prim.Native.Nat.{ℕ, ◌≤◌, ◌<◌}
use mathlib.Core.Path.{◌≡◌, refl}
use mathlib.Core.Bool.{Bool, true, false, cond}
use mathlib.Core.List.{List, [], ◌∷◌}
use mathlib.Core.Logic.{◌⊎◌, inl, inr}
use native.Mathlib.Omega.{arith}
use lib.Dec.{eqb, ltb, leb}
use borrow.Author.Tests.{ne_eqb, lt-ltb, le-ltb, lt-leb, eqb-true, ltb-true, leb-true}
use Rattle.lexemes.specs.Classes.{«DEFAULT», «FALSE», «TRUE», NAME, HEX, DECIMAL, BAD}
use Rattle.ll1.specs.ParseTable.{member}
use Rattle.ll1.specs.Test.{all}
use Rattle.ll1.proofs.Basics.{either, all_member}
use Rattle.grammar.specs.Parts.{when}
use Rattle.rows.specs.Flags.{READ_ONLY, INTERACTIVE, RESET_REQUIRED}
use Rattle.elements.specs.declared.flags.Words.{Words}
use Rattle.elements.specs.Words.{bits_of}
use Rattle.elements.specs.Kinds.{ID, OPTION_FLAGS, REFERENCE, TRUTH, FLAG_LIST, NUMERIC_FLAGS}
use Rattle.elements.specs.Kinds.{numbers, flag_classes, numeric_classes, is_flag_list, starts_of, is_kept}

-- ---- what an element can start with

module _ (e : ℕ) where
  pub starts_word : e < ID → starts_of e ≡ e ∷ []
  unfolding starts_of
  starts_word h = rw (lt-ltb e ID h)

-- ---- flags

pub when_le : (b : Bool) (n : ℕ) → when b n ≤ n
when_le true n = omega arith
when_le false n = omega arith

pub bits_low : (w : Words) → bits_of w < 32
bits_low w = omega (arith, when_le w.readonly READ_ONLY, when_le w.interactive INTERACTIVE, when_le w.reset RESET_REQUIRED)

-- ---- a sign or a reserved word keeps nothing, and is no list

pub not_kept : (k : ℕ) → k < NAME → is_kept k ≡ false
not_kept k h = rw (ne_eqb k NAME (λ e. omega arith)) (lt-leb ID k (omega arith))

pub not_list : (k : ℕ) → k < NAME → is_flag_list k ≡ false
not_list k h = rw (ne_eqb k FLAG_LIST (λ e. omega arith)) (ne_eqb k NUMERIC_FLAGS (λ e. omega arith))

-- ---- an element that keeps something is a token with bytes

-- the lists of `starts_of` from ID on
abbrev starts_by : (a b c d e f : Bool) → List ℕ
starts_by a b c d e f =
    cond a numbers (cond b (DECIMAL ∷ HEX ∷ «DEFAULT» ∷ [])
    (cond c (NAME ∷ numbers) (cond d («TRUE» ∷ «FALSE» ∷ []) (cond e flag_classes (cond f numeric_classes (HEX ∷ []))))))

abbrev below : List ℕ → Bool
below l = all (λ k. ltb k BAD) l

all_below : (a b c d e f : Bool) → below (starts_by a b c d e f) ≡ true
all_below true b c d e f = refl
all_below false true c d e f = refl
all_below false false true d e f = refl
all_below false false false true e f = refl
all_below false false false false true f = refl
all_below false false false false false true = refl
all_below false false false false false false = refl

member_below : (l : List ℕ) (k : ℕ) → below l ≡ true → member k l ≡ true → k < BAD
member_below l k h m = ltb-true k BAD (all_member (λ k. ltb k BAD) l k h m)

name_below : (e k : ℕ) → e ≡ NAME → member k (starts_of e) ≡ true → k < BAD
unfolding starts_of
name_below e k q m = member_below (NAME ∷ []) k refl (rw q at m)

kind_below : (e k : ℕ) → ID ≤ e → member k (starts_of e) ≡ true → k < BAD
unfolding starts_of
kind_below e k l m =
    let a = ltb e OPTION_FLAGS in
    let b = eqb e OPTION_FLAGS in
    let c = eqb e REFERENCE in
    let d = eqb e TRUTH in
    let f = eqb e FLAG_LIST in
    let g = eqb e NUMERIC_FLAGS in
    member_below (starts_by a b c d f g) k (all_below a b c d f g) (rw (le-ltb e ID l) at m)

pub kept_below : (e k : ℕ) → is_kept e ≡ true → member k (starts_of e) ≡ true → k < BAD
kept_below e k h m = by (either (eqb e NAME) (leb ID e) h)
  where
    by : (eqb e NAME ≡ true) ⊎ (leb ID e ≡ true) → k < BAD
    by (inl q) = name_below e k (eqb-true e NAME q) m
    by (inr q) = kind_below e k (leb-true ID e q) m

-- so is a flag word
pub flag_below : (e k : ℕ) → is_flag_list e ≡ true → member k (starts_of e) ≡ true → k < BAD
flag_below e k f m = by (either (eqb e FLAG_LIST) (eqb e NUMERIC_FLAGS) f)
  where
    by : (eqb e FLAG_LIST ≡ true) ⊎ (eqb e NUMERIC_FLAGS ≡ true) → k < BAD
    by (inl q) = kind_below e k (let z = eqb-true e FLAG_LIST q in omega arith) m
    by (inr q) = kind_below e k (let z = eqb-true e NUMERIC_FLAGS q in omega arith) m
