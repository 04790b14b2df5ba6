-- A code that stands in a table, and one that is none of a list of codes.
use Rattle.std.proofs.Common.{◌≡◌, ℕ, Bool, true, false, cond, ◌&&◌, ◌||◌, eqb, List, [], ◌∷◌, sym, refl, ap, ◌∙◌, ap₂, ne_eqb, eqb-true}
use mathlib.Core.Bool.{false≢true}
use Rattle.rows.specs.Codes.{member}
use Rattle.rows.specs.Codes.{OR, AND, BITWISE_OR, BITWISE_AND, EQUAL, NOT_EQUAL, GREATER_THAN, GREATER_EQUAL, LESS_THAN, LESS_EQUAL}
use Rattle.rows.specs.Codes.{SHIFT_LEFT, SHIFT_RIGHT, ADD, SUBTRACT, MULTIPLY, DIVIDE, MODULO}
use Rattle.rows.specs.Codes.{TRUE, FALSE, ZERO, ONE, ONES}
use Rattle.operators.specs.Values.{no_operation, operations, operation_of, combined, found, constants, constant_of}
use Rattle.operators.specs.declared.Scalar.{Scalar}
use Rattle.operators.specs.declared.Scalar.TheVariants.{Boolean, Number, Undefined}

-- ---- tests that hold

both : (a b : Bool) → (a && b) ≡ true → (a ≡ true) × (b ≡ true)
both true b h = (refl, h)
both false b h = absurd (false≢true h)

abbrev is_undefined : Scalar → Bool
is_undefined (Boolean a) = false
is_undefined (Number a) = false
is_undefined Undefined = true

is_undefined_lem : (w : Scalar) → is_undefined w ≡ true → w ≡ Undefined
is_undefined_lem (Boolean a) h = absurd (false≢true h)
is_undefined_lem (Number a) h = absurd (false≢true h)
is_undefined_lem Undefined h = refl

-- ---- a code of a list

-- f makes undefined of each code of a list
abbrev pub undefined_at : (ℕ → Scalar) → List ℕ → Bool
undefined_at f [] = true
undefined_at f (k ∷ ks) = is_undefined (f k) && undefined_at f ks

pub undefined_at_lem : (f : ℕ → Scalar) (ks : List ℕ) → undefined_at f ks ≡ true → (c : ℕ) → member c ks ≡ true → f c ≡ Undefined
unfolding member
undefined_at_lem f [] u c m = absurd (false≢true m)
undefined_at_lem f (k ∷ ks) u c m = go (undefined_at_lem f ks (both (is_undefined (f k)) (undefined_at f ks) u).1 c) (eqb c k) refl m
  where
    go : (member c ks ≡ true → f c ≡ Undefined) → (t : Bool) → eqb c k ≡ t → (t || member c ks) ≡ true → f c ≡ Undefined
    go ih true e m = ap f (eqb-true c k e) ∙ is_undefined_lem (f k) (both (is_undefined (f k)) (undefined_at f ks) u).0
    go ih false e m = ih m

-- ---- a code that is none of a list

-- c is none of these, and N: what the last arm of a `match` knows
abbrev pub Others : Type 0 → ℕ → List ℕ → Type 0
Others N c [] = N
Others N c (k ∷ ks) = Others (N × (c ≡ k → ⊥)) c ks

earlier : (N : Type 0) (c : ℕ) (ks : List ℕ) → Others N c ks → N
earlier N c [] h = h
earlier N c (k ∷ ks) h = (earlier (N × (c ≡ k → ⊥)) c ks h).0

no_member : (N : Type 0) (c : ℕ) (ks : List ℕ) → Others N c ks → member c ks ≡ false
unfolding member
no_member N c [] h = refl
no_member N c (k ∷ ks) h =
    ap₂ ◌||◌ (ne_eqb c k (earlier (N × (c ≡ k → ⊥)) c ks h).1) (no_member (N × (c ≡ k → ⊥)) c ks h)

-- each entry of a table has a code of ks, or p takes undefined from it
abbrev pub undefined_but : {A : Type 0} → List ℕ → (A → Scalar) → List (ℕ × A) → Bool
undefined_but ks p [] = true
undefined_but ks p (e ∷ es) = (member e.0 ks || is_undefined (p e.1)) && undefined_but ks p es

-- so p takes undefined from what stands beside a code that is none of ks
pub found_undefined : {A : Type 0} (ks : List ℕ) (p : A → Scalar) (other : A) (es : List (ℕ × A)) (c : ℕ)
    → p other ≡ Undefined → undefined_but ks p es ≡ true → member c ks ≡ false → p (found other es c) ≡ Undefined
unfolding found
found_undefined ks p other [] c o u m = o
found_undefined {A} ks p other (e ∷ es) c o u m =
    go (eqb c e.0) refl (found_undefined ks p other es c o two.1 m) two.0
  where
    two : (member e.0 ks || is_undefined (p e.1) ≡ true) × (undefined_but ks p es ≡ true)
    two = both (member e.0 ks || is_undefined (p e.1)) (undefined_but ks p es) u

    go : (t : Bool) → eqb c e.0 ≡ t → p (found other es c) ≡ Undefined → (member e.0 ks || is_undefined (p e.1)) ≡ true
        → p (cond t e.1 (found other es c)) ≡ Undefined
    go true q ih h =
        let none : member e.0 ks ≡ false = ap (λ (n : ℕ). member n ks) (sym (eqb-true c e.0 q)) ∙ m in
        is_undefined_lem (p e.1) (ap (λ (t : Bool). t || is_undefined (p e.1)) (sym none) ∙ h)
    go false q ih h = ih

-- ---- the operators

-- equal codes, and equal operands
pub booleans_at : {c k : ℕ} → c ≡ k → (a b : Bool) → (operation_of k).booleans a b ≡ (operation_of c).booleans a b
booleans_at e a b = ap (λ (n : ℕ). (operation_of n).booleans a b) (sym e)

pub numbers_at : {c k : ℕ} → c ≡ k → (a b : ℕ) → (operation_of k).numbers a b ≡ (operation_of c).numbers a b
numbers_at e a b = ap (λ (n : ℕ). (operation_of n).numbers a b) (sym e)

pub combined_of : (c : ℕ) {l r x y : Scalar} → l ≡ x → r ≡ y → combined c x y ≡ combined c l r
combined_of c e f = sym (ap₂ (combined c) e f)

-- the codes of the operators that make something of booleans, and of numbers
abbrev pub of_booleans : List ℕ
of_booleans = OR ∷ AND ∷ EQUAL ∷ NOT_EQUAL ∷ []

abbrev pub of_numbers : List ℕ
of_numbers =
    BITWISE_OR ∷ BITWISE_AND ∷ EQUAL ∷ NOT_EQUAL ∷ GREATER_THAN ∷ GREATER_EQUAL ∷ LESS_THAN ∷ LESS_EQUAL ∷ SHIFT_LEFT ∷ SHIFT_RIGHT
    ∷ ADD ∷ SUBTRACT ∷ MULTIPLY ∷ DIVIDE ∷ MODULO ∷ []

pub no_booleans : (c : ℕ) (a b : Bool) → Others Unit c of_booleans → (operation_of c).booleans a b ≡ Undefined
unfolding operations member
no_booleans c a b h = found_undefined of_booleans (λ o. o.booleans a b) no_operation operations c refl refl (no_member Unit c of_booleans h)

pub no_numbers : (c a b : ℕ) → Others Unit c of_numbers → (operation_of c).numbers a b ≡ Undefined
unfolding operations member
no_numbers c a b h = found_undefined of_numbers (λ o. o.numbers a b) no_operation operations c refl refl (no_member Unit c of_numbers h)

-- ---- the constants

-- the codes of the constants that are defined
abbrev pub defined_constants : List ℕ
defined_constants = TRUE ∷ FALSE ∷ ZERO ∷ ONE ∷ ONES ∷ []

pub no_constant : (c : ℕ) → Others Unit c defined_constants → constant_of c ≡ Undefined
unfolding constants member
no_constant c h = found_undefined defined_constants (λ w. w) Undefined constants c refl refl (no_member Unit c defined_constants h)
