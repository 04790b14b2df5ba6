-- What the last arm of a `match` knows: that no arm before it has the key. So a text stands in no list of texts that the arms cover, and a
-- letter that no arm has starts no reserved word.
-- Assumes nothing.
use mathlib.Core.Path.{◌≡◌, refl, sym, ap, ◌∙◌}
use mathlib.Core.Bool.{Bool, true, false, cond, ◌&&◌, ◌||◌, true≢false}
use mathlib.Core.List.{List, [], ◌∷◌}
use Prim.Native.Nat.{ℕ, suc, ◌≤◌, zero-le}
use native.Mathlib.Omega.{arith}
use lib.Dec.{eqb, ltb}
use lib.ListN.{length, get_or}
use borrow.Author.Tests.{ne_eqb, ltb-true}
use Rattle.lexemes.specs.Lexemes.{reserved}
use Rattle.lexemes.specs.Search.{COUNT, letter_place, letter_start}
use Rattle.lexemes.specs.Words.{same, place_among}
use Rattle.lexemes.proofs.Lists.{either, and_true, and_false}

-- x is none of the keys, as the last arm of a `match` has it, after a fact A
abbrev pub Missed : Type 0 → List ℕ → ℕ → Type 0
Missed A [] x = A
Missed A (k ∷ ks) x = Missed (A × (x ≡ k → ⊥)) ks x

abbrev member : ℕ → List ℕ → Bool
member x [] = false
member x (k ∷ ks) = eqb x k || member x ks

no_member : {A : Type 0} (ks : List ℕ) (x : ℕ) → Missed A ks x → A × (member x ks ≡ false)
no_member [] x a = (a, refl)
no_member (k ∷ ks) x a = let r = no_member ks x a in (r.0.0, rw (ne_eqb x k r.0.1) r.1)

-- the first bytes of the texts that go on with `rest`
abbrev pub first_bytes : List ℕ → List (List ℕ) → List ℕ
first_bytes rest [] = []
first_bytes rest ([] ∷ vs) = first_bytes rest vs
first_bytes rest ((b ∷ v) ∷ vs) = let more = first_bytes rest vs in cond (same rest v) (b ∷ more) more

place_none : (b : ℕ) (rest : List ℕ) (ws : List (List ℕ)) → member b (first_bytes rest ws) ≡ false → place_among (b ∷ rest) ws ≡ length ws
unfolding place_among same
place_none b rest [] h = refl
place_none b rest ([] ∷ vs) h = ap suc (place_none b rest vs h)
place_none b rest ((x ∷ v) ∷ vs) h =
    either (same rest v)
    (λ e.
    let among : eqb b x || member b (first_bytes rest vs) ≡ false = rw e at h in
    either (eqb b x) (λ t. absurd (true≢false (rw t at among))) (λ t. rw t (ap suc (place_none b rest vs (rw t at among)))))
    (λ e. rw (and_false (eqb b x) (same rest v) e) (ap suc (place_none b rest vs (rw e at h))))

pub byte_missed : (b : ℕ) (rest : List ℕ) (ws : List (List ℕ)) → Missed Unit (first_bytes rest ws) b → place_among (b ∷ rest) ws ≡ length ws
byte_missed b rest ws h = place_none b rest ws (no_member (first_bytes rest ws) b h).1

-- the first letter of each text is one of the keys
abbrev pub letters_in : List ℕ → List (List ℕ) → Bool
letters_in ks [] = true
letters_in ks (v ∷ vs) = member (get_or v 0 0) ks && letters_in ks vs

letter_none : (b : ℕ) (ks : List ℕ) (ws : List (List ℕ)) → letters_in ks ws ≡ true → member b ks ≡ false → letter_place b ws ≡ length ws
unfolding letter_place
letter_none b ks [] t h = refl
letter_none b ks (v ∷ vs) t h =
    let both = and_true (member (get_or v 0 0) ks) (letters_in ks vs) t in
    let differ : b ≡ get_or v 0 0 → ⊥ = λ e. true≢false (sym both.0 ∙ rw e at h) in
    rw (ne_eqb b (get_or v 0 0) differ) (ap suc (letter_none b ks vs both.1 h))

-- where the search starts for a letter that no arm has
pub letter_missed : (b : ℕ) (ks : List ℕ) → letters_in ks reserved ≡ true → Missed Unit ks b → letter_start b ≡ 0
unfolding letter_start reserved
letter_missed b ks t h = rw (letter_none b ks reserved t (no_member ks b h).1)

-- the search starts in the list, or where it ends
pub start_le : (b : ℕ) → letter_start b ≤ COUNT
unfolding letter_start
start_le b = either (ltb (letter_place b reserved) COUNT) (λ e. rw e (omega (arith, ltb-true (letter_place b reserved) COUNT e))) (λ e. rw e zero-le)
