-- W-205: the list of reserved words rises strictly in byte order, and a word is reserved exactly when it stands there.
-- Assumes nothing.
use mathlib.Core.Path.{◌≡◌, refl}
use mathlib.Core.List.{List, [], ◌∷◌, map}
use Prim.Native.Nat.{ℕ, ◌+◌}
use native.Mathlib.Omega.{arith}
use borrow.Fn.Kinds.{Dens, ended_of}
use contract.Lifetimes.{Lfts}
use denote.Triple.Clauses.{AtExit}
use Rattle.lexemes.specs.Classes as class
use Rattle.lexemes.specs.Classes.{SIGNS}
use Rattle.lexemes.specs.Lexemes.{bytes, reserved}
use Rattle.lexemes.specs.WordList.{Recognised}
use Rattle.lexemes.specs.Words.{same, place_among}
use Rattle.lexemes.proofs.Equality.{member_place, place_member}
use Rattle.lexemes.proofs.Searching.{counted}
use Rattle.lexemes.proofs.reserved.class_of.Kinds as kinds
use Rattle.lexemes.proofs.reserved.class_of.Reads as promise
-- "it rises strictly": the list as it is printed in the code, and the specification's
pub use Rattle.wordlist.proofs.Order.{list_rises, reserved_rises}

-- a word stands in the list exactly where its class is below NAME
pub recognised : (w : List ℕ) (class : ℕ) → class ≡ SIGNS + place_among w reserved → Recognised w class
recognised w class is_class = (
  (λ h. place_member w reserved (omega (arith, counted))),
  (λ m. omega (arith, member_place w reserved m, counted)),
)

-- "a word is reserved exactly when it stands there": every byte string that `class_of` is given, and the class that it answers
pub reserved_exactly :
    (κs : Lfts 1) (a : Dens κs kinds.ps) (r : ℕ) (e : AtExit (ended_of 1 kinds.ps kinds.r) κs)
    → promise.Learnt κs a r e → Recognised a.0.now r
reserved_exactly κs a r e p = recognised a.0.now r p

-- words that differ little: a word is compared whole and by case
pub whole_words :
    map (λ w. SIGNS + place_among (bytes w) reserved) ("for" ∷ "form" ∷ "formi" ∷ "formid" ∷ "Form" ∷ "form_" ∷ "ONE" ∷ "ONE " ∷ []) ≡
    class.NAME ∷ class.«form» ∷ class.NAME ∷ class.«formid» ∷ class.NAME ∷ class.NAME ∷ class.«ONE» ∷ class.NAME ∷ []
unfolding reserved same place_among
whole_words = refl
