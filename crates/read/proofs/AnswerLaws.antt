-- The answer of each outcome: line and column stand beside a place.
-- Assumes nothing.
use Prim.Native.Nat.{ℕ}
use mathlib.Core.Path.{◌≡◌, refl}
use mathlib.Core.List.{List}
use Rattle.std.specs.Prelude.{Result, Ok, Err}
use Rattle.ll1.proofs.Basics.{clash}
use Rattle.answers.specs.Answer.{needs}
use Rattle.replies.specs.Replies.{position_of, read_replied}
use Rattle.read.specs.declared.Accepted.{Accepted}
use Rattle.walk.specs.declared.Fault.{Fault}
use Rattle.read.specs.declared.Refusal.{Refusal}
use Rattle.read.specs.declared.Refusal.TheVariants.{TooFewRows}
use Rattle.read.specs.Answers.{refused, found, refusal_told, told, InFull}

module _ (s : List ℕ) where
  pub needs_told : (need : ℕ) → refusal_told (TooFewRows need) ≡ read_replied s (needs need)
  unfolding position_of
  needs_told need = refl

  pub found_told : (o : Result Accepted Fault) (m : Result Accepted Refusal) → InFull s o m → told m ≡ read_replied s (found o)
  unfolding position_of
  found_told (Ok a) m p = rw p
  found_told (Err f) (Ok a) p = absurd p
  found_told (Err f) (Err d) p = p

  pub refused_told :
      {A : Type 0} (o : Result A Fault) (m : Result A Refusal) → InFull s o m → {d : Refusal} → m ≡ Err d
      → (f : Fault) × (o ≡ Err f) × (refusal_told d ≡ read_replied s (refused f))
  refused_told (Ok x) m p h = clash cc
  refused_told (Err f) (Ok x) p h = clash cc
  refused_told (Err f) (Err e) p {d} h = let same : d ≡ e = cc in (f, refl, rw same p)

  pub passed_on : {A : Type 0} (o : Result A Fault) (m : Result A Refusal) → InFull s o m → {x : A} → m ≡ Ok x → o ≡ Ok x
  passed_on (Ok y) m p h = cc
  passed_on (Err f) (Ok y) p h = absurd p
  passed_on (Err f) (Err e) p h = clash cc
