-- Rows that may stand after any others, and the options of a oneof.
-- Assumes nothing.
use mathlib.Core.Path.{◌≡◌}
use mathlib.Core.List.{List, [], ◌∷◌, ◌++◌}
use mathlib.Core.Bool.{true}
use Prim.Native.Nat.{ℕ, ◌+◌, ◌<◌}
use native.Mathlib.Nat.{add-zero}
use native.Mathlib.Omega.{arith}
use lib.ListN.{length}
use borrow.Author.Tests.{eqb-true}
use Rattle.rows.specs.Codes as code
use Rattle.rows.specs.Columns as column
use Rattle.ll1.proofs.Basics.{clash}
use Rattle.answers.specs.Rows.{Draft}
use Rattle.answers.specs.Stages.{is, cell}
use Rattle.drafts.specs.Sound.{SoundRow, AllSound, no_rows, add_row, owner_after, OptionsFollow}
use Rattle.sound.proofs.Lists.{All, none, more}
use Rattle.sound.proofs.SoundRow.{Other}

-- ---- rows that may stand after any others

-- from row i on: each is sound, and their options follow their oneofs, whatever the row before them is
pub record Stands (i : ℕ) (ds : List Draft) : Type 0 where
  pub each : AllSound ds
  pub options : (owner : ℕ) → OptionsFollow i owner ds

pub stands_none : (i : ℕ) → Stands i []
stands_none i = record { each = no_rows; options = λ owner. tt }

pub others_stand : {ds : List Draft} → All Other ds → (i : ℕ) → Stands i ds
others_stand none i = stands_none i
others_stand (more {x = d} h others) i =
    let rest = others_stand others (i + 1) in
    record {
      each = add_row h.sound rest.each;
      options = λ owner. ((λ e. clash (cc h.no_option)), rest.options (owner_after i owner d));
    }

sound_append : {ds es : List Draft} → AllSound ds → AllSound es → AllSound (ds ++ es)
sound_append no_rows v = v
sound_append (add_row h u) v = add_row h (sound_append u v)

follow_append :
    (i owner : ℕ) (ds es : List Draft)
    → OptionsFollow i owner ds → ((o : ℕ) → OptionsFollow (i + length ds) o es) → OptionsFollow i owner (ds ++ es)
follow_append i owner [] es h l = rw add-zero at (l owner)
follow_append i owner (d ∷ ds) es h l =
    let next : i + length (d ∷ ds) ≡ i + 1 + length ds = omega arith in
    (h.0, follow_append (i + 1) (owner_after i owner d) ds es h.1 (λ o. rw next at (l o)))

pub stands_append : (i : ℕ) (ds es : List Draft) → Stands i ds → Stands (i + length ds) es → Stands i (ds ++ es)
stands_append i ds es u v =
    record {
      each = sound_append u.each v.each;
      options = λ owner. follow_append i owner ds es (u.options owner) v.options;
    }

-- ---- the options of a oneof

-- an option of the oneof in row p
pub record Offer (p : ℕ) (d : Draft) : Type 0 where
  pub sound : SoundRow d
  pub is_option : is code.OPTION d ≡ true
  pub of : cell column.PARENT d ≡ p

pub offers_sound : {p : ℕ} {ds : List Draft} → All (Offer p) ds → AllSound ds
offers_sound none = no_rows
offers_sound (more h offers) = add_row h.sound (offers_sound offers)

-- after an option the oneof is still the owner
owner_stays : (i owner : ℕ) (d : Draft) → is code.OPTION d ≡ true → owner_after i owner d ≡ owner
owner_stays i owner d h = rw (eqb-true (cell column.CODE d) code.OPTION h)

pub offers_follow : {p : ℕ} {ds : List Draft} → All (Offer p) ds → 0 < p → (i : ℕ) → OptionsFollow i p ds
offers_follow none h i = tt
offers_follow {p} (more {x = d} o offers) h i = ((λ e. (h, o.of)), rw (owner_stays i p d o.is_option) (offers_follow offers h (i + 1)))
