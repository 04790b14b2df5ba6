-- What holds of each row of a list, and of each pair of rows.
-- Assumes nothing.
use mathlib.Core.Path.{◌≡◌, refl}
use mathlib.Core.List.{List, [], ◌∷◌, ◌++◌, map}
use mathlib.Core.Bool.{Bool, false}
use Rattle.answers.specs.Rows.{Draft}
use Rattle.answers.specs.Stages.{any}
use Rattle.drafts.specs.Sound.{SoundRow, AllSound, no_rows, add_row}
use Rattle.sound.proofs.Lists.{All, none, more}
use Rattle.again.specs.Matches.{Pairs, no_pairs, pair}

-- ---- each element

module _ {X : Type 0} {P : X → Type 0} where
  pub all_then : {Q : X → Type 0} → ((x : X) → P x → Q x) → {l : List X} → All P l → All Q l
  all_then f none = none
  all_then f (more h p) = more (f _ h) (all_then f p)

  pub all_with : {Q R : X → Type 0} → ((x : X) → P x → Q x → R x) → {l : List X} → All P l → All Q l → All R l
  all_with f none none = none
  all_with f (more h p) (more k q) = more (f _ h k) (all_with f p q)

  -- of two lists one after the other, for whoever walks a tree
  pub all_parts_lem : (k l : List X) → All P (k ++ l) → All P k × All P l
  all_parts_lem [] l p = (none, p)
  all_parts_lem (x ∷ k) l (more h p) = let t = all_parts_lem k l p in (more h t.0, t.1)

-- images that are the same
pub map_each : {X Y : Type 0} (f g : X → Y) {l : List X} → All (λ x. f x ≡ g x) l → map f l ≡ map g l
map_each f g none = refl
map_each f g (more h r) = rw (h, map_each f g r)

pub sound_each : {ds : List Draft} → AllSound ds → All SoundRow ds
sound_each no_rows = none
sound_each (add_row u r) = more u (sound_each r)

-- ---- each pair

module _ {X Y : Type 0} {P : X → Y → Type 0} where
  -- what holds of the second elements, or of the first, holds of the pairs too
  pub pairs_second : {Q : X → Y → Type 0} {R : Y → Type 0} → ((x : X) (y : Y) → P x y → R y → Q x y) → {k : List X} {l : List Y} → Pairs P k l → All R l → Pairs Q k l
  pairs_second f no_pairs none = no_pairs
  pairs_second f (pair h p) (more r q) = pair (f _ _ h r) (pairs_second f p q)

  pub pairs_first : {Q : X → Y → Type 0} {R : X → Type 0} → ((x : X) (y : Y) → P x y → R x → Q x y) → {k : List X} {l : List Y} → Pairs P k l → All R k → Pairs Q k l
  pairs_first f no_pairs none = no_pairs
  pairs_first f (pair h p) (more r q) = pair (f _ _ h r) (pairs_first f p q)

  -- what pairs tell of the first elements
  pub firsts : {R : X → Type 0} → ((x : X) (y : Y) → P x y → R x) → {k : List X} {l : List Y} → Pairs P k l → All R k
  firsts f no_pairs = none
  firsts f (pair h p) = more (f _ _ h) (firsts f p)

  -- images that are the same, pair by pair
  pub pairs_alike : {Z : Type 0} {f : X → Z} {g : Y → Z} {k : List X} {l : List Y} → Pairs P k l → map f k ≡ map g l → Pairs (λ x y. P x y × (f x ≡ g y)) k l
  pairs_alike no_pairs e = no_pairs
  pairs_alike {f = f} {g = g} (pair {a = a} {b = b} {xs = xs} {ys = ys} h p) e =
      let this : f a ≡ g b = cc in
      let rest : map f xs ≡ map g ys = cc in
      pair (h, this) (pairs_alike p rest)

  pub alike_pairs : {Z : Type 0} (f : X → Z) (g : Y → Z) → ((x : X) (y : Y) → P x y → f x ≡ g y) → {k : List X} {l : List Y} → Pairs P k l → map f k ≡ map g l
  alike_pairs f g h no_pairs = refl
  alike_pairs f g h (pair {a = a} {b = b} q p) = rw (h a b q, alike_pairs f g h p)

-- ---- some row passes a test

pub any_pairs : {P : Draft → Draft → Type 0} (p q : Draft → Bool) → ((d e : Draft) → P d e → p d ≡ q e) → {ds es : List Draft} → Pairs P ds es → any p ds ≡ any q es
unfolding any
any_pairs p q h no_pairs = refl
any_pairs p q h (pair {a = d} {b = e} r s) = rw (h d e r, any_pairs p q h s)

pub any_none : (p : Draft → Bool) {ds : List Draft} → All (λ d. p d ≡ false) ds → any p ds ≡ false
unfolding any
any_none p none = refl
any_none p (more {x = d} h r) = rw (h, any_none p r)
