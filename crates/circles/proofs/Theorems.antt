-- What is believed of circles (W-202, refusal 14): which steps of a list stand on one, and that the closed map finds exactly these.
use mathlib.Core.Path.{◌≡◌, sym, ◌∙◌}
use mathlib.Core.Bool.{true, false, false≢true}
use mathlib.Core.Logic.{◌↔◌}
use mathlib.Core.List.{List}
use Prim.Native.Nat.{ℕ}
use Rattle.circles.specs.Circles.{Step, leads, Reaches, here, onward, ReachesItself, Circular, NoCircle, Within, Maps, Closed, circular_in}
use Rattle.circles.proofs.Reaching.{not_yes, path_join, circle_path, path_circle}
use Rattle.circles.proofs.Steps.{closed_circular}

-- ---- a list of steps

module _ (l : List Step) where
  -- a list has a step on a circle exactly where some rule reaches itself through references
  pub circle_itself : ((a : ℕ) × (b : ℕ) × (leads l a b ≡ true) × Circular l a b) ↔ ((a : ℕ) × ReachesItself l a)
  circle_itself = (λ u. (u.0, (u.1, u.2, u.3)), λ u. (u.0, u.1.0, u.1.1, u.1.2))

  pub no_circle_itself : NoCircle l ↔ ((a : ℕ) → ReachesItself l a → ⊥)
  no_circle_itself = (λ free a u. free a u.0 u.1 u.2, λ none a b e p. none a (b, e, p))

  -- both ends of a step on a circle reach themselves
  pub start_itself : (a b : ℕ) → leads l a b ≡ true → Circular l a b → ReachesItself l a
  start_itself a b e p = (b, e, p)

  pub end_itself : {a b : ℕ} → leads l a b ≡ true → Circular l a b → ReachesItself l b
  end_itself {a} {b} e here = (b, e, here)
  end_itself {a} {b} e (onward {b = x} f p) = (x, f, path_join (leads l) p (onward e here))

-- ---- the closed map of its steps

module _ {ws : List ℕ} {l : List Step} {n : ℕ} {after : List ℕ} (v : Maps ws l) (w : Within l n) (c : Closed ws n after) where
  -- a step is found exactly where it stands on a circle
  pub circle_found : (a b : ℕ) → leads l a b ≡ true → (circular_in after a b ≡ true) ↔ Circular l a b
  circle_found a b e =
      let same = closed_circular v w c a b e in
      (λ t. circle_path l n w a b (sym same ∙ t), λ p. same ∙ path_circle l n w p)

  -- no step is found exactly where no rule reaches itself
  pub none_found : ((a b : ℕ) → leads l a b ≡ true → circular_in after a b ≡ false) ↔ ((a : ℕ) → ReachesItself l a → ⊥)
  none_found = (
    λ none a u. false≢true (sym (none a u.0 u.1) ∙ (circle_found a u.0 u.1).1 u.2),
    λ none a b e. not_yes _ (λ t. none a (b, e, (circle_found a b e).0 t)),
  )

  module _ (a b : ℕ) (e : leads l a b ≡ true) where
    -- a step without a way back, though it leads from one circle to another, is not found
    pub between_circles : (Reaches (leads l) b a → ⊥) → circular_in after a b ≡ false
    between_circles none = not_yes _ (λ t. none ((circle_found a b e).0 t))

    -- nor is one that leads from a rule on no circle into a circle
    pub into_circle : (ReachesItself l a → ⊥) → circular_in after a b ≡ false
    into_circle none = between_circles (λ p. none (start_itself l a b e p))

    -- nor one that leads out of a circle to a rule on none
    pub out_of_circle : (ReachesItself l b → ⊥) → circular_in after a b ≡ false
    out_of_circle none = between_circles (λ p. none (end_itself l e p))
