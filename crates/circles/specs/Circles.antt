-- Steps between rules, and which of them stand on a circle (W-202, refusal 14).
use Rattle.std.specs.Prelude.{◌≡◌, Bool, true, false, cond, ◌&&◌, ◌||◌, List, [], ◌∷◌, ℕ, zero, suc, ◌+◌, ◌*◌, ◌≤◌, ◌<◌, min, ltb, eqb, length}
use Rattle.numbers.specs.Numbers.{used, with_used}

-- ---- what is believed: steps, paths and circles

-- rule numbers are 1 to 255 (document 01, refusal 10)
abbrev pub is_rule : ℕ → Bool
is_rule n = ltb 0 n && ltb n 256

-- a `ruleref` inside a rule: from the rule that it stands in to the rule that it finds (W-202)
pub record Step : Type 0 where
  pub from : ℕ
  pub to : ℕ

-- a step of the list leads from a to b
unfoldable pub leads : List Step → ℕ → ℕ → Bool
leads [] a b = false
leads (s ∷ l) a b = eqb s.from a && eqb s.to b || leads l a b

-- a path from a to b of none or more steps, where r a b says that a step leads from a to b
pub data Reaches (r : ℕ → ℕ → Bool) : ℕ → ℕ → Type 0 where
  here : {a : ℕ} → Reaches r a a
  onward : {a b c : ℕ} → r a b ≡ true → Reaches r b c → Reaches r a c

-- "a rule that reaches itself through references" (W-202): by one or more steps
abbrev pub ReachesItself : List Step → ℕ → Type 0
ReachesItself l a = (b : ℕ) × (leads l a b ≡ true) × Reaches (leads l) b a

-- the step from a to b "is a step of such a circle" (W-202, refusal 14): a path leads back
abbrev pub Circular : List Step → ℕ → ℕ → Type 0
Circular l a b = Reaches (leads l) b a

-- no step stands on a circle
abbrev pub NoCircle : List Step → Type 0
NoCircle l = (a b : ℕ) → leads l a b ≡ true → Circular l a b → ⊥

-- every step leads from one of the rules 1 to n to one of them
pub record Within (l : List Step) (n : ℕ) : Type 0 where
  pub few : n < 256
  pub from : (a b : ℕ) → leads l a b ≡ true → (0 < a) × (a ≤ n)
  pub to : (a b : ℕ) → leads l a b ≡ true → (0 < b) × (b ≤ n)

-- ---- the same, computed

-- Warshall's closure: a path of one or more steps leads from a to b, and the rules between the two all lie below k
unfoldable pub closure : (ℕ → ℕ → Bool) → ℕ → ℕ → ℕ → Bool
closure r zero a b = r a b
closure r (suc k) a b = closure r k a b || closure r k a k && closure r k k b

-- the step from a to b, between rules up to n, stands on a circle
unfoldable pub circular : List Step → ℕ → ℕ → ℕ → Bool
circular l n a b = eqb a b || closure (leads l) (suc n) b a

-- ---- the map of steps: row a is the numbers 256 a to 256 a + 255 of a map of `numbers`

-- the map has a step from a to b
unfoldable pub has_step : List ℕ → ℕ → ℕ → Bool
has_step words a b = used words (a * 256 + b)

-- the map has the steps of the list, and no other
pub record Maps (words : List ℕ) (l : List Step) : Type 0 where
  pub size : length words ≡ 1024
  pub same : (a b : ℕ) → a < 256 → b < 256 → has_step words a b ≡ leads l a b

-- the map with the step from a to b too; what is no rule number changes nothing
unfoldable pub added : List ℕ → ℕ → ℕ → List ℕ
added words a b = cond (is_rule a && is_rule b) (with_used words (a * 256 + b)) words

-- ---- closing a map

-- row a, if it has k, has gained row k; the other rows are as before
pub record RowJoined (words : List ℕ) (a k : ℕ) (after : List ℕ) : Type 0 where
  pub size : length after ≡ length words
  pub same : (x y : ℕ) → x < 256 → y < 256
      → has_step after x y ≡ (has_step words x y || eqb x a && (has_step words x k && has_step words k y))

-- Warshall's turn k over the rows below n: each of them that had k has gained row k; the other rows are as before
pub record Turned (words : List ℕ) (k n : ℕ) (after : List ℕ) : Type 0 where
  pub size : length after ≡ length words
  pub same : (x y : ℕ) → x < 256 → y < 256
      → has_step after x y ≡ (has_step words x y || ltb x n && (has_step words x k && has_step words k y))

-- the last of n rules; there are 255 at the most
abbrev pub last : ℕ → ℕ
last n = min n 255

-- the rows of the rules up to n now have a step wherever a path of one or more steps between rules up to n led
pub record Closed (words : List ℕ) (n : ℕ) (after : List ℕ) : Type 0 where
  pub size : length after ≡ length words
  pub same : (a b : ℕ) → a ≤ last n → b < 256 → has_step after a b ≡ closure (has_step words) (suc (last n)) a b

-- ---- what a closed map says

-- the step from a to b stands on a circle; what is no rule number stands on none
unfoldable pub circular_in : List ℕ → ℕ → ℕ → Bool
circular_in words a b = is_rule a && is_rule b && (eqb a b || has_step words b a)
