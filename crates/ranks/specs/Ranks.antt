-- The ranks of rules, and an order in which every rule comes after those that it refers to (W-202).
use Rattle.std.specs.Prelude.{◌≡◌, true, List, [], ◌++◌, ℕ, zero, suc, ◌≤◌, ◌<◌, min, eqb, length, get_or, take, replicate}
use Rattle.numbers.specs.Numbers.{picked}
use Rattle.circles.specs.Circles.{Step, leads, closure, has_step, last}

-- ---- what is believed of an order

-- the rules 1 to n, each once and after those that it refers to by a step of the list, and then 0
pub record InOrder (l : List Step) (n : ℕ) (order : List ℕ) : Type 0 where
  -- at the first n places stand rules
  pub rule : (i : ℕ) → i < n → (0 < get_or order i 0) × (get_or order i 0 ≤ n)
  -- every rule at one of them
  pub place : (a : ℕ) → 0 < a → a ≤ n → (i : ℕ) × (i < n) × (get_or order i 0 ≡ a)
  -- and no rule at two
  pub once : (i j : ℕ) → i < j → j < n → get_or order i 0 ≡ get_or order j 0 → ⊥
  -- what a rule refers to stands before it
  pub earlier : (i b : ℕ) → i < n → leads l (get_or order i 0) b ≡ true → (j : ℕ) × (j < i) × (get_or order j 0 ≡ b)
  -- past the rules stands 0
  pub past : (i : ℕ) → n ≤ i → get_or order i 0 ≡ 0

-- ---- ranks and order, computed

-- how many rules the rule a reaches by one or more steps between rules up to n
unfoldable pub rank : List Step → ℕ → ℕ → ℕ
rank l n a = length (picked (closure (leads l) (suc n) a) 0 256)

-- the rules 1 to n of rank below k, by rising rank, those of one rank by number
unfoldable pub by_rank : (ℕ → ℕ) → ℕ → ℕ → List ℕ
by_rank ranks n zero = []
by_rank ranks n (suc k) = by_rank ranks n k ++ picked (λ a. eqb (ranks a) k) 1 n

-- the 256 numbers that begin with the list, and are 0 past it
unfoldable pub padded : List ℕ → List ℕ
padded l = take 256 (l ++ replicate 256 0)

-- the order of the rules 1 to n, and then 0; n above 255 stands for 255
unfoldable pub order_of : List Step → ℕ → List ℕ
order_of l n = padded (by_rank (rank l (last n)) (last n) (last n))

-- ---- the same by a closed map of `circles`

-- how many rules the rule a reaches; what is above 255 reaches none
unfoldable pub rank_in : List ℕ → ℕ → ℕ
rank_in words a = length (picked (has_step words a) 0 256)

-- the ranks of the rule numbers 0 to 255
pub record RanksOf (words ranks : List ℕ) : Type 0 where
  pub size : length ranks ≡ 256
  pub same : (a : ℕ) → a < 256 → get_or ranks a 0 ≡ rank_in words a

-- the order of the rules 1 to n, and then 0
unfoldable pub order_in : List ℕ → ℕ → List ℕ
order_in words n = padded (by_rank (rank_in words) (last n) (last n))

-- ---- filling an order, place by place

-- the places hold the list and are 0 past it; i is the next place
pub record Filled (l places : List ℕ) (i : ℕ) : Type 0 where
  pub size : length places ≡ 256
  pub next : i ≡ min (length l) 256
  pub same : (j : ℕ) → j < 256 → get_or places j 0 ≡ get_or l j 0

-- whatever list the places held, they now hold that list and more
pub record Appends (before : List ℕ) (i : ℕ) (more after : List ℕ) (j : ℕ) : Type 0 where
  pub behind : (l : List ℕ) → Filled l before i → Filled (l ++ more) after j
