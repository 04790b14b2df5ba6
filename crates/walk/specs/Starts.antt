-- Which words start what (document 01, Grammar).
-- Assumes nothing.
use Rattle.std.specs.Prelude.{ℕ, Bool, false, ◌||◌, List, [], ◌∷◌, eqb}
use Rattle.lexemes.specs.Classes as class

-- k is one of these classes, or b
abbrev pub or_one_of : Bool → ℕ → List ℕ → Bool
or_one_of b k [] = b
or_one_of b k (x ∷ l) = or_one_of (b || eqb k x) k l

abbrev pub is_one_of : ℕ → List ℕ → Bool
is_one_of k [] = false
is_one_of k (x ∷ l) = or_one_of (eqb k x) k l

-- TRUE FALSE ZERO ONE ONES UNDEFINED
abbrev pub constant_words : List ℕ
constant_words = class.«TRUE» ∷ class.«FALSE» ∷ class.«ZERO» ∷ class.«ONE» ∷ class.«ONES» ∷ class.«UNDEFINED» ∷ []

abbrev pub is_constant : ℕ → Bool
is_constant k = is_one_of k constant_words

abbrev pub condition_words : List ℕ
condition_words = class.«suppressif» ∷ class.«grayoutif» ∷ class.«disableif» ∷ []

abbrev pub is_condition : ℕ → Bool
is_condition k = is_one_of k condition_words

-- the items that are no conditions
abbrev pub item_words : List ℕ
item_words = class.«subtitle» ∷ class.«text» ∷ class.«label» ∷ class.«goto» ∷ class.«checkbox» ∷ class.«numeric» ∷ class.«oneof» ∷ []

abbrev pub starts_item : ℕ → Bool
starts_item k = is_one_of k item_words
