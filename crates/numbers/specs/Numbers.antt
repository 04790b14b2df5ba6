-- Question numbers (document 01, "Rows"): the map of used numbers, the free numbers, and which question gets which number.
use Rattle.std.specs.Prelude.{◌≡◌, Bool, true, false, not, cond, ◌&&◌, ◌||◌, ℕ, zero, suc, ◌+◌, ◌-◌, ◌/◌, ◌%◌, ◌^◌, ◌<◌, ltb, eqb, length, get_or, set, take, replicate, Option, Some, None}
use mathlib.Core.List.{List, [], ◌∷◌, head_d}
use Rattle.std.specs.Int.Bits.{bit_or}

-- ---- numbers

-- question numbers are 1 to 65,535 (document 01, refusal 5); 65,536 stands for no number
abbrev pub number_limit : ℕ
number_limit = 65536

-- n is a number that a question can bear
abbrev pub is_number : ℕ → Bool
is_number n = ltb 0 n && ltb n number_limit

-- of the m numbers from n up those that p holds of, ascending
unfoldable pub picked : (ℕ → Bool) → ℕ → ℕ → List ℕ
picked p n zero = []
picked p n (suc m) = let more = picked p (n + 1) m in cond (p n) (n ∷ more) more

-- the question numbers from n up that are not taken, ascending
unfoldable pub free_from : (ℕ → Bool) → ℕ → List ℕ
free_from taken n = picked (λ k. is_number k && not (taken k)) n (number_limit - n)

-- ---- the map of used question numbers (document 01, "Rows")

-- the map at the start: 1,024 words, all 0
unfoldable pub empty_map : List ℕ
empty_map = replicate 1024 0

-- the binary digit of a word at place j
abbrev pub digit : ℕ → ℕ → ℕ
digit w j = w / 2 ^ j % 2

-- n is used: digit n % 64 of word n / 64 is 1
unfoldable pub used : List ℕ → ℕ → Bool
used words n = eqb (digit (get_or words (n / 64) 0) (n % 64)) 1

-- the map in which n is used too; what is no question number changes nothing
unfoldable pub with_used : List ℕ → ℕ → List ℕ
with_used words n = cond (is_number n) (set words (n / 64) (bit_or (get_or words (n / 64) 0) (2 ^ (n % 64)))) words

-- the map in which every number of a list is used too
unfoldable pub with_all_used : List ℕ → List ℕ → List ℕ
with_all_used words [] = words
with_all_used words (n ∷ l) = with_all_used (with_used words n) l

-- how many numbers are used (document 01, "Rows": found from the ones in the map)
unfoldable pub used_count : List ℕ → ℕ
used_count words = length (picked (used words) 0 number_limit)

-- the smallest question number from n up that is not used, 65,536 where there is none
unfoldable pub first_free : List ℕ → ℕ → ℕ
first_free words n = head_d (free_from (used words) n) number_limit

-- a number that may be absent, as a number: 65,536 stands for none
abbrev pub number_or_limit : Option ℕ → ℕ
number_or_limit None = number_limit
number_or_limit (Some n) = n

-- ---- own numbers: what each question writes with `questionid`, in source order, 0 where it writes nothing

-- n stands in the list
unfoldable pub mem : ℕ → List ℕ → Bool
mem n [] = false
mem n (q ∷ l) = eqb n q || mem n l

-- n is a question number, and a question bears it
abbrev pub borne : List ℕ → ℕ → Bool
borne l n = is_number n && mem n l

-- the numbers of 1 to 65,535 that no question bears, ascending
abbrev pub free_numbers : List ℕ → List ℕ
free_numbers l = free_from (borne l) 1

-- how many these are: the free count (document 01, "Rows")
abbrev pub free_count : List ℕ → ℕ
free_count l = length (free_numbers l)

-- the i-th 0 becomes the i-th of fs; once these have run out, 0 stays
unfoldable pub fill : List ℕ → List ℕ → List ℕ
fill fs [] = []
fill [] (q ∷ l) = q ∷ l
fill (f ∷ fs) (zero ∷ l) = f ∷ fill fs l
fill (f ∷ fs) (suc q ∷ l) = suc q ∷ fill (f ∷ fs) l

-- the questions' numbers: the i-th question that writes none gets the i-th smallest number from 1 up that no question writes
unfoldable pub numbered : List ℕ → List ℕ
numbered l = fill (free_numbers l) l

-- how many questions write none
unfoldable pub unwritten : List ℕ → ℕ
unwritten [] = 0
unwritten (zero ∷ l) = suc (unwritten l)
unwritten (suc q ∷ l) = unwritten l

-- the numbers that are written
unfoldable pub written : List ℕ → List ℕ
written [] = []
written (zero ∷ l) = written l
written (suc q ∷ l) = suc q ∷ written l

-- no element stands in the list twice
unfoldable pub distinct : List ℕ → Bool
distinct [] = true
distinct (q ∷ l) = not (mem q l) && distinct l

-- no element lies above 65,535 (document 01, refusal 5)
abbrev pub Below : List ℕ → Type 0
Below l = (k : ℕ) → mem k l ≡ true → k < number_limit

-- ---- the map beside a list

-- the map holds the question numbers of the list, and no other
pub record Holds (words l : List ℕ) : Type 0 where
  pub size : length words ≡ 1024
  pub same : (k : ℕ) → used words k ≡ borne l k

-- own numbers, each 0 of which has got, in order, the next number from n up that the map leaves free
unfoldable pub given : List ℕ → ℕ → List ℕ → List ℕ
given words n l = fill (free_from (used words) n) l

-- the map in which the numbers so given are used too
unfoldable pub given_map : List ℕ → ℕ → List ℕ → List ℕ
given_map words n l = with_all_used words (take (unwritten l) (free_from (used words) n))
