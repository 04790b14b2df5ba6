-- W-205: the list of reserved words rises strictly in byte order, by one computed test and a law for any list.
-- Assumes nothing.
use mathlib.Core.Path.{◌≡◌, refl}
use mathlib.Core.Bool.{Bool, true, ◌&&◌, false≢true}
use mathlib.Core.List.{List, [], ◌∷◌, map}
use Prim.Native.Nat.{ℕ, zero, suc, ◌<◌}
use native.Mathlib.Nat.{le_of_suc-le-suc}
use native.Mathlib.Omega.{arith}
use lib.Dec.{eqb, ltb}
use lib.ListN.{length, get_or}
use borrow.Author.Tests.{eqb-true, eq-eqb, ltb-true, lt-ltb}
use Rattle.std.specs.Borrow.{Bor}
use borrow.Fn.Kinds.{Dens, ended_of}
use contract.Lifetimes.{Lfts}
use denote.Triple.Clauses.{AtExit}
use Rattle.wordlist.specs.Order.{before, Rises}
use Rattle.wordlist.specs.Filled.{fill_to, filled}
use Rattle.wordlist.specs.Words.{reserved}
use Rattle.wordlist.proofs.Lists.{either, and_true}
use Rattle.wordlist.proofs.list.words.Kinds as kinds
use Rattle.wordlist.proofs.list.words.Reads as promise

-- ---- byte order

-- the first bytes decide, or they are equal and the others do
first_bytes_lem : {A : Type 0} (a b : ℕ) (w v : List ℕ) → before (a ∷ w) (b ∷ v) ≡ true → (a < b → A) → (a ≡ b → before w v ≡ true → A) → A
unfolding before
first_bytes_lem a b w v h less equal =
    either (ltb a b) (λ e. less (ltb-true a b e))
    (λ e.
    let rest : eqb a b && before w v ≡ true = rw e at h in
    let both = and_true (eqb a b) (before w v) rest in
    equal (eqb-true a b both.0) both.1)

less_before : (a b : ℕ) (w v : List ℕ) → a < b → before (a ∷ w) (b ∷ v) ≡ true
unfolding before
less_before a b w v h = rw (lt-ltb a b h)

equal_before : (a b : ℕ) (w v : List ℕ) → a ≡ b → before w v ≡ true → before (a ∷ w) (b ∷ v) ≡ true
unfolding before
equal_before a b w v e h = either (ltb a b) (λ t. rw t) (λ t. rw (t, eq-eqb a b e) h)

before_trans : (u w v : List ℕ) → before u w ≡ true → before w v ≡ true → before u v ≡ true
unfolding before
before_trans [] [] v p q = absurd (false≢true p)
before_trans [] (b ∷ w) [] p q = absurd (false≢true q)
before_trans [] (b ∷ w) (c ∷ v) p q = refl
before_trans (a ∷ u) [] v p q = absurd (false≢true p)
before_trans (a ∷ u) (b ∷ w) [] p q = absurd (false≢true q)
before_trans (a ∷ u) (b ∷ w) (c ∷ v) p q =
    first_bytes_lem a b u w p
    (λ l. first_bytes_lem b c w v q (λ m. less_before a c u v (omega arith)) (λ m r. less_before a c u v (omega arith)))
    (λ l s. first_bytes_lem b c w v q (λ m. less_before a c u v (omega arith)) (λ m r. equal_before a c u v (omega arith) (before_trans u w v s r)))

-- ---- a list that rises

-- the test: each text comes before the next
abbrev rising : List (List ℕ) → Bool
rising [] = true
rising (v ∷ []) = true
rising (v ∷ u ∷ us) = before v u && rising (u ∷ us)

head_before : (v : List ℕ) (vs : List (List ℕ)) → rising (v ∷ vs) ≡ true → (k : ℕ) → k < length vs → before v (get_or vs k []) ≡ true
head_before v [] t k h = absurd (omega arith)
head_before v (u ∷ us) t zero h = (and_true (before v u) (rising (u ∷ us)) t).0
head_before v (u ∷ us) t (suc k) h =
    let both = and_true (before v u) (rising (u ∷ us)) t in
    before_trans v u (get_or us k []) both.0 (head_before u us both.1 k (le_of_suc-le-suc h))

tail_rises : (v : List ℕ) (vs : List (List ℕ)) → rising (v ∷ vs) ≡ true → rising vs ≡ true
tail_rises v [] t = refl
tail_rises v (u ∷ us) t = (and_true (before v u) (rising (u ∷ us)) t).1

-- what the test says of any list
rises_in : (ws : List (List ℕ)) → rising ws ≡ true → Rises ws
rises_in [] t i j l h = absurd (omega arith)
rises_in (v ∷ vs) t i zero l h = absurd (omega arith)
rises_in (v ∷ vs) t zero (suc j) l h = head_before v vs t j (le_of_suc-le-suc h)
rises_in (v ∷ vs) t (suc i) (suc j) l h = rises_in vs (tail_rises v vs t) i j (le_of_suc-le-suc l) (le_of_suc-le-suc h)

-- ---- the reserved words

-- the specification's list rises
pub reserved_rises : Rises reserved
unfolding reserved before
reserved_rises = rises_in reserved refl

-- and so do the rows, where blanks follow each word
rows_rise : Rises (map filled reserved)
unfolding reserved before fill_to
rows_rise = rises_in (map filled reserved) refl

-- the list that is printed in the code, as the contract of `words` gives it
pub list_rises :
    (κs : Lfts 1) (a : Dens κs kinds.ps) (r : Bor (List (List ℕ))) (e : AtExit (ended_of 1 kinds.ps kinds.r) κs)
    → promise.Learnt κs a r e → Rises r.now
list_rises κs a r e p = rw p rows_rise
