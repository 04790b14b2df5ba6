-- Flag words among classes: the sum of their values, the first that stands there, and how many do. A sum is bounded, and a class that no word has
-- changes nothing.
-- Assumes nothing.
use mathlib.Core.Path.{◌≡◌, refl, ap, ap₂, sym, ◌∙◌}
use mathlib.Core.List.{List, [], ◌∷◌, ◌++◌, map, map-append, append-nil}
use mathlib.Core.Bool.{Bool, true, false, cond, not, ◌||◌}
use Prim.Native.Nat.{ℕ, ◌+◌, ◌≤◌}
use native.Mathlib.Omega.{arith}
use lib.Dec.{eqb}
use borrow.Author.Tests.{eqb-false, ne_eqb}
use Rattle.ll1.specs.Trees.{Token, Trees, leaves}
use Rattle.ll1.specs.ParseTable.{member}
use Rattle.ll1.specs.Test.{all}
use Rattle.ll1.proofs.Basics.{clash, both, member_append}
use Rattle.grammar.specs.Parts.{when}
use Rattle.grammar.specs.Flags.{FlagWord, flag_words, classes_of, class_of, total, flags, value_or, first_of}

-- ---- no more than the values of all the words

abbrev pub values : List FlagWord → ℕ
values [] = 0
values (w ∷ ws) = w.value + values ws

when_le : (b : Bool) (n : ℕ) → when b n ≤ n
when_le true n = omega arith
when_le false n = omega arith

pub total_le : (ws : List FlagWord) (ks : List ℕ) → total ws ks ≤ values ws
total_le [] ks = omega arith
total_le (w ∷ ws) ks = omega (arith, when_le (member w.class ks) w.value, total_le ws ks)

pub flags_le : (f : Trees) → flags f ≤ values flag_words
flags_le f = total_le flag_words (map class_of (leaves f))

-- ---- classes that are no words

-- none of the words has the class
abbrev pub foreign : List FlagWord → ℕ → Bool
foreign ws k = not (member k (classes_of ws))

abbrev pub none_of : List FlagWord → List ℕ → Bool
none_of ws ks = all (foreign ws) ks

-- what is read of classes passes over those that no word has
abbrev pub PassesOver : {X : Type 0} → List FlagWord → (List ℕ → X) → Type 0
PassesOver ws read = (js : List ℕ) (k : ℕ) (ks : List ℕ) → foreign ws k ≡ true → read (js ++ (k ∷ ks)) ≡ read (js ++ ks)

module _ {X : Type 0} (ws : List FlagWord) (read : List ℕ → X) (over : PassesOver ws read) where
  pub none_before : (js ks : List ℕ) → none_of ws js ≡ true → read (js ++ ks) ≡ read ks
  none_before [] ks h = refl
  none_before (j ∷ js) ks h = let f = both (foreign ws j) _ h in over [] j (js ++ ks) f.0 ∙ none_before js ks f.1

  pub none_after : (ks ms : List ℕ) → none_of ws ms ≡ true → read (ks ++ ms) ≡ read ks
  none_after ks [] h = ap read (append-nil ks)
  none_after ks (m ∷ ms) h = let f = both (foreign ws m) _ h in over ks m ms f.0 ∙ none_after ks ms f.1

  pub read_between : (js ks ms : List ℕ) → none_of ws js ≡ true → none_of ws ms ≡ true → read (js ++ (ks ++ ms)) ≡ read ks
  read_between js ks ms a b = none_before js (ks ++ ms) a ∙ none_after ks ms b

-- ---- a word and those after it

not_member : (b : Bool) → not b ≡ true → b ≡ false
not_member false h = refl
not_member true h = cc

neither : (a b : Bool) → not (a || b) ≡ true → (a ≡ false) × (not b ≡ true)
neither true b h = clash cc
neither false b h = (refl, h)

foreign_parts : (w : FlagWord) (ws : List FlagWord) (k : ℕ) → foreign (w ∷ ws) k ≡ true → (eqb w.class k ≡ false) × (foreign ws k ≡ true)
foreign_parts w ws k h = neither (eqb w.class k) (member k (classes_of ws)) h

-- ---- the sum of the words' values

member_over : (j : ℕ) (js : List ℕ) (k : ℕ) (ks : List ℕ) → eqb j k ≡ false → member j (js ++ (k ∷ ks)) ≡ member j (js ++ ks)
member_over j js k ks h =
    let other : eqb k j ≡ false = ne_eqb k j (λ e. eqb-false j k h (sym e)) in
    member_append j js (k ∷ ks) ∙ rw other (sym (member_append j js ks))

pub total_passes : (ws : List FlagWord) → PassesOver ws (total ws)
total_passes [] js k ks h = refl
total_passes (w ∷ ws) js k ks h =
    let f = foreign_parts w ws k h in
    ap₂ (λ b n. when b w.value + n) (member_over w.class js k ks f.0) (total_passes ws js k ks f.1)

pub flags_between :
    (js : List ℕ) (f : Trees) (ts : List Token)
    → none_of flag_words js ≡ true → none_of flag_words (map class_of ts) ≡ true → total flag_words (js ++ map class_of (leaves f ++ ts)) ≡ flags f
flags_between js f ts a b =
    ap (λ ks. total flag_words (js ++ ks)) (map-append class_of (leaves f) ts)
    ∙ read_between flag_words (total flag_words) (total_passes flag_words) js (map class_of (leaves f)) (map class_of ts) a b

-- ---- the first of the words

pub value_foreign : (other : ℕ) (ws : List FlagWord) (k : ℕ) → foreign ws k ≡ true → value_or other ws k ≡ other
value_foreign other [] k h = refl
value_foreign other (w ∷ ws) k h = let f = foreign_parts w ws k h in rw f.0 (value_foreign other ws k f.1)

pub first_append : (ws : List FlagWord) (other : ℕ) (js ks : List ℕ) → first_of ws other (js ++ ks) ≡ first_of ws (first_of ws other ks) js
first_append ws other [] ks = refl
first_append ws other (j ∷ js) ks = ap (λ n. value_or n ws j) (first_append ws other js ks)

pub first_passes : (ws : List FlagWord) (other : ℕ) → PassesOver ws (first_of ws other)
first_passes ws other js k ks h =
    first_append ws other js (k ∷ ks) ∙ ap (λ n. first_of ws n js) (value_foreign (first_of ws other ks) ws k h) ∙ sym (first_append ws other js ks)

pub first_between :
    (ws : List FlagWord) (other : ℕ) (js ks ms : List ℕ)
    → none_of ws js ≡ true → none_of ws ms ≡ true → first_of ws other (js ++ (ks ++ ms)) ≡ first_of ws other ks
first_between ws other = read_between ws (first_of ws other) (first_passes ws other)

-- what holds of the values of all the words and of the other one holds of the first
module _ (test : ℕ → Bool) where
  value_tested : (n : ℕ) (ws : List FlagWord) (k : ℕ) → test n ≡ true → all (λ w. test w.value) ws ≡ true → test (value_or n ws k) ≡ true
  value_tested n [] k h g = h
  value_tested n (w ∷ ws) k h g = let f = both (test w.value) _ g in by (eqb w.class k) f.0 (value_tested n ws k h f.1)
    where
      by : (b : Bool) → test w.value ≡ true → test (value_or n ws k) ≡ true → test (cond b w.value (value_or n ws k)) ≡ true
      by true h g = h
      by false h g = g

  pub first_tested :
      (ws : List FlagWord) (other : ℕ) (ks : List ℕ) → test other ≡ true → all (λ w. test w.value) ws ≡ true → test (first_of ws other ks) ≡ true
  first_tested ws other [] h g = h
  first_tested ws other (k ∷ ks) h g = value_tested (first_of ws other ks) ws k (first_tested ws other ks h g) g

-- ---- how many of the classes are words

abbrev pub count : List FlagWord → List ℕ → ℕ
count ws [] = 0
count ws (k ∷ ks) = when (member k (classes_of ws)) 1 + count ws ks

count_append : (ws : List FlagWord) (js ks : List ℕ) → count ws (js ++ ks) ≡ count ws js + count ws ks
count_append ws [] ks = omega arith
count_append ws (j ∷ js) ks = omega (arith, count_append ws js ks)

pub count_passes : (ws : List FlagWord) → PassesOver ws (count ws)
count_passes ws js k ks h =
    let none : count ws (k ∷ ks) ≡ count ws ks = rw (not_member (member k (classes_of ws)) h) (omega arith) in
    omega (arith, count_append ws js (k ∷ ks), count_append ws js ks, none)
