-- Bytes and words written one after another, forward and from the end.
-- Assumes nothing.
use Prim.Native.Nat.{ℕ, zero, suc, ◌+◌, ◌-◌, ◌≤◌, ◌<◌, min}
use native.Mathlib.Numerals.{add-one}
use native.Mathlib.Omega.{arith}
use mathlib.Core.Path.{◌≡◌, refl, sym, ap, ◌∙◌}
use mathlib.Core.List.{List, [], ◌∷◌, ◌++◌, append_assoc, append-nil}
use lib.ListN.{length, get_or, set, take, drop, length-set, length-take, length-append, drop_of_length-le, take-append-drop}
use lib.Seq.{sets, sets-eq, set_comm, set_out, take_all, take-nil, drop-cons, get_or-take, length-sets, length-take-le}
use borrow.Rule.Slice.PartMut.{put_mid}
use Rattle.std.proofs.lemmas.List.{drop-drop}
use Rattle.lexemes.proofs.Lists.{either_less}
use Rattle.answers.specs.Text.{Word, gap_after, text_of}
use Rattle.spellings.specs.Output.{MOST, end_of, with_bytes, Puts, PutsBefore, Prints, PrintsBefore}

-- ---- runs of stores

pub sets_append : (o : List ℕ) (i : ℕ) (xs ys : List ℕ) → sets o i (xs ++ ys) ≡ sets (sets o i xs) (i + length xs) ys
sets_append o i [] ys = ap (λ (k : ℕ). sets o k ys) (omega arith)
sets_append o i (x ∷ xs) ys = sets_append (set o i x) (suc i) xs ys ∙ ap (λ (k : ℕ). sets (sets (set o i x) (suc i) xs) k ys) (omega arith)

pub set_sets : (o : List ℕ) (i j x : ℕ) (ys : List ℕ) → i < j → sets (set o i x) j ys ≡ set (sets o j ys) i x
set_sets o i j x [] h = refl
set_sets o i j x (y ∷ ys) h =
    ap (λ (l : List ℕ). sets l (suc j) ys) (set_comm o i j x y (λ e. omega arith)) ∙ set_sets (set o j y) i (suc j) x ys (omega arith)

sets_comm : (o : List ℕ) (i j : ℕ) (xs ys : List ℕ) → i + length xs ≤ j → sets (sets o i xs) j ys ≡ sets (sets o j ys) i xs
sets_comm o i j [] ys h = refl
sets_comm o i j (x ∷ xs) ys h =
    sets_comm (set o i x) (suc i) j xs ys (omega arith) ∙ ap (λ (l : List ℕ). sets l (suc i) xs) (set_sets o i j x ys (omega arith))

-- past the end
pub sets_out : (o : List ℕ) (i : ℕ) (bs : List ℕ) → length o ≤ i → sets o i bs ≡ o
sets_out o i [] h = refl
sets_out o i (b ∷ bs) h = rw (set_out o i b h) (sets_out o (suc i) bs (omega arith))

-- ---- bytes as far as is counted

take_append : (n : ℕ) (xs ys : List ℕ) → take n (xs ++ ys) ≡ take n xs ++ take (n - length xs) ys
take_append n [] ys = let z : n - 0 ≡ n = omega arith in rw (take-nil n, z)
take_append zero (x ∷ xs) ys = let z : 0 - suc (length xs) ≡ 0 = omega arith in rw z
take_append (suc n) (x ∷ xs) ys = let z : suc n - suc (length xs) ≡ n - length xs = omega arith in rw z (ap (◌∷◌ x) (take_append n xs ys))

-- all of few bytes
pub few_bytes : (o : List ℕ) (at : ℕ) (bs : List ℕ) → at + length bs ≤ MOST → with_bytes o at bs ≡ sets o at bs
few_bytes o at bs h = ap (λ (l : List ℕ). sets o at l) (take_all (MOST - at) bs (omega arith))

-- all that fit
pub all_bytes : (o : List ℕ) (at : ℕ) (bs : List ℕ) → length o ≤ MOST → with_bytes o at bs ≡ sets o at bs
all_bytes o at [] h = rw (take-nil (MOST - at))
all_bytes o at (b ∷ bs) h =
    either_less at MOST
    (λ l. let n : MOST - at ≡ suc (MOST - suc at) = omega arith in rw n (all_bytes (set o at b) (suc at) bs (omega (arith, length-set o at b))))
    (λ l. let n : MOST - at ≡ 0 = omega arith in rw n (sym (sets_out o at (b ∷ bs) (omega arith))))

-- bytes that are copied over those from a place on, as far as they fit
pub copied : (o bs : List ℕ) (at a k : ℕ) → length o ≤ MOST → a ≡ min at (length o) → k ≡ min (min (at + length bs) MOST) (length o) - a → put_mid a k o (take k bs) ≡ with_bytes o at bs
copied o bs at a k h e f =
    either_less at (length o)
    (λ l.
    let start : a ≡ at = omega arith in
    let few : k ≤ length bs = omega arith in
    let front : length (take k bs) ≡ k = length-take-le k bs few in
    let rest : sets (sets o at (take k bs)) (at + k) (drop k bs) ≡ sets o at (take k bs) =
    either_less k (length bs) (λ m. sets_out _ (at + k) (drop k bs) (omega (arith, length-sets o at (take k bs)))) (λ m. ap (sets (sets o at (take k bs)) (at + k)) (drop_of_length-le bs m)) in
    let split : sets o at bs ≡ sets o at (take k bs) = ap (sets o at) (sym (take-append-drop k bs)) ∙ sets_append o at (take k bs) (drop k bs) ∙ rw front rest in
    let whole : sets o at (take k bs) ≡ take at o ++ (take k bs ++ drop (at + k) o) = sets-eq (take k bs) o at (omega (arith, front)) ∙ rw front (append_assoc (take at o) (take k bs) (drop (at + k) o)) in
    rw (start, drop-drop k at o) (sym (all_bytes o at bs h ∙ split ∙ whole)))
    (λ l.
    let start : a ≡ length o = omega arith in
    let none : k ≡ 0 = omega arith in
    let all : take (length o) o ≡ o = take_all (length o) o (omega arith) in
    let past : drop (length o) o ≡ [] = drop_of_length-le o (omega arith) in
    rw (start, none, all, past) (append-nil o ∙ sym (all_bytes o at bs h ∙ sets_out o at bs l)))

-- ---- bytes after bytes

pub next_in : (o : List ℕ) (at b : ℕ) → at + 2 ≤ length o → at + 1 < length (set o at b)
next_in o at b h = rw (length-set o at b) (omega arith)

-- bytes past the end
pub puts_past : {o bs : List ℕ} {at r : ℕ} → length o ≤ at → r ≡ end_of at (length bs) → at ≤ MOST → Puts o at bs o r
puts_past {o} {bs} {at} h e l = record { stored = sym (all_bytes o at bs (omega arith) ∙ sets_out o at bs h); end = e }

pub puts_none : (o : List ℕ) (at : ℕ) → Puts o at [] o at
puts_none o at = record { stored = rw (take-nil (MOST - at)); end = omega arith }

pub puts_then : {o o₁ o₂ : List ℕ} {at r₁ r₂ : ℕ} {xs ys : List ℕ} → Puts o at xs o₁ r₁ → Puts o₁ r₁ ys o₂ r₂ → Puts o at (xs ++ ys) o₂ r₂
puts_then {o} {o₁} {o₂} {at} {r₁} {r₂} {xs} {ys} p q =
    let left : MOST - at - length xs ≡ MOST - r₁ = omega (arith, p.end) in
    let place : at + length (take (MOST - at) xs) ≡ r₁ = omega (arith, p.end, length-take (MOST - at) xs) in
    record {
      stored = q.stored ∙ rw p.stored (sym (rw (take_append (MOST - at) xs ys, left, sets_append o at (take (MOST - at) xs) (take (MOST - r₁) ys), place)));
      end = omega (arith, p.end, q.end, length-append xs ys);
    }

-- ---- bytes before bytes

pub before_none : (o : List ℕ) (end : ℕ) → PutsBefore o end [] o end
before_none o end = record { fit = λ h l. (omega arith, refl) }

pub then_before : {o o₁ o₂ : List ℕ} {end r₁ r₂ : ℕ} {xs ys : List ℕ} → PutsBefore o end ys o₁ r₁ → PutsBefore o₁ r₁ xs o₂ r₂ → PutsBefore o end (xs ++ ys) o₂ r₂
then_before {o} {o₁} {o₂} {end} {r₁} {r₂} {xs} {ys} p q =
    record {
      fit = λ h l.
          let n = length-append xs ys in
          let a = p.fit (omega arith) l in
          let b = q.fit (omega (arith, a.0)) (omega (arith, a.0)) in
          let e : r₂ + length xs ≡ r₁ = b.0 in
          (omega (arith, a.0, b.0), b.1 ∙ rw a.1 (sym (sets_append o r₂ xs ys ∙ rw e (sets_comm o r₂ r₁ xs ys (omega arith)))));
    }

-- bytes that are counted first and then written before a place
pub counted_before : {o o' o₁ o₂ : List ℕ} {end n at r : ℕ} {bs : List ℕ} → Puts o₁ 0 bs o₂ n → at ≡ end - n → Puts o at bs o' r → PutsBefore o end bs o' at
counted_before {o} {o'} {o₁} {o₂} {end} {n} {at} {r} {bs} p e q =
    record {
      fit = λ h l.
          let k : n ≡ length bs = omega (arith, p.end) in
          (omega (arith, k), q.stored ∙ few_bytes o at bs (omega (arith, k)));
    }

-- ---- words

pub text_append : (a b : List Word) → text_of (a ++ b) ≡ text_of a ++ text_of b
unfolding text_of
text_append [] b = refl
text_append (w ∷ a) b = rw (text_append a b) (sym (append_assoc w _ (text_of b)))

pub prints_none : (o : List ℕ) (at : ℕ) → Prints o at [] o at
unfolding text_of
prints_none o at = record { puts = puts_none o at }

pub prints_then : {o o₁ o₂ : List ℕ} {at r₁ r₂ : ℕ} {a b : List Word} → Prints o at a o₁ r₁ → Prints o₁ r₁ b o₂ r₂ → Prints o at (a ++ b) o₂ r₂
prints_then {a = a} {b = b} p q = record { puts = rw text_append (puts_then p.puts q.puts) }

pub print_before : {o o₁ o₂ : List ℕ} {end r₁ r₂ : ℕ} {a b : List Word} → PrintsBefore o end b o₁ r₁ → PrintsBefore o₁ r₁ a o₂ r₂ → PrintsBefore o end (a ++ b) o₂ r₂
print_before {a = a} {b = b} p q = record { puts = rw text_append (then_before p.puts q.puts) }

-- ---- single bytes

pub put_one : {o o' : List ℕ} {at b r : ℕ} → o' ≡ set o at b → r ≡ end_of at 1 → length o ≤ MOST → Puts o at (b ∷ []) o' r
put_one {o} {at = at} {b = b} e f h = record { stored = e ∙ sym (all_bytes o at (b ∷ []) h); end = f }

pub one_before : {o o' : List ℕ} {end at b : ℕ} → at ≡ end - 1 → o' ≡ set o at b → PutsBefore o end (b ∷ []) o' at
one_before f e = record { fit = λ h l. (omega arith, e) }

-- bytes written before the end of as many, where they are counted or far past the output
pub before_end : {o o' : List ℕ} {at end r : ℕ} {bs : List ℕ} → end ≡ end_of at (length bs) → PutsBefore o end bs o' r → (MOST < at + length bs → (at ≤ MOST) × (length o + length bs ≤ MOST)) → Puts o at bs o' end
before_end {o} {at = at} {r = r} {bs = bs} e p far =
    either_less MOST (at + length bs)
    (λ h.
    let low = (far h).0 in
    let past = (far h).1 in
    let a = p.fit (omega arith) (omega arith) in
    record { stored = a.1 ∙ sets_out o r bs (omega (arith, a.0)) ∙ sym (all_bytes o at bs (omega arith) ∙ sets_out o at bs (omega arith)); end = e })
    (λ h.
    let a = p.fit (omega arith) (omega arith) in
    let s : r ≡ at = omega (arith, a.0) in
    record { stored = a.1 ∙ rw s (sym (few_bytes o at bs h)); end = e })

-- how many bytes were written before the last place of all
pub count_before : {o o' : List ℕ} {r n : ℕ} {bs : List ℕ} → length bs ≤ MOST → PutsBefore o MOST bs o' r → n ≡ MOST - r → n ≡ length bs
count_before h p e = let a = p.fit h (omega arith) in omega (arith, a.0)

-- how many bytes were written from the first place on
pub count_after : {o o' : List ℕ} {n : ℕ} {bs : List ℕ} → length bs ≤ MOST → Puts o 0 bs o' n → n ≡ length bs
count_after h p = omega (arith, p.end)

-- ---- a word and what stands after it

pub print_word : {o o₁ o₂ : List ℕ} {at r₁ r₂ gap : ℕ} {w : Word} → Puts o at w o₁ r₁ → Puts o₁ r₁ (gap ∷ []) o₂ r₂ → gap_after w ≡ gap → Prints o at (w ∷ []) o₂ r₂
unfolding text_of
print_word p q e = record { puts = rw e (puts_then p q) }

-- ---- the first bytes of a list, one by one

module _ (l : List ℕ) (count k : ℕ) (h : count ≤ length l) where
  pub part_next : k < count → drop k (take count l) ≡ (get_or l k 0 ∷ []) ++ drop (k + 1) (take count l)
  part_next n =
      let all = length-take-le count l h in
      rw (add-one k) (drop-cons (take count l) k 0 (omega (arith, all)) ∙ ap (λ (b : ℕ). b ∷ drop (suc k) (take count l)) (get_or-take count l k 0 n))

  pub part_end : count ≤ k → drop k (take count l) ≡ []
  part_end n = let all = length-take-le count l h in let past : length (take count l) ≤ k = omega (arith, all) in drop_of_length-le (take count l) past
