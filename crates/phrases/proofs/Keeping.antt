-- What is kept, entry after entry.
-- Assumes nothing.
use Prim.Native.Nat.{ℕ, zero, suc, ◌+◌, ◌≤◌, ◌<◌}
use mathlib.Core.Path.{◌≡◌, refl, sym, ap, ◌∙◌}
use mathlib.Core.List.{List, [], ◌∷◌, ◌++◌, append_assoc}
use native.Mathlib.Omega.{arith}
use lib.ListN.{length, get_or, replicate, length-append}
use lib.Seq.{set_out, set-append_seam}
use borrow.Author.Tests.{lt-ltb, le-ltb}
use Rattle.phrases.specs.Phrase.{Kept, kept_at, with_entry, with_entries}
use Rattle.phrases.specs.Passed.{written}

pub keep_append : (k : Kept) (a b : List ℕ) → with_entries k (a ++ b) ≡ with_entries (with_entries k a) b
unfolding with_entries
keep_append k [] b = refl
keep_append k (e ∷ a) b = keep_append (with_entry k e) a b

-- no entries
written_none : (l : List ℕ) → written l [] ≡ l
unfolding written
written_none [] = refl
written_none (x ∷ l) = refl

abbrev kept_after : List ℕ → List ℕ → Kept
kept_after pre l = record { count = length pre; list = pre ++ l }

keep_full : (pre : List ℕ) (e : ℕ) → with_entry (kept_after pre []) e ≡ kept_after pre []
unfolding with_entry
keep_full pre e =
    let full : length (pre ++ []) ≤ length pre = omega (arith, length-append pre []) in
    rw (le-ltb (length pre) (length (pre ++ [])) full, set_out (pre ++ []) (length pre) e full)

keep_next : (pre : List ℕ) (x : ℕ) (l : List ℕ) (e : ℕ) → with_entry (kept_after pre (x ∷ l)) e ≡ kept_after (pre ++ e ∷ []) l
unfolding with_entry
keep_next pre x l e =
    let room : length pre < length (pre ++ x ∷ l) = omega (arith, length-append pre (x ∷ l)) in
    let size : length pre + 1 ≡ length (pre ++ e ∷ []) = omega (arith, length-append pre (e ∷ [])) in
    rw (lt-ltb (length pre) (length (pre ++ x ∷ l)) room, set-append_seam pre x l e, size, append_assoc pre (e ∷ []) l)

-- from a place on
kept_after_lem : (pre l es : List ℕ) → (with_entries (kept_after pre l) es).list ≡ pre ++ written l es
unfolding with_entries written
kept_after_lem pre l [] = ap (◌++◌ pre) (sym (written_none l))
kept_after_lem pre [] (e ∷ es) = ap (λ (k : Kept). (with_entries k es).list) (keep_full pre e) ∙ kept_after_lem pre [] es
kept_after_lem pre (x ∷ l) (e ∷ es) =
    ap (λ (k : Kept). (with_entries k es).list) (keep_next pre x l e) ∙ (kept_after_lem (pre ++ e ∷ []) l es ∙ append_assoc pre (e ∷ []) (written l es))

-- all entries are written in the first places
pub kept_written : (l es : List ℕ) → (with_entries (kept_at 0 l) es).list ≡ written l es
kept_written l es = kept_after_lem [] l es

zeros : (n i : ℕ) → ◌≡◌ {A = ℕ} (get_or (replicate n 0) i 0) 0
zeros zero i = refl
zeros (suc n) zero = refl
zeros (suc n) (suc i) = zeros n i

-- among zeros, where there is room, each place has its entry
pub written_zeros : (n : ℕ) (es : List ℕ) (i : ℕ) → length es ≤ n → get_or (written (replicate n 0) es) i 0 ≡ get_or es i 0
unfolding written
written_zeros zero [] i h = refl
written_zeros zero (e ∷ es) i h = absurd (omega arith)
written_zeros (suc n) [] i h = zeros (suc n) i
written_zeros (suc n) (e ∷ es) zero h = refl
written_zeros (suc n) (e ∷ es) (suc i) h = written_zeros n es i (omega arith)
