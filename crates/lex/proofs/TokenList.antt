-- The tokens of a source are the token at a place and, where it has bytes, the tokens from its end on.
-- Assumes nothing.
use mathlib.Core.Path.{◌≡◌, refl, sym, ap, ◌∙◌}
use mathlib.Core.Logic.{⊎_elim}
use mathlib.Core.Bool.{cond}
use mathlib.Core.List.Memᴰ
use mathlib.Core.List.{List, [], ◌∷◌, Memᴰ}
use Prim.Native.Nat.{ℕ, zero, suc, ◌+◌, ◌-◌, ◌≤◌, ◌<◌, zero-le, suc-le-suc}
use native.Mathlib.Nat.{add-zero}
use native.Mathlib.Omega.{arith}
use lib.Dec.{eqb, ltb}
use lib.ListN.{length, drop, length-drop}
use lib.Seq.{drop-drop}
use borrow.Author.Tests.{eqb-true, eqb-false, eq-eqb, ne_eqb, lt-ltb, le-ltb, ltb-true}
use Rattle.std.specs.Prelude.{Some, None}
use Rattle.lex.specs.declared.Token.{Token}
use Rattle.lexemes.specs.Classes.{BAD, END}
use Rattle.lex.specs.Tokens.{gap, token_from, token_after_gap, token_at, tokens_within, tokens_from, tokens, bad_among, first_bad}
use Rattle.lexemes.proofs.Lists.{either, either_less, from_end}
use Rattle.lex.proofs.Progress.{token_moves, after_moves}

-- any number of tokens above the number of bytes is enough
enough : (n m : ℕ) (s : List ℕ) (at : ℕ) → length s < n → length s < m → tokens_within n s at ≡ tokens_within m s at
unfolding tokens_within
enough zero m s at h l = absurd (omega arith)
enough (suc n) zero s at h l = absurd (omega arith)
enough (suc n) (suc m) s at h l =
    let t = token_after_gap s at in
    either (ltb t.class BAD)
    (λ e.
    let k = t.end - at in
    let moved = after_moves s at (ltb-true t.class BAD e) in
    let size = length-drop k s in
    rw e (ap (◌∷◌ t) (enough n m (drop k s) t.end (omega arith) (omega arith))))
    (λ e. rw e)

after_gap : (s : List ℕ) (at : ℕ) → at ≤ length s → token_after_gap (drop at s) at ≡ token_at s at
unfolding token_at token_after_gap token_from gap
after_gap s at h =
    either_less at (length s)
    (λ l. rw (lt-ltb at (length s) l))
    (λ l. let is_end : at ≡ length s = omega arith in rw (le-ltb at (length s) l, from_end s at l, add-zero, is_end))

within_step : (n : ℕ) (s : List ℕ) (at : ℕ) →
    let t = token_after_gap s at in
    tokens_within (suc n) s at ≡ t ∷ cond (ltb t.class BAD) (tokens_within n (drop (t.end - at) s) t.end) []
unfolding tokens_within
within_step n s at = either (ltb (token_after_gap s at).class BAD) (λ e. rw e) (λ e. rw e)

module _ (s : List ℕ) (at : ℕ) (inside : at ≤ length s) where
  abbrev t : Token
  t = token_at s at

  from_step : tokens_from s at ≡ t ∷ cond (ltb t.class BAD) (tokens_within (length s) (drop (t.end - at) (drop at s)) t.end) []
  unfolding tokens_from
  from_step = rw (after_gap s at inside) at (within_step (length s) (drop at s) at)

  rest : t.class < BAD → tokens_within (length s) (drop (t.end - at) (drop at s)) t.end ≡ tokens_from s t.end
  unfolding tokens_from
  rest h =
      let moved = token_moves s at h in
      let place : at + (t.end - at) ≡ t.end = omega arith in
      let size = length-drop t.end s in
      rw (drop-drop, place) (enough (length s) (suc (length s)) (drop t.end s) t.end (omega arith) (omega arith))

  pub tokens_unfold : tokens_from s at ≡ t ∷ cond (ltb t.class BAD) (tokens_from s t.end) []
  tokens_unfold =
      either (ltb t.class BAD)
      (λ e. rw (from_step, e) (ap (◌∷◌ t) (rest (ltb-true t.class BAD e))))
      (λ e. rw (from_step, e))

  -- the place of the first bad token from here on
  pub bad_here : t.class ≡ BAD → bad_among (tokens_from s at) ≡ Some t.start
  unfolding bad_among
  bad_here h = rw (tokens_unfold, eq-eqb t.class BAD h)

  pub bad_none : t.class ≡ END → bad_among (tokens_from s at) ≡ None
  unfolding bad_among
  bad_none h = rw (tokens_unfold, h)

  pub bad_later : t.class < BAD → bad_among (tokens_from s at) ≡ bad_among (tokens_from s t.end)
  unfolding bad_among
  bad_later h = rw (tokens_unfold, lt-ltb t.class BAD h, ne_eqb t.class BAD (λ e. omega arith))

-- there are at most as many tokens as bytes, and the end
within_count : (n : ℕ) (s : List ℕ) (at : ℕ) → length (tokens_within n s at) ≤ n
unfolding tokens_within
within_count zero s at = zero-le
within_count (suc n) s at =
    let t = token_after_gap s at in
    either (ltb t.class BAD)
    (λ e. rw e (suc-le-suc (within_count n (drop (t.end - at) s) t.end)))
    (λ e. rw e (omega arith))

pub tokens_count : (s : List ℕ) (at : ℕ) → length (tokens_from s at) ≤ length s + 1
unfolding tokens_from
tokens_count s at = omega (arith, within_count (suc (length s)) (drop at s) at)

-- ---- the whole source
module _ (s : List ℕ) where
  pub tokens_whole : tokens s ≡ token_at s 0 ∷ cond (ltb (token_at s 0).class BAD) (tokens_from s (token_at s 0).end) []
  unfolding tokens
  tokens_whole = tokens_unfold s 0 zero-le

  pub tokens_whole_count : length (tokens s) ≤ length s + 1
  unfolding tokens
  tokens_whole_count = tokens_count s 0

  pub first_bad_from : first_bad s ≡ bad_among (tokens_from s 0)
  unfolding first_bad tokens
  first_bad_from = refl

-- ---- the first bad token among any

-- where there is none, no token is bad
pub none_bad : (ts : List Token) → bad_among ts ≡ None → (t : Token) → Memᴰ t ts → t.class ≡ BAD → ⊥
unfolding bad_among
none_bad [] e t m h = Memᴰ.not-nil m
none_bad (u ∷ ts) e t m h =
    either (eqb u.class BAD)
    (λ b. let found : Some u.start ≡ None = rw b at e in let never : ◌≡◌ {A = ℕ} 0 1 = cc in omega arith)
    (λ b.
    ⊎_elim
    (λ is_u. eqb-false u.class BAD b (sym (ap (λ (t : Token). t.class) is_u) ∙ h))
    (λ later. none_bad ts (rw b at e) t later h)
    (Memᴰ.cases_cons m))

-- where there is one, it stands among the tokens
pub some_bad : (ts : List Token) (p : ℕ) → bad_among ts ≡ Some p → (t : Token) × Memᴰ t ts × (t.class ≡ BAD) × (t.start ≡ p)
unfolding bad_among
some_bad [] p e = absurd (let never : ◌≡◌ {A = ℕ} 0 1 = cc in omega arith)
some_bad (u ∷ ts) p e =
    either (eqb u.class BAD)
    (λ b. let found : Some u.start ≡ Some p = rw b at e in (u, Memᴰ.head refl, eqb-true u.class BAD b, cc))
    (λ b. let later = some_bad ts p (rw b at e) in (later.0, Memᴰ.tail later.1, later.2, later.3))
