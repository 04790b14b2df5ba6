-- The tokens of a source: where they lie, that the grammar takes no more of them than the source has bytes, and that a bad one is among them.
-- Assumes nothing.
use mathlib.Core.Path.{◌≡◌, sym, ◌∙◌}
use mathlib.Core.List.{List, [], ◌∷◌}
use mathlib.Core.Bool.{Bool, true, false, ◌||◌, or-true}
use Prim.Native.Nat.{ℕ, zero, suc, ◌+◌, ◌-◌, ◌≤◌, ◌<◌}
use native.Mathlib.Omega.{arith}
use lib.Dec.{eqb, ltb}
use lib.ListN.{length}
use borrow.Author.Tests.{eqb-true, eqb-false, ltb-true, ltb-false, ne_eqb}
use Rattle.lex.specs.declared.Token as lex
use Rattle.std.specs.Prelude.{Some}
use Rattle.lexemes.specs.Classes.{BAD, END}
use Rattle.lex.specs.Tokens.{token_at, tokens_from, tokens, bad_among, first_bad}
use Rattle.lexemes.proofs.Lists.{either}
use Rattle.lex.proofs.Progress.{start_is, past_end, class_le_end, token_moves, bad_is_empty}
use Rattle.lex.proofs.TokenList.{tokens_unfold}
use Rattle.ll1.specs.Trees.{Token, token}
use Rattle.ll1.proofs.Basics.{clash}
use Rattle.grammar.specs.Source.{grammar_tokens, source_tokens}
use Rattle.grammar.specs.Places.{places_of, Ascending, ascending_none, ascending_more}
use Rattle.grammar.proofs.Totals.{ascending_from}

-- ---- the tokens of a source, one after another

-- the tokens that a source of so many bytes has from a place on
pub data Scanned (bytes : ℕ) : ℕ → List lex.Token → Type 0 where
  end : {at : ℕ} {t : lex.Token} → t.class ≡ END → Scanned bytes at (t ∷ [])
  bad : {at : ℕ} {t : lex.Token} → t.class ≡ BAD → at ≤ t.start → t.start < bytes → Scanned bytes at (t ∷ [])
  next : {at : ℕ} {t : lex.Token} {ts : List lex.Token} → t.class < BAD → at ≤ t.start → t.start < t.end → t.end ≤ bytes → Scanned bytes t.end ts → Scanned bytes at (t ∷ ts)

not_before : (s : List ℕ) (at : ℕ) → at ≤ length s → at ≤ (token_at s at).start
not_before s at h =
    either (ltb at (length s))
    (λ e. omega (arith, start_is s at (ltb-true at (length s) e)))
    (λ e. rw (past_end s at (ltb-false at (length s) e)) h)

scanned_from : (m : ℕ) (s : List ℕ) (at : ℕ) → at ≤ length s → length s - at < m → Scanned (length s) at (tokens_from s at)
scanned_from zero s at h l = absurd (omega arith)
scanned_from (suc m) s at h l =
    let t = token_at s at in
    rw (tokens_unfold s at)
    (either (ltb t.class BAD)
    (λ e.
    let small = ltb-true t.class BAD e in
    let moved = token_moves s at small in
    rw e (next small moved.after moved.some moved.within (scanned_from m s t.end moved.within (omega arith))))
    (λ e.
    let large = ltb-false t.class BAD e in
    rw e
    (either (eqb t.class BAD)
    (λ b. let is_bad_lem = eqb-true t.class BAD b in bad is_bad_lem (not_before s at h) (bad_is_empty s at is_bad_lem).1)
    (λ b. end (omega (arith, class_le_end s at, eqb-false t.class BAD b))))))

scanned : (s : List ℕ) → Scanned (length s) 0 (tokens s)
unfolding tokens
scanned s = scanned_from (suc (length s)) s 0 (omega arith) (omega arith)

-- ---- what the grammar takes of them

module _ (t : lex.Token) (ts : List lex.Token) where
  takes_none : t.class ≡ END → grammar_tokens (t ∷ ts) ≡ []
  unfolding grammar_tokens
  takes_none e = rw e

  takes : t.class < END → grammar_tokens (t ∷ ts) ≡ token t.class t.start ∷ grammar_tokens ts
  unfolding grammar_tokens
  takes h = rw (ne_eqb t.class END (λ e. omega arith))

  not_bad : (t.class ≡ BAD → ⊥) → bad_among (t ∷ ts) ≡ bad_among ts
  unfolding bad_among
  not_bad h = rw (ne_eqb t.class BAD h)

  is_bad_lem : t.class ≡ BAD → bad_among (t ∷ ts) ≡ Some t.start
  unfolding bad_among
  is_bad_lem e = rw e

-- at most as many as there are bytes: each has one of its own
few_from : {bytes at : ℕ} {ts : List lex.Token} → Scanned bytes at ts → at ≤ bytes → length (grammar_tokens ts) + at ≤ bytes
unfolding grammar_tokens
few_from (end {t = t} e) h = rw (takes_none t [] e) (omega arith)
few_from (bad {t = t} e p q) h = rw (takes t [] (omega arith)) (omega arith)
few_from (next {t = t} {ts = ts} k p q r more) h = let rest = few_from more r in rw (takes t ts (omega arith)) (omega arith)

pub tokens_few : (s : List ℕ) → length (source_tokens s) ≤ length s
unfolding source_tokens
tokens_few s = omega (arith, few_from (scanned s) (omega arith))

-- each lies within the source
pub data Within (bytes : ℕ) : List Token → Type 0 where
  within_none : Within bytes []
  within_more : {k p : ℕ} {ts : List Token} → p < bytes → Within bytes ts → Within bytes (token k p ∷ ts)

within_from : {bytes at : ℕ} {ts : List lex.Token} → Scanned bytes at ts → Within bytes (grammar_tokens ts)
unfolding grammar_tokens
within_from (end {t = t} e) = rw (takes_none t [] e) within_none
within_from (bad {t = t} e p q) = rw (takes t [] (omega arith)) (within_more q within_none)
within_from (next {t = t} {ts = ts} k p q r more) = rw (takes t ts (omega arith)) (within_more {p = t.start} (omega arith) (within_from more))

pub tokens_within_lem : (s : List ℕ) → Within (length s) (source_tokens s)
unfolding source_tokens
tokens_within_lem s = within_from (scanned s)

-- and each after the one before it
ascend_from : {bytes at : ℕ} {ts : List lex.Token} → Scanned bytes at ts → Ascending at (places_of (grammar_tokens ts))
unfolding grammar_tokens
ascend_from (end {t = t} e) = rw (takes_none t [] e) ascending_none
ascend_from (bad {t = t} e p q) = rw (takes t [] (omega arith)) (ascending_more p ascending_none)
ascend_from (next {t = t} {ts = ts} k p q r more) = rw (takes t ts (omega arith)) (ascending_more p (ascending_from (omega arith) (ascend_from more)))

pub tokens_ascend : (s : List ℕ) → Ascending 0 (places_of (source_tokens s))
unfolding source_tokens
tokens_ascend s = ascend_from (scanned s)

-- ---- bad tokens

abbrev pub has_bad : List Token → Bool
has_bad [] = false
has_bad (token k p ∷ ts) = eqb k BAD || has_bad ts

bad_from : {bytes at p : ℕ} {ts : List lex.Token} → Scanned bytes at ts → bad_among ts ≡ Some p → (has_bad (grammar_tokens ts) ≡ true) × (p < bytes)
unfolding grammar_tokens bad_among
bad_from (end {t = t} e) h = clash (cc (not_bad t [] (λ b. omega arith)))
bad_from {bytes} {at} {p} (bad {t = t} e l q) h = let same : t.start ≡ p = cc (is_bad_lem t [] e) in (rw (takes t [] (omega arith), e), omega arith)
bad_from (next {t = t} {ts = ts} k l q r more) h =
    let rest = bad_from more (sym (not_bad t ts (λ b. omega arith)) ∙ h) in
    (rw (takes t ts (omega arith), rest.0) (or-true (eqb t.class BAD)), rest.1)

pub bad_among_lem : (s : List ℕ) (p : ℕ) → first_bad s ≡ Some p → has_bad (source_tokens s) ≡ true
unfolding source_tokens first_bad
bad_among_lem s p h = (bad_from (scanned s) h).0

pub bad_within : (s : List ℕ) (p : ℕ) → first_bad s ≡ Some p → p < length s
unfolding first_bad
bad_within s p h = (bad_from (scanned s) h).1
